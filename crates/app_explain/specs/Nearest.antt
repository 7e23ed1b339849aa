-- Which of some names is nearest to one that is given.
use Rattle.std.specs.Prelude.{ℕ, ◌<◌, ◌≤◌, ◌/◌, nat_lt, if◌then◌else◌, max, List, [], length, get_or, Option, Some, None}
use Rattle.std.specs.Str.{chars}
use Rattle.strsim.specs.Edits.{osa_table}

-- How many edits lead from one text to the other, by the table of optimal string alignment: a character is put in, left
-- out or changed, or two that stand beside each other are exchanged.
abbrev pub distance : List ℕ → List ℕ → ℕ
distance given name = (osa_table (chars given) (chars name)).last_row (length (chars name))

-- How many edits lead at most to what is near: a third of the bytes of the given name, but 1 if that is less and it has
-- two bytes or more.
abbrev pub most_edits : ℕ → ℕ
most_edits bytes = if nat_lt bytes 2 then 0 else max (bytes / 3) 1

-- the distance of the given name to the one at this place
abbrev pub distance_at : List ℕ → List (List ℕ) → ℕ → ℕ
distance_at given names place = distance given (get_or names place [])

-- The name at the place is one of these and is near; none of them is nearer, and none before it is as near.
pub record IsFirstNearest (given : List ℕ) (names : List (List ℕ)) (place : ℕ) : Type 0 where
  pub within : place < length names
  pub near : distance_at given names place ≤ most_edits (length given)
  pub none_nearer : (other : ℕ) → other < length names → distance_at given names place ≤ distance_at given names other
  pub first : (other : ℕ) → other < place → distance_at given names place < distance_at given names other

-- the nearest one, if one is near at all
abbrev pub IsNearest : List ℕ → List (List ℕ) → Option ℕ → Type 0
IsNearest given names None =
    (other : ℕ) → other < length names → most_edits (length given) < distance_at given names other
IsNearest given names (Some place) = IsFirstNearest given names place
