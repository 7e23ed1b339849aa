-- The nearest of the first names, and of one more.
use Rattle.std.proofs.Common.{◌≡◌, ℕ, ◌+◌, ◌<◌, ◌≤◌, ◌⊎◌, inl, inr, List, length, subst, arith, Option, Some, None}
use Rattle.std.proofs.lemmas.Bool.{cases_lt}
use Rattle.app_explain.specs.Nearest.{IsNearest, distance_at, most_edits}

-- what is found of the names that were looked at: none is near, or this one is the first of the nearest ones
abbrev pub IsFoundSo : List ℕ → List (List ℕ) → ℕ → ℕ → Option ℕ → Type 0
IsFoundSo given names count least None = least ≡ most_edits (length given) + 1
IsFoundSo given names count least (Some place) =
    (place < count) × (least ≤ most_edits (length given)) × (least ≡ distance_at given names place)
    × ((other : ℕ) → other < place → least < distance_at given names other)

-- of the first names none is nearer than the least distance
pub record AreLookedAt (given : List ℕ) (names : List (List ℕ)) (count least : ℕ) (found : Option ℕ) : Type 0 where
  pub inside : count ≤ length names
  pub bound : least ≤ most_edits (length given) + 1
  pub none_nearer : (other : ℕ) → other < count → least ≤ distance_at given names other
  pub found_so : IsFoundSo given names count least found

-- no name up to the next one is nearer than this, if none before it is
none_up_to : (given : List ℕ) (names : List (List ℕ)) (count edits : ℕ)
    → ((other : ℕ) → other < count → edits ≤ distance_at given names other) → edits ≤ distance_at given names count
    → (other : ℕ) → other < count + 1 → (other < count) ⊎ (count ≤ other) → edits ≤ distance_at given names other
none_up_to given names count edits before here other small (inl less) = before other less
none_up_to given names count edits before here other small (inr most) =
    let same : count ≡ other = omega (arith, small, most) in
    subst (λ n. edits ≤ distance_at given names n) same here

-- what was found stays so
found_later : (given : List ℕ) (names : List (List ℕ)) (count least : ℕ) (found : Option ℕ)
    → IsFoundSo given names count least found → IsFoundSo given names (count + 1) least found
found_later given names count least None so = so
found_later given names count least (Some place) so = (omega (arith, so.0), so.1, so.2, so.3)

-- the next one is nearer
pub nearer : (given : List ℕ) (names : List (List ℕ)) (count least edits : ℕ) (found : Option ℕ)
    → AreLookedAt given names count least found → count < length names → edits ≡ distance_at given names count
    → edits < least → AreLookedAt given names (count + 1) edits (Some count)
nearer given names count least edits found before below is less =
    let earlier : (other : ℕ) → other < count → edits < distance_at given names other =
    λ other small. omega (arith, before.none_nearer other small, less) in record {
      inside = omega (arith, below);
      bound = omega (arith, before.bound, less);
      none_nearer = λ other small. none_up_to given names count edits
          (λ n under. omega (arith, earlier n under)) (omega (arith, is)) other small (cases_lt other count);
      found_so = (omega arith, omega (arith, before.bound, less), is, earlier);
    }

-- the next one isn't
pub not_nearer : (given : List ℕ) (names : List (List ℕ)) (count least edits : ℕ) (found : Option ℕ)
    → AreLookedAt given names count least found → count < length names → edits ≡ distance_at given names count
    → least ≤ edits → AreLookedAt given names (count + 1) least found
not_nearer given names count least edits found before below is most = record {
  inside = omega (arith, below);
  bound = before.bound;
  none_nearer = λ other small. none_up_to given names count least before.none_nearer (omega (arith, is, most)) other
      small (cases_lt other count);
  found_so = found_later given names count least found before.found_so;
}

-- once all are looked at, what is found is the nearest one
pub all_looked_at : (given : List ℕ) (names : List (List ℕ)) (count least : ℕ) (found : Option ℕ)
    → AreLookedAt given names count least found → length names ≤ count → IsNearest given names found
all_looked_at given names count least None before whole =
    λ other small. omega (arith, before.none_nearer other (omega (arith, small, whole)), before.found_so)
all_looked_at given names count least (Some place) before whole = record {
  within = omega (arith, before.found_so.0, before.inside);
  near = omega (arith, before.found_so.1, before.found_so.2);
  none_nearer = λ other small. omega (
    arith,
    before.none_nearer other (omega (arith, small, whole)),
    before.found_so.2,
  );
  first = λ other small. omega (arith, before.found_so.3 other small, before.found_so.2);
}
