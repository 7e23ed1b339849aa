-- Counts of texts: of each text that is counted a whole number over 0, in byte order of the texts.
use Rattle.std.specs.Prelude.{◌≡◌, ◌<◌, ⊤, ℕ, ◌+◌, ◌==◌, ◌&&◌, Bool, true, nat_le, if◌then◌else◌, List, [], ◌∷◌}
use Rattle.std.specs.Ordering.{nat_cmp, match_ordering}
use Rattle.std.specs.declared.cmp.Ordering.TheVariants.{Less}
use Rattle.std.specs.Cmp.Lexicographic.{slice_cmp}
use Rattle.serde_json.specs.Data.{Data, number, unsigned, Members, no_members, member}

-- the greatest count: 2^64 - 1
abbrev pub count_limit : ℕ
count_limit = 18446744073709551615

-- texts, each as often as its number says
abbrev pub Counts : Type 0
Counts = List (List ℕ × ℕ)

-- how often the text is counted
abbrev pub count_of : List ℕ → Counts → ℕ
count_of text [] = 0
count_of text ((other, n) ∷ counts) =
    match_ordering (slice_cmp nat_cmp text other) (count_of text counts) n (count_of text counts)

-- the counts, with this number of the text
abbrev pub put_count : List ℕ → ℕ → Counts → Counts
put_count text n [] = (text, n) ∷ []
put_count text n ((other, m) ∷ counts) =
    match_ordering (slice_cmp nat_cmp text other) ((text, n) ∷ (other, m) ∷ counts) ((other, n) ∷ counts)
    ((other, m) ∷ put_count text n counts)

-- this many of the text more
abbrev pub add : List ℕ → ℕ → Counts → Counts
add text n counts = if n == 0 then counts else put_count text (count_of text counts + n) counts

-- as many of each text more as the numbers say, of which several may belong to one text
abbrev pub add_all : (more counts : Counts) → Counts
add_all [] counts = counts
add_all ((text, n) ∷ more) counts = add_all more (add text n counts)

-- no count is over the limit
abbrev pub fits : Counts → Bool
fits [] = true
fits ((text, n) ∷ counts) = nat_le n count_limit && fits counts

-- ---- what counts are

-- the text stands before each of these in byte order
abbrev pub IsBefore : List ℕ → Counts → Type 0
IsBefore text [] = ⊤
IsBefore text ((other, n) ∷ counts) = (slice_cmp nat_cmp text other ≡ Less) × IsBefore text counts

abbrev pub AreCounts : Counts → Type 0
AreCounts [] = ⊤
AreCounts ((text, n) ∷ counts) = (0 < n) × IsBefore text counts × AreCounts counts

-- ---- as JSON

abbrev pub number_data : ℕ → Data
number_data n = number (unsigned n)

abbrev pub members_of : Counts → Members
members_of [] = no_members
members_of ((text, n) ∷ counts) = member text (number_data n) (members_of counts)
