-- Lists that are gathered of a list's elements, if each has one.
use Rattle.std.proofs.Common.{◌≡◌, ◌<◌, ◌≤◌, ◌+◌, ℕ, zero, suc, List, [], ◌∷◌, ◌++◌, Bor, String, Global, string_bytes, refl, sym, ap, ◌∙◌, length, map, take, get_or, append_assoc, append-nil, add-one, arith}
use Rattle.std.specs.Prelude.{Option, Some, None, option_map}
use Rattle.std.proofs.lemmas.List.{take_all}
use Rattle.serde_json.specs.View.{items_view, members_view, view}
use Rattle.serde_json.specs.declared.value.Value.{Value}
use Rattle.judge_summary.specs.Counts.{Counts}
use Rattle.judge_summary.specs.Summaries.{all_predicate_counts, joined, number_in, numbers_of, predicate_counts}

abbrev pub gathered : {A B : Type 0} → (A → Option (List B)) → List A → Option (List B)
gathered f [] = Some []
gathered f (x ∷ xs) = joined (f x) (gathered f xs)

joined_none : {B : Type 0} (found : Option (List B)) → joined found None ≡ None
joined_none None = refl
joined_none (Some xs) = refl

joined_more : {B : Type 0} (first : Option (List B)) (later out ys : List B) (rest : Option (List B))
    → joined first rest ≡ Some out → (more : Option (List B))
    → ((out : List B) → rest ≡ Some out → more ≡ Some (out ++ ys))
    → joined first more ≡ Some (out ++ ys)
joined_more None later out ys rest e more grows = absurd (cc)
joined_more (Some xs) later out ys None e more grows = absurd (cc)
joined_more (Some xs) later out ys (Some zs) e more grows =
    rw (grows zs refl) (ap Some (sym (append_assoc xs zs ys)) ∙ ap (option_map (λ o. o ++ ys)) e)

gathered_more : {A B : Type 0} (f : A → Option (List B)) (xs : List A) (i : ℕ) (d : A) (out ys : List B)
    → i < length xs → gathered f (take i xs) ≡ Some out → f (get_or xs i d) ≡ Some ys
    → gathered f (take (i + 1) xs) ≡ Some (out ++ ys)
gathered_more f [] i d out ys lt so_far e = absurd (omega (arith, lt))
gathered_more f (x ∷ xs) zero d out ys lt so_far e =
    let none : [] ≡ out = cc in rw (e, sym none) (ap Some (append-nil ys))
gathered_more f (x ∷ xs) (suc i) d out ys lt so_far e =
    rw (add-one (suc i)) (joined_more (f x) [] out ys (gathered f (take i xs)) so_far (gathered f (take (suc i) xs))
    (λ o is. rw (add-one i) at (gathered_more f xs i d o ys (omega (arith, lt)) is e)))

gathered_none : {A B : Type 0} (f : A → Option (List B)) (xs : List A) (i : ℕ) (d : A)
    → i < length xs → f (get_or xs i d) ≡ None → gathered f xs ≡ None
gathered_none f [] i d lt e = absurd (omega (arith, lt))
gathered_none f (x ∷ xs) zero d lt e = rw e refl
gathered_none f (x ∷ xs) (suc i) d lt e =
    rw (gathered_none f xs i d (omega (arith, lt)) e) (joined_none (f x))

-- ---- of a JSON value's items and members

predicates_gathered : (values : List Value)
    → all_predicate_counts (items_view values) ≡ gathered (λ value. predicate_counts (view value)) values
predicates_gathered [] = refl
predicates_gathered (value ∷ values) = ap (joined (predicate_counts (view value))) (predicates_gathered values)

abbrev pub number_of : String Global × Value → Option Counts
number_of entry = number_in (string_bytes entry.0) (view entry.1)

abbrev pub seen : Bor (String Global) × Bor Value → String Global × Value
seen entry = (entry.0.now, entry.1.now)

numbers_gathered : (entries : List (Bor (String Global) × Bor Value))
    → numbers_of (members_view (map seen entries)) ≡ gathered (λ entry. number_of (seen entry)) entries
numbers_gathered [] = refl
numbers_gathered (entry ∷ entries) = ap (joined (number_of (seen entry))) (numbers_gathered entries)

-- ---- a loop

-- one element more
pub goes_on : {A B : Type 0} (f : A → Option (List B)) (xs : List A) (i : ℕ) (x : A) (old new : List B)
    → i < length xs → x ≡ get_or xs i x → gathered f (take i xs) ≡ Some old
    → Some new ≡ option_map (λ more. old ++ more) (f x) → gathered f (take (i + 1) xs) ≡ Some new
goes_on f xs i x old new lt is so_far e = go (f x) refl e
  where
    go : (found : Option (List _)) → f x ≡ found → Some new ≡ option_map (λ more. old ++ more) found
        → gathered f (take (i + 1) xs) ≡ Some new
    go None here e = absurd (cc)
    go (Some ys) here e = gathered_more f xs i x old ys lt so_far (ap f (sym is) ∙ here) ∙ sym e

-- an element that has none
stops : {A B : Type 0} (f : A → Option (List B)) (xs : List A) (i : ℕ) (x : A) (old : List B)
    → i < length xs → x ≡ get_or xs i x → None ≡ option_map (λ more. old ++ more) (f x) → gathered f xs ≡ None
stops f xs i x old lt is e = go (f x) refl e
  where
    go : (found : Option (List _)) → f x ≡ found → None ≡ option_map (λ more. old ++ more) found
        → gathered f xs ≡ None
    go None here e = gathered_none f xs i x lt (ap f (sym is) ∙ here)
    go (Some ys) here e = absurd (cc)

ends : {A B : Type 0} (f : A → Option (List B)) (xs : List A) (i : ℕ) (out : List B) → length xs ≤ i
    → gathered f (take i xs) ≡ Some out → Some out ≡ gathered f xs
ends f xs i out over so_far = sym so_far ∙ ap (gathered f) (take_all i xs over)

pub predicate_stops : (values : List Value) (i : ℕ) (x : Value) (old : Counts) → i < length values
    → x ≡ get_or values i x → None ≡ option_map (λ more. old ++ more) (predicate_counts (view x))
    → None ≡ all_predicate_counts (items_view values)
predicate_stops values i x old lt is e =
    sym (predicates_gathered values ∙ stops (λ value. predicate_counts (view value)) values i x old lt is e)

pub predicates_end : (values : List Value) (i : ℕ) (out : Counts) → length values ≤ i
    → gathered (λ value. predicate_counts (view value)) (take i values) ≡ Some out
    → Some out ≡ all_predicate_counts (items_view values)
predicates_end values i out over so_far =
    ends (λ value. predicate_counts (view value)) values i out over so_far ∙ sym (predicates_gathered values)

pub number_stops : (entries : List (Bor (String Global) × Bor Value)) (i : ℕ) (x : Bor (String Global) × Bor Value)
    (old : Counts) → i < length entries → x ≡ get_or entries i x
    → None ≡ option_map (λ more. old ++ more) (number_of (seen x))
    → None ≡ numbers_of (members_view (map seen entries))
number_stops entries i x old lt is e =
    sym (numbers_gathered entries ∙ stops (λ entry. number_of (seen entry)) entries i x old lt is e)

pub numbers_end : (entries : List (Bor (String Global) × Bor Value)) (i : ℕ) (out : Counts)
    → length entries ≤ i → gathered (λ entry. number_of (seen entry)) (take i entries) ≡ Some out
    → Some out ≡ numbers_of (members_view (map seen entries))
numbers_end entries i out over so_far =
    ends (λ entry. number_of (seen entry)) entries i out over so_far ∙ sym (numbers_gathered entries)
