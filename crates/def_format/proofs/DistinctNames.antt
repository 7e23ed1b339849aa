-- Names that differ: those of a document with no fault do, and each refers to one variable at most.
use Rattle.std.proofs.Common.{◌≡◌, ◌≢◌, ℕ, ◌<◌, Bool, true, false, nat_lt, ◌⊎◌, inl, inr, List, [], ◌∷◌, Some, None, length, get_or, map, refl, sym, ◌∙◌, ap, true≢false, arith}
use Rattle.std.specs.Prelude.{AllPairs, slice_get}
use Rattle.std.specs.Str.{bytes_eq}
use Rattle.std.specs.List.{IsDistinct, AllByRecursion}
use Rattle.std.proofs.lemmas.Bool.Decides.{nat_tests}
use Rattle.std.proofs.lemmas.List.{length-map, get_or-map}
use Rattle.std.proofs.lemmas.Map.Keys.{apart_from_distinct}
use Rattle.std.proofs.lemmas.Option.{slice_get_within, get_or_from_slice_get}
use Rattle.std.proofs.lemmas.Slice.Eq.{bytes_eq-Decides}
use Rattle.def_format.specs.Documents.{Outline, outline_fault, has_twice, process_names, predicate_names}
use Rattle.def_format.specs.Laws.{DistinctAreClear}
use Rattle.def_format.specs.Lists.{is_one_of}
use Rattle.def_format.specs.Names.{ProcessNames}
use Rattle.def_format.proofs.Faultless.{faultless}
use Rattle.def_format.proofs.LineFacts.{or_false}

-- ---- names that differ are clear

below_or : (i j : ℕ) → (i < j) ⊎ ((j < i) ⊎ (i ≡ j))
below_or i j = go (nat_lt i j) (nat_lt j i) refl refl
  where
    go : (a b : Bool) → nat_lt i j ≡ a → nat_lt j i ≡ b → (i < j) ⊎ ((j < i) ⊎ (i ≡ j))
    go true b e f = inl (grind (arith, nat_tests))
    go false true e f = inr (inl (grind (arith, nat_tests)))
    go false false e f = inr (inr (grind (arith, nat_tests)))

-- an element that differs from each other is at one place
one_place : {A : Type 0} (R : A → A → Type 0) (xs : List A) (i j : ℕ) (x y : A) → AllPairs R xs
    → slice_get xs i ≡ Some x → slice_get xs j ≡ Some y → ¬ (R x y) → ¬ (R y x) → i ≡ j
one_place R xs i j x y pairs a b none other = go (below_or i j)
  where
    go : (i < j) ⊎ ((j < i) ⊎ (i ≡ j)) → i ≡ j
    go (inl h) =
        absurd (none (rw (sym (get_or_from_slice_get xs i x x a), sym (get_or_from_slice_get xs j y x b))
        (pairs i j x h (slice_get_within xs j y b))))
    go (inr (inl h)) =
        absurd (other (rw (sym (get_or_from_slice_get xs i x x a), sym (get_or_from_slice_get xs j y x b))
        (pairs j i x h (slice_get_within xs i x a))))
    go (inr (inr h)) = h

pub clear_names : DistinctAreClear
clear_names names distinct process var p v q w a b =
    let same : p ≡ q =
    one_place (λ (x y : ProcessNames). x.name ≢ y.name) names p q a.0 b.0 distinct.processes a.1 b.1 (λ differ.
    differ (a.2 ∙ sym b.2)) (λ differ. differ (b.2 ∙ sym a.2)) in
    let entry : Some a.0 ≡ Some b.0 = sym a.1 ∙ ap (slice_get names) same ∙ b.1 in
    let one : b.0 ≡ a.0 = cc in
    let differ : AllPairs (λ (x y : List ℕ). x ≢ y) a.0.vars =
    rw (sym (get_or_from_slice_get names p a.0 a.0 a.1))
    (distinct.variables p a.0 (slice_get_within names p a.0 a.1)) in
    let there : slice_get a.0.vars w ≡ Some var = ap (λ (e : ProcessNames). slice_get e.vars w) (sym one) ∙ b.3 in
    (same, one_place (λ (x y : List ℕ). x ≢ y) a.0.vars v w var var differ a.3 there (λ d. d refl) (λ d. d refl))

-- ---- the names of a document with no fault

-- no two processes have one name
pub processes_once : (limit : ℕ) (outline : Outline) → outline_fault limit outline ≡ None
    → has_twice (process_names outline) ≡ false
processes_once limit outline e =
    (or_false (has_twice (process_names outline)) (has_twice (predicate_names outline))
    (faultless limit outline e).once).0

others_differ : (text : List ℕ) (others : List (List ℕ)) → is_one_of others text ≡ false
    → AllByRecursion (λ (other : List ℕ). bytes_eq text other ≡ false) others
others_differ text [] e = tt
others_differ text (other ∷ others) e = let parts = or_false (bytes_eq text other) (is_one_of others text) e in
    (parts.0, others_differ text others parts.1)

distinct_once : (texts : List (List ℕ)) → has_twice texts ≡ false → IsDistinct bytes_eq texts
unfolding IsDistinct
distinct_once [] e = tt
distinct_once (text ∷ others) e = let parts = or_false (is_one_of others text) (has_twice others) e in
    (others_differ text others parts.0, distinct_once others parts.1)

abbrev name_of : ProcessNames → List ℕ
name_of process = process.name

-- processes of which no two names stand twice
pub names_differ : (names : List ProcessNames) → has_twice (map name_of names) ≡ false
    → AllPairs (λ (x y : ProcessNames). x.name ≢ y.name) names
names_differ names once i j d before within same =
    let inside : j < length (map name_of names) = rw length-map within in
    let first : i < length names = omega arith in
    let apart : bytes_eq (get_or (map name_of names) i d.name) (get_or (map name_of names) j d.name) ≡ false =
    apart_from_distinct bytes_eq (map name_of names) i j d.name (distinct_once (map name_of names) once) before inside
    in
    let equal : get_or (map name_of names) i d.name ≡ get_or (map name_of names) j d.name =
    get_or-map name_of names i d d.name first ∙ (same ∙ sym (get_or-map name_of names j d d.name within)) in
    true≢false (sym ((bytes_eq-Decides (get_or (map name_of names) i d.name) (get_or (map name_of names) j d.name)).1
    equal) ∙ apart)
