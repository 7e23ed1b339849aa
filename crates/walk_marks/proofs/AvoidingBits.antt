-- What the bits of a word say of the cuts that avoid.
use Rattle.std.proofs.Common.{◌≡◌, ℕ, ◌+◌, ◌-◌, ◌^◌, ◌<◌, ◌≤◌, ◌⊎◌, ◌↔◌, ◌&&◌, inl, inr, IsTrue, Bool, true, false, not, List, length, Contains, arith, refl, sym, subst, ap, ◌∙◌, get_or, sum}
use Rattle.std.proofs.lemmas.Bool.{false≢true}
use Rattle.walk_keys.specs.Keys.{count_base, key_of, AreDigits}
use Rattle.def_model.specs.Events.{Computation}
use Rattle.def_model.specs.Order.{HasNoCycle}
use Rattle.def_model.specs.Cuts.{IsOfLevel, one_less}
use Rattle.def_model.specs.Observations.{IsAvoiding}
use Rattle.def_model.specs.Walks.{NoneBelow}
use Rattle.def_model.proofs.Counts.{length_less}
use Rattle.walk_keys.specs.Neighbors.{cut_at}
use Rattle.walk_runs.specs.WholeLevels.{Run, IsRunOf, AvoidsAt, rest_at}
use Rattle.walk_runs.specs.Levels.{WholeLevel, IsWholeLevel}
use Rattle.walk_marks.specs.RunPlaces.{run_at, key_of_run}
use Rattle.def_model.proofs.AvoidingCuts.{avoid_at_first_hit}
use Rattle.walk_runs.proofs.LevelCuts.{cut_of_run}
use Rattle.walk_runs.proofs.RunMarks.{level_is, mark_by_marks, mark_in_runs}
use Rattle.walk_marks.specs.Marks.{Marking, IsMarking, IsBefore, HasMark, HasOwnMark, HasOtherMark, cut_with}
use Rattle.walk_marks.proofs.RunKeys.{in_runs_at, place_of_run, same_prefix, key_less, digits_less, prefix_length}

-- the digits of all prefixes of a level
abbrev pub DigitsAt : WholeLevel → Type 0
DigitsAt level = (i : ℕ) → i < length level.runs → AreDigits (run_at level.runs i).prefix

pub digits_at : (level : WholeLevel) → ((run : Run) → Contains level.runs run → AreDigits run.prefix)
    → DigitsAt level
digits_at level small i lt = small (run_at level.runs i) (in_runs_at level.runs i lt)

-- a mark is looked up by the number of the prefix
pub has_mark : (c : Computation) (test : List ℕ → Bool) (level : WholeLevel) (marks : Marking) → IsWholeLevel c level
    → DigitsAt level → IsMarking c test level marks → (prefix : List ℕ) → length prefix + 2 ≡ length c
    → AreDigits prefix → (x : ℕ)
    → HasMark level.runs marks (key_of (cut_at prefix 0 0)) x ↔ AvoidsAt c test level.number prefix x
has_mark c test level marks is small marking prefix many digits x = (to, from)
  where
    to : HasMark level.runs marks (key_of (cut_at prefix 0 0)) x → AvoidsAt c test level.number prefix x
    to (i, lt, same, at) =
        let l : length (run_at level.runs i).prefix + 2 ≡ length c = prefix_length c level is i lt in
        let e : (run_at level.runs i).prefix ≡ prefix =
        same_prefix (run_at level.runs i).prefix prefix (omega arith) (small i lt) digits same in
        subst (λ (p : List ℕ). AvoidsAt c test level.number p x) e ((marking.just i x lt).0 at)

    from : AvoidsAt c test level.number prefix x → HasMark level.runs marks (key_of (cut_at prefix 0 0)) x
    from avoids =
        let w : (run : Run) × Contains level.runs run × (run.prefix ≡ prefix) × (run.lo ≤ x) × (x ≤ run.hi) =
        mark_in_runs c test level.number level.runs is.whole prefix x avoids in
        let v : (i : ℕ) × (i < length level.runs) × (run_at level.runs i ≡ w.0) = place_of_run level.runs w.0 w.1 in
        let e : (run_at level.runs v.0).prefix ≡ prefix = ap (λ (run : Run). run.prefix) v.2 ∙ w.2 in (
          v.0,
          v.1,
          ap (λ (p : List ℕ). key_of (cut_at p 0 0)) e,
          (marking.just v.0 x v.1).1
              (subst (λ (p : List ℕ). AvoidsAt c test level.number p x) (sym e) avoids),
        )

-- some cut of one event less avoids
abbrev pub InView : Computation → (List ℕ → Bool) → ℕ → List ℕ → ℕ → Type 0
InView c test k prefix x =
    ((0 < x) × AvoidsAt c test k prefix (x - 1)) ⊎ (AvoidsAt c test k prefix x
    ⊎ ((p : ℕ) × (p < length prefix) × (0 < get_or prefix p 0) × AvoidsAt c test k (one_less prefix p) x))

pub in_view : (c : Computation) (test : List ℕ → Bool) (before : WholeLevel) (marks : Marking) → IsWholeLevel c before
    → DigitsAt before → IsMarking c test before marks → (prefix : List ℕ) → length prefix + 2 ≡ length c
    → AreDigits prefix → (x : ℕ)
    → (HasOwnMark before.runs marks (key_of (cut_at prefix 0 0)) x
    ⊎ HasOtherMark before.runs marks (key_of (cut_at prefix 0 0)) prefix (length prefix) x)
    ↔ InView c test before.number prefix x
in_view c test before marks is small marking prefix many digits x = (to, from)
  where
    same : (z : ℕ) → HasMark before.runs marks (key_of (cut_at prefix 0 0)) z ↔ AvoidsAt c test before.number prefix z
    same z = has_mark c test before marks is small marking prefix many digits z

    other : (p : ℕ) → p < length prefix → 0 < get_or prefix p 0
        → HasMark before.runs marks (key_of (cut_at prefix 0 0) - count_base ^ (length prefix + 1 - p)) x
        ↔ AvoidsAt c test before.number (one_less prefix p) x
    other p lt some =
        let l : length (one_less prefix p) ≡ length prefix = length_less prefix p in
        subst (λ (k : ℕ). HasMark before.runs marks k x ↔ AvoidsAt c test before.number (one_less prefix p) x)
        (key_less prefix p lt some)
        (has_mark c test before marks is small marking (one_less prefix p) (omega arith)
        (digits_less prefix p digits) x)

    to : (HasOwnMark before.runs marks (key_of (cut_at prefix 0 0)) x
        ⊎ HasOtherMark before.runs marks (key_of (cut_at prefix 0 0)) prefix (length prefix) x)
        → InView c test before.number prefix x
    to (inl (inl (some, has))) = inl (some, (same (x - 1)).0 has)
    to (inl (inr has)) = inr (inl ((same x).0 has))
    to (inr (p, lt, some, has)) = inr (inr (p, lt, some, (other p lt some).0 has))

    from : InView c test before.number prefix x → (HasOwnMark before.runs marks (key_of (cut_at prefix 0 0)) x
        ⊎ HasOtherMark before.runs marks (key_of (cut_at prefix 0 0)) prefix (length prefix) x)
    from (inl (some, avoids)) = inl (inl (some, (same (x - 1)).1 avoids))
    from (inr (inl avoids)) = inl (inr ((same x).1 avoids))
    from (inr (inr (p, lt, some, avoids))) = inr (p, lt, some, (other p lt some).1 avoids)

-- the cut of a run with this x
pub cut_in_run : (c : Computation) (level : WholeLevel) → IsWholeLevel c level → (i x : ℕ) → i < length level.runs
    → (run_at level.runs i).lo ≤ x → x ≤ (run_at level.runs i).hi
    → IsOfLevel c level.number (cut_at (run_at level.runs i).prefix x
    (rest_at level.number (run_at level.runs i) - x))
cut_in_run c level is i x lt low high =
    let has : Contains level.runs (run_at level.runs i) = in_runs_at level.runs i lt in
    let run : IsRunOf c level.number (run_at level.runs i) = is.whole.each (run_at level.runs i) has in
    let below : sum (run_at level.runs i).prefix ≤ level.number = run.below in
    let within : (run_at level.runs i).hi ≤ rest_at level.number (run_at level.runs i) = run.interval.within in
    cut_of_run c level.number level.runs is.whole (run_at level.runs i) x
    (rest_at level.number (run_at level.runs i) - x) has (omega arith) low high

-- one y belongs to an x
pub avoids_at : (c : Computation) (test : List ℕ → Bool) (level : WholeLevel) → IsWholeLevel c level → (i x : ℕ)
    → i < length level.runs → (run_at level.runs i).lo ≤ x → x ≤ (run_at level.runs i).hi
    → IsAvoiding c test level.number (cut_at (run_at level.runs i).prefix x
    (rest_at level.number (run_at level.runs i) - x))
    ↔ AvoidsAt c test level.number (run_at level.runs i).prefix x
avoids_at c test level is i x lt low high = (λ a. (rest_at level.number (run_at level.runs i) - x, a), from)
  where
    from : AvoidsAt c test level.number (run_at level.runs i).prefix x
        → IsAvoiding c test level.number (cut_at (run_at level.runs i).prefix x
        (rest_at level.number (run_at level.runs i) - x))
    from (y, a) =
        let l : sum (run_at level.runs i).prefix + (x + y) ≡ level.number =
        level_is c test level.number (run_at level.runs i).prefix x y a in
        let e : y ≡ rest_at level.number (run_at level.runs i) - x = omega arith in
        subst (λ (n : ℕ). IsAvoiding c test level.number (cut_at (run_at level.runs i).prefix x n)) e a

pub and_not : (possible hit word test : Bool) → word ≡ (possible && not hit) → hit ≡ test
    → IsTrue word ↔ ((test ≡ false) × IsTrue possible)
and_not true true word test e f = (λ t. absurd (false≢true (sym e ∙ t)), λ w. absurd (false≢true (sym w.0 ∙ sym f)))
and_not true false word test e f = (λ t. (sym f, refl), λ w. e)
and_not false hit word test e f = (λ t. absurd (false≢true (sym e ∙ t)), λ w. absurd (false≢true w.1))

-- a bit of the next level
pub next_bit : (c : Computation) (test : List ℕ → Bool) (level before : WholeLevel) (marks : Marking)
    → IsWholeLevel c level → DigitsAt level → DigitsAt before → IsBefore c test level before marks → (i x : ℕ)
    → i < length level.runs → (run_at level.runs i).lo ≤ x → x ≤ (run_at level.runs i).hi
    → (possible hit word : Bool) → word ≡ (possible && not hit)
    → hit ≡ test (cut_with level.number (run_at level.runs i) x)
    → IsTrue possible ↔ (HasOwnMark before.runs marks (key_of_run (run_at level.runs i)) x
    ⊎ HasOtherMark before.runs marks (key_of_run (run_at level.runs i)) (run_at level.runs i).prefix
    (length (run_at level.runs i).prefix) x)
    → IsTrue word ↔ AvoidsAt c test level.number (run_at level.runs i).prefix x
next_bit c test level before marks is digits small known i x lt low high possible hit word word_is hit_is possible_is =
    (λ t. one.0 (all.1 (to t)), λ a. from (all.0 (one.1 a)))
  where
    one : IsAvoiding c test level.number (cut_with level.number (run_at level.runs i) x)
        ↔ AvoidsAt c test level.number (run_at level.runs i).prefix x
    one = avoids_at c test level is i x lt low high

    cut : IsOfLevel c (before.number + 1) (cut_with level.number (run_at level.runs i) x)
    cut = subst (λ (k : ℕ). IsOfLevel c k (cut_with level.number (run_at level.runs i) x)) known.next (cut_in_run c
        level is i x lt low high)

    all : IsAvoiding c test level.number (cut_with level.number (run_at level.runs i) x)
        ↔ ((test (cut_with level.number (run_at level.runs i) x) ≡ false) × InView c test before.number (run_at
        level.runs i).prefix x)
    all = subst (λ (k : ℕ). IsAvoiding c test k (cut_with level.number (run_at level.runs i) x)
        ↔ ((test (cut_with level.number (run_at level.runs i) x) ≡ false) × InView c test before.number (run_at
        level.runs i).prefix x)) (sym known.next)
        (mark_by_marks c test before.number (run_at level.runs i).prefix x (rest_at level.number (run_at level.runs
        i) - x) cut)

    view : (HasOwnMark before.runs marks (key_of (cut_at (run_at level.runs i).prefix 0 0)) x
        ⊎ HasOtherMark before.runs marks (key_of (cut_at (run_at level.runs i).prefix 0 0)) (run_at level.runs
        i).prefix (length (run_at level.runs i).prefix) x)
        ↔ InView c test before.number (run_at level.runs i).prefix x
    view = in_view c test before marks known.level_before small known.marking (run_at level.runs i).prefix
        (prefix_length c level is i lt) (digits i lt) x

    parts : IsTrue word ↔ ((test (cut_with level.number (run_at level.runs i) x) ≡ false) × IsTrue possible)
    parts = and_not possible hit word (test (cut_with level.number (run_at level.runs i) x)) word_is hit_is

    to : IsTrue word → (test (cut_with level.number (run_at level.runs i) x) ≡ false) × InView c test before.number
        (run_at level.runs i).prefix x
    to t = let w : (test (cut_with level.number (run_at level.runs i) x) ≡ false) × IsTrue possible = parts.0 t in
        (w.0, view.0 (possible_is.0 w.1))

    from : (test (cut_with level.number (run_at level.runs i) x) ≡ false) × InView c test before.number (run_at
        level.runs i).prefix x → IsTrue word
    from (fails, seen) = parts.1 (fails, possible_is.1 (view.1 seen))

-- a bit of the first level with a satisfying cut
pub first_bit : (c : Computation) (test : List ℕ → Bool) (level : WholeLevel) → HasNoCycle c
    → NoneBelow c test level.number → IsWholeLevel c level → (i x : ℕ)
    → i < length level.runs → (run_at level.runs i).lo ≤ x → x ≤ (run_at level.runs i).hi
    → (possible hit word : Bool) → word ≡ (possible && not hit)
    → hit ≡ test (cut_with level.number (run_at level.runs i) x)
    → possible ≡ true
    → IsTrue word ↔ AvoidsAt c test level.number (run_at level.runs i).prefix x
first_bit c test level acyclic none is i x lt low high possible hit word word_is hit_is all =
    (λ t. one.0 (first.1 (cut, (parts.0 t).0)), λ a. parts.1 ((first.0 (one.1 a)).1, all))
  where
    one : IsAvoiding c test level.number (cut_with level.number (run_at level.runs i) x)
        ↔ AvoidsAt c test level.number (run_at level.runs i).prefix x
    one = avoids_at c test level is i x lt low high

    cut : IsOfLevel c level.number (cut_with level.number (run_at level.runs i) x)
    cut = cut_in_run c level is i x lt low high

    first : IsAvoiding c test level.number (cut_with level.number (run_at level.runs i) x)
        ↔ (IsOfLevel c level.number (cut_with level.number (run_at level.runs i) x) × (test (cut_with level.number
        (run_at level.runs i) x) ≡ false))
    first = avoid_at_first_hit c acyclic test level.number none (cut_with level.number (run_at level.runs i) x)

    parts : IsTrue word ↔ ((test (cut_with level.number (run_at level.runs i) x) ≡ false) × IsTrue possible)
    parts = and_not possible hit word (test (cut_with level.number (run_at level.runs i) x)) word_is hit_is
