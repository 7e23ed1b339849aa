-- Lists of levels that a level is added to or taken from.
use Rattle.std.proofs.Common.{◌≡◌, ℕ, ◌+◌, ◌-◌, ◌<◌, ◌≤◌, Bool, List, [], ◌∷◌, ◌++◌, length, get_or, map, filter, not, cond, true, false, take, refl, sym, ap, ◌∙◌, subst, inl, inr, ◌⊎◌, arith}
use Rattle.std.proofs.lemmas.Bool.{cases_lt}
use Rattle.std.proofs.lemmas.List.{get_or_append_left, get_or-append_right, get_or-take, get_or_default, length_push, length-take-le}
use Rattle.std.specs.Bool.{beq}
use Rattle.def_model.specs.Events.{Computation}
use Rattle.def_model.specs.Answers.{IsListOf}
use Rattle.def_model.specs.Observations.{IsAvoiding}
use Rattle.pd_level.specs.Levels.{Levelled, kept_by}
use Rattle.walk_back.specs.Ways.{AreAvoidingLevels, AreInTurn, AreKept, IsAvoidingLevel, IsWithinGap, last_number}

-- what is said of each holds with one more
pub each_push : (P : Levelled → Type 0) (levels : List Levelled) (level : Levelled)
    → ((i : ℕ) (d : Levelled) → i < length levels → P (get_or levels i d)) → P level
    → (i : ℕ) (d : Levelled) → i < length (levels ++ level ∷ []) → P (get_or (levels ++ level ∷ []) i d)
each_push P levels level each here i d lt = go (cases_lt i (length levels))
  where
    go : (i < length levels) ⊎ (length levels ≤ i) → P (get_or (levels ++ level ∷ []) i d)
    go (inl low) = rw (get_or_append_left levels (level ∷ []) d i low) (each i d low)
    go (inr high) =
        let n : length (levels ++ level ∷ []) ≡ length levels + 1 = length_push levels level in
        let none : i - length levels ≡ 0 = omega arith in
        let read : get_or (levels ++ level ∷ []) i d ≡ level =
        get_or-append_right levels (level ∷ []) (length levels) i d refl high
        ∙ ap (λ (n : ℕ). get_or (level ∷ []) n d) none in
        subst P (sym read) here

pub levels_push : (c : Computation) (test : List ℕ → Bool) (levels : List Levelled) (level : Levelled)
    → AreAvoidingLevels c test levels → IsAvoidingLevel c test level → AreAvoidingLevels c test (levels ++ level ∷ [])
levels_push c test levels level lists list = each_push (IsAvoidingLevel c test) levels level lists list

pub levels_take : (c : Computation) (test : List ℕ → Bool) (levels : List Levelled) (n : ℕ) → n ≤ length levels
    → length (take n levels) ≡ n → AreAvoidingLevels c test levels → AreAvoidingLevels c test (take n levels)
levels_take c test levels n within count lists i d lt =
    rw (get_or-take n levels i d (omega arith)) (lists i d (omega arith))

-- a level with the number and the cuts of a list
pub list_at : (c : Computation) (test : List ℕ → Bool) (level : Levelled) (k : ℕ) (cuts : List (List ℕ))
    → level.number ≡ k → level.cuts ≡ cuts → IsListOf (IsAvoiding c test k) cuts → IsAvoidingLevel c test level
list_at c test level k cuts number same list =
    subst (λ (n : ℕ). IsListOf (IsAvoiding c test n) level.cuts) (sym number)
    (subst (λ (xs : List (List ℕ)). IsListOf (IsAvoiding c test k) xs) (sym same) list)

pub last_number_read : (levels : List Levelled) (level : Levelled)
    → ((d : Levelled) → level ≡ get_or levels (length levels - 1) d) → level.number ≡ last_number levels
last_number_read levels level read =
    ap (λ (l : Levelled). l.number) (read (record { number = 0; cuts = [] }))

-- the number of the last level, at any default
pub last_number_at : (levels : List Levelled) (i : ℕ) (d : Levelled) → i + 1 ≡ length levels
    → last_number levels ≡ (get_or levels i d).number
last_number_at levels i d last =
    let e : length levels - 1 ≡ i = omega arith in
    ap (λ (n : ℕ). (get_or levels n (record { number = 0; cuts = [] })).number) e
    ∙ ap (λ (l : Levelled). l.number) (get_or_default levels i (record { number = 0; cuts = [] }) d (omega arith))

pub last_number_push : (levels : List Levelled) (level : Levelled) → last_number (levels ++ level ∷ []) ≡ level.number
last_number_push levels level =
    last_number_at (levels ++ level ∷ []) (length levels) level (sym (length_push levels level))
    ∙ ap (λ (l : Levelled). l.number) (at_push levels level level)
  where
    at_push : (levels : List Levelled) (level d : Levelled) → get_or (levels ++ level ∷ []) (length levels) d ≡ level
    at_push levels level d =
        let none : length levels - length levels ≡ 0 = omega arith in
        get_or-append_right levels (level ∷ []) (length levels) (length levels) d refl (omega arith)
        ∙ ap (λ (n : ℕ). get_or (level ∷ []) n d) none

-- levels in turn, with the next one
pub in_turn_push : (first number : ℕ) (levels : List Levelled) (level : Levelled) → AreInTurn first number levels
    → level.number + first ≡ number + (length levels + 1) → AreInTurn first number (levels ++ level ∷ [])
in_turn_push first number levels level turn here i d from lt = go (cases_lt i (length levels))
  where
    go : (i < length levels) ⊎ (length levels ≤ i)
        → (get_or (levels ++ level ∷ []) i d).number + first ≡ number + (i + 1)
    go (inl low) = rw (get_or_append_left levels (level ∷ []) d i low) (turn i d from low)
    go (inr high) =
        let n : length (levels ++ level ∷ []) ≡ length levels + 1 = length_push levels level in
        let last : i ≡ length levels = omega arith in
        let none : i - length levels ≡ 0 = omega arith in
        let read : get_or (levels ++ level ∷ []) i d ≡ level =
        get_or-append_right levels (level ∷ []) (length levels) i d refl high
        ∙ ap (λ (n : ℕ). get_or (level ∷ []) n d) none in
        ap (λ (l : Levelled). l.number + first) read ∙ (here ∙ ap (λ (n : ℕ). number + (n + 1)) (sym last))

pub in_turn_take : (first number n : ℕ) (levels : List Levelled) → n ≤ length levels → AreInTurn first number levels
    → AreInTurn first number (take n levels)
in_turn_take first number n levels within turn i d from lt =
    let count : length (take n levels) ≡ n = length-take-le n levels within in
    rw (get_or-take n levels i d (omega arith)) (turn i d from (omega arith))

-- no level comes after the first ones
pub in_turn_none : (levels : List Levelled) → 0 < length levels
    → AreInTurn (length levels) (last_number levels) levels
in_turn_none levels some i d from lt =
    let last : i + 1 ≡ length levels = omega arith in
    let e : last_number levels ≡ (get_or levels i d).number = last_number_at levels i d last in
    omega arith

-- the levels in turn end with the one that many above
pub in_turn_last : (first number : ℕ) (levels : List Levelled) → AreInTurn first number levels → 0 < length levels
    → first ≤ length levels → last_number levels + first ≡ number + length levels
in_turn_last first number levels turn some within =
    let last : length levels - 1 + 1 ≡ length levels = omega arith in
    turn (length levels - 1) (record { number = 0; cuts = [] }) (omega arith) (omega arith)
    ∙ ap (λ (n : ℕ). number + n) last

-- the levels that are kept without the last
pub kept_less : (c : Computation) (test : List ℕ → Bool) (split gap top : ℕ) (levels : List Levelled)
    → AreKept c test split gap top levels → 0 < length levels
    → AreKept c test split gap (last_number levels) (take (length levels - 1) levels)
kept_less c test split gap top levels kept some =
    record {
      lists = levels_take c test levels (length levels - 1) (omega arith) count kept.lists;
      begins = λ d lt. rw (get_or-take (length levels - 1) levels 0 d (omega (arith, count))) (kept.begins d some);
      steps = λ i d lt.
          rw (
            get_or-take (length levels - 1) levels i d (omega (arith, count)),
            get_or-take (length levels - 1) levels (i + 1) d (omega (arith, count)),
          ) (kept.steps i d (omega (arith, count)));
      ends = ends;
      none = λ zero'.
          let one : 0 + 1 ≡ length levels = omega (arith, count) in
          let e : last_number levels ≡ split =
          last_number_at levels 0 (record { number = 0; cuts = [] }) one
          ∙ kept.begins (record { number = 0; cuts = [] }) some in
          omega arith;
    }
  where
    count : length (take (length levels - 1) levels) ≡ length levels - 1
    count = length-take-le (length levels - 1) levels (omega arith)

    ends : 0 < length (take (length levels - 1) levels)
        → (last_number (take (length levels - 1) levels) ≤ last_number levels)
        × (last_number levels ≤ last_number (take (length levels - 1) levels) + gap)
    ends lt =
        let n : length (take (length levels - 1) levels) ≡ length levels - 1 = count in
        let d : Levelled = record { number = 0; cuts = [] } in
        let before : length levels - 2 + 1 ≡ length (take (length levels - 1) levels) = omega arith in
        let last : length levels - 2 + 1 + 1 ≡ length levels = omega arith in
        let a : last_number (take (length levels - 1) levels)
        ≡ (get_or (take (length levels - 1) levels) (length levels - 2) d).number =
        last_number_at (take (length levels - 1) levels) (length levels - 2) d before in
        let b : (get_or (take (length levels - 1) levels) (length levels - 2) d).number
        ≡ (get_or levels (length levels - 2) d).number =
        ap (λ (l : Levelled). l.number) (get_or-take (length levels - 1) levels (length levels - 2) d (omega arith)) in
        let e : last_number levels ≡ (get_or levels (length levels - 2 + 1) d).number =
        last_number_at levels (length levels - 2 + 1) d last in
        let step : IsWithinGap gap (get_or levels (length levels - 2) d) (get_or levels (length levels - 2 + 1) d) =
        kept.steps (length levels - 2) d (omega arith) in (
          omega (arith, step.0, step.1),
          omega (arith, step.0, step.1),
        )

-- what is kept by the marks of a test that it fails
pub kept_filter : {A : Type 0} (test : A → Bool) (xs : List A)
    → kept_by false (map test xs) xs ≡ filter (λ x. not (test x)) xs
kept_filter test [] = refl
kept_filter {A} test (x ∷ xs) = go (kept_filter test xs) (test x)
  where
    go : kept_by false (map test xs) xs ≡ filter (λ y. not (test y)) xs → (b : Bool)
        → cond (beq b false) (x ∷ kept_by false (map test xs) xs) (kept_by false (map test xs) xs)
        ≡ cond (not b) (x ∷ filter (λ y. not (test y)) xs) (filter (λ y. not (test y)) xs)
    go rest true = rest
    go rest false = ap (λ (ys : List A). x ∷ ys) rest

-- the same of one element and its mark
pub one_kept : {A : Type 0} (test : A → Bool) (x : A) (mark : Bool) → mark ≡ test x
    → kept_by false (mark ∷ []) (x ∷ []) ≡ filter (λ y. not (test y)) (x ∷ [])
one_kept test x mark e = ap (λ (b : Bool). kept_by false (b ∷ []) (x ∷ [])) e ∙ kept_filter test (x ∷ [])

-- what is read of the last place of a list of one level
pub only_read : (levels : List Levelled) (level read : Levelled) → levels ≡ level ∷ []
    → ((d : Levelled) → read ≡ get_or levels (length levels - 1) d) → read ≡ level
only_read levels level read only is = is level ∙ ap (λ (ls : List Levelled). get_or ls (length ls - 1) level) only
