-- One word more at the end of the words of a run.
use Rattle.std.proofs.Common.{◌≡◌, ℕ, zero, suc, ◌+◌, ◌-◌, ◌*◌, ◌/◌, ◌%◌, ◌<◌, ◌≤◌, ◌⊎◌, ◌↔◌, inl, inr, IsTrue, Bool, false, List, [], ◌∷◌, ◌++◌, length, Contains, arith, sym, subst, ap, ◌∙◌, get_or}
use Rattle.std.proofs.lemmas.Bool.{cases_lt}
use Rattle.std.proofs.lemmas.List.{get_or_append_left, get_or-append_right}
use Rattle.walk_keys.specs.Words.{has_bit}
use Rattle.def_model.specs.Events.{Computation}
use Rattle.walk_runs.specs.WholeLevels.{Run, AvoidsAt}
use Rattle.walk_runs.specs.Levels.{WholeLevel, IsWholeLevel}
use Rattle.walk_marks.specs.RunPlaces.{run_at}
use Rattle.walk_runs.proofs.LevelCuts.{in_runs}
use Rattle.walk_runs.proofs.RunMarks.{mark_in_runs}
use Rattle.walk_marks.specs.Marks.{Marking, IsShaped, IsMarking, IsMarkedAt, bit_from, bits_in, last_word, start_of, HasWords}
use Rattle.walk_marks.proofs.RunKeys.{in_runs_at}

pub run_some : (c : Computation) (level : WholeLevel) → IsWholeLevel c level → (i : ℕ) → i < length level.runs
    → (run_at level.runs i).lo ≤ (run_at level.runs i).hi
run_some c level is i lt = (is.whole.each (run_at level.runs i) (in_runs_at level.runs i lt)).some

pub bit_kept : (words new : List ℕ) (word start d : ℕ) → new ≡ words ++ word ∷ [] → start + d / 64 < length words
    → bit_from new start d ≡ bit_from words start d
bit_kept words new word start d is lt =
    let e : get_or new (start + d / 64) 0 ≡ get_or words (start + d / 64) 0 =
    ap (λ (xs : List ℕ). get_or xs (start + d / 64) 0) is
    ∙ get_or_append_left words (word ∷ []) 0 (start + d / 64) lt in
    ap (λ (w : ℕ). has_bit w (d % 64)) e

pub bit_pushed : (words new : List ℕ) (word start b d : ℕ) → new ≡ words ++ word ∷ [] → length words ≡ start + b
    → 64 * b ≤ d → d < 64 * (b + 1) → bit_from new start d ≡ has_bit word (d - 64 * b)
bit_pushed words new word start b d is many low high =
    let q : start + d / 64 ≡ start + b = omega arith in
    let r : d % 64 ≡ d - 64 * b = omega arith in
    let none : start + b - (start + b) ≡ 0 = omega arith in
    let e : get_or new (start + b) 0 ≡ word =
    ap (λ (xs : List ℕ). get_or xs (start + b) 0) is
    ∙ (get_or-append_right words (word ∷ []) (start + b) (start + b) 0 many (omega arith)
    ∙ ap (λ (n : ℕ). get_or (word ∷ []) n 0) none) in
    rw (q, r) (ap (λ (w : ℕ). has_bit w (d - 64 * b)) e)

pub pushed_just : (P : ℕ → Type 0) (words new : List ℕ) (word start b n span : ℕ) → new ≡ words ++ word ∷ []
    → length words ≡ start + b → ((j : ℕ) → j < n → IsTrue (has_bit word j) ↔ P (64 * b + j)) → n ≤ 64
    → (n < 64 → 64 * b + n ≡ span + 1)
    → ((d : ℕ) → d < 64 * b → d ≤ span → IsTrue (bit_from words start d) ↔ P d)
    → (d : ℕ) → d < 64 * (b + 1) → d ≤ span → IsTrue (bit_from new start d) ↔ P d
pushed_just P words new word start b n span is many bits few whole before d below within = go (cases_lt d (64 * b))
  where
    go : (d < 64 * b) ⊎ (64 * b ≤ d) → IsTrue (bit_from new start d) ↔ P d
    go (inl less) =
        subst (λ (t : Bool). IsTrue t ↔ P d) (sym (bit_kept words new word start d is (omega arith)))
        (before d less within)
    go (inr le) =
        let e : 64 * b + (d - 64 * b) ≡ d = omega arith in
        subst (λ (t : Bool). IsTrue t ↔ P d) (sym (bit_pushed words new word start b d is many le below))
        (subst (λ (m : ℕ). IsTrue (has_bit word (d - 64 * b)) ↔ P m) e (bits (d - 64 * b) (inside (cases_lt n 64))))
      where
        inside : (n < 64) ⊎ (64 ≤ n) → d - 64 * b < n
        inside (inl lt) = let w : 64 * b + n ≡ span + 1 = whole lt in omega arith
        inside (inr ge) = omega arith

pub pushed_beyond : (words new : List ℕ) (word start b n span : ℕ) → new ≡ words ++ word ∷ []
    → length words ≡ start + b → ((j : ℕ) → n ≤ j → has_bit word j ≡ false) → 64 * b + n ≤ span + 1
    → ((d : ℕ) → d < 64 * b → span < d → bit_from words start d ≡ false)
    → (d : ℕ) → d < 64 * (b + 1) → span < d → bit_from new start d ≡ false
pushed_beyond words new word start b n span is many none high before d below out = go (cases_lt d (64 * b))
  where
    go : (d < 64 * b) ⊎ (64 * b ≤ d) → bit_from new start d ≡ false
    go (inl less) = bit_kept words new word start d is (omega arith) ∙ before d less out
    go (inr le) =
        bit_pushed words new word start b d is many le below ∙ none (d - 64 * b) (omega arith)

pub kept_pushed : (words new old : List ℕ) (word k : ℕ) → new ≡ words ++ word ∷ [] → k < length old
    → length old ≤ length words → get_or words k 0 ≡ get_or old k 0 → get_or new k 0 ≡ get_or old k 0
kept_pushed words new old word k is lt le same =
    ap (λ (xs : List ℕ). get_or xs k 0) is ∙ (get_or_append_left words (word ∷ []) 0 k (omega arith) ∙ same)

-- words that are kept are still those of the run
pub words_kept : (c : Computation) (test : List ℕ → Bool) (k : ℕ) (run : Run) (old new : List ℕ) (start : ℕ)
    → start + suc (last_word run) ≤ length old
    → ((n : ℕ) → n < length old → get_or new n 0 ≡ get_or old n 0) → HasWords c test k run old start
    → HasWords c test k run new start
words_kept c test k run old new start room same has = record {
  just = λ d le. subst (λ (t : Bool). IsTrue t ↔ AvoidsAt c test k run.prefix (run.lo + d))
      (sym (bit d (omega arith))) (has.just d le);
  beyond = λ d out le. bit d le ∙ has.beyond d out le;
}
  where
    bit : (d : ℕ) → d / 64 ≤ last_word run → bit_from new start d ≡ bit_from old start d
    bit d le = ap (λ (w : ℕ). has_bit w (d % 64)) (same (start + d / 64) (omega arith))

-- the starts ascend
pub start_below : (runs : List Run) (i k : ℕ) → i < k → k ≤ length runs
    → start_of runs i + suc (last_word (run_at runs i)) ≤ start_of runs k
start_below [] i k lt le = absurd (omega arith)
start_below (run ∷ runs) i zero lt le = absurd (omega arith)
start_below (run ∷ runs) zero (suc k) lt le = omega arith
start_below (run ∷ runs) (suc i) (suc k) lt le =
    let t : start_of runs i + suc (last_word (run_at runs i)) ≤ start_of runs k =
    start_below runs i k (omega arith) (omega arith) in
    omega arith

-- with the words of each run, the marks are those of the level
pub marking_of_words : (c : Computation) (test : List ℕ → Bool) (level : WholeLevel) (marks : Marking)
    → IsWholeLevel c level → IsShaped level.runs marks → marks.count ≡ bits_in marks.words
    → ((i : ℕ) → i < length level.runs
    → HasWords c test level.number (run_at level.runs i) marks.words (start_of level.runs i))
    → IsMarking c test level marks
marking_of_words c test level marks is shape counted has = record {
  shape = shape;
  just = λ i x lt. (to i x lt, from i x lt);
  counted = counted;
}
  where
    to : (i x : ℕ) → i < length level.runs → IsMarkedAt level.runs marks i x
        → AvoidsAt c test level.number (run_at level.runs i).prefix x
    to i x lt (low, high, set) =
        let e : (run_at level.runs i).lo + (x - (run_at level.runs i).lo) ≡ x = omega arith in
        subst (λ (n : ℕ). AvoidsAt c test level.number (run_at level.runs i).prefix n) e
        (((has i lt).just (x - (run_at level.runs i).lo) (omega arith)).0 set)

    from : (i x : ℕ) → i < length level.runs → AvoidsAt c test level.number (run_at level.runs i).prefix x
        → IsMarkedAt level.runs marks i x
    from i x lt avoids =
        let w : (run : Run) × Contains level.runs run × (run.prefix ≡ (run_at level.runs i).prefix) × (run.lo ≤ x)
        × (x ≤ run.hi) =
        mark_in_runs c test level.number level.runs is.whole (run_at level.runs i).prefix x avoids in
        let same : w.0 ≡ run_at level.runs i =
        (in_runs c level.number level.runs is.whole).1 w.0 (run_at level.runs i) w.1
        (in_runs_at level.runs i lt) w.2 in
        let low : (run_at level.runs i).lo ≤ x = subst (λ (run : Run). run.lo ≤ x) same w.3 in
        let high : x ≤ (run_at level.runs i).hi = subst (λ (run : Run). x ≤ run.hi) same w.4 in
        let e : x ≡ (run_at level.runs i).lo + (x - (run_at level.runs i).lo) = omega arith in (
          low,
          high,
          ((has i lt).just (x - (run_at level.runs i).lo) (omega arith)).1
              (subst (λ (n : ℕ). AvoidsAt c test level.number (run_at level.runs i).prefix n) e avoids),
        )

-- one start more
pub starts_pushed : (runs : List Run) (firsts new : List ℕ) (first i : ℕ) → new ≡ firsts ++ first ∷ []
    → length firsts ≡ i → first ≡ start_of runs i → ((k : ℕ) → k < i → get_or firsts k 0 ≡ start_of runs k)
    → (k : ℕ) → k < i + 1 → get_or new k 0 ≡ start_of runs k
starts_pushed runs firsts new first i is many at before k lt = go (cases_lt k i)
  where
    go : (k < i) ⊎ (i ≤ k) → get_or new k 0 ≡ start_of runs k
    go (inl less) =
        ap (λ (xs : List ℕ). get_or xs k 0) is
        ∙ (get_or_append_left firsts (first ∷ []) 0 k (omega arith) ∙ before k less)
    go (inr le) =
        let e : i ≡ k = omega arith in
        let none : k - i ≡ 0 = omega arith in
        ap (λ (xs : List ℕ). get_or xs k 0) is
        ∙ (get_or-append_right firsts (first ∷ []) i k 0 many le
        ∙ (ap (λ (n : ℕ). get_or (first ∷ []) n 0) none ∙ (at ∙ ap (start_of runs) e)))
