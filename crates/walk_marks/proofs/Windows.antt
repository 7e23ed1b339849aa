-- Windows on the words of a run.
use Rattle.std.proofs.Common.{◌≡◌, ℕ, zero, suc, ◌+◌, ◌-◌, ◌/◌, ◌%◌, ◌<◌, ◌≤◌, ◌⊎◌, inl, inr, List, [], ◌∷◌, length, arith, refl, sym, subst, ap, ◌∙◌, Bool, true, false, get_or, ◌↔◌, IsTrue, ◌||◌}
use Rattle.std.proofs.lemmas.Bool.{cases_lt, false≢true}
use Rattle.walk_keys.specs.Words.{has_bit}
use Rattle.walk_keys.proofs.Keys.{get_or_same}
use Rattle.walk_runs.specs.WholeLevels.{Run}
use Rattle.walk_marks.specs.RunPlaces.{run_at}
use Rattle.walk_marks.specs.Marks.{Marking, IsShaped, IsMarkedAt, bit_from, start_of, last_word}

-- a run's words stand before those of the runs after it
pub start_next : (runs : List Run) (i : ℕ) → i < length runs → start_of runs (suc i) ≡ start_of runs i
    + suc (last_word (run_at runs i))
start_next [] i lt = absurd (omega arith)
start_next (run ∷ runs) zero lt = omega arith
start_next (run ∷ runs) (suc i) lt =
    let t : start_of runs (suc i) ≡ start_of runs i + suc (last_word (run_at runs i)) =
    start_next runs i (omega arith) in
    omega arith

pub start_room : (runs : List Run) (i : ℕ) → i < length runs
    → start_of runs i + suc (last_word (run_at runs i)) ≤ start_of runs (length runs)
start_room [] i lt = absurd (omega arith)
start_room (run ∷ runs) zero lt = omega arith
start_room (run ∷ runs) (suc i) lt =
    let t : start_of runs i + suc (last_word (run_at runs i)) ≤ start_of runs (length runs) =
    start_room runs i (omega arith) in
    omega arith

-- where bit `from + j` stands: in the word of bit `from`, or in the next one
pub same_word : (words : List ℕ) (start from j : ℕ) → from % 64 + j < 64
    → bit_from words start (from + j) ≡ has_bit (get_or words (start + from / 64) 0) (j + from % 64)
same_word words start from j lt =
    let q : (from + j) / 64 ≡ from / 64 = omega arith in
    let r : (from + j) % 64 ≡ j + from % 64 = omega arith in
    rw (q, r) refl

pub next_word : (words : List ℕ) (start from j by : ℕ) → j < 64 → 64 ≤ from % 64 + j → by + (64 - from % 64) ≡ j
    → bit_from words start (from + j) ≡ has_bit (get_or words (start + from / 64 + 1) 0) by
next_word words start from j by lt le is =
    let q : start + (from + j) / 64 ≡ start + from / 64 + 1 = omega arith in
    let r : (from + j) % 64 ≡ by = omega arith in
    rw (q, r) refl

-- the bit of a word is true or false
pub bit_none : (b : Bool) → b ≡ false → ¬ (b ≡ true)
bit_none b e t = false≢true (sym e ∙ t)

pub start_within : (runs : List Run) (words : List ℕ) (first i : ℕ) → i < length runs → first ≡ start_of runs i
    → length words ≡ start_of runs (length runs) → first + last_word (run_at runs i) < length words
start_within runs words first i lt is ends =
    let room : start_of runs i + suc (last_word (run_at runs i)) ≤ start_of runs (length runs) =
    start_room runs i lt in
    omega arith

-- what a window says of the marks
pub window_bits : (runs : List Run) (marks : Marking) (i x word : ℕ) → IsShaped runs marks → i < length runs
    → (run_at runs i).lo ≤ x
    → ((j : ℕ) → j < 64 → start_of runs i + (x - (run_at runs i).lo + j) / 64 ≤ start_of runs i + last_word (run_at
    runs i)
    → has_bit word j ≡ bit_from marks.words (start_of runs i) (x - (run_at runs i).lo + j))
    → ((j : ℕ) → j < 64 → start_of runs i + last_word (run_at runs i) < start_of runs i + (x - (run_at runs i).lo +
    j) / 64
    → has_bit word j ≡ false)
    → (j : ℕ) → j < 64 → IsTrue (has_bit word j) ↔ IsMarkedAt runs marks i (x + j)
window_bits runs marks i x word shape lt le bits beyond j small = (to, from)
  where
    d : x + j - (run_at runs i).lo ≡ x - (run_at runs i).lo + j
    d = omega arith

    to : IsTrue (has_bit word j) → IsMarkedAt runs marks i (x + j)
    to set = go (cases_lt (last_word (run_at runs i)) ((x - (run_at runs i).lo + j) / 64))
        (cases_lt ((run_at runs i).hi) (x + j))
      where
        go : (last_word (run_at runs i) < (x - (run_at runs i).lo + j) / 64)
            ⊎ ((x - (run_at runs i).lo + j) / 64 ≤ last_word (run_at runs i))
            → ((run_at runs i).hi < x + j) ⊎ (x + j ≤ (run_at runs i).hi) → IsMarkedAt runs marks i (x + j)
        go (inl out) w = absurd (bit_none (has_bit word j) (beyond j small (omega arith)) set)
        go (inr inside) (inl out) =
            absurd (bit_none (has_bit word j) (bits j small (omega arith)
            ∙ shape.beyond i (x - (run_at runs i).lo + j) lt (omega arith) inside) set)
        go (inr inside) (inr at) =
            (omega arith, at, rw d (sym (bits j small (omega arith)) ∙ set))

    from : IsMarkedAt runs marks i (x + j) → IsTrue (has_bit word j)
    from (low, high, set) =
        let in_ : (x - (run_at runs i).lo + j) / 64 ≤ last_word (run_at runs i) = omega arith in
        let set' : IsTrue (bit_from marks.words (start_of runs i) (x - (run_at runs i).lo + j)) =
        subst (λ (n : ℕ). IsTrue (bit_from marks.words (start_of runs i) n)) d set in
        bits j small (omega arith) ∙ set'

-- the index that is read is that of the run's first word
pub first_at : (runs : List Run) (marks : Marking) (items : List ℕ) (i first : ℕ) → IsShaped runs marks
    → items ≡ marks.first → i < length runs → first ≡ get_or items i first → first ≡ start_of runs i
first_at runs marks items i first shape same lt read =
    let many : i < length marks.first = omega (arith, shape.one_each) in
    read ∙ (ap (λ (xs : List ℕ). get_or xs i first) same ∙ (get_or_same marks.first i first 0 many ∙ shape.starts i lt))

pub first_within : (runs : List Run) (marks : Marking) (items words : List ℕ) (i first : ℕ) → IsShaped runs marks
    → items ≡ marks.first → words ≡ marks.words → i < length runs → first ≡ get_or items i first
    → first + last_word (run_at runs i) < length words
first_within runs marks items words i first shape same others lt read =
    subst (λ (ws : List ℕ). first + last_word (run_at runs i) < length ws) (sym others)
    (start_within runs marks.words first i lt (first_at runs marks items i first shape same lt read) shape.ends)

pub or_false : (x y z : Bool) → x ≡ z → y ≡ false → (x || y) ≡ z
or_false true y z a b = a
or_false false true z a b = cc
or_false false false z a b = a

pub false_or : (x y z : Bool) → x ≡ false → y ≡ z → (x || y) ≡ z
false_or true y z a b = cc
false_or false y z a b = b

-- the same of a window that begins before the run
pub window_before : (runs : List Run) (marks : Marking) (i x by word : ℕ) → IsShaped runs marks → i < length runs
    → x + by ≡ (run_at runs i).lo
    → ((j : ℕ) → j < by → has_bit word j ≡ false)
    → ((j : ℕ) → j + by < 64 → has_bit word (j + by) ≡ has_bit (get_or marks.words (start_of runs i) 0) j)
    → (j : ℕ) → j < 64 → IsTrue (has_bit word j) ↔ IsMarkedAt runs marks i (x + j)
window_before runs marks i x by word shape lt lo below moved j small = (to, from)
  where
    -- the bit is that of the run's first word
    same : by ≤ j → has_bit word j ≡ bit_from marks.words (start_of runs i) (x + j - (run_at runs i).lo)
    same le =
        let is : j - by + by ≡ j = omega arith in
        let m : has_bit word (j - by + by) ≡ has_bit (get_or marks.words (start_of runs i) 0) (j - by) =
        moved (j - by) (omega arith) in
        let q : start_of runs i + (x + j - (run_at runs i).lo) / 64 ≡ start_of runs i = omega arith in
        let r : (x + j - (run_at runs i).lo) % 64 ≡ j - by = omega arith in
        let t : has_bit word j ≡ has_bit (get_or marks.words (start_of runs i) 0) (j - by) =
        ap (has_bit word) (sym is) ∙ m in
        rw (q, r) t

    to : IsTrue (has_bit word j) → IsMarkedAt runs marks i (x + j)
    to set = go (cases_lt j by) (cases_lt ((run_at runs i).hi) (x + j))
      where
        go : (j < by) ⊎ (by ≤ j) → ((run_at runs i).hi < x + j) ⊎ (x + j ≤ (run_at runs i).hi)
            → IsMarkedAt runs marks i (x + j)
        go (inl less) w = absurd (bit_none (has_bit word j) (below j less) set)
        go (inr le) (inl out) =
            absurd (bit_none (has_bit word j) (same le
            ∙ shape.beyond i (x + j - (run_at runs i).lo) lt (omega arith) (omega arith)) set)
        go (inr le) (inr at) = (omega arith, at, sym (same le) ∙ set)

    from : IsMarkedAt runs marks i (x + j) → IsTrue (has_bit word j)
    from (low, high, set) = same (omega arith) ∙ set
