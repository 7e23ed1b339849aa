-- The words of run after run as lists of marks, of which as many are set as the words have bits.
use Rattle.std.proofs.Common.{◌≡◌, ℕ, zero, suc, ◌+◌, ◌-◌, ◌*◌, ◌/◌, ◌%◌, ◌<◌, ◌≤◌, ◌↔◌, IsTrue, Bool, true, false, cond, List, [], ◌∷◌, length, arith, refl, sym, subst, ap, ◌∙◌, get_or, sum, take}
use Rattle.walk_keys.specs.Words.{has_bit, set_below}
use Rattle.def_model.specs.Events.{Computation}
use Rattle.def_model.specs.Observations.{IsAvoiding}
use Rattle.def_model.specs.Answers.{IsListOf}
use Rattle.walk_keys.specs.Neighbors.{cut_at}
use Rattle.walk_runs.specs.WholeLevels.{Run, IsMarked, AreMarked, AvoidsAt, rest_at, marks_in, marks_of_runs, marked_of_runs, count_of_runs}
use Rattle.walk_runs.specs.Levels.{WholeLevel, IsWholeLevel}
use Rattle.walk_marks.specs.RunPlaces.{run_at}
use Rattle.walk_runs.proofs.RunMarks.{level_is, marked_list}
use Rattle.walk_marks.specs.Marks.{Marking, IsMarking, HasWords, bit_from, bits_in, bits_list, last_word, lists_of, start_of}
use Rattle.walk_marks.proofs.PushedWords.{run_some}

length_bits : (words : List ℕ) (start d n : ℕ) → length (bits_list words start d n) ≡ n
length_bits words start d zero = refl
length_bits words start d (suc n) = ap suc (length_bits words start (suc d) n)

bit_in_list : (words : List ℕ) (start d n j : ℕ) → j < n → get_or (bits_list words start d n) j false
    ≡ bit_from words start (d + j)
bit_in_list words start d zero j lt = absurd (omega arith)
bit_in_list words start d (suc n) zero lt = let e : d ≡ d + 0 = omega arith in
    ap (λ (k : ℕ). bit_from words start k) e
bit_in_list words start d (suc n) (suc j) lt = let e : suc d + j ≡ d + suc j = omega arith in
    bit_in_list words start (suc d) n j (omega arith) ∙ ap (λ (k : ℕ). bit_from words start k) e

-- one y belongs to an x
avoids_of : (c : Computation) (test : List ℕ → Bool) (k : ℕ) (run : Run) (x : ℕ)
    → AvoidsAt c test k run.prefix x ↔ IsAvoiding c test k (cut_at run.prefix x (rest_at k run - x))
avoids_of c test k run x = (to, λ a. (rest_at k run - x, a))
  where
    to : AvoidsAt c test k run.prefix x → IsAvoiding c test k (cut_at run.prefix x (rest_at k run - x))
    to (y, a) =
        let l : sum run.prefix + (x + y) ≡ k = level_is c test k run.prefix x y a in
        let e : y ≡ rest_at k run - x = omega arith in
        subst (λ (n : ℕ). IsAvoiding c test k (cut_at run.prefix x n)) e a

marked_run : (c : Computation) (test : List ℕ → Bool) (k : ℕ) (run : Run) (words : List ℕ) (start : ℕ)
    → run.lo ≤ run.hi → HasWords c test k run words start
    → IsMarked c test k run (bits_list words start 0 (suc (run.hi - run.lo)))
marked_run c test k run words start some has = record {
  one_each = length_bits words start 0 (suc (run.hi - run.lo)) ∙ omega arith;
  just = λ j lt.
      let l : length (bits_list words start 0 (suc (run.hi - run.lo))) ≡ suc (run.hi - run.lo) =
      length_bits words start 0 (suc (run.hi - run.lo)) in
      let e : get_or (bits_list words start 0 (suc (run.hi - run.lo))) j false ≡ bit_from words start j =
      bit_in_list words start 0 (suc (run.hi - run.lo)) j (omega arith)
      ∙ ap (λ (n : ℕ). bit_from words start n) (let z : 0 + j ≡ j = omega arith in z) in
      let w : IsTrue (bit_from words start j) ↔ AvoidsAt c test k run.prefix (run.lo + j) =
      has.just j (omega arith) in
      let v : AvoidsAt c test k run.prefix (run.lo + j)
      ↔ IsAvoiding c test k (cut_at run.prefix (run.lo + j) (rest_at k run - (run.lo + j))) =
      avoids_of c test k run (run.lo + j) in
      (λ t. v.0 (w.0 (sym e ∙ t)), λ a. e ∙ w.1 (v.1 a));
}

pub are_marked : (c : Computation) (test : List ℕ → Bool) (k : ℕ) (runs : List Run) (words : List ℕ) (start : ℕ)
    → ((i : ℕ) → i < length runs → (run_at runs i).lo ≤ (run_at runs i).hi)
    → ((i : ℕ) → i < length runs → HasWords c test k (run_at runs i) words (start + start_of runs i))
    → AreMarked c test k runs (lists_of runs words start)
are_marked c test k [] words start some has = tt
are_marked c test k (run ∷ runs) words start some has =
    let e : start + 0 ≡ start = omega arith in (
      marked_run c test k run words start (some 0 (omega arith))
          (subst (λ (n : ℕ). HasWords c test k run words n) e (has 0 (omega arith))),
      are_marked c test k runs words (start + suc (last_word run)) (λ i lt. some (suc i) (omega arith))
          (λ i lt. let f : start + (suc (last_word run) + start_of runs i)
          ≡ start + suc (last_word run) + start_of runs i = omega arith in
          subst (λ (n : ℕ). HasWords c test k (run_at runs i) words n) f (has (suc i) (omega arith))),
    )

-- how many bits are set, of this many words and of this many bits
range_bits : List ℕ → ℕ → ℕ → ℕ
range_bits words start zero = 0
range_bits words start (suc n) = range_bits words start n + set_below (get_or words (start + n) 0) 64

count_to : List ℕ → ℕ → ℕ → ℕ
count_to words start zero = 0
count_to words start (suc n) = count_to words start n + cond (bit_from words start n) 1 0

range_split : (words : List ℕ) (start a b : ℕ) → range_bits words start (a + b) ≡ range_bits words start a
    + range_bits words (start + a) b
unfolding range_bits
range_split words start a zero = let e : a + 0 ≡ a = omega arith in
    ap (range_bits words start) e ∙ omega arith
range_split words start a (suc b) =
    let e : a + suc b ≡ suc (a + b) = omega arith in
    let f : start + (a + b) ≡ start + a + b = omega arith in
    let g : set_below (get_or words (start + (a + b)) 0) 64 ≡ set_below (get_or words (start + a + b) 0) 64 =
    ap (λ (n : ℕ). set_below (get_or words n 0) 64) f in
    let h : range_bits words start (a + b) ≡ range_bits words start a + range_bits words (start + a) b =
    range_split words start a b in
    ap (range_bits words start) e ∙ omega arith

range_cons : (word : ℕ) (words : List ℕ) (start n : ℕ) → range_bits (word ∷ words) (suc start) n
    ≡ range_bits words start n
unfolding range_bits
range_cons word words start zero = refl
range_cons word words start (suc n) =
    let e : suc start + n ≡ suc (start + n) = omega arith in
    let g : set_below (get_or (word ∷ words) (suc start + n) 0) 64 ≡ set_below (get_or words (start + n) 0) 64 =
    ap (λ (m : ℕ). set_below (get_or (word ∷ words) m 0) 64) e in
    let h : range_bits (word ∷ words) (suc start) n ≡ range_bits words start n = range_cons word words start n in
    omega arith

bits_in_range : (words : List ℕ) → bits_in words ≡ range_bits words 0 (length words)
unfolding range_bits
bits_in_range [] = refl
bits_in_range (word ∷ words) =
    let s : range_bits (word ∷ words) 0 (1 + length words) ≡ range_bits (word ∷ words) 0 1
    + range_bits (word ∷ words) (0 + 1) (length words) =
    range_split (word ∷ words) 0 1 (length words) in
    let e : 1 + length words ≡ suc (length words) = omega arith in
    let f : 0 + 1 ≡ suc 0 = omega arith in
    let one : range_bits (word ∷ words) 0 1 ≡ set_below word 64 = omega arith in
    let t : range_bits (word ∷ words) (0 + 1) (length words) ≡ range_bits words 0 (length words) =
    ap (λ (n : ℕ). range_bits (word ∷ words) n (length words)) f ∙ range_cons word words 0 (length words) in
    let u : range_bits (word ∷ words) 0 (1 + length words) ≡ range_bits (word ∷ words) 0 (suc (length words)) =
    ap (range_bits (word ∷ words) 0) e in
    let r : bits_in words ≡ range_bits words 0 (length words) = bits_in_range words in
    omega arith

within_word : (words : List ℕ) (start b j : ℕ) → count_to words start (64 * b) ≡ range_bits words start b → j ≤ 64
    → count_to words start (64 * b + j) ≡ range_bits words start b + set_below (get_or words (start + b) 0) j
unfolding count_to
within_word words start b zero whole le = let e : 64 * b + 0 ≡ 64 * b = omega arith in
    ap (count_to words start) e ∙ (whole ∙ omega arith)
within_word words start b (suc j) whole le =
    let e : 64 * b + suc j ≡ suc (64 * b + j) = omega arith in
    let q : start + (64 * b + j) / 64 ≡ start + b = omega arith in
    let r : (64 * b + j) % 64 ≡ j = omega arith in
    let bit : bit_from words start (64 * b + j) ≡ has_bit (get_or words (start + b) 0) j = rw (q, r) refl in
    let one : cond {A = ℕ} (bit_from words start (64 * b + j)) 1 0 ≡ cond {A =
    ℕ} (has_bit (get_or words (start + b) 0) j) 1 0 =
    ap (λ (t : Bool). cond {A = ℕ} t 1 0) bit in
    let h : count_to words start (64 * b + j) ≡ range_bits words start b
    + set_below (get_or words (start + b) 0) j =
    within_word words start b j whole (omega arith) in
    ap (count_to words start) e ∙ omega arith

whole_words : (words : List ℕ) (start b : ℕ) → count_to words start (64 * b) ≡ range_bits words start b
unfolding count_to range_bits
whole_words words start zero = refl
whole_words words start (suc b) =
    let e : 64 * suc b ≡ 64 * b + 64 = omega arith in
    ap (count_to words start) e
    ∙ within_word words start b 64 (whole_words words start b) (omega arith)

none_beyond : (words : List ℕ) (start n m : ℕ) → ((d : ℕ) → n ≤ d → d < n + m → bit_from words start d ≡ false)
    → count_to words start (n + m) ≡ count_to words start n
unfolding count_to
none_beyond words start n zero none = let e : n + 0 ≡ n = omega arith in ap (count_to words start) e
none_beyond words start n (suc m) none =
    let e : n + suc m ≡ suc (n + m) = omega arith in
    let zero_ : cond {A = ℕ} (bit_from words start (n + m)) 1 0 ≡ 0 =
    ap (λ (t : Bool). cond {A = ℕ} t 1 0) (none (n + m) (omega arith) (omega arith)) in
    let h : count_to words start (n + m) ≡ count_to words start n =
    none_beyond words start n m (λ d le lt. none d le (omega arith)) in
    ap (count_to words start) e ∙ omega arith

marks_listed : (words : List ℕ) (start d n : ℕ) → count_to words start d + marks_in (bits_list words start d n)
    ≡ count_to words start (d + n)
unfolding count_to
marks_listed words start d zero = let e : d + 0 ≡ d = omega arith in
    let f : count_to words start (d + 0) ≡ count_to words start d = ap (count_to words start) e in omega arith
marks_listed words start d (suc n) =
    let e : d + suc n ≡ suc d + n = omega arith in
    let f : count_to words start (d + suc n) ≡ count_to words start (suc d + n) = ap (count_to words start) e in
    let h : count_to words start (suc d) + marks_in (bits_list words start (suc d) n)
    ≡ count_to words start (suc d + n) = marks_listed words start (suc d) n in
    omega arith

run_count : (words : List ℕ) (start : ℕ) (run : Run)
    → ((d : ℕ) → run.hi - run.lo < d → d / 64 ≤ last_word run → bit_from words start d ≡ false)
    → marks_in (bits_list words start 0 (suc (run.hi - run.lo))) ≡ range_bits words start (suc (last_word run))
unfolding count_to
run_count words start run beyond =
    let a : count_to words start 0 + marks_in (bits_list words start 0 (suc (run.hi - run.lo)))
    ≡ count_to words start (0 + suc (run.hi - run.lo)) =
    marks_listed words start 0 (suc (run.hi - run.lo)) in
    let z : count_to words start (0 + suc (run.hi - run.lo)) ≡ count_to words start (suc (run.hi - run.lo)) =
    ap (count_to words start) (let e : 0 + suc (run.hi - run.lo) ≡ suc (run.hi - run.lo) = omega arith in e) in
    let s : suc (run.hi - run.lo) + (64 * suc (last_word run) - suc (run.hi - run.lo))
    ≡ 64 * suc (last_word run) = omega arith in
    let b : count_to words start (suc (run.hi - run.lo) + (64 * suc (last_word run) - suc (run.hi - run.lo)))
    ≡ count_to words start (suc (run.hi - run.lo)) =
    none_beyond words start (suc (run.hi - run.lo)) (64 * suc (last_word run) - suc (run.hi - run.lo))
    (λ d le lt. beyond d (omega arith) (omega arith)) in
    let e : count_to words start (suc (run.hi - run.lo) + (64 * suc (last_word run) - suc (run.hi - run.lo)))
    ≡ count_to words start (64 * suc (last_word run)) = ap (count_to words start) s in
    let w : count_to words start (64 * suc (last_word run)) ≡ range_bits words start (suc (last_word run)) =
    whole_words words start (suc (last_word run)) in
    omega arith

all_count : (runs : List Run) (words : List ℕ) (start : ℕ)
    → ((i d : ℕ) → i < length runs → (run_at runs i).hi - (run_at runs i).lo < d → d / 64 ≤ last_word (run_at runs i)
    → bit_from words (start + start_of runs i) d ≡ false)
    → marks_of_runs (lists_of runs words start) ≡ range_bits words start (start_of runs (length runs))
unfolding range_bits
all_count [] words start beyond = refl
all_count (run ∷ runs) words start beyond =
    let e : start + 0 ≡ start = omega arith in
    let here : marks_in (bits_list words start 0 (suc (run.hi - run.lo)))
    ≡ range_bits words start (suc (last_word run)) =
    run_count words start run
    (λ d lt le. ap (λ (n : ℕ). bit_from words n d) (sym e) ∙ beyond 0 d (omega arith) lt le) in
    let rest : marks_of_runs (lists_of runs words (start + suc (last_word run)))
    ≡ range_bits words (start + suc (last_word run)) (start_of runs (length runs)) =
    all_count runs words (start + suc (last_word run))
    (λ i d lt out le.
    let f : start + suc (last_word run) + start_of runs i ≡ start + (suc (last_word run) + start_of runs i) =
    omega arith in
    ap (λ (n : ℕ). bit_from words n d) f ∙ beyond (suc i) d (omega arith) out le) in
    let split : range_bits words start (suc (last_word run) + start_of runs (length runs))
    ≡ range_bits words start (suc (last_word run))
    + range_bits words (start + suc (last_word run)) (start_of runs (length runs)) =
    range_split words start (suc (last_word run)) (start_of runs (length runs)) in
    omega arith

marks_le : (bits : List Bool) → marks_in bits ≤ length bits
marks_le [] = omega arith
marks_le (true ∷ bits) = let h : marks_in bits ≤ length bits = marks_le bits in omega arith
marks_le (false ∷ bits) = let h : marks_in bits ≤ length bits = marks_le bits in omega arith

marks_of_le : (runs : List Run) (words : List ℕ) (start : ℕ)
    → ((i : ℕ) → i < length runs → (run_at runs i).lo ≤ (run_at runs i).hi)
    → marks_of_runs (lists_of runs words start) ≤ count_of_runs runs
marks_of_le [] words start some = omega arith
marks_of_le (run ∷ runs) words start some =
    let low : run.lo ≤ run.hi = some 0 (omega arith) in
    let here : marks_in (bits_list words start 0 (suc (run.hi - run.lo)))
    ≤ length (bits_list words start 0 (suc (run.hi - run.lo))) =
    marks_le (bits_list words start 0 (suc (run.hi - run.lo))) in
    let many : length (bits_list words start 0 (suc (run.hi - run.lo))) ≡ suc (run.hi - run.lo) =
    length_bits words start 0 (suc (run.hi - run.lo)) in
    let rest : marks_of_runs (lists_of runs words (start + suc (last_word run))) ≤ count_of_runs runs =
    marks_of_le runs words (start + suc (last_word run)) (λ i lt. some (suc i) (omega arith)) in
    omega arith

-- the words of each run, where the marks are those of the level
has_words : (c : Computation) (test : List ℕ → Bool) (level : WholeLevel) (marks : Marking)
    → IsMarking c test level marks
    → (i : ℕ) → i < length level.runs
    → HasWords c test level.number (run_at level.runs i) marks.words (start_of level.runs i)
has_words c test level marks is i lt = record {
  just = λ d le.
      let low : (run_at level.runs i).lo ≤ (run_at level.runs i).hi = is.shape.some i lt in
      let e : (run_at level.runs i).lo + d - (run_at level.runs i).lo ≡ d = omega arith in
      let set : (t : IsTrue (bit_from marks.words (start_of level.runs i) d))
      → IsTrue (bit_from marks.words (start_of level.runs i)
      ((run_at level.runs i).lo + d - (run_at level.runs i).lo)) =
      λ t. rw e t in (
        λ t. (is.just i ((run_at level.runs i).lo + d) lt).0 (omega arith, omega arith, set t),
        λ a.
            let w : IsTrue (bit_from marks.words (start_of level.runs i)
            ((run_at level.runs i).lo + d - (run_at level.runs i).lo)) =
            ((is.just i ((run_at level.runs i).lo + d) lt).1 a).2 in
            subst (λ (n : ℕ). IsTrue (bit_from marks.words (start_of level.runs i) n)) e w,
      );
  beyond = λ d out le. is.shape.beyond i d lt out le;
}

-- as many bits are set as the runs' lists have marks
total_count : (runs : List Run) (words : List ℕ) → length words ≡ start_of runs (length runs)
    → ((i d : ℕ) → i < length runs → (run_at runs i).hi - (run_at runs i).lo < d → d / 64 ≤ last_word (run_at runs i)
    → bit_from words (start_of runs i) d ≡ false)
    → marks_of_runs (lists_of runs words 0) ≡ bits_in words
total_count runs words ends beyond =
    all_count runs words 0 (λ i d lt out le. let e : 0 + start_of runs i ≡ start_of runs i = omega arith in
    ap (λ (n : ℕ). bit_from words n d) e ∙ beyond i d lt out le)
    ∙ (ap (range_bits words 0) (sym ends) ∙ sym (bits_in_range words))

pub marks_list : (c : Computation) (test : List ℕ → Bool) (level : WholeLevel) (marks : Marking)
    → IsWholeLevel c level → IsMarking c test level marks
    → IsListOf (IsAvoiding c test level.number)
    (marked_of_runs level.number level.runs (lists_of level.runs marks.words 0))
    × (length (marked_of_runs level.number level.runs (lists_of level.runs marks.words 0))
    ≡ marks_of_runs (lists_of level.runs marks.words 0))
marks_list c test level marks whole is =
    marked_list c whole.two test level.number level.runs whole.whole (lists_of level.runs marks.words 0)
    (are_marked c test level.number level.runs marks.words 0 is.shape.some
    (λ i lt. let e : start_of level.runs i ≡ 0 + start_of level.runs i = omega arith in
    subst (λ (n : ℕ). HasWords c test level.number (run_at level.runs i) marks.words n) e
    (has_words c test level marks is i lt)))

pub counted_list : (c : Computation) (test : List ℕ → Bool) (level : WholeLevel) (marks : Marking)
    → IsWholeLevel c level → IsMarking c test level marks
    → (cuts : List (List ℕ)) × IsListOf (IsAvoiding c test level.number) cuts × (length cuts ≡ marks.count)
counted_list c test level marks whole is =
    let w : IsListOf (IsAvoiding c test level.number)
    (marked_of_runs level.number level.runs (lists_of level.runs marks.words 0))
    × (length (marked_of_runs level.number level.runs (lists_of level.runs marks.words 0))
    ≡ marks_of_runs (lists_of level.runs marks.words 0)) = marks_list c test level marks whole is in (
      marked_of_runs level.number level.runs (lists_of level.runs marks.words 0),
      w.0,
      w.1 ∙ (total_count level.runs marks.words is.shape.ends (λ i d lt out le. is.shape.beyond i d lt out le)
          ∙ sym is.counted),
    )

-- no more bits are set than the level has cuts
pub bits_few : (c : Computation) (level : WholeLevel) (words : List ℕ) → IsWholeLevel c level
    → length words ≡ start_of level.runs (length level.runs)
    → ((i d : ℕ) → i < length level.runs → (run_at level.runs i).hi - (run_at level.runs i).lo < d
    → d / 64 ≤ last_word (run_at level.runs i) → bit_from words (start_of level.runs i) d ≡ false)
    → bits_in words ≤ count_of_runs level.runs
bits_few c level words is ends beyond =
    let t : marks_of_runs (lists_of level.runs words 0) ≡ bits_in words =
    total_count level.runs words ends beyond in
    let le : marks_of_runs (lists_of level.runs words 0) ≤ count_of_runs level.runs =
    marks_of_le level.runs words 0 (run_some c level is) in
    omega arith

-- some of the words have no more bits than all
pub bits_more : (words : List ℕ) (i : ℕ) → i < length words
    → bits_in (take (i + 1) words) ≡ bits_in (take i words) + set_below (get_or words i 0) 64
bits_more [] i lt = absurd (omega arith)
bits_more (word ∷ words) zero lt = omega arith
bits_more (word ∷ words) (suc i) lt =
    let h : bits_in (take (i + 1) words) ≡ bits_in (take i words) + set_below (get_or words i 0) 64 =
    bits_more words i (omega arith) in
    let e : suc i + 1 ≡ suc (i + 1) = omega arith in
    ap (λ (n : ℕ). bits_in (take n (word ∷ words))) e ∙ omega arith

pub bits_within : (words : List ℕ) (i : ℕ) → bits_in (take i words) ≤ bits_in words
bits_within [] zero = omega arith
bits_within [] (suc i) = omega arith
bits_within (word ∷ words) zero = omega arith
bits_within (word ∷ words) (suc i) =
    let h : bits_in (take i words) ≤ bits_in words = bits_within words i in omega arith
