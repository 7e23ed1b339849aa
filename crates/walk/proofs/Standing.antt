-- What is known of each predicate, while one after the other is looked at.
use Rattle.std.proofs.Common.{◌≡◌, ◌≢◌, ℕ, Bool, Bor, ◌+◌, ◌*◌, ◌<◌, ◌≤◌, ◌⊎◌, inl, inr, List, [], ◌∷◌, ◌++◌, length, length-append, get_or, take, drop, max, ◌-◌, refl, sym, ap, ◌∙◌, subst, arith}
use Rattle.std.proofs.lemmas.Bool.{cases_lt, cases_order}
use Rattle.std.proofs.lemmas.List.{get_or-append_right, get_or-set_other, get_or-set_same, get_or_append_left, length-set}
use Rattle.std.specs.Prelude.{slice_set}
use Rattle.def_model.specs.Answers.{IsPossiblyAnswer}
use Rattle.def_model.specs.Cuts.{total}
use Rattle.def_model.specs.Events.{Computation}
use Rattle.def_model.specs.Predicates.{Recorded, test_of}
use Rattle.def_model.specs.Walks.{NoneInLevels}
use Rattle.pd_pred.specs.Views.{predicate_view}
use Rattle.pd_pred.specs.declared.predicate.Pred.{Pred}
use Rattle.walk_marks.specs.SkippedRuns.{AreSkipped}
use Rattle.walk_runs.specs.Levels.{IsWholeLevel, WholeLevel}
use Rattle.walk_tables.specs.Views.{CompiledView}
use Rattle.walk_back.specs.Answers.{AreAnswers, possibly_answer_view}
use Rattle.walk.specs.Stages.{AllStand, AreBeside, AreCompiled, HasComeTo, HasEnded, OneStands, Stands, number_held, possibly_known}
use Rattle.walk_back.specs.declared.answers.Answers.{Answers}
use Rattle.walk.specs.declared.stage.Stage.{Stage}
use Rattle.walk.specs.declared.stage.Stage.TheVariants.{Open, Marked, Answered}

-- the first ones have been looked at, and the others not yet
pub record HaveLooked (tests : List CompiledView) (width gap : ℕ) (before level : WholeLevel) (i : ℕ)
    (stages : List Stage) : Type 0 where
  pub one_each : length stages ≡ length tests
  pub looked : (j : ℕ) (test : CompiledView) (stage : Stage) → j < i → j < length tests
      → OneStands (get_or tests j test) width gap level (get_or stages j stage)
  pub left : (j : ℕ) (test : CompiledView) (stage : Stage) → i ≤ j → j < length tests
      → OneStands (get_or tests j test) width gap before (get_or stages j stage)

module _ (tests : List CompiledView) (width gap : ℕ) (before level : WholeLevel) where
  pub none_looked : (stages : List Stage) → AllStand tests width gap before stages
      → HaveLooked tests width gap before level 0 stages
  none_looked stages all = record {
    one_each = all.one_each;
    looked = λ j test stage lt. absurd (omega arith);
    left = λ j test stage le within. all.each j test stage within;
  }

  pub all_looked : (stages : List Stage) (i : ℕ) → length tests ≤ i
      → HaveLooked tests width gap before level i stages → AllStand tests width gap level stages
  all_looked stages i past looked =
      record { one_each = looked.one_each; each = λ j test stage lt. looked.looked j test stage (omega arith) lt }

  -- one more
  pub one_looked : (stages : List Stage) (i : ℕ) (new : Stage) → i < length tests
      → HaveLooked tests width gap before level i stages
      → ((test : CompiledView) → OneStands (get_or tests i test) width gap level new)
      → HaveLooked tests width gap before level (i + 1) (slice_set stages i new)
  one_looked stages i new within known stands =
      record {
        one_each = length-set stages i new ∙ known.one_each;
        looked = λ j test stage lt in_list. looked j test stage (cases_order j i) lt in_list;
        left = λ j test stage le in_list.
            subst (λ (s : Stage). OneStands (get_or tests j test) width gap before s)
            (sym (other j stage (λ same. absurd (omega arith)))) (known.left j test stage (omega arith) in_list);
      }
    where
      other : (j : ℕ) (stage : Stage) → j ≢ i
          → get_or (slice_set stages i new) j stage ≡ get_or stages j stage
      other j stage apart = get_or-set_other stages i j new stage apart

      same : (stage : Stage) → get_or (slice_set stages i new) i stage ≡ new
      same stage = get_or-set_same stages i new stage (omega (arith, known.one_each))

      looked : (j : ℕ) (test : CompiledView) (stage : Stage) → (j ≡ i) ⊎ ((j < i) ⊎ (i < j)) → j < i + 1
          → j < length tests → OneStands (get_or tests j test) width gap level
          (get_or (slice_set stages i new) j stage)
      looked j test stage (inl at) lt in_list =
          subst (λ (n : ℕ). OneStands (get_or tests n test) width gap level
          (get_or (slice_set stages i new) n stage)) (sym at)
          (subst (λ (s : Stage). OneStands (get_or tests i test) width gap level s) (sym (same stage)) (stands test))
      looked j test stage (inr (inl low)) lt in_list =
          subst (λ (s : Stage). OneStands (get_or tests j test) width gap level s)
          (sym (other j stage (λ at. absurd (omega arith)))) (known.looked j test stage low in_list)
      looked j test stage (inr (inr high)) lt in_list = absurd (omega arith)

-- ---- a list with one more

module _ {A : Type 0} (xs : List A) (x : A) where
  pub read_before : (j : ℕ) (d : A) → j < length xs → get_or (xs ++ x ∷ []) j d ≡ get_or xs j d
  read_before j d low = get_or_append_left xs (x ∷ []) d j low

  pub read_end : (j : ℕ) (d : A) → j ≡ length xs → get_or (xs ++ x ∷ []) j d ≡ x
  read_end j d same =
      get_or-append_right xs (x ∷ []) (length xs) j d refl (omega arith) ∙ ap (λ (n : ℕ). get_or (x ∷ []) n d) first
    where
      first : j - length xs ≡ 0
      first = omega arith

  -- what holds of each place of the list and of the one more
  pub each_more : (P : ℕ → A → Type 0) → ((j : ℕ) (d : A) → j < length xs → P j (get_or xs j d)) → P (length xs) x
      → (j : ℕ) (d : A) → j < length xs + 1 → P j (get_or (xs ++ x ∷ []) j d)
  each_more P before last j d lt = go (cases_lt j (length xs))
    where
      go : (j < length xs) ⊎ (length xs ≤ j) → P j (get_or (xs ++ x ∷ []) j d)
      go (inl low) = subst (P j) (sym (read_before j d low)) (before j d low)
      go (inr high) =
          let same : j ≡ length xs = omega arith in
          subst (λ (y : A). P j y) (sym (read_end j d same)) (subst (λ (n : ℕ). P n x) (sym same) last)

-- ---- the answers after the last whole level

-- the answers for the first predicates are there, and those for the others are still to be made
pub record HaveFinished (recorded : Recorded) (preds : List (Bor Pred)) (width gap most : ℕ) (levels : List WholeLevel)
    (i : ℕ) (stages : List Stage) (answers : List Answers) : Type 0 where
  pub count : length answers ≡ i
  pub answered : (j : ℕ) (pred : Bor Pred) (answer : Answers) → j < i
      → AreAnswers recorded.events (test_of recorded (predicate_view (get_or preds j pred).now)) width (2 * gap + 2)
      (get_or answers j answer)
  pub level : WholeLevel
  pub only : levels ≡ level ∷ []
  pub whole : IsWholeLevel recorded.events level
  pub within : level.number ≤ total recorded.events
  pub beside : AreBeside level.number most
  pub one_each : length stages ≡ length preds
  pub left : (j : ℕ) (pred : Bor Pred) (stage : Stage) → i ≤ j → j < length preds
      → Stands recorded.events (test_of recorded (predicate_view (get_or preds j pred).now)) width gap level
      (get_or stages j stage)
  pub last : (j : ℕ) (stage : Stage) → i ≤ j → j < length stages → get_or stages j stage ≡ Open
      → level.number ≡ total recorded.events

module _ (recorded : Recorded) (preds : List (Bor Pred)) (width gap most : ℕ) (levels : List WholeLevel) where
  pub none_finished : (stages : List Stage) → HasEnded recorded preds width gap most levels stages
      → HaveFinished recorded preds width gap most levels 0 stages []
  none_finished stages ended = record {
    count = refl;
    answered = λ j pred answer lt. absurd (omega arith);
    level = ended.level;
    only = ended.only;
    whole = ended.whole;
    within = ended.within;
    beside = ended.beside;
    one_each = ended.one_each;
    left = λ j pred stage le lt. ended.each j pred stage lt;
    last = λ j stage le lt is. ended.last j stage lt is;
  }

  pub one_finished : (i : ℕ) (stages : List Stage) (answers : List Answers) (taken : Stage) (new : Answers)
      → HaveFinished recorded preds width gap most levels i stages answers
      → ((pred : Bor Pred) → AreAnswers recorded.events
      (test_of recorded (predicate_view (get_or preds i pred).now)) width (2 * gap + 2) new)
      → HaveFinished recorded preds width gap most levels (i + 1) (slice_set stages i taken) (answers ++ new ∷ [])
  one_finished i stages answers taken new known right =
      record {
        count = length-append answers (new ∷ []) ∙ ap (λ (n : ℕ). n + 1) known.count;
        answered = λ j pred answer lt.
            each_more answers new (λ n at.
            AreAnswers recorded.events (test_of recorded (predicate_view (get_or preds n pred).now)) width
            (2 * gap + 2) at)
            (λ n d low. known.answered n pred d (omega (arith, known.count)))
            (subst (λ (n : ℕ). AreAnswers recorded.events
            (test_of recorded (predicate_view (get_or preds n pred).now)) width (2 * gap + 2) new) (sym known.count)
            (right pred)) j answer (omega (arith, known.count));
        level = known.level;
        only = known.only;
        whole = known.whole;
        within = known.within;
        beside = known.beside;
        one_each = length-set stages i taken ∙ known.one_each;
        left = λ j pred stage le lt.
            subst (λ (s : Stage). Stands recorded.events
            (test_of recorded (predicate_view (get_or preds j pred).now)) width gap known.level s)
            (sym (get_or-set_other stages i j taken stage (λ same. absurd (omega arith))))
            (known.left j pred stage (omega arith) lt);
        last = λ j stage le lt is.
            known.last j stage (omega arith) (omega (arith, length-set stages i taken))
            (sym (get_or-set_other stages i j taken stage (λ same. absurd (omega arith))) ∙ is);
      }

-- ---- the last whole level

-- the level that is read is the only one
pub only_whole : (levels : List WholeLevel) (level read : WholeLevel) → levels ≡ level ∷ []
    → ((d : WholeLevel) → read ≡ get_or levels (length levels - 1) d) → read ≡ level
only_whole levels level read only is = is level ∙ ap (λ (ls : List WholeLevel). get_or ls (length ls - 1) level) only

-- with the next one beside it, the last but one is that level, and the last one the next
pub lower_whole : (levels pushed : List WholeLevel) (level next read : WholeLevel) → levels ≡ level ∷ []
    → pushed ≡ levels ++ next ∷ [] → ((d : WholeLevel) → read ≡ get_or pushed (length pushed - 2) d) → read ≡ level
lower_whole levels pushed level next read only push is =
    is level
    ∙ ap (λ (ls : List WholeLevel). get_or ls (length ls - 2) level)
    (push ∙ ap (λ (ls : List WholeLevel). ls ++ next ∷ []) only)

pub upper_whole : (levels pushed : List WholeLevel) (level next read : WholeLevel) → levels ≡ level ∷ []
    → pushed ≡ levels ++ next ∷ [] → ((d : WholeLevel) → read ≡ get_or pushed (length pushed - 1) d) → read ≡ next
upper_whole levels pushed level next read only push is =
    is next
    ∙ ap (λ (ls : List WholeLevel). get_or ls (length ls - 1) next)
    (push ∙ ap (λ (ls : List WholeLevel). ls ++ next ∷ []) only)

-- level 0 was held alone
pub beside_one : (most : ℕ) → most ≡ 1 → AreBeside 0 most
beside_one most same = record { some = omega arith; few = omega arith; two = λ lt. absurd (omega arith) }

-- two levels were held at once
pub beside_two : (k old most : ℕ) → AreBeside k old → most ≡ max old 2 → AreBeside (k + 1) most
beside_two k old most count same = record {
  some = omega arith;
  few = omega (arith, count.few);
  two = λ _. omega arith;
}

-- the walk has come to level 0
pub come_first : (c : Computation) (tests : List CompiledView) (width gap most : ℕ) (pushed : List WholeLevel)
    (read first : WholeLevel) (words : List ℕ) (stages : List Stage) → pushed ≡ first ∷ [] → IsWholeLevel c first
    → first.number ≡ 0 → AreBeside 0 most → ((d : WholeLevel) → read ≡ get_or pushed (length pushed - 1) d)
    → AreSkipped tests read words → AllStand tests width gap read stages
    → HasComeTo c tests width gap most pushed words stages
come_first c tests width gap most pushed read first words stages only whole number beside is skipped stand = record {
  level = first;
  only = only;
  whole = whole;
  within = omega (arith, number);
  beside = subst (λ (n : ℕ). AreBeside n most) (sym number) beside;
  skipped = subst (λ (level : WholeLevel). AreSkipped tests level words) (only_whole pushed first read only is)
      skipped;
  stand = subst (λ (level : WholeLevel). AllStand tests width gap level stages)
      (only_whole pushed first read only is) stand;
}

-- the number of the level that is read is that of the one that is held
pub number_read : (levels : List WholeLevel) (level read : WholeLevel) → levels ≡ level ∷ []
    → ((d : WholeLevel) → read ≡ get_or levels (length levels - 1) d) → read.number ≡ number_held levels
number_read levels level read only is =
    ap (λ (l : WholeLevel). l.number) (only_whole levels level read only is) ∙ sym (ap number_held only)

module _ (c : Computation) (tests : List CompiledView) (width gap old most : ℕ) (levels pushed left : List WholeLevel)
    (next : WholeLevel) (words skipped : List ℕ) (before stages : List Stage)
    (come : HasComeTo c tests width gap old levels words before) (push : pushed ≡ levels ++ next ∷ [])
    (after : left ≡ take (length pushed - 2) pushed ++ drop (length pushed - 1) pushed) where
  -- the next level alone is left
  pub next_only : left ≡ next ∷ []
  next_only = after ∙ ap (λ (ls : List WholeLevel). take (length ls - 2) ls ++ drop (length ls - 1) ls) two
    where
      two : pushed ≡ come.level ∷ next ∷ []
      two = push ∙ ap (λ (ls : List WholeLevel). ls ++ next ∷ []) come.only

  -- the walk has come one level further
  pub come_next : (read : WholeLevel) → number_held levels < total c → IsWholeLevel c next
      → next.number ≡ number_held levels + 1 → AreBeside (number_held levels + 1) most
      → ((d : WholeLevel) → read ≡ get_or pushed (length pushed - 1) d) → AreSkipped tests read skipped
      → AllStand tests width gap read stages → HasComeTo c tests width gap most left skipped stages
  come_next read below whole number beside is right stand = record {
    level = next;
    only = next_only;
    whole = whole;
    within = omega (arith, number, below);
    beside = subst (λ (n : ℕ). AreBeside n most) (sym number) beside;
    skipped = subst (λ (level : WholeLevel). AreSkipped tests level skipped)
        (upper_whole levels pushed come.level next read come.only push is) right;
    stand = subst (λ (level : WholeLevel). AllStand tests width gap level stages)
        (upper_whole levels pushed come.level next read come.only push is) stand;
  }

-- no predicate needs a further level
pub come_to_end : (recorded : Recorded) (preds : List (Bor Pred)) (tests : List CompiledView) (width gap most : ℕ)
    (levels : List WholeLevel) (skipped : List ℕ) (stages : List Stage) → AreCompiled recorded preds tests
    → HasComeTo recorded.events tests width gap most levels skipped stages
    → ((i : ℕ) (stage : Stage) → i < length stages → get_or stages i stage ≡ Open
    → total recorded.events ≤ number_held levels) → HasEnded recorded preds width gap most levels stages
come_to_end recorded preds tests width gap most levels skipped stages compiled come last = record {
  level = come.level;
  only = come.only;
  whole = come.whole;
  within = come.within;
  beside = come.beside;
  one_each = come.stand.one_each ∙ compiled.one_each;
  each = λ i pred stage lt.
      subst (λ (t : CompiledView). OneStands t width gap come.level (get_or stages i stage))
      (compiled.each i pred (test_for pred) lt)
      (come.stand.each i (test_for pred) stage (omega (arith, compiled.one_each)));
  last = λ i stage lt is.
      let up = last i stage lt is in omega (arith, ap number_held come.only, come.within);
}
  where
    test_for : Bor Pred → CompiledView
    test_for pred = record { recorded = recorded; predicate = predicate_view pred.now }

-- the answer for Possibly after the last level that is needed
pub known_right : NoneInLevels → (c : Computation) (test : List ℕ → Bool) (width gap : ℕ) (level : WholeLevel)
    (stage : Stage) → Stands c test width gap level stage → (stage ≡ Open → level.number ≡ total c)
    → IsPossiblyAnswer c test width (possibly_answer_view (possibly_known stage))
known_right law c test width gap level Open stands last =
    law c test width (level.number + 1) stands.narrow stands.none (omega (arith, last refl))
known_right law c test width gap level (Marked split marks) stands last = stands.0.possibly
known_right law c test width gap level (Answered answers) stands last = stands.possibly_right
