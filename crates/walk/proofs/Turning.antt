-- The predicates' turns end, one after the other.
use Rattle.std.proofs.Common.{◌≡◌, ℕ, ◌+◌, ◌<◌, ◌≤◌, ◌⊎◌, inl, inr, List, length, get_or, sym, ◌∙◌, subst, arith}
use Rattle.std.proofs.lemmas.Bool.{cases_order}
use Rattle.std.proofs.lemmas.List.{get_or-set_other, get_or-set_same, length-set}
use Rattle.std.specs.Prelude.{IfOk, Option, Result, Ok, slice_set}
use Rattle.walk_runs.specs.Levels.{WholeLevel}
use Rattle.walk_tables.specs.Views.{CompiledView}
use Rattle.walk.specs.Rounds.{AllStandAt}
use Rattle.walk.specs.Stages.{OneStands}
use Rattle.walk.specs.Turns.{AreDrawn, IsDrawn, IsKnown}
use Rattle.walk.specs.declared.round.Round.{Round}
use Rattle.walk.specs.declared.seen.Seen.{Seen}
use Rattle.walk.specs.declared.stage.Stage.{Stage}

-- what was seen of a predicate that was drawn, if anything, unless an allocation was refused
abbrev pub Drawn : Type 0 → Type 0
Drawn E = Result (Option Seen) E

-- the turns of the first predicates have ended, and those of the others have not
pub record HaveTakenTurns {K E : Type 0} (round : Round K) (before : WholeLevel) (i : ℕ)
    (drawn : List (Drawn E)) (stages : List Stage) : Type 0 where
  pub one_each : length stages ≡ length round.tests.now
  pub drawn_each : length drawn ≡ length round.tests.now
  pub ended : (j : ℕ) (test : CompiledView) (stage : Stage) → j < i → j < length round.tests.now
      → OneStands (get_or round.tests.now j test) round.width round.gap round.level.now (get_or stages j stage)
  pub left : (j : ℕ) (d : Drawn E) (stage : Stage) → i ≤ j → j < length round.tests.now
      → IfOk (get_or drawn j d) (IsDrawn round before j (get_or stages j stage))

module _ {K E : Type 0} (round : Round K) (before : WholeLevel) where
  pub none_ended : (drawn : List (Drawn E)) (stages : List Stage) → length stages ≡ length round.tests.now
      → AreDrawn round before stages drawn → HaveTakenTurns round before 0 drawn stages
  none_ended drawn stages one_each all = record {
    one_each = one_each;
    drawn_each = all.one_each ∙ one_each;
    ended = λ j test stage lt within. absurd (omega arith);
    left = λ j d stage le within. all.each j d stage (omega (arith, one_each));
  }

  -- one more
  pub one_ended : (i : ℕ) (drawn : List (Drawn E)) (stages : List Stage) (empty : Drawn E) (new : Stage)
      → i < length round.tests.now → HaveTakenTurns round before i drawn stages → IsKnown round round.level.now i new
      → HaveTakenTurns round before (i + 1) (slice_set drawn i empty) (slice_set stages i new)
  one_ended i drawn stages empty new within known stands = record {
    one_each = length-set stages i new ∙ known.one_each;
    drawn_each = length-set drawn i empty ∙ known.drawn_each;
    ended = λ j test stage lt in_list. ended j test stage (cases_order j i) lt in_list;
    left = λ j d stage le in_list.
        subst (λ (s : Stage). IfOk (get_or (slice_set drawn i empty) j d) (IsDrawn round before j s))
        (sym (get_or-set_other stages i j new stage (λ same. absurd (omega arith))))
        (subst (λ (r : Drawn E). IfOk r (IsDrawn round before j (get_or stages j stage)))
        (sym (get_or-set_other drawn i j empty d (λ same. absurd (omega arith))))
        (known.left j d stage (omega arith) in_list));
  }
    where
      ended : (j : ℕ) (test : CompiledView) (stage : Stage) → (j ≡ i) ⊎ ((j < i) ⊎ (i < j)) → j < i + 1
          → j < length round.tests.now
          → OneStands (get_or round.tests.now j test) round.width round.gap round.level.now
          (get_or (slice_set stages i new) j stage)
      ended j test stage (inl at) lt in_list =
          subst (λ (n : ℕ). OneStands (get_or round.tests.now n test) round.width round.gap round.level.now
          (get_or (slice_set stages i new) n stage)) (sym at)
          (subst (λ (s : Stage). OneStands (get_or round.tests.now i test) round.width round.gap round.level.now s)
          (sym (get_or-set_same stages i new stage (omega (arith, known.one_each)))) (stands test))
      ended j test stage (inr (inl low)) lt in_list =
          subst (λ (s : Stage). OneStands (get_or round.tests.now j test) round.width round.gap round.level.now s)
          (sym (get_or-set_other stages i j new stage (λ at. absurd (omega arith))))
          (known.ended j test stage low in_list)
      ended j test stage (inr (inr after)) lt in_list = absurd (omega arith)

  pub all_ended : (i : ℕ) (drawn : List (Drawn E)) (stages : List Stage) → length round.tests.now ≤ i
      → HaveTakenTurns round before i drawn stages → AllStandAt round round.level.now stages
  all_ended i drawn stages past known =
      record { one_each = known.one_each; each = λ j test stage lt. known.ended j test stage (omega arith) lt }

  -- what was seen of the next one, if anything
  pub next_drawn : (i : ℕ) (drawn : List (Drawn E)) (stages : List Stage) (result : Drawn E) (next : Option Seen)
      (stage : Stage) → i < length round.tests.now → HaveTakenTurns round before i drawn stages
      → ((d : Drawn E) → result ≡ get_or drawn i d) → result ≡ Ok next
      → ((d : Stage) → stage ≡ get_or stages i d) → IsDrawn round before i stage next
  next_drawn i drawn stages result next stage within known held is here =
      subst (λ (s : Stage). IsDrawn round before i s next) (sym (here stage))
      (subst (λ (r : Drawn E). IfOk r (IsDrawn round before i (get_or stages i stage))) (sym (held result) ∙ is)
      (known.left i result stage (omega arith) within))
