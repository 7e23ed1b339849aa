-- What the avoiding cuts of a level decide, and what is known if they decide nothing.
use Rattle.std.proofs.Common.{◌≡◌, ℕ, ◌+◌, ◌*◌, ◌<◌, ◌≤◌, Bool, List, Vec, [], length, get_or, sym, subst, below_more, arith}
use Rattle.std.specs.Global.{Global}
use Rattle.def_model.specs.Answers as model
use Rattle.def_model.specs.Answers.{IsDefinitelyAnswer, IsListOf, IsPossiblyAnswer, MoreThan}
use Rattle.def_model.specs.Cuts.{total}
use Rattle.def_model.specs.Events.{Computation}
use Rattle.def_model.specs.Observations.{IsAvoiding}
use Rattle.def_model.specs.Walks.{FreeLevel, IsAvoidedBelow, IsNarrowlyAvoidedBelow, ShortAvoiding}
use Rattle.def_model.proofs.ListedCuts.{listed_at, some_listed}
use Rattle.walk_back.specs.Answers.{AreAnswers, IsEndAt, IsPastFirst, definitely_answer_view, possibly_answer_view}
use Rattle.walk_back.specs.Counts.{others}
use Rattle.walk_back.specs.Splits.{AreHeld, AreKeptBelow, IsSplitBelow}
use Rattle.walk_back.specs.declared.answers.Answers.{Answers}
use Rattle.walk_back.specs.declared.definitely_answer.DefinitelyAnswer.{DefinitelyAnswer}
use Rattle.walk_back.specs.declared.definitely_answer.DefinitelyAnswer.TheVariants as definitely
use Rattle.walk_back.specs.declared.possibly_answer.PossiblyAnswer.{PossiblyAnswer}
use Rattle.walk_back.specs.declared.split.Split.{Split}

-- the answer at the level where the walk ends
pub ended : FreeLevel → (c : Computation) (test : List ℕ → Bool) (width k : ℕ) (cuts : List (List ℕ))
    → IsListOf (IsAvoiding c test k) cuts → IsNarrowlyAvoidedBelow c test width k → IsAvoidedBelow c test k
    → k ≤ total c → (answer : model.DefinitelyAnswer) → IsEndAt (length cuts) k width answer
    → IsDefinitelyAnswer c test width answer
ended free c test width k cuts list narrow some within (model.DefinitelyYes level) (same, none) =
    subst (λ (n : ℕ). IsDefinitelyAnswer c test width (model.DefinitelyYes n)) (sym same)
    (free c test width k narrow within some (λ cut a. absurd (let lt : 0 < length cuts =
    some_listed (IsAvoiding c test k) cuts cut list a in omega arith)))
ended free c test width k cuts list narrow some within (model.DefinitelyNo path) answer = absurd answer
ended free c test width k cuts list narrow some within (model.DefinitelyUnknown level) (same, wide) =
    subst (λ (n : ℕ). IsDefinitelyAnswer c test width (model.DefinitelyUnknown n)) (sym same)
    (record { wide = (cuts, list, wide); least = narrow })

-- the end, by the count and the number that were asked for
pub end_here : (cuts : List (List ℕ)) (k width : ℕ) (answer : model.DefinitelyAnswer) (count number : ℕ)
    → count ≡ length cuts → number ≡ k → IsEndAt count number width answer → IsEndAt (length cuts) k width answer
end_here cuts k width answer count number same here at =
    subst (λ (n : ℕ). IsEndAt n k width answer) same (subst (λ (n : ℕ). IsEndAt count n width answer) here at)

-- an answer past level 0 comes from a level above it
end_past : (c : Computation) (count k width : ℕ) (answer : model.DefinitelyAnswer) → IsEndAt count k width answer
    → IsPastFirst c answer → 0 < k
end_past c count k width (model.DefinitelyYes level) (same, none) past = omega arith
end_past c count k width (model.DefinitelyNo path) at past = absurd at
end_past c count k width (model.DefinitelyUnknown level) (same, wide) past = omega arith

-- an observation is past level 0 if there is some event
pub no_past : (c : Computation) (path : Vec ℕ Global) (answer : DefinitelyAnswer) → answer ≡ definitely.No path
    → IsPastFirst c (definitely_answer_view answer) → 0 < total c
no_past c path answer same past =
    subst (λ (a : DefinitelyAnswer). IsPastFirst c (definitely_answer_view a)) same past

-- both answers there
pub both_ended : FreeLevel → (c : Computation) (test : List ℕ → Bool) (width gap k : ℕ) (split : Split)
    (cuts : List (List ℕ)) → IsSplitBelow c test width gap k split → IsListOf (IsAvoiding c test k) cuts → k ≤ total c
    → 0 < gap → AreHeld k split.held.most → (answers : Answers) (definitely : DefinitelyAnswer)
    → IsEndAt (length cuts) k width (definitely_answer_view definitely) → answers.possibly ≡ split.possibly
    → answers.definitely ≡ definitely → answers.held.most ≡ split.held.most
    → AreAnswers c test width (2 * gap + 2) answers
both_ended free c test width gap k split cuts known list within some count answers definitely at same_possibly same
    counted =
    record {
      possibly_right = subst (λ (a : PossiblyAnswer). IsPossiblyAnswer c test width (possibly_answer_view a))
          (sym same_possibly) known.possibly;
      definitely_right = subst (λ (a : DefinitelyAnswer). IsDefinitelyAnswer c test width (definitely_answer_view a))
          (sym same)
          (ended free c test width k cuts list known.narrow known.avoided within
          (definitely_answer_view definitely) at);
      few = omega (arith, known.few, counted);
      some = omega (arith, count.some, counted);
      past_first = λ past.
          let two : 2 ≤ split.held.most =
          count.two (end_past c (length cuts) k width (definitely_answer_view definitely) at
          (subst (λ (a : DefinitelyAnswer). IsPastFirst c (definitely_answer_view a)) same past)) in
          omega (arith, counted);
    }

-- the walk goes on
pub gone_on : ShortAvoiding → (c : Computation) (test : List ℕ → Bool) (width gap k : ℕ) (split after : Split)
    (cuts : List (List ℕ)) → IsSplitBelow c test width gap k split → IsListOf (IsAvoiding c test k) cuts
    → 1 ≤ length cuts → length cuts ≤ width → after.possibly ≡ split.possibly → after.first ≡ split.first
    → AreKeptBelow c test after.first gap (k + 1) after.held.levels.items → after.held.most ≤ gap + 3
    → others after.held ≤ 2 → IsSplitBelow c test width gap (k + 1) after
gone_on short c test width gap k split after cuts known list some narrow same same_first kept few beside =
    record {
      possibly = subst (λ (a : PossiblyAnswer). IsPossiblyAnswer c test width (possibly_answer_view a)) (sym same)
          known.possibly;
      none = λ j cut lt level. known.none j cut (subst (λ (n : ℕ). j < n) same_first lt) level;
      narrow = below_more (λ (j : ℕ). ¬ MoreThan width (IsAvoiding c test j)) k known.narrow
          (short c test width k cuts list narrow);
      avoided = below_more (λ (j : ℕ). (cut : List ℕ) × IsAvoiding c test j cut) k known.avoided
          (get_or cuts 0 [], listed_at (IsAvoiding c test k) cuts 0 [] list some);
      kept = kept;
      few = few;
      beside = beside;
    }
