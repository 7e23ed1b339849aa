-- The avoiding cuts of the last whole level, as a list.
use Rattle.std.proofs.Common.{◌≡◌, ℕ, ◌+◌, ◌≤◌, [], ◌∷◌, ◌++◌, List, length, ap, ◌∙◌, sym, subst, arith}
use Rattle.walk_back.specs.Ways.{last_number}
use Rattle.pd_level.specs.Levels.{Levelled}
use Rattle.walk_back.specs.Splits.{IsSplitBelow}
use Rattle.walk_back.proofs.Keeping.{few_kept, with_held}
use Rattle.def_model.specs.Answers.{IsListOf}
use Rattle.def_model.specs.Observations.{IsAvoiding}
use Rattle.def_model.specs.Predicates.{test_of}
use Rattle.pd_pred.specs.Views.{predicate_view}
use Rattle.walk.proofs.finish.finish.Goals as goal

pub to_level-requires : goal.to_level-requires
to_level-requires g c = record {
  c = c.args.setting.now.computation.now.events;
  test = test_of c.args.setting.now.computation.now (predicate_view c.args.pred.now);
  short = c.limits.ensures.short;
  whole = c.requires.level;
  marking = (rw c.in-Marked.is at c.requires.stands).1;
}

-- the levels that are walked: the listed one alone
pub walk_listed-requires-clause-at : goal.walk_listed-requires-clause-at
walk_listed-requires-clause-at g c _ _ =
    let still : c.in-Marked.split.held.walked.items ≡ [] = (rw c.in-Marked.is at c.requires.stands).2 in
    let only : c.walk.new.self.walked.items ≡ c.in_ok-listed-in-Marked.listed ∷ [] =
    c.in_ok-walk-in-Marked.ensures.walked
    ∙ ap (λ (ls : List Levelled). ls ++ c.in_ok-listed-in-Marked.listed ∷ []) (c.stand_on.ensures.walked ∙ still) in (
      c.in_ok-listed-in-Marked.listed,
      only,
      subst (λ (n : ℕ). IsListOf (IsAvoiding c.args.setting.now.computation.now.events
          (test_of c.args.setting.now.computation.now (predicate_view c.args.pred.now)) n)
          c.in_ok-listed-in-Marked.listed.cuts)
          (sym c.in_ok-listed-in-Marked.ensures.number)
          (c.in_ok-listed-in-Marked.ensures.list c.args.setting.now.computation.now.events
          (test_of c.args.setting.now.computation.now (predicate_view c.args.pred.now)) c.requires.level
          (rw c.in-Marked.is at c.requires.stands).1),
      sym (ap last_number only),
    )

pub walk_listed-requires-clause-within : goal.walk_listed-requires-clause-within
walk_listed-requires-clause-within g c _ _ =
    let only : c.walk.new.self.walked.items ≡ c.in_ok-listed-in-Marked.listed ∷ [] =
    c.in_ok-walk-in-Marked.ensures.walked
    ∙ ap (λ (ls : List Levelled). ls ++ c.in_ok-listed-in-Marked.listed ∷ [])
    (c.stand_on.ensures.walked ∙ (rw c.in-Marked.is at c.requires.stands).2) in
    let last : last_number c.walk.new.self.walked.items ≡ c.in_ok-listed-in-Marked.listed.number =
    ap last_number only in
    omega (arith, last, c.in_ok-listed-in-Marked.ensures.number, c.requires.within)

pub walk_listed-requires-clause-split : goal.walk_listed-requires-clause-split
walk_listed-requires-clause-split g c _ _ =
    let only : c.walk.new.self.walked.items ≡ c.in_ok-listed-in-Marked.listed ∷ [] =
    c.in_ok-walk-in-Marked.ensures.walked
    ∙ ap (λ (ls : List Levelled). ls ++ c.in_ok-listed-in-Marked.listed ∷ [])
    (c.stand_on.ensures.walked ∙ (rw c.in-Marked.is at c.requires.stands).2) in
    let last : last_number c.walk.new.self.walked.items ≡ c.in_ok-listed-in-Marked.listed.number =
    ap last_number only in
    let known = (rw c.in-Marked.is at c.requires.stands).0 in
    let one : length c.walk.new.self.walked.items ≡ 1 = ap length only in
    let still : length c.stand_on.new.self.walked.items ≡ 0 =
    ap length (c.stand_on.ensures.walked ∙ (rw c.in-Marked.is at c.requires.stands).2) in
    let none : length c.in-Marked.split.held.walked.items ≡ 0 =
    ap length (rw c.in-Marked.is at c.requires.stands).2 in
    let same : length c.stand_on.new.self.levels.items ≡ length c.in-Marked.split.held.levels.items =
    ap length c.stand_on.ensures.levels in
    let few : length c.in-Marked.split.held.levels.items ≤ c.args.setting.now.gap =
    few_kept c.args.setting.now.computation.now.events
    (test_of c.args.setting.now.computation.now (predicate_view c.args.pred.now)) c.in-Marked.split.first
    c.args.setting.now.gap (c.args.level.now.number + 1) c.in-Marked.split.held.levels.items c.args.setting.now.root
    (omega (arith, c.requires.within)) known.kept in
    let number : c.args.level.now.number ≡ last_number c.walk.new.self.walked.items =
    sym (last ∙ c.in_ok-listed-in-Marked.ensures.number) in
    subst (λ (n : ℕ). IsSplitBelow c.args.setting.now.computation.now.events
    (test_of c.args.setting.now.computation.now (predicate_view c.args.pred.now)) c.args.setting.now.width
    c.args.setting.now.gap (n + 1) (record {
      possibly = c.in-Marked.split.possibly;
      first = c.in-Marked.split.first;
      held = c.walk.new.self;
    })) number
    (with_held c.args.setting.now.computation.now.events
    (test_of c.args.setting.now.computation.now (predicate_view c.args.pred.now)) c.args.setting.now.width
    c.args.setting.now.gap (c.args.level.now.number + 1) c.in-Marked.split c.walk.new.self known
    (c.walk.ensures.levels ∙ c.stand_on.ensures.levels)
    (omega (
      arith,
      c.in_ok-walk-in-Marked.ensures.most,
      c.in_ok-stand_on-in-Marked.ensures.most,
      c.in_ok-stand_on-in-Marked.ensures.beside,
      known.few,
      c.requires.one,
      c.requires.most.few,
    ))
    (omega (arith, c.walk.ensures.beside, c.in_ok-stand_on-in-Marked.ensures.beside, c.requires.one)))

pub walk_listed-requires-clause-held : goal.walk_listed-requires-clause-held
walk_listed-requires-clause-held g c _ _ =
    let only : c.walk.new.self.walked.items ≡ c.in_ok-listed-in-Marked.listed ∷ [] =
    c.in_ok-walk-in-Marked.ensures.walked
    ∙ ap (λ (ls : List Levelled). ls ++ c.in_ok-listed-in-Marked.listed ∷ [])
    (c.stand_on.ensures.walked ∙ (rw c.in-Marked.is at c.requires.stands).2) in
    let last : last_number c.walk.new.self.walked.items ≡ c.in_ok-listed-in-Marked.listed.number =
    ap last_number only in
    let one : length c.walk.new.self.walked.items ≡ 1 = ap length only in
    record {
      some = omega (arith, c.in_ok-walk-in-Marked.ensures.most);
      two = λ some.
          let two : 2 ≤ c.args.wholes.now.most =
          c.requires.most.two (omega (arith, last, c.in_ok-listed-in-Marked.ensures.number)) in
          omega (arith, c.in_ok-walk-in-Marked.ensures.most, c.in_ok-stand_on-in-Marked.ensures.most);
    }
