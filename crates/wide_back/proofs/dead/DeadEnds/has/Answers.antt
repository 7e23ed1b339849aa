-- The set's look-up says so.
use Rattle.std.proofs.Common.{List, ℕ, sym, ◌∙◌, subst, Contains}
use Rattle.wide_back.proofs.SeenSets.{finds, is_found}
use Rattle.wide_back.proofs.dead.DeadEnds.has.Goals as goal

pub returns : goal.returns
returns c = (
  λ is. subst (λ (xs : List (List ℕ)). Contains xs c.args.counts.now) c.self.view_is
      (is_found c.args.counts.now c.self.inside.seen.keys (sym c.contains.ensures ∙ is)),
  λ there. c.contains.ensures
      ∙ finds c.args.counts.now c.self.inside.seen.keys
      (subst (λ (xs : List (List ℕ)). Contains xs c.args.counts.now) (sym c.self.view_is) there),
)
