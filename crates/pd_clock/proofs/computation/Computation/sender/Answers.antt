-- A send is looked up among the messages.
use Rattle.std.proofs.Common.{subst}
use Rattle.def_model.specs.Messages.{IsMessageList}
use Rattle.def_model.specs.Predicates.{Recorded}
use Rattle.pd_clock.proofs.computation.Computation.sender.Goals as goal

pub returns : goal.returns
returns c =
    let messages : IsMessageList c.args.self.now.events c.self.inside.matched =
    subst (λ (r : Recorded). IsMessageList r.events c.self.inside.matched) c.self.view_is c.self.invariant.3 in
    λ send. (
      λ found. (messages.just send _).0 ((c.sender.ensures send).1 found),
      λ m. (c.sender.ensures send).0 ((messages.just send _).1 m),
    )
