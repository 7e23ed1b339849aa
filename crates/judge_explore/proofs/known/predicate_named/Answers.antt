-- The predicate at the place of the first one of this name.
use Rattle.std.proofs.Common.{◌∙◌, sym}
use Rattle.judge_explore.proofs.Named.{named_found, none_found}
use Rattle.judge_explore.proofs.known.predicate_named.Goals as goal

pub returns-in-Some : goal.returns-in-Some
returns-in-Some c =
    named_found c.args.predicates.now c.args.name.now c.predicate_at.result c.in-Some.place
    (sym c.place_of.ensures ∙ c.in-Some.is) c.predicate_at.ensures

pub returns-in-None : goal.returns-in-None
returns-in-None c =
    none_found c.args.predicates.now c.args.name.now (sym c.place_of.ensures ∙ c.in-None.is)
