-- The process has the name by which it is found.
use Rattle.std.proofs.Common.{ℕ, List, ap, sym, ◌∙◌}
use Rattle.def_format.specs.Reports.{NamedPlace}
use Rattle.judge_draw.proofs.CycleNames.{name_found, name_missing}
use Rattle.judge_draw.proofs.refused.place_of.Goals as goal

pub returns-in-Some : goal.returns-in-Some
returns-in-Some c =
    ap (λ (name : List ℕ). let r : NamedPlace = record { name = name; number = c.args.number } in r)
    (name_found c.args.names.now c.args.name.now c.in-Some.process (sym c.find.ensures ∙ c.in-Some.is))

pub returns-in-None : goal.returns-in-None
returns-in-None c =
    name_missing c.args.names.now (record { name = c.args.name.now; number = c.args.number })
    (sym c.find.ensures ∙ c.in-None.is)
