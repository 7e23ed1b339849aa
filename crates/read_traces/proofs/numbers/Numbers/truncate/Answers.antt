-- Keeps the first numbers.
use Rattle.std.proofs.Common.{ap, sym, take, ◌∙◌}
use Rattle.std.proofs.lemmas.List.{take-map}
use Rattle.read_traces.specs.NumberSlots.{number_in, numbers_in}
use Rattle.read_traces.proofs.numbers.Numbers.truncate.Goals as goal

pub returns : goal.returns
returns c =
    ap (numbers_in c.self.inside.wide.items) c.truncate.ensures.items
    ∙ (sym (take-map (number_in c.self.inside.wide.items) c.args.n c.self.inside.slots.items)
    ∙ ap (take c.args.n) c.self.view_is)
