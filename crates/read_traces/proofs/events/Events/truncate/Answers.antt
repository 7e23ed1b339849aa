-- Keeps the first events.
use Rattle.std.proofs.Common.{ap, sym, take, ◌∙◌}
use Rattle.std.proofs.lemmas.List.{take-map}
use Rattle.read_traces.specs.Columns.{columns_view, entry_view}
use Rattle.read_traces.proofs.events.Events.truncate.Goals as goal

pub returns : goal.returns
returns c =
    let ids = c.self.inside.ids.items in
    let places = c.self.inside.places.items in
    let values = c.self.inside.values in
    ap (columns_view ids places values) c.truncate.ensures.items
    ∙ (sym (take-map (entry_view ids places values) c.args.n c.self.inside.entries.items)
    ∙ ap (take c.args.n) c.self.view_is)
