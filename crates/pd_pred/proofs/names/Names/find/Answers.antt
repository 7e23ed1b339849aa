-- The number of the process of this name, from 0.
use Rattle.std.proofs.Common.{sym, ◌∙◌, ap}
use Rattle.std.specs.Prelude.{List}
use Rattle.std.specs.Str.{bytes_eq}
use Rattle.def_format.specs.Names.{process_named, ProcessNames as Entry}
use Rattle.pd_pred.specs.Names.{entry_view, entries_view}
use Rattle.pd_pred.proofs.Positions.{position-map}
use Rattle.pd_pred.proofs.names.Names.find.Goals as goal

pub returns : goal.returns
returns c =
    c.process_at.ensures
    ∙ (sym (position-map (λ (e : Entry). bytes_eq e.name c.args.name.now) entry_view c.deref.result.now)
    ∙ ap (λ (names : List Entry). process_named names c.args.name.now) (ap entries_view c.deref.ensures.value
    ∙ c.self.view_is))
