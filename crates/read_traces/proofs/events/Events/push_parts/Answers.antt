-- Adds an event of a kind that sets some variables.
use Rattle.std.proofs.Common.{◌≡◌, ◌++◌, [], ◌∷◌, List, length, ap, ◌∙◌, rules}
use Rattle.def_model.specs.Events as events
use Rattle.read_traces.specs.Columns.{columns_view, entry_with, event_with, seen_kind_view}
use Rattle.read_traces.specs.declared.entry.Entry.{Entry}
use Rattle.read_traces.proofs.ColumnFacts.{columns_pushed}
use Rattle.read_traces.proofs.events.Events.push_parts.Goals as goal

pub returns-in-Ok-clause-ok : goal.returns-in-Ok-clause-ok
returns-in-Ok-clause-ok c =
    let ids = c.self.inside.ids.items in
    let places = c.self.inside.places.items in
    let values = c.self.inside.values in
    let entries = c.self.inside.entries.items in
    let id = c.tagged-tag.result.1.now in
    let new = c.args.sets.now in
    let tag = c.tagged-tag.result.0 in
    let kind = seen_kind_view c.args.kind in
    let made : c.in_ok-made.made ≡ entry_with tag (length ids) (length id) (length places) (length new) =
    search rules in
    let all : c.add.new.entries.items
    ≡ entries ++ entry_with tag (length ids) (length id) (length places) (length new) ∷ [] =
    c.in-Ok.ensures.entries ∙ ap (λ (e : Entry). entries ++ e ∷ []) made in
    (λ i. columns_view (c.in-Ok.ensures.ids i) (c.in-Ok.ensures.places i) (c.in-Ok.ensures.values i) (all i))
    ∙ (columns_pushed ids places values id new entries tag kind c.self.invariant c.tagged-tag.ensures
    ∙ ap (λ (xs : List events.Event). xs ++ event_with kind new ∷ []) c.self.view_is)
