-- The predicates so far.
use Rattle.std.proofs.Common.{◌≡◌, length, map, take}
use Rattle.def_format.specs.Documents.{asked_predicates}
use Rattle.serde_json.specs.View.{items_view}
use Rattle.pd_spec.proofs.changes.asked_predicates.Given as goal

abbrev pub invariant-loop-text : goal.invariant-loop-text
invariant-loop-text l = record {
  count : length l.values.items ≡ l.text-index;
  asked : items_view l.values.items ≡ asked_predicates 1 (map (λ text. text.now) (take l.text-index l.texts));
}
