-- The value after as many of the events as there are.
use Rattle.std.proofs.Common.{◌∙◌, ◌+◌, List, [], ap, arith, replicate, take, w64}
use Rattle.std.specs.Prelude.{slice_get, slice_index_or}
use Rattle.std.proofs.lemmas.Int.{to_z-of_z}
use Rattle.std.proofs.lemmas.List.{get_or-replicate}
use Rattle.def_model.specs.Events.{Event, events_of}
use Rattle.def_model.specs.Predicates.{last_set_if_there}
use Rattle.judge_explore.proofs.known.CutValuesValues.value.Goals as goal

pub returns : goal.returns
returns c =
    let recorded = c.args.self.now.computation.now in
    let p = c.args.process in
    let events = events_of recorded.events p in
    let count = c.count_within-count.result in
    let as_many = get_or-replicate (p + 1) p count 0 (omega arith) in
    to_z-of_z w64 c.value.result (record { sfits = c.value.type_inv })
    ∙ c.value.ensures (replicate (p + 1) count) as_many
    ∙ ap (λ (some : List Event). last_set_if_there c.args.var
    (slice_get (slice_index_or recorded.initial p []) c.args.var) some)
    (ap (λ n. take n events) as_many ∙ c.count_within-count.ensures.same ∙ ap (λ n. take n events) c.count_at.ensures)
