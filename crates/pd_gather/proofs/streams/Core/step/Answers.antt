-- A step is taken by the reader of its stream, and a closed stream stays as it is.
use Rattle.std.proofs.Common.{◌≡◌, ◌<◌, ◌∙◌, length, ap, subst, arith}
use Rattle.std.specs.Prelude.{Some, slice_get, slice_set}
use Rattle.std.proofs.lemmas.Option.{slice_get_read}
use Rattle.std.proofs.lemmas.Result.{on_ok_weaker}
use Rattle.pd_events.specs.Reads.{ReaderState}
use Rattle.pd_gather.specs.Taken.{HasClosed, Takes}
use Rattle.pd_gather.specs.Views.{input_view}
use Rattle.pd_gather.proofs.Inputs.{set_same, takes_step}
use Rattle.pd_gather.proofs.streams.Core.step.Goals as goal

pub returns-clause-taken : goal.returns-clause-taken
returns-clause-taken c =
    let within : c.args.stream < length c.self.inside.readers.items = rw c.self.view_is c.requires in
    on_ok_weaker c.take_input.result
    (λ (takes : Takes c.index_mut.result.now c.take_input.new.reader (input_view c.args.input)). λ names steps taken.
    takes_step c.self.inside.readers.items c.args.stream c.index_mut.result.now c.take_input.new.reader
    (input_view c.args.input) (slice_get_read c.self.inside.readers.items (length c.self.inside.readers.items)
    c.args.stream c.index_mut.result.now (omega arith) within c.index_mut.ensures.value) takes names steps
    (rw (← c.self.view_is) at taken))
    c.take_input.ensures.takes

pub returns-clause-stays : goal.returns-clause-stays
returns-clause-stays c = λ reader there closed.
    let within : c.args.stream < length c.self.inside.readers.items = rw c.self.view_is c.requires in
    let own : slice_get c.self.inside.readers.items c.args.stream ≡ Some c.index_mut.result.now =
    slice_get_read c.self.inside.readers.items (length c.self.inside.readers.items) c.args.stream
    c.index_mut.result.now (omega arith) within c.index_mut.ensures.value in
    let found : slice_get c.self.inside.readers.items c.args.stream ≡ Some reader = rw c.self.view_is there in
    let same : reader ≡ c.index_mut.result.now = cc in
    let kept : c.take_input.new.reader ≡ c.index_mut.result.now =
    c.take_input.ensures.stays (subst HasClosed same closed) in
    ap (λ (new : ReaderState). slice_set c.self.inside.readers.items c.args.stream new) kept
    ∙ (set_same c.self.inside.readers.items c.args.stream c.index_mut.result.now own ∙ c.self.view_is)
