-- What the loops of `new` keep.
use Rattle.std.proofs.Common.{◌≡◌, [], All}
use Rattle.std.specs.Vec.{vec_len}
use Rattle.def_format.specs.Readings.{Open}
use Rattle.pd_events.specs.Reads.{ReaderState, Reads}
use Rattle.pd_spec.specs.Views.{document_view}
use Rattle.pd_gather.proofs.streams.Core.new.Given as goal

abbrev pub invariant-loop : goal.invariant-loop
invariant-loop l = record {
  count : vec_len l.readers ≡ l.counter;
  fresh : All (λ (reader : ReaderState). Reads reader (document_view l.spec).names Open []) l.readers.items;
}
