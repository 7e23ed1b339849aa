-- Asks the source once, and gives the stream what came.
use Rattle.std.proofs.Common.{◌≡◌, ◌<◌, ◌≤◌, ℕ, false, List, length, arith}
use Rattle.std.specs.Prelude.{IfOk, Result, Ok, Err}
use Rattle.std.specs.Io.{ReadsAtMost}
use Rattle.std.proofs.lemmas.Result.{on_ok_weaker}
use Rattle.pd_gather.specs.ReadStreams.{read_byte_limit}
use Rattle.pd_gather.specs.Taken.{Takes}
use Rattle.pd_gather.specs.Views.{input_view}
use Rattle.pd_gather.proofs.Turns.{asked_again, on_err, one_in_part, one_read}
use Rattle.pd_gather.proofs.readers.read_once.Goals as goal

bound : {E : Type 0} (read : Result ℕ E) (xs : List ℕ) → ReadsAtMost read xs → IfOk read (λ count. count ≤ length xs)
bound (Ok count) xs at_most = at_most.0
bound (Err error) xs at_most = tt

pub returns-clause-read : goal.returns-clause-read
returns-clause-read g c =
    let room : 0 < length c.read_next.new.piece = omega (arith, c.read_next.auto.piece, c.requires.room) in
    let limit : length c.read_next.new.piece ≤ read_byte_limit =
    omega (arith, c.read_next.auto.piece, c.requires.limit) in
    on_ok_weaker c.take_input.result
    (λ (takes : Takes c.args.stream.now c.take_input.new.reader (input_view c.input_of-input.result)).
    one_read c.read_next.result c.read_next.new.piece
    (g.R.ByteSource.left c.args.reader.now) (g.R.ByteSource.left c.read_next.new.self)
    c.args.stream.now c.take_input.new.reader room limit
    (bound c.read_next.result c.read_next.new.piece c.read_next.ensures.bound) c.read_next.ensures.bytes
    c.read_next.ensures.fate (rw c.input_of-input.ensures at takes) c.requires.open)
    c.take_input.ensures.takes

pub returns-clause-more : goal.returns-clause-more
returns-clause-more g c =
    on_ok_weaker c.take_input.result
    (λ (takes : Takes c.args.stream.now c.take_input.new.reader (input_view c.input_of-input.result)).
    asked_again c.read_next.result c.read_next.new.piece
    (g.R.ByteSource.left c.args.reader.now) c.args.stream.now c.take_input.new.reader
    (g.R.ByteSource.has_ended c.read_next.new.self ≡ false) c.read_next.ensures.open
    (rw c.input_of-input.ensures at takes) c.requires.open)
    c.take_input.ensures.takes

pub returns-clause-refused : goal.returns-clause-refused
returns-clause-refused g c =
    let room : 0 < length c.read_next.new.piece = omega (arith, c.read_next.auto.piece, c.requires.room) in
    let limit : length c.read_next.new.piece ≤ read_byte_limit =
    omega (arith, c.read_next.auto.piece, c.requires.limit) in
    on_err _ c.take_input.result
    (one_in_part c.read_next.result c.read_next.new.piece
    (g.R.ByteSource.left c.args.reader.now) (g.R.ByteSource.left c.read_next.new.self) c.args.stream.now
    room limit (bound c.read_next.result c.read_next.new.piece c.read_next.ensures.bound) c.read_next.ensures.bytes
    c.read_next.ensures.fate c.requires.open)
