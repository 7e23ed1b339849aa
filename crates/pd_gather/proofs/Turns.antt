-- What a source gives its stream, read by read: after as many reads as a stream may have bytes, and one, it is closed.
use Rattle.std.proofs.Common.{◌≡◌, ℕ, ◌+◌, ◌<◌, ◌≤◌, Bool, true, false, eqb, take, ◌++◌, List, [], ◌∷◌, length, refl, sym, inl, append-nil, length-append, ◌∙◌, ap, subst, arith}
use Rattle.std.specs.Prelude.{◌≢◌, if◌then◌else◌, nat_le, IfOk, OnErr, Option, Some, None, Result, Ok, Err}
use Rattle.std.specs.List.{AllZip}
use Rattle.std.specs.Io.KnownBytes.{Consumes, IsAtEnd, Keeps, ReadConsumes}
use Rattle.std.proofs.KnownBytes.{Consumes-kept, Consumes-nil, Consumes-trans}
use Rattle.std.proofs.lemmas.Bool.Decides.{nat_tests}
use Rattle.std.proofs.lemmas.List.{length-take-le, map-append}
use Rattle.def_model.specs.Events.{Event}
use Rattle.def_format.specs.Limits.{stream_byte_limit}
use Rattle.def_format.specs.Lines.{FrameFault, LineTooLong, StreamTooLong, fault_of_byte, fault_after, line_number}
use Rattle.def_format.specs.Laws.{ClosedStays}
use Rattle.def_format.specs.ReadingLaws.{OpenIsSound}
use Rattle.def_format.specs.Names.{ProcessNames}
use Rattle.def_format.specs.Readings.{Ending, Open, Ended, Failed, Stop, NothingMore, EndLine, Fault, IsClosed, by_end_line, by_fault, Reading, reading, result_by_stop}
use Rattle.def_format.specs.Sessions.{Input, Piece, AtEnd, Broken, StreamResult}
use Rattle.def_judgement.specs.Judgements.{RawStream, IsResultOf, ended_stream}
use Rattle.pd_events.specs.Reads.{ReaderState, Reads}
use Rattle.pd_events.specs.Views.{result_view}
use Rattle.read_traces.specs.declared.event.Trace.{Trace}
use Rattle.pd_events.specs.declared.fault.StreamFault.{StreamFault}
use Rattle.pd_gather.specs.ReadStreams.{AreReadOf, IsReadFrom, IsReadInPart, IsReadOf, IsOwnEnd, StopsWhenClosed, read_byte_limit, row_of_stream}
use Rattle.def_judgement.proofs.StreamResults.{ended_closed}
use Rattle.def_judgement.specs.Writes.{FailsAfter, IsGivenBy, Source}
use Rattle.pd_gather.specs.Sources.{KeepsFate}
use Rattle.pd_gather.proofs.Sources.{consumes_none, ended_end, ended_given, failed_end, failed_given, open_end}
use Rattle.pd_gather.specs.ReadSoFar.{HasRead, ReadsOn, so_far, to_the_end, input_of_read}
use Rattle.pd_gather.specs.Rows.{GoesOnTo, HasPosted, row_of_reading}
use Rattle.def_format.specs.Histories.{Row, fresh_row}
use Rattle.pd_gather.proofs.RowSteps.{piece_goes_on, end_goes_on, failure_goes_on, open_posted, posted_from_start}
use Rattle.pd_gather.specs.Taken.{Takes}
use Rattle.pd_gather.specs.Views.{ReadingFits}
use Rattle.pd_gather.proofs.Outcomes.{Gives, given_result, one_fits}

-- ---- an open stream has no more bytes than a stream may have

within : (n : ℕ) → nat_le stream_byte_limit n ≡ false → n < stream_byte_limit
within n e = grind (arith, nat_tests)

no_fault_twice : (a b : Bool) (f g : FrameFault) → (if a then Some f else (if b then Some g else None)) ≡ None
    → b ≡ false
no_fault_twice true b f g e = cc
no_fault_twice false true f g e = cc
no_fault_twice false false f g e = refl

-- a byte without a fault has room in the stream
byte_has_room : (before : List ℕ) (byte : ℕ) → fault_of_byte before byte ≡ None → length before < stream_byte_limit
byte_has_room before byte e =
    within (length before)
    (no_fault_twice _ (nat_le stream_byte_limit (length before)) (LineTooLong (line_number before))
    (StreamTooLong (line_number before)) e)

sound_has_room : (before rest : List ℕ) → length before ≤ stream_byte_limit → fault_after before rest ≡ None
    → length before + length rest ≤ stream_byte_limit
sound_has_room before [] low e = omega arith
sound_has_room before (byte ∷ rest) low e =
    go (fault_of_byte before byte) refl (sound_has_room (before ++ byte ∷ []) rest)
  where
    go : (f : Option FrameFault) → fault_of_byte before byte ≡ f
        → (length (before ++ byte ∷ []) ≤ stream_byte_limit → fault_after (before ++ byte ∷ []) rest ≡ None
        → length (before ++ byte ∷ []) + length rest ≤ stream_byte_limit)
        → length before + length (byte ∷ rest) ≤ stream_byte_limit
    go None f ih =
        let room = byte_has_room before byte f in
        let grown : length (before ++ byte ∷ []) ≡ length before + 1 = length-append before (byte ∷ []) in
        let later = ih (omega (arith, grown, room)) (rw f at e) in
        omega (arith, grown, later)
    go (Some fault) f ih = let no = rw f at e in cc

open_has_room : OpenIsSound → (names : List ProcessNames) (bytes : List ℕ)
    → (reading names Open bytes).stop ≡ NothingMore → length bytes ≤ stream_byte_limit
open_has_room sound names bytes e =
    let few = sound_has_room [] bytes (omega arith) (sound names bytes e) in
    omega (arith, few)

-- ---- one read

-- a piece of bytes that one read gave
record IsPiece (old new : Source) (bytes : List ℕ) : Type 0 where
  consumed : Consumes old.bytes new.bytes bytes
  some : 0 < length bytes
  one_read : length bytes ≤ read_byte_limit
  same_fate : new.fails ≡ old.fails

-- the end that one read gave
record IsEnd (old new : Source) : Type 0 where
  consumed : Consumes old.bytes new.bytes []
  at_end : IsAtEnd new.bytes
  no_failure : old.fails ≢ Some true

-- a read that failed
record IsFailure (old new : Source) : Type 0 where
  kept : Keeps old.bytes new.bytes
  after : FailsAfter old (λ bytes. bytes ≡ [])

-- what an input does to what a source has left
abbrev Leaves : Source → Source → Input → Type 0
Leaves old new (Piece bytes) = IsPiece old new bytes
Leaves old new AtEnd = IsEnd old new
Leaves old new Broken = IsFailure old new

leaves : {E : Type 0} (old new : Source) (read : Result ℕ E) (piece : List ℕ) → 0 < length piece
    → length piece ≤ read_byte_limit → IfOk read (λ count. count ≤ length piece)
    → ReadConsumes old.bytes new.bytes read piece → KeepsFate old new read piece
    → Leaves old new (input_of_read read piece)
leaves {E} old new (Ok count) piece room limit bound consumes fate = go (eqb count 0) refl
  where
    go : (b : Bool) → eqb count 0 ≡ b → Leaves old new (input_of_read {E = E} (Ok count) piece)
    go true e =
        let none : count ≡ 0 = grind arith in
        rw e (record {
          consumed = subst (λ (n : ℕ). Consumes old.bytes new.bytes (take n piece)) none consumes.0;
          at_end = consumes.1 none room;
          no_failure = fate.1 none room;
        })
    go false e =
        let long : length (take count piece) ≡ count = length-take-le count piece bound in
        let some : 0 < count = grind arith in
        rw e (record {
          consumed = consumes.0;
          some = omega (arith, long, some);
          one_read = omega (
            arith,
            long,
            bound,
            limit,
          );
          same_fate = fate.0 (λ (z : count ≡ 0). grind (arith, some, z));
        })
leaves old new (Err error) piece room limit bound consumes fate = record { kept = consumes; after = fate }

-- the stream's state was open before the read
was_open : (names : List ProcessNames) (bytes : List ℕ) (state : ReaderState) → Reads state names Open bytes
    → state.reading.stop ≡ NothingMore → (reading names Open bytes).stop ≡ NothingMore
was_open names bytes state r open' = sym (ap (λ (x : Reading). x.stop) r.same_reading) ∙ open'

-- the read gave nothing more
nothing_more : (names : List ProcessNames) (bytes : List ℕ) → (reading names Open bytes).stop ≡ NothingMore
    → StopsWhenClosed names bytes
nothing_more names bytes open' = record {
  before = bytes;
  last = [];
  parts = sym (append-nil bytes);
  one_read = omega arith;
  still_open = open';
}

-- what the row of a stream goes on to by one read, if it was open before it
row_goes_on : (names : List ProcessNames) (bytes next : List ℕ) (ending : Ending) (before after : ReaderState)
    → Reads before names Open bytes → Reads after names ending next
    → GoesOnTo (row_of_reading (reading names Open bytes)) (row_of_reading (reading names ending next))
    → GoesOnTo (row_of_reading before.reading) (row_of_reading after.reading)
row_goes_on names bytes next ending before after r s goes = rw (r.same_reading, s.same_reading) goes

open_read : (names : List ProcessNames) (input old new : Source) (reads : ℕ) (bytes : List ℕ)
    (before after : ReaderState) (given : Input) → Leaves old new given → Takes before after given
    → reads ≤ length bytes → Consumes input.bytes old.bytes bytes → old.fails ≡ input.fails
    → Reads before names Open bytes → before.reading.stop ≡ NothingMore
    → ReadsOn names input new (reads + 1) before after
open_read names input old new reads bytes before after (Piece piece) left takes many p same r open' =
    let still_open = was_open names bytes before r open' in
    let next : Reads after names Open (bytes ++ piece) =
    subst (λ (more : List ℕ). Reads after names Open (bytes ++ more)) (append-nil piece) (takes.next names bytes r) in
    record {
      has_read = so_far (bytes ++ piece) (omega (arith, length-append bytes piece, many, left.some))
          (Consumes-trans input.bytes old.bytes new.bytes bytes piece p left.consumed)
          (left.same_fate ∙ same)
          (record {
            before = bytes;
            last = piece;
            parts = refl;
            one_read = left.one_read;
            still_open = still_open;
          })
          next;
      row = row_goes_on names bytes (bytes ++ piece) Open before after r next
          (piece_goes_on names bytes piece still_open);
    }
open_read names input old new reads bytes before after AtEnd left takes many p same r open' =
    let still_open = was_open names bytes before r open' in
    let all : Consumes input.bytes new.bytes bytes = consumes_none input old new bytes p left.consumed in
    let next : Reads after names Ended bytes =
    subst (λ (given : List ℕ). Reads after names Ended given) (append-nil bytes) (takes.next names bytes r) in
    record {
      has_read = to_the_end (ended_stream bytes) (ended_given input old new bytes p all left.at_end) all
          (nothing_more names bytes still_open) (ended_end names input old bytes same left.no_failure) next;
      row = row_goes_on names bytes bytes Ended before after r next (end_goes_on names bytes still_open);
    }
open_read names input old new reads bytes before after Broken left takes many p same r open' =
    let still_open = was_open names bytes before r open' in
    let next : Reads after names Failed bytes =
    subst (λ (given : List ℕ). Reads after names Failed given) (append-nil bytes) (takes.next names bytes r) in
    record {
      has_read = to_the_end (record { ending = Failed; bytes = bytes }) (failed_given input old bytes p)
          (Consumes-kept input.bytes old.bytes new.bytes bytes p left.kept) (nothing_more names bytes still_open)
          (failed_end names input old bytes same p left.after) next;
      row = row_goes_on names bytes bytes Failed before after r next (failure_goes_on names bytes still_open);
    }

closed_state : (names : List ProcessNames) (input : Option (List ℕ)) (state : ReaderState) (stream : RawStream)
    → IsGivenBy input stream → Reads state names stream.ending stream.bytes → IsClosed state.reading.stop
closed_state names input state stream is_given reads =
    subst (λ (r : Reading). IsClosed r.stop) (sym reads.same_reading)
    (ended_closed names stream.ending stream.bytes is_given.stopped)

not_both : (stop : Stop) → IsClosed stop → stop ≡ NothingMore → ⊥
not_both EndLine closed e = cc
not_both (Fault line kind) closed e = cc
not_both NothingMore closed e = elim closed [ ]

pub one_read : {E : Type 0} (read : Result ℕ E) (piece : List ℕ) (old new : Source) (before after : ReaderState)
    → 0 < length piece → length piece ≤ read_byte_limit → IfOk read (λ count. count ≤ length piece)
    → ReadConsumes old.bytes new.bytes read piece → KeepsFate old new read piece
    → Takes before after (input_of_read read piece) → before.reading.stop ≡ NothingMore → (names : List ProcessNames)
    (input : Source) (reads : ℕ) → HasRead names input old reads before
    → ReadsOn names input new (reads + 1) before after
one_read read piece old new before after room limit bound consumes fate takes open' names input reads has =
    go has
  where
    go : HasRead names input old reads before → ReadsOn names input new (reads + 1) before after
    go (so_far bytes many p same stops r) =
        open_read names input old new reads bytes before after (input_of_read read piece)
        (leaves old new read piece room limit bound consumes fate) takes many p same r open'
    go (to_the_end stream is_given p stops own_end r) =
        absurd (not_both before.reading.stop (closed_state names input.bytes before stream is_given r) open')

ended_reads : (names : List ProcessNames) (bytes : List ℕ) (ending : Ending) (state : ReaderState)
    → (ending ≡ Open → ⊥) → Reads state names ending bytes → state.reading.stop ≡ NothingMore → ⊥
ended_reads names bytes ending state ended r open' =
    not_both state.reading.stop
    (subst (λ (x : Reading). IsClosed x.stop) (sym r.same_reading) (ended_closed names ending bytes ended)) open'

gave_bytes : {E : Type 0} (read : Result ℕ E) (piece : List ℕ) (before after : ReaderState)
    (names : List ProcessNames) (bytes : List ℕ) (More : Type 0) → IfOk read (λ count. (count ≡ 0 → ⊥) → More)
    → Takes before after (input_of_read read piece) → Reads before names Open bytes
    → after.reading.stop ≡ NothingMore → More
gave_bytes {E} (Ok count) piece before after names bytes More more takes r open' = go (eqb count 0) refl takes
  where
    go : (b : Bool) → eqb count 0 ≡ b → Takes before after (input_of_read {E = E} (Ok count) piece) → More
    go true e t =
        let ends : Takes before after AtEnd = rw e at t in
        absurd (ended_reads names _ Ended after (λ (o : Ended ≡ Open). cc) (ends.next names bytes r) open')
    go false e t = more (λ (z : count ≡ 0). grind (arith, e, z))
gave_bytes (Err error) piece before after names bytes More more takes r open' =
    absurd (ended_reads names _ Failed after (λ (o : Failed ≡ Open). cc) (takes.next names bytes r) open')

-- a source may be asked again if the stream is still open after a read
pub asked_again : {E : Type 0} (read : Result ℕ E) (piece : List ℕ) (old : Source) (before after : ReaderState)
    (More : Type 0) → IfOk read (λ count. (count ≡ 0 → ⊥) → More) → Takes before after (input_of_read read piece)
    → before.reading.stop ≡ NothingMore → (names : List ProcessNames) (input : Source) (reads : ℕ)
    → HasRead names input old reads before → after.reading.stop ≡ NothingMore → More
asked_again read piece old before after More more takes was names input reads has open' = go has
  where
    go : HasRead names input old reads before → More
    go (so_far bytes many p same stops r) = gave_bytes read piece before after names bytes More more takes r open'
    go (to_the_end stream is_given p stops own_end r) =
        absurd (not_both before.reading.stop (closed_state names input.bytes before stream is_given r) was)

-- ---- all reads

pub nothing_read : (names : List ProcessNames) (input : Source) (state : ReaderState) → Reads state names Open []
    → HasRead names input input 0 state
nothing_read names input state r =
    so_far [] (omega arith) (Consumes-nil input.bytes) refl (nothing_more names [] refl) r

-- after these reads nothing is open
pub closes : OpenIsSound → (names : List ProcessNames) (input left : Source) (state : ReaderState)
    → HasRead names input left (stream_byte_limit + 1) state → IsClosed state.reading.stop
closes sound names input left state (to_the_end stream is_given p stops own_end r) =
    closed_state names input.bytes state stream is_given r
closes sound names input left state (so_far bytes many p same stops r) = go state.reading.stop refl
  where
    go : (stop : Stop) → state.reading.stop ≡ stop → IsClosed state.reading.stop
    go EndLine e = rw e by_end_line
    go (Fault line kind) e = rw e by_fault
    go NothingMore e =
        let few = open_has_room sound names bytes (was_open names bytes state r e) in
        absurd (omega (arith, many, few))

-- what was read of this input, with this left and this row, and fits the session
pub record GivesRead (names : List ProcessNames) (input left : Source) (row : Row)
    (given : Result Trace StreamFault) : Type 0 where
  pub read : IsReadFrom names input left (result_view given) row
  pub fits : ReadingFits names given

-- what has a result is closed
has_result : (stop : Stop) (joined : Option (ℕ × ℕ)) (events : List Event) (result : StreamResult)
    → Some result ≡ result_by_stop stop joined events → IsClosed stop
has_result NothingMore joined events result e = cc
has_result EndLine joined events result e = by_end_line
has_result (Fault line kind) joined events result e = by_fault

pub gives_read : ClosedStays → (names : List ProcessNames) (input left : Source) (reads : ℕ) (state : ReaderState)
    (row : Row) (given : Result Trace StreamFault) → HasRead names input left reads state
    → row ≡ row_of_reading state.reading → Gives state given → GivesRead names input left row given
gives_read stays names input left reads state row given (so_far bytes many p same stops r) shown gives =
    let closed : IsClosed state.reading.stop =
    has_result state.reading.stop state.reading.joined state.reading.events (result_view given) gives.value in
    let here : IsClosed (reading names Open bytes).stop =
    subst (λ (x : Reading). IsClosed x.stop) r.same_reading closed in
    let unread : reading names Failed bytes ≡ reading names Open bytes =
    subst (λ (more : List ℕ). reading names Failed more ≡ reading names Open bytes) (append-nil bytes)
    (stays names Failed bytes [] here) in
    let failed : Reads state names Failed bytes = record {
      same_names = r.same_names;
      same_reading = r.same_reading ∙ sym unread;
      framed = r.framed;
    } in
    record {
      read = record {
        stream = record { ending = Failed; bytes = bytes };
        is_given = failed_given input left bytes p;
        is_result = given_result names Failed bytes state given failed gives;
        is_row = shown ∙ ap row_of_reading failed.same_reading;
        consumed = p;
        stops = stops;
        own_end = record { ends = λ (e : Failed ≡ Ended). cc; fails = λ e. inl here };
      };
      fits = one_fits names Failed bytes state given failed gives;
    }
gives_read stays names input left reads state row given
    (to_the_end stream is_given p stops own_end r) shown gives = record {
      read = record {
        stream = stream;
        is_given = is_given;
        is_result = given_result names stream.ending stream.bytes state given r gives;
        is_row = shown ∙ ap row_of_reading r.same_reading;
        consumed = p;
        stops = stops;
        own_end = own_end;
      };
      fits = one_fits names stream.ending stream.bytes state given r gives;
    }

-- ---- memory runs out

-- the row before a read is on the way to that of what the read gave
row_posted : (names : List ProcessNames) (bytes : List ℕ) (stream : RawStream) (before : ReaderState)
    → Reads before names Open bytes → GoesOnTo (row_of_reading (reading names Open bytes)) (row_of_stream names stream)
    → HasPosted fresh_row (row_of_stream names stream) (row_of_reading before.reading)
row_posted names bytes stream before r goes =
    subst (λ (x : Reading). HasPosted fresh_row (row_of_stream names stream) (row_of_reading x)) (sym r.same_reading)
    (open_posted (row_of_reading (reading names Open bytes)) (row_of_stream names stream) goes)

open_in_part : (names : List ProcessNames) (input old new : Source) (bytes : List ℕ) (before : ReaderState)
    (given : Input) → Leaves old new given → Consumes input.bytes old.bytes bytes → old.fails ≡ input.fails
    → Reads before names Open bytes → before.reading.stop ≡ NothingMore
    → IsReadInPart names input new (row_of_reading before.reading)
open_in_part names input old new bytes before (Piece piece) left p same r open' =
    let still_open = was_open names bytes before r open' in
    let stream : RawStream = record { ending = Open; bytes = bytes ++ piece } in
    record {
      stream = stream;
      is_given = λ other. absurd (other refl);
      posted = row_posted names bytes stream before r (piece_goes_on names bytes piece still_open);
      consumed = Consumes-trans input.bytes old.bytes new.bytes bytes piece p left.consumed;
      stops = record {
        before = bytes;
        last = piece;
        parts = refl;
        one_read = left.one_read;
        still_open = still_open;
      };
      own_end = open_end names input (bytes ++ piece);
    }
open_in_part names input old new bytes before AtEnd left p same r open' =
    let still_open = was_open names bytes before r open' in
    let stream : RawStream = record { ending = Ended; bytes = bytes } in
    let all : Consumes input.bytes new.bytes bytes = consumes_none input old new bytes p left.consumed in
    record {
      stream = stream;
      is_given = λ other. ended_given input old new bytes p all left.at_end;
      posted = row_posted names bytes stream before r (end_goes_on names bytes still_open);
      consumed = all;
      stops = nothing_more names bytes still_open;
      own_end = ended_end names input old bytes same left.no_failure;
    }
open_in_part names input old new bytes before Broken left p same r open' =
    let still_open = was_open names bytes before r open' in
    let stream : RawStream = record { ending = Failed; bytes = bytes } in
    record {
      stream = stream;
      is_given = λ other. failed_given input old bytes p;
      posted = row_posted names bytes stream before r (failure_goes_on names bytes still_open);
      consumed = Consumes-kept input.bytes old.bytes new.bytes bytes p left.kept;
      stops = nothing_more names bytes still_open;
      own_end = failed_end names input old bytes same p left.after;
    }

-- memory ran out for what a read gave, with the row as it was before
pub one_in_part : {E : Type 0} (read : Result ℕ E) (piece : List ℕ) (old new : Source) (before : ReaderState)
    → 0 < length piece → length piece ≤ read_byte_limit → IfOk read (λ count. count ≤ length piece)
    → ReadConsumes old.bytes new.bytes read piece → KeepsFate old new read piece → before.reading.stop ≡ NothingMore
    → (names : List ProcessNames) (input : Source) (reads : ℕ) → HasRead names input old reads before
    → IsReadInPart names input new (row_of_reading before.reading)
one_in_part read piece old new before room limit bound consumes fate open' names input reads has = go has
  where
    go : HasRead names input old reads before
        → IsReadInPart names input new (row_of_reading before.reading)
    go (so_far bytes many p same stops r) =
        open_in_part names input old new bytes before (input_of_read read piece)
        (leaves old new read piece room limit bound consumes fate) p same r open'
    go (to_the_end stream is_given p stops own_end r) =
        absurd (not_both before.reading.stop (closed_state names input.bytes before stream is_given r) open')

-- memory ran out for a post of what was read
pub posts_in_part : (names : List ProcessNames) (input left : Source) (reads : ℕ) (state : ReaderState) (old new : Row)
    → HasRead names input left reads state → GoesOnTo old (row_of_reading state.reading)
    → HasPosted old (row_of_reading state.reading) new → IsReadInPart names input left new
posts_in_part names input left reads state old new (so_far bytes many p same stops r) goes posted = record {
  stream = record { ending = Open; bytes = bytes };
  is_given = λ other. absurd (other refl);
  posted = subst (λ (x : Reading). HasPosted fresh_row (row_of_reading x) new) r.same_reading
      (posted_from_start old (row_of_reading state.reading) new goes posted);
  consumed = p;
  stops = stops;
  own_end = open_end names input bytes;
}
posts_in_part names input left reads state old new (to_the_end stream is_given p stops own_end r) goes
    posted = record {
      stream = stream;
      is_given = λ other. is_given;
      posted = subst (λ (x : Reading). HasPosted fresh_row (row_of_reading x) new) r.same_reading
          (posted_from_start old (row_of_reading state.reading) new goes posted);
      consumed = p;
      stops = stops;
      own_end = own_end;
    }

-- memory ran out before the first read
pub none_in_part : (names : List ProcessNames) (input : Source) (row : Row) → row ≡ fresh_row
    → IsReadInPart names input input row
none_in_part names input row fresh = record {
  stream = record { ending = Open; bytes = [] };
  is_given = λ other. absurd (other refl);
  posted = inl fresh;
  consumed = Consumes-nil input.bytes;
  stops = nothing_more names [] refl;
  own_end = open_end names input [];
}

pub on_err : {X E : Type 0} (P : Type 0) (result : Result X E) → P → OnErr result P
on_err P (Ok x) p = tt
on_err P (Err error) p = p

-- ---- all streams

-- one stream alone
pub one_stream : (names : List ProcessNames) (input : Source) (result : StreamResult) (row : Row)
    → IsReadOf names input result row → AreReadOf names (input ∷ []) (result ∷ []) (row ∷ [])
one_stream names input result row (left, one) = record {
  streams = one.stream ∷ [];
  are_given = (one.is_given, tt);
  are_results = (one.is_result, tt);
  are_rows = ap (λ (r : Row). r ∷ []) one.is_row;
  own_ends = (one.own_end, tt);
}

pub zipped_both : {A B : Type 0} (P : A → B → Type 0) (xs more : List A) (ys others : List B) → AllZip P xs ys
    → AllZip P more others → AllZip P (xs ++ more) (ys ++ others)
zipped_both P [] more [] others p q = q
zipped_both P [] more (y ∷ ys) others p q = absurd p
zipped_both P (x ∷ xs) more [] others p q = absurd p
zipped_both P (x ∷ xs) more (y ∷ ys) others p q = (p.0, zipped_both P xs more ys others p.1 q)

-- the streams of two halves
pub both_read : (names : List ProcessNames) (inputs more : List Source) (results others : List StreamResult)
    (rows further : List Row) → AreReadOf names inputs results rows → AreReadOf names more others further
    → AreReadOf names (inputs ++ more) (results ++ others) (rows ++ further)
both_read names inputs more results others rows further left right = record {
  streams = left.streams ++ right.streams;
  are_given = zipped_both (λ source. IsGivenBy source.bytes) inputs more left.streams right.streams left.are_given
      right.are_given;
  are_results = zipped_both (IsResultOf names) left.streams right.streams results others left.are_results
      right.are_results;
  are_rows = rw (left.are_rows, right.are_rows) (sym (map-append (row_of_stream names) left.streams right.streams));
  own_ends = zipped_both (IsOwnEnd names) inputs more left.streams right.streams left.own_ends right.own_ends;
}

-- no streams
pub none_read : (names : List ProcessNames) → AreReadOf names [] [] []
none_read names = record {
  streams = [];
  are_given = tt;
  are_results = tt;
  are_rows = refl;
  own_ends = tt;
}
