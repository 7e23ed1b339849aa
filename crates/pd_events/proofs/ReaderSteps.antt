-- Which reading a trace reader stands for after a piece, the end, or a failed read.
use Rattle.std.proofs.Common.{◌≡◌, ℕ, ◌+◌, false, true, List, [], ◌++◌, refl, sym, ◌∙◌, ap, append-nil}
use Rattle.std.specs.Prelude.{Option, Some, None}
use Rattle.def_format.specs.Lines.{Line, FrameFault, has_line_feed, fault_after, frame_fault, open_lines, finished_lines, line_count, line_number, IsBatch}
use Rattle.def_format.specs.LineLaws.{PartGoesOn, PartIsFaulty}
use Rattle.def_format.specs.Laws.{ClosedStays}
use Rattle.def_format.specs.ReadingLaws.{OpenIsSound, ReadingGoesOn, ReadingEnds, ReadingFails, stopped_by, read_on}
use Rattle.def_format.specs.Names.{ProcessNames}
use Rattle.def_format.specs.Limits.{event_limit}
use Rattle.def_format.specs.Readings.{Ending, Open, Ended, Failed, Stop, NothingMore, EndLine, Fault, StreamKind, Unended, ReadFailed, IsClosed, by_end_line, by_fault, Reading, stop_at_end, stop_or, with_end, reading}
use Rattle.pd_frames.specs.State.{State, Stands, line_to_come}
use Rattle.pd_frames.specs.Views.{frame_faults_view}
use Rattle.pd_frames.specs.declared.line.FrameFault.{FrameFault as Reported}
use Rattle.pd_frames.specs.declared.line.FrameFault.TheVariants as reported
use Rattle.pd_events.specs.Reads.{ReaderState, Reads, stop_of_frame}

-- ---- closed and open

pub not_open : (s : Stop) → IsClosed s → s ≡ NothingMore → ⊥
not_open NothingMore closed e = elim closed [ ]
not_open EndLine closed e = cc
not_open (Fault number kind) closed e = cc

pub ends_closed : (s before : Stop) (number : ℕ) (kind : StreamKind) → s ≡ stop_or before (Fault number kind)
    → IsClosed s
ends_closed s NothingMore number kind e = rw e by_fault
ends_closed s EndLine number kind e = rw e by_end_line
ends_closed s (Fault m k) number kind e = rw e by_fault

-- a closed reader stays that of the reading, whatever comes, and however it ends
pub closed_reads : ClosedStays → (old : ReaderState) (names : List ProcessNames) (ending : Ending) (bytes more : List ℕ)
    → Reads old names Open bytes → IsClosed old.reading.stop → Reads old names ending (bytes ++ more)
closed_reads stays old names ending bytes more r closed = record {
  same_names = r.same_names;
  same_reading = r.same_reading ∙ sym (stays names ending bytes more (rw r.same_reading at closed));
  framed = λ e. absurd (not_open old.reading.stop closed e);
}

pub closed_ends : ClosedStays → (old : ReaderState) (names : List ProcessNames) (ending : Ending) (bytes : List ℕ)
    → Reads old names Open bytes → IsClosed old.reading.stop → Reads old names ending bytes
closed_ends stays old names ending bytes r closed =
    rw (append-nil bytes) at (closed_reads stays old names ending bytes [] r closed)

pub open_stop : (old : ReaderState) (names : List ProcessNames) (bytes : List ℕ) → Reads old names Open bytes
    → old.reading.stop ≡ NothingMore → (reading names Open bytes).stop ≡ NothingMore
open_stop old names bytes r e = sym (ap (λ (x : Reading). x.stop) r.same_reading) ∙ e

-- ---- a piece

same_stop : (bytes : List ℕ) (fault : Option Reported) → stop_at_end Open bytes (frame_faults_view fault)
    ≡ stop_of_frame fault
same_stop bytes None = refl
same_stop bytes (Some (reported.LineTooLong line)) = refl
same_stop bytes (Some (reported.StreamTooLong line)) = refl

pub fed : ReadingGoesOn → (old : ReaderState) (framer : State) (names : List ProcessNames) (bytes piece : List ℕ)
    (lines : List Line) (fault : Option Reported) (new : Reading) → Reads old names Open bytes
    → old.reading.stop ≡ NothingMore → IsBatch bytes piece lines (frame_faults_view fault)
    → Stands framer (bytes ++ piece) false
    → new ≡ with_end (stop_of_frame fault) (read_on event_limit old.names old.reading lines)
    → Reads (record { names = old.names; framer = framer; reading = new }) names Open (bytes ++ piece)
fed goes_on old framer names bytes piece lines fault new r e batch stands is = record {
  same_names = r.same_names;
  same_reading =
      is ∙ (rw (r.same_names, r.same_reading, ← same_stop (bytes ++ piece) fault)
      (sym (goes_on names bytes piece lines (frame_faults_view fault) (open_stop old names bytes r e) batch)));
  framed = λ _. stands;
}

-- bytes without an LF end no line
pub no_line : PartGoesOn → PartIsFaulty → (bytes piece : List ℕ) (lines : List Line) (fault : Option FrameFault)
    → frame_fault bytes ≡ None → has_line_feed piece ≡ false → IsBatch bytes piece lines fault
    → IsBatch bytes piece [] fault
no_line goes_on faulty bytes piece lines fault sound h batch = go (fault_after bytes piece) refl
  where
    go : (f : Option FrameFault) → fault_after bytes piece ≡ f → IsBatch bytes piece [] fault
    go None e =
        record {
          new_lines = (goes_on bytes piece sound h e).lines ∙ sym (append-nil (open_lines bytes));
          same_fault =
              batch.same_fault;
        }
    go (Some f) e =
        let whole : IsBatch bytes piece [] (Some f) = rw (append-nil piece) at (faulty bytes piece [] f sound h e) in
        record { new_lines = whole.new_lines; same_fault = batch.same_fault }

-- ---- the end

line_at_end : (bytes : List ℕ) (n : ℕ) → frame_fault bytes ≡ None → n ≡ line_to_come bytes true
    → n ≡ line_count bytes + 1
line_at_end bytes n sound e = rw sound at e

line_while_open : (bytes : List ℕ) (n : ℕ) → frame_fault bytes ≡ None → n ≡ line_to_come bytes false
    → n ≡ line_number bytes
line_while_open bytes n sound e = rw sound at e

pub ended : OpenIsSound → ReadingEnds
    → (old : ReaderState) (framer : State) (names : List ProcessNames) (bytes : List ℕ) (lines : List Line) (number : ℕ)
    (new : Reading) → Reads old names Open bytes → old.reading.stop ≡ NothingMore
    → finished_lines bytes ≡ open_lines bytes ++ lines → number ≡ line_to_come bytes true
    → new ≡ with_end (Fault number Unended) (read_on event_limit old.names old.reading lines)
    → Reads (record { names = old.names; framer = framer; reading = new }) names Ended bytes
ended sound ends old framer names bytes lines number new r e all at is = record {
  same_names = r.same_names;
  same_reading =
      is ∙ (rw (
        line_at_end bytes number (sound names bytes (open_stop old names bytes r e)) at,
        r.same_names,
        r.same_reading,
      ) (sym (ends names bytes lines (open_stop old names bytes r e) all)));
  framed = λ no. absurd (not_open new.stop (ends_closed new.stop
      (read_on event_limit old.names old.reading lines).stop number
      Unended (ap (λ (x : Reading). x.stop) is)) no);
}

-- ---- a failed read

pub failed : OpenIsSound → ReadingFails
    → (old : ReaderState) (names : List ProcessNames) (bytes : List ℕ) (number : ℕ) (new : Reading)
    → Reads old names Open bytes → old.reading.stop ≡ NothingMore → number ≡ line_to_come bytes false
    → new ≡ with_end (Fault number ReadFailed) old.reading
    → Reads (record { names = old.names; framer = old.framer; reading = new }) names Failed bytes
failed sound fails old names bytes number new r e at is = record {
  same_names = r.same_names;
  same_reading =
      is ∙ (rw (line_while_open bytes number (sound names bytes (open_stop old names bytes r e)) at)
      (ends_open old.reading e ∙ (rw r.same_reading (sym (fails names bytes (open_stop old names bytes r e))))));
  framed = λ no. absurd (not_open new.stop
      (ends_closed new.stop old.reading.stop number ReadFailed (ap (λ (x : Reading). x.stop) is)) no);
}
  where
    ends_open : (x : Reading) → x.stop ≡ NothingMore → with_end (Fault (line_number bytes) ReadFailed) x
        ≡ stopped_by x (Fault (line_number bytes) ReadFailed)
    ends_open x e = rw e refl
