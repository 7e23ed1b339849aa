-- How the lines of a stream grow by a part of a line, and by an LF.
use Rattle.std.proofs.Common.{◌≡◌, ℕ, ◌+◌, ◌<◌, ◌≤◌, true, false, List, [], ◌∷◌, ◌++◌, length, refl, sym, ◌∙◌, ap, append_assoc, length-append, add_assoc, arith, append-nil}
use Rattle.std.specs.Prelude.{Option, Some, None, IfSome, IfNone, nat_le}
use Rattle.std.proofs.lemmas.Bool.Decides.{nat_tests}
use Rattle.def_format.specs.Limits.{line_byte_limit, stream_byte_limit}
use Rattle.def_format.specs.Lines.{Line, FrameFault, LineTooLong, StreamTooLong, line_feed, has_line_feed, unended_line, numbered_from, fault_of_byte, frame_fault, open_lines, IsBatch}
use Rattle.def_format.specs.LineLaws.{ShortPartIsSound, LongLineIsFaulty, LongStreamIsFaulty, PartGoesOn, FeedEndsLine, PartIsFaulty, FeedIsFaulty, LengthensRest, EndsLine}
use Rattle.pd_frames.specs.Views.{frame_fault_view, frame_faults_view}
use Rattle.pd_frames.specs.declared.line.FrameFault.{FrameFault as Fault}
use Rattle.pd_frames.specs.Cuts.{IsOpen, Faces, FacesEnd, Cuts}

-- a part is at fault where the line gets too long
pub faces_long_line : LongLineIsFaulty → PartIsFaulty → (rest : List ℕ) (line total : ℕ) (part : List ℕ)
    → length rest ≤ line_byte_limit → line_byte_limit < length rest + length part
    → total + line_byte_limit ≤ length rest + stream_byte_limit
    → Faces rest line total part (Some (LineTooLong line))
faces_long_line long faulty rest line total part low over later bytes more o h =
    faulty bytes part more (LineTooLong line) o.sound h
    (rw o.line_is (long bytes part h (omega (arith, r, low)) (omega (arith, r, over))
    (omega (arith, r, o.total_is, later))))
  where
    r : length rest ≡ length (unended_line bytes)
    r = ap length o.rest_is

-- or the stream
pub faces_long_stream : LongStreamIsFaulty → PartIsFaulty → (rest : List ℕ) (line total : ℕ) (part : List ℕ)
    → total ≤ stream_byte_limit → stream_byte_limit < total + length part
    → length rest + stream_byte_limit < total + line_byte_limit
    → Faces rest line total part (Some (StreamTooLong line))
faces_long_stream long faulty rest line total part low over later bytes more o h =
    faulty bytes part more (StreamTooLong line) o.sound h
    (rw o.line_is (long bytes part h (omega (arith, o.total_is, low)) (omega (arith, o.total_is, over))
    (omega (arith, r, o.total_is, later))))
  where
    r : length rest ≡ length (unended_line bytes)
    r = ap length o.rest_is

-- lines that the first bytes give, and then those of more
pub join_batch : (bytes done more : List ℕ) (lines new : List Line) (fault : Option FrameFault)
    → open_lines (bytes ++ done) ≡ open_lines bytes ++ lines → IsBatch (bytes ++ done) more new fault
    → IsBatch bytes (done ++ more) (lines ++ new) fault
join_batch bytes done more lines new fault e batch = record {
  new_lines = ap open_lines (sym (append_assoc bytes done more)) ∙ batch.new_lines ∙ ap (λ ls. ls ++ new) e
      ∙ append_assoc (open_lines bytes) lines new;
  same_fault = ap frame_fault (sym (append_assoc bytes done more)) ∙ batch.same_fault;
}

-- the numbers after a part of the line
pub record Added (rest : List ℕ) (line total : ℕ) (part bytes : List ℕ) : Type 0 where
  pub now_open : IsOpen (rest ++ part) line (total + length part) (bytes ++ part)
  pub same_lines : open_lines (bytes ++ part) ≡ open_lines bytes

pub add_part : ShortPartIsSound → PartGoesOn → (rest : List ℕ) (line total : ℕ) (part bytes : List ℕ)
    → IsOpen rest line total bytes → has_line_feed part ≡ false → length rest + length part ≤ line_byte_limit
    → total + length part ≤ stream_byte_limit → Added rest line total part bytes
add_part short goes_on rest line total part bytes o h r t = record {
  now_open = record {
    sound = grown.sound;
    rest_is = ap (λ ys. ys ++ part) o.rest_is ∙ sym grown.rest;
    line_is = o.line_is ∙ sym grown.number;
    total_is = ap (λ n. n + length part) o.total_is ∙ sym (length-append bytes part);
  };
  same_lines = grown.lines;
}
  where
    same_rest : length rest ≡ length (unended_line bytes)
    same_rest = ap length o.rest_is

    grown : LengthensRest bytes part
    grown = goes_on bytes part o.sound h
        (short bytes part h (omega (arith, same_rest, r)) (omega (arith, o.total_is, t)))

-- the numbers after a line's LF
pub record Ended (rest : List ℕ) (line total : ℕ) (bytes : List ℕ) : Type 0 where
  pub now_open : IsOpen [] (line + 1) (total + 1) (bytes ++ line_feed ∷ [])
  pub new_lines : open_lines (bytes ++ line_feed ∷ []) ≡ open_lines bytes ++ numbered_from line (rest ∷ [])

feed_is_sound : (bytes : List ℕ) → length bytes < stream_byte_limit → fault_of_byte bytes line_feed ≡ None
feed_is_sound bytes h = rw (above (length bytes) h) refl
  where
    above : (n : ℕ) → n < stream_byte_limit → nat_le stream_byte_limit n ≡ false
    above n h = grind (arith, nat_tests)

pub add_feed : FeedEndsLine → (rest : List ℕ) (line total : ℕ) (bytes : List ℕ) → IsOpen rest line total bytes
    → total < stream_byte_limit → Ended rest line total bytes
add_feed ends rest line total bytes o t = record {
  now_open = record {
    sound = grown.sound;
    rest_is = sym grown.rest;
    line_is = ap (λ n. n + 1) o.line_is ∙ sym grown.number;
    total_is = ap (λ n. n + 1) o.total_is ∙ sym (length-append bytes (line_feed ∷ []));
  };
  new_lines = grown.lines ∙ rw (o.line_is, o.rest_is) refl;
}
  where
    grown : EndsLine bytes
    grown = ends bytes o.sound (feed_is_sound bytes (omega (arith, o.total_is, t)))

-- an LF may be one byte too many
pub faces_end : ShortPartIsSound → PartGoesOn → FeedIsFaulty → (rest : List ℕ) (line total : ℕ) (part : List ℕ)
    → length rest + length part ≤ line_byte_limit → total + length part ≡ stream_byte_limit
    → FacesEnd rest line total part (Some (StreamTooLong line))
faces_end short goes_on faulty rest line total part r t bytes more o h =
    join_batch bytes part (line_feed ∷ more) [] [] (Some (StreamTooLong line)) (added.same_lines
    ∙ sym (append-nil (open_lines bytes))) (faulty (bytes ++ part) more (StreamTooLong line) added.now_open.sound
    here)
  where
    added : Added rest line total part bytes
    added = add_part short goes_on rest line total part bytes o h r (omega (arith, t))

    full : (n : ℕ) → stream_byte_limit ≤ n → nat_le stream_byte_limit n ≡ true
    full n h = grind (arith, nat_tests)

    here : fault_of_byte (bytes ++ part) line_feed ≡ Some (StreamTooLong line)
    here = rw (full (length (bytes ++ part)) (omega (arith, added.now_open.total_is, t)), added.now_open.line_is) refl

-- ---- a piece

pub begin : (bytes piece rest : List ℕ) (line total : ℕ) → IsOpen rest line total bytes
    → Cuts bytes piece rest line total piece []
begin bytes piece rest line total o = record {
  done = [];
  whole = refl;
  now_open = rw (append-nil bytes) o;
  new_lines = rw (append-nil bytes, append-nil (open_lines bytes)) refl;
}

pub next_line : ShortPartIsSound → PartGoesOn → FeedEndsLine
    → (bytes piece rest : List ℕ) (line total : ℕ) (tail part following : List ℕ) (lines : List Line)
    → Cuts bytes piece rest line total tail lines → tail ≡ part ++ line_feed ∷ following → has_line_feed part ≡ false
    → length rest + length part ≤ line_byte_limit → total + length part < stream_byte_limit
    → Cuts bytes piece [] (line + 1) (total + (length part + 1)) following
    (lines ++ numbered_from line ((rest ++ part) ∷ []))
next_line short goes_on ends bytes piece rest line total tail part following lines cuts e h r t = record {
  done = cuts.done ++ (part ++ line_feed ∷ []);
  whole = cuts.whole ∙ ap (λ ys. cuts.done ++ ys) (e ∙ sym (append_assoc part (line_feed ∷ []) following))
      ∙ sym (append_assoc cuts.done (part ++ line_feed ∷ []) following);
  now_open = rw (same, sym (add_assoc total (length part) 1)) ended.now_open;
  new_lines = ap open_lines same ∙ ended.new_lines
      ∙ ap (λ ls. ls ++ numbered_from line ((rest ++ part) ∷ [])) (added.same_lines ∙ cuts.new_lines)
      ∙ append_assoc (open_lines bytes) lines (numbered_from line ((rest ++ part) ∷ []));
}
  where
    added : Added rest line total part (bytes ++ cuts.done)
    added = add_part short goes_on rest line total part (bytes ++ cuts.done) cuts.now_open h r (omega (arith, t))

    ended : Ended (rest ++ part) line (total + length part) ((bytes ++ cuts.done) ++ part)
    ended = add_feed ends (rest ++ part) line (total + length part) ((bytes ++ cuts.done) ++ part) added.now_open
        (omega (arith, t))

    same : bytes ++ (cuts.done ++ (part ++ line_feed ∷ [])) ≡ ((bytes ++ cuts.done) ++ part) ++ line_feed ∷ []
    same = sym (append_assoc bytes cuts.done (part ++ line_feed ∷ []))
        ∙ sym (append_assoc (bytes ++ cuts.done) part (line_feed ∷ []))

-- the fault of a line that ends
pub faulty_line : (bytes piece rest : List ℕ) (line total : ℕ) (tail part following : List ℕ) (lines : List Line)
    (fault : FrameFault) → Cuts bytes piece rest line total tail lines → tail ≡ part ++ line_feed ∷ following
    → has_line_feed part ≡ false → FacesEnd rest line total part (Some fault) → IsBatch bytes piece lines (Some fault)
faulty_line bytes piece rest line total tail part following lines fault cuts e h faces =
    rw (cuts.whole, e, ← append-nil lines) (join_batch bytes cuts.done (part ++ line_feed ∷ following) lines []
    (Some fault) cuts.new_lines (faces (bytes ++ cuts.done) following cuts.now_open h))

-- the fault of the line that doesn't end
pub faulty_tail : (bytes piece rest : List ℕ) (line total : ℕ) (tail : List ℕ) (lines : List Line) (fault : FrameFault)
    → Cuts bytes piece rest line total tail lines → has_line_feed tail ≡ false → Faces rest line total tail (Some fault)
    → IsBatch bytes piece lines (Some fault)
faulty_tail bytes piece rest line total tail lines fault cuts h faces =
    rw (cuts.whole, ← append-nil lines)
    (join_batch bytes cuts.done tail lines [] (Some fault) cuts.new_lines
    (rw (append-nil tail) at (faces (bytes ++ cuts.done) [] cuts.now_open h)))

-- a tail without fault
pub record Cutting (bytes piece rest : List ℕ) (line total : ℕ) (lines : List Line) : Type 0 where
  pub batch : IsBatch bytes piece lines None
  pub now_open : IsOpen rest line total (bytes ++ piece)

pub sound_tail : ShortPartIsSound → PartGoesOn
    → (bytes piece rest : List ℕ) (line total : ℕ) (tail : List ℕ) (lines : List Line)
    → Cuts bytes piece rest line total tail lines → has_line_feed tail ≡ false
    → length rest + length tail ≤ line_byte_limit
    → total + length tail ≤ stream_byte_limit → Cutting bytes piece (rest ++ tail) line (total + length tail) lines
sound_tail short goes_on bytes piece rest line total tail lines cuts h r t = record {
  batch = record {
    new_lines = ap open_lines same ∙ added.same_lines ∙ cuts.new_lines;
    same_fault = ap frame_fault same ∙ added.now_open.sound;
  };
  now_open = rw same added.now_open;
}
  where
    added : Added rest line total tail (bytes ++ cuts.done)
    added = add_part short goes_on rest line total tail (bytes ++ cuts.done) cuts.now_open h r t

    same : bytes ++ piece ≡ (bytes ++ cuts.done) ++ tail
    same = ap (λ ys. bytes ++ ys) cuts.whole ∙ sym (append_assoc bytes cuts.done tail)

-- a fact under `None` from another
pub if_none : {A P Q : Type 0} (r : Option A) → IfNone r P → (P → Q) → IfNone r Q
if_none None h f = f h
if_none (Some x) h f = h

pub any_tail : ShortPartIsSound → PartGoesOn
    → (bytes piece rest : List ℕ) (line total : ℕ) (tail : List ℕ) (lines : List Line)
    → Cuts bytes piece rest line total tail lines → has_line_feed tail ≡ false → (r : Option Fault)
    → IfNone r ((length rest + length tail ≤ line_byte_limit) × (total + length tail ≤ stream_byte_limit))
    → IfSome r (λ fault. Faces rest line total tail (Some (frame_fault_view fault)))
    → IsBatch bytes piece lines (frame_faults_view r)
any_tail short goes_on bytes piece rest line total tail lines cuts h None fits faces =
    (sound_tail short goes_on bytes piece rest line total tail lines cuts h fits.0 fits.1).batch
any_tail short goes_on bytes piece rest line total tail lines cuts h (Some fault) fits faces =
    faulty_tail bytes piece rest line total tail lines (frame_fault_view fault) cuts h faces
