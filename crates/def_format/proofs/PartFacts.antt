-- What a part of a line, an LF and the end add to bytes that have no fault.
use Rattle.std.proofs.Common.{◌≡◌, ℕ, ◌+◌, ◌<◌, ◌≤◌, Bool, true, false, not, cond, List, [], ◌∷◌, ◌++◌, length, refl, ◌∙◌, ap, length-append, arith}
use Rattle.std.specs.Prelude.{Some, None, is_some, ◌==◌, ◌||◌, ◌&&◌, nat_le, count_by}
use Rattle.std.proofs.lemmas.Bool.Decides.{nat_tests}
use Rattle.std.proofs.lemmas.List.Sums.{sum_by-cons, sum_by-append}
use Rattle.std.proofs.lemmas.Bool.{le-leb}
use Rattle.std.proofs.lemmas.List.{append-nil}
use Rattle.def_format.specs.Lines.{line_feed, ended_lines, onto_first, has_line_feed, unended_line, as_line, FrameFault, LineTooLong, StreamTooLong, line_number, fault_of_byte, fault_after, sound_after, frame_fault, open_lines, IsBatch}
use Rattle.def_format.specs.Limits.{line_byte_limit, stream_byte_limit}
use Rattle.def_format.specs.LineLaws.{LengthensRest, EndsLine, Finishes}
use Rattle.def_format.proofs.FeedPlaces.{both_false}
use Rattle.def_format.proofs.LineFacts.{unended-no_feed, no_feed-unended, has_feed-append, unended-append, numbered-append, fault-append, sound-stays, sound-all, open_lines-append, no_ended_lines, or_false}

-- ---- how many lines end

abbrev feeds : List ℕ → ℕ
feeds bytes = count_by (λ byte. byte == line_feed) bytes

feeds-cons : (x : ℕ) (xs : List ℕ) → feeds (x ∷ xs) ≡ cond (x == line_feed) 1 0 + feeds xs
feeds-cons x xs = sum_by-cons (λ byte. cond (byte == line_feed) 1 0) x xs

feeds-append : (xs ys : List ℕ) → feeds (xs ++ ys) ≡ feeds xs + feeds ys
feeds-append xs ys = sum_by-append (λ byte. cond (byte == line_feed) 1 0) xs ys

no_feeds : (bytes : List ℕ) → has_line_feed bytes ≡ false → feeds bytes ≡ 0
no_feeds [] h = refl
no_feeds (x ∷ rest) h =
    let both = or_false (x == line_feed) (has_line_feed rest) h in
    rw (feeds-cons x rest, both.0) (omega (arith, no_feeds rest both.1))

pub length-onto_first : (x : ℕ) (ls : List (List ℕ)) → length (onto_first x ls) ≡ length ls
length-onto_first x [] = refl
length-onto_first x (l ∷ ls) = refl

ended-count : (bytes : List ℕ) → length (ended_lines bytes) ≡ feeds bytes
ended-count [] = refl
ended-count (x ∷ rest) = go (ended-count rest) (x == line_feed) refl
  where
    go : length (ended_lines rest) ≡ feeds rest → (b : Bool) → (x == line_feed) ≡ b → length (ended_lines (x ∷ rest))
        ≡ feeds (x ∷ rest)
    go ih true e = rw (feeds-cons x rest, e) (omega (arith, ih))
    go ih false e = rw (feeds-cons x rest, e, length-onto_first x (ended_lines rest)) (omega (arith, ih))

-- ---- bytes without an LF

no_feed-append : (xs ys : List ℕ) → has_line_feed xs ≡ false → has_line_feed ys ≡ false
    → has_line_feed (xs ++ ys) ≡ false
no_feed-append xs ys e f = has_feed-append xs ys ∙ both_false (has_line_feed xs) (has_line_feed ys) e f

unended-part : (bytes part : List ℕ) → has_line_feed part ≡ false → unended_line (bytes ++ part) ≡ unended_line bytes
    ++ part
unended-part bytes part h =
    unended-append bytes part ∙ unended-no_feed (unended_line bytes ++ part)
    (no_feed-append (unended_line bytes) part (no_feed-unended bytes) h)

number-part : (bytes part : List ℕ) → has_line_feed part ≡ false → line_number (bytes ++ part) ≡ line_number bytes
number-part bytes part h = omega (arith, feeds-append bytes part, no_feeds part h)

no_feed-sound : (before part : List ℕ) → has_line_feed part ≡ false → has_line_feed (sound_after before part) ≡ false
no_feed-sound before [] h = refl
no_feed-sound before (x ∷ rest) h =
    let both = or_false (x == line_feed) (has_line_feed rest) h in
    go (is_some (fault_of_byte before x)) both.0 (no_feed-sound (before ++ x ∷ []) rest both.1)
  where
    go : (b : Bool) → (x == line_feed) ≡ false → has_line_feed (sound_after (before ++ x ∷ []) rest) ≡ false
        → has_line_feed (cond b [] (x ∷ sound_after (before ++ x ∷ []) rest)) ≡ false
    go true e ih = refl
    go false e ih = rw e ih

-- the rest with sound bytes that have no LF ends no line
nothing_ends : (bytes part : List ℕ) → has_line_feed part ≡ false
    → ended_lines (unended_line bytes ++ sound_after bytes part) ≡ []
nothing_ends bytes part h =
    no_ended_lines (unended_line bytes ++ sound_after bytes part)
    (no_feed-append (unended_line bytes) (sound_after bytes part) (no_feed-unended bytes)
    (no_feed-sound bytes part h))

-- ---- faults

le_false : (a b : ℕ) → b < a → nat_le a b ≡ false
le_false a b h = grind (arith, nat_tests)

and_false : (b : Bool) → (b && false) ≡ false
and_false true = refl
and_false false = refl

byte_is_sound : (bytes : List ℕ) (x : ℕ) → length (unended_line bytes) < line_byte_limit
    → length bytes < stream_byte_limit → fault_of_byte bytes x ≡ None
byte_is_sound bytes x r t =
    rw (
      le_false line_byte_limit (length (unended_line bytes)) r,
      le_false stream_byte_limit (length bytes) t,
      and_false (not (x == line_feed)),
    ) refl

byte_lengthens_stream : (bytes : List ℕ) (x : ℕ) → length (unended_line bytes) < line_byte_limit
    → stream_byte_limit ≤ length bytes → fault_of_byte bytes x ≡ Some (StreamTooLong (line_number bytes))
byte_lengthens_stream bytes x r t =
    rw (
      le_false line_byte_limit (length (unended_line bytes)) r,
      le-leb stream_byte_limit (length bytes) t,
      and_false (not (x == line_feed)),
    ) refl

-- one byte more that is no LF
record OneMore (bytes : List ℕ) (x : ℕ) : Type 0 where
  rest : length (unended_line (bytes ++ x ∷ [])) ≡ length (unended_line bytes) + 1
  all : length (bytes ++ x ∷ []) ≡ length bytes + 1
  number : line_number (bytes ++ x ∷ []) ≡ line_number bytes

one_more_byte : (bytes : List ℕ) (x : ℕ) → (x == line_feed) ≡ false → OneMore bytes x
one_more_byte bytes x e = record {
  rest = ap length (unended-part bytes (x ∷ []) alone) ∙ length-append (unended_line bytes) (x ∷ []);
  all = length-append bytes (x ∷ []);
  number = number-part bytes (x ∷ []) alone;
}
  where
    alone : has_line_feed (x ∷ []) ≡ false
    alone = rw e refl

pub short_part : (bytes part : List ℕ) → has_line_feed part ≡ false → length (unended_line bytes) + length part
    ≤ line_byte_limit → length bytes + length part ≤ stream_byte_limit → fault_after bytes part ≡ None
short_part bytes [] h r t = refl
short_part bytes (x ∷ rest) h r t =
    let both = or_false (x == line_feed) (has_line_feed rest) h in
    let more = one_more_byte bytes x both.0 in
    rw (byte_is_sound bytes x (omega arith) (omega arith))
    (short_part (bytes ++ x ∷ []) rest both.1 (omega (arith, more.rest)) (omega (arith, more.all)))

pub long_line : (bytes part : List ℕ) → has_line_feed part ≡ false → length (unended_line bytes) ≤ line_byte_limit
    → line_byte_limit < length (unended_line bytes) + length part
    → length bytes + line_byte_limit ≤ length (unended_line bytes) + stream_byte_limit
    → fault_after bytes part ≡ Some (LineTooLong (line_number bytes))
long_line bytes [] h low r t = absurd (omega arith)
long_line bytes (x ∷ rest) h low r t =
    let both = or_false (x == line_feed) (has_line_feed rest) h in
    let more = one_more_byte bytes x both.0 in
    go both.0 (nat_le line_byte_limit (length (unended_line bytes))) refl (λ below.
    long_line (bytes ++ x ∷ []) rest both.1 (omega (arith, more.rest, below)) (omega (arith, more.rest))
    (omega (arith, more.rest, more.all)) ∙ ap (λ n. Some (LineTooLong n)) more.number)
  where
    go : (x == line_feed) ≡ false → (b : Bool) → nat_le line_byte_limit (length (unended_line bytes)) ≡ b
        → (length (unended_line bytes) < line_byte_limit → fault_after (bytes ++ x ∷ []) rest
        ≡ Some (LineTooLong (line_number bytes)))
        → fault_after bytes (x ∷ rest) ≡ Some (LineTooLong (line_number bytes))
    go e true full ih = rw (full, e) refl
    go e false full ih =
        let below : length (unended_line bytes) < line_byte_limit = grind (arith, nat_tests, full) in
        rw (byte_is_sound bytes x below (omega arith)) (ih below)

pub long_stream : (bytes part : List ℕ) → has_line_feed part ≡ false → length bytes ≤ stream_byte_limit
    → stream_byte_limit < length bytes + length part → length (unended_line bytes) + stream_byte_limit < length bytes
    + line_byte_limit → fault_after bytes part ≡ Some (StreamTooLong (line_number bytes))
long_stream bytes [] h low t r = absurd (omega arith)
long_stream bytes (x ∷ rest) h low t r =
    let both = or_false (x == line_feed) (has_line_feed rest) h in
    let more = one_more_byte bytes x both.0 in
    go (nat_le stream_byte_limit (length bytes)) refl (λ below.
    long_stream (bytes ++ x ∷ []) rest both.1 (omega (arith, more.all, below)) (omega (arith, more.all))
    (omega (arith, more.rest, more.all)) ∙ ap (λ n. Some (StreamTooLong n)) more.number)
  where
    go : (b : Bool) → nat_le stream_byte_limit (length bytes) ≡ b
        → (length bytes < stream_byte_limit → fault_after (bytes ++ x ∷ []) rest
        ≡ Some (StreamTooLong (line_number bytes)))
        → fault_after bytes (x ∷ rest) ≡ Some (StreamTooLong (line_number bytes))
    go true full ih =
        let full' : stream_byte_limit ≤ length bytes = grind (arith, nat_tests, full) in
        rw (byte_lengthens_stream bytes x (omega arith) full') refl
    go false full ih =
        let below : length bytes < stream_byte_limit = grind (arith, nat_tests, full) in
        rw (byte_is_sound bytes x (omega arith) below) (ih below)

-- ---- the laws

pub part_goes_on : (bytes part : List ℕ) → frame_fault bytes ≡ None → has_line_feed part ≡ false
    → fault_after bytes part ≡ None → LengthensRest bytes part
part_goes_on bytes part e h f = record {
  sound = rw (fault-append [] bytes part, e) f;
  rest = unended-part bytes part h;
  number = number-part bytes part h;
  lines = open_lines-append bytes part e ∙ rw (nothing_ends bytes part h) (append-nil (open_lines bytes));
}

ends_with_feed : (part : List ℕ) → has_line_feed (part ++ line_feed ∷ []) ≡ true
ends_with_feed [] = refl
ends_with_feed (x ∷ rest) = go (x == line_feed) (ends_with_feed rest)
  where
    go : (b : Bool) → has_line_feed (rest ++ line_feed ∷ []) ≡ true → (b || has_line_feed (rest ++ line_feed ∷ []))
        ≡ true
    go true ih = refl
    go false ih = ih

unended-feed : (part : List ℕ) → unended_line (part ++ line_feed ∷ []) ≡ []
unended-feed [] = refl
unended-feed (x ∷ rest) = rw (ends_with_feed (x ∷ rest)) (unended-feed rest)

ended-feed : (part : List ℕ) → has_line_feed part ≡ false → ended_lines (part ++ line_feed ∷ []) ≡ part ∷ []
ended-feed [] h = refl
ended-feed (x ∷ rest) h =
    let both = or_false (x == line_feed) (has_line_feed rest) h in
    rw (both.0, ended-feed rest both.1) refl

pub feed_ends_line : (bytes : List ℕ) → frame_fault bytes ≡ None → fault_of_byte bytes line_feed ≡ None → EndsLine bytes
feed_ends_line bytes e f = record {
  sound = rw (fault-append [] bytes (line_feed ∷ []), e, f) refl;
  rest = unended-feed bytes;
  number = omega (arith, feeds-append bytes (line_feed ∷ []));
  lines = open_lines-append bytes (line_feed ∷ []) e
      ∙ rw (sound_feed, ended-feed (unended_line bytes) (no_feed-unended bytes), ended-count bytes) refl;
}
  where
    sound_feed : sound_after bytes (line_feed ∷ []) ≡ line_feed ∷ []
    sound_feed = rw f refl

pub part_is_faulty : (bytes part more : List ℕ) (fault : FrameFault) → frame_fault bytes ≡ None
    → has_line_feed part ≡ false → fault_after bytes part ≡ Some fault → IsBatch bytes (part ++ more) [] (Some fault)
part_is_faulty bytes part more fault e h f = record {
  new_lines = open_lines-append bytes (part ++ more) e
      ∙ rw (sound-stays bytes part more fault f, nothing_ends bytes part h) refl;
  same_fault = rw (fault-append [] bytes (part ++ more), e, fault-append bytes part more, f) refl;
}

pub feed_is_faulty : (bytes more : List ℕ) (fault : FrameFault) → frame_fault bytes ≡ None
    → fault_of_byte bytes line_feed ≡ Some fault → IsBatch bytes (line_feed ∷ more) [] (Some fault)
feed_is_faulty bytes more fault e f = record {
  new_lines = open_lines-append bytes (line_feed ∷ more) e
      ∙ rw (sound_feed, append-nil (unended_line bytes), no_ended_lines (unended_line bytes) (no_feed-unended bytes))
      refl;
  same_fault = rw (fault-append [] bytes (line_feed ∷ more), e, f) refl;
}
  where
    sound_feed : sound_after bytes (line_feed ∷ more) ≡ []
    sound_feed = rw f refl

pub sound_finishes : (bytes : List ℕ) → frame_fault bytes ≡ None → Finishes bytes
sound_finishes bytes e = record {
  lines = rw (e, sound-all bytes e) (numbered-append 1 (ended_lines bytes) (as_line (unended_line bytes))
      ∙ rw (ended-count bytes) refl);
  count = omega (arith, ended-count bytes, length-append (ended_lines bytes) (as_line (unended_line bytes)));
}
