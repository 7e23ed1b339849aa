-- How lines and faults of bytes go on if more bytes come.
use Rattle.std.proofs.Common.{◌≡◌, ℕ, suc, ◌+◌, ◌<◌, ◌≤◌, Bool, true, false, not, cond, List, [], ◌∷◌, ◌++◌, length, refl, sym, ◌∙◌, ap, append_assoc, zero-add, length-append, arith}
use Rattle.std.specs.Prelude.{Option, Some, None, ◌==◌, ◌||◌, ◌&&◌, ◌↔◌, nat_le}
use Rattle.std.proofs.lemmas.Bool.Decides.{nat_tests}
use Rattle.std.proofs.lemmas.List.{append-nil}
use Rattle.def_format.specs.Lines.{Line, line, line_feed, ended_lines, has_line_feed, unended_line, is_blank, numbered_from, FrameFault, fault_of_byte, first_fault_of, fault_after, sound_after, frame_fault, sound_part, open_lines}
use Rattle.def_format.specs.Limits.{line_byte_limit, stream_byte_limit}
use Rattle.def_format.specs.Laws.{StaysFaulty, IsFirstFault, AreBatches, joined}

-- a part of a test that fails
pub or_false : (a b : Bool) → (a || b) ≡ false → (a ≡ false) × (b ≡ false)
or_false true b h = absurd (cc)
or_false false b h = (refl, h)

-- ---- lines that end

pub no_ended_lines : (bytes : List ℕ) → has_line_feed bytes ≡ false → ended_lines bytes ≡ []
no_ended_lines [] h = refl
no_ended_lines (x ∷ rest) h =
    let both = or_false (x == line_feed) (has_line_feed rest) h in
    rw (both.0, no_ended_lines rest both.1) refl

some_ended_line : (bytes : List ℕ) → has_line_feed bytes ≡ true → (first : List ℕ) × (others : List (List ℕ))
    × (ended_lines bytes ≡ first ∷ others)
some_ended_line [] h = absurd (cc)
some_ended_line (x ∷ rest) h = go (some_ended_line rest) (x == line_feed) refl
  where
    go : (has_line_feed rest ≡ true → (first : List ℕ) × (others : List (List ℕ)) × (ended_lines rest ≡ first ∷ others))
        → (b : Bool) → (x == line_feed) ≡ b → (first : List ℕ) × (others : List (List ℕ))
        × (ended_lines (x ∷ rest) ≡ first ∷ others)
    go ih true e = ([], ended_lines rest, rw e refl)
    go ih false e =
        let found = ih (rw e at h) in
        (x ∷ found.0, found.1, rw (e, found.2) refl)

-- the lines of more bytes: those of the bytes, and then those of the rest with what comes after it
pub ended_lines-append : (bytes more : List ℕ) → ended_lines (bytes ++ more) ≡ ended_lines bytes
    ++ ended_lines (unended_line bytes ++ more)
ended_lines-append [] more = refl
ended_lines-append (x ∷ rest) more = go (ended_lines-append rest more) (x == line_feed) (has_line_feed rest) refl refl
  where
    go : ended_lines (rest ++ more) ≡ ended_lines rest ++ ended_lines (unended_line rest ++ more) → (b h : Bool)
        → (x == line_feed) ≡ b → has_line_feed rest ≡ h → ended_lines ((x ∷ rest) ++ more) ≡ ended_lines (x ∷ rest)
        ++ ended_lines (unended_line (x ∷ rest) ++ more)
    go ih true h e f = rw (e, ih) refl
    go ih false true e f =
        let found = some_ended_line rest f in
        rw (e, f, ih, found.2) refl
    go ih false false e f = rw (e, f, no_ended_lines rest f, e) refl

pub unended-no_feed : (bytes : List ℕ) → has_line_feed bytes ≡ false → unended_line bytes ≡ bytes
unended-no_feed [] h = refl
unended-no_feed (x ∷ rest) h = rw h refl

-- the rest holds no LF
pub no_feed-unended : (bytes : List ℕ) → has_line_feed (unended_line bytes) ≡ false
no_feed-unended [] = refl
no_feed-unended (x ∷ rest) = go (no_feed-unended rest) (has_line_feed (x ∷ rest)) refl
  where
    go : has_line_feed (unended_line rest) ≡ false → (h : Bool) → has_line_feed (x ∷ rest) ≡ h
        → has_line_feed (unended_line (x ∷ rest)) ≡ false
    go ih true e = rw e ih
    go ih false e = rw e e

pub has_feed-append : (bytes more : List ℕ)
    → has_line_feed (bytes ++ more) ≡ (has_line_feed bytes || has_line_feed more)
has_feed-append [] more = refl
has_feed-append (x ∷ rest) more = go (x == line_feed) (has_feed-append rest more)
  where
    go : (b : Bool) → has_line_feed (rest ++ more) ≡ (has_line_feed rest || has_line_feed more)
        → (b || has_line_feed (rest ++ more)) ≡ ((b || has_line_feed rest) || has_line_feed more)
    go true ih = refl
    go false ih = ih

-- the rest of more bytes is that of the rest with them after it
pub unended-append : (bytes more : List ℕ) → unended_line (bytes ++ more) ≡ unended_line (unended_line bytes ++ more)
unended-append [] more = refl
unended-append (x ∷ rest) more = go (unended-append rest more) (has_line_feed (x ∷ rest)) refl
  where
    go : unended_line (rest ++ more) ≡ unended_line (unended_line rest ++ more) → (h : Bool)
        → has_line_feed (x ∷ rest) ≡ h → unended_line ((x ∷ rest) ++ more)
        ≡ unended_line (unended_line (x ∷ rest) ++ more)
    go ih true e = rw (has_feed-append (x ∷ rest) more, e) ih
    go ih false e = rw e refl

-- ---- numbers of lines

pub numbered-append : (n : ℕ) (xs ys : List (List ℕ)) → numbered_from n (xs ++ ys) ≡ numbered_from n xs
    ++ numbered_from (length xs + n) ys
numbered-append n [] ys = ap (λ m. numbered_from m ys) (sym (zero-add n))
numbered-append n (x ∷ xs) ys = go (is_blank x) (numbered-append (suc n) xs ys)
  where
    moved : length xs + suc n ≡ suc (length xs) + n
    moved = omega arith

    go : (b : Bool) → numbered_from (suc n) (xs ++ ys) ≡ numbered_from (suc n) xs
        ++ numbered_from (length xs + suc n) ys
        → cond b (numbered_from (suc n) (xs ++ ys)) (line n x ∷ numbered_from (suc n) (xs ++ ys))
        ≡ cond b (numbered_from (suc n) xs) (line n x ∷ numbered_from (suc n) xs)
        ++ numbered_from (suc (length xs) + n) ys
    go true ih = rw (← moved) ih
    go false ih = rw (← moved) (ap (λ ls. line n x ∷ ls) ih)

-- ---- faults

first_fault_of-assoc : (a b c : Option FrameFault) → first_fault_of a (first_fault_of b c)
    ≡ first_fault_of (first_fault_of a b) c
first_fault_of-assoc None b c = refl
first_fault_of-assoc (Some f) b c = refl

pub fault-append : (before xs ys : List ℕ)
    → fault_after before (xs ++ ys) ≡ first_fault_of (fault_after before xs) (fault_after (before ++ xs) ys)
fault-append before [] ys = rw (append-nil before) refl
fault-append before (x ∷ xs) ys =
    rw (fault-append (before ++ x ∷ []) xs ys, append_assoc before (x ∷ []) xs)
    (first_fault_of-assoc (fault_of_byte before x) (fault_after (before ++ x ∷ []) xs)
    (fault_after (before ++ x ∷ xs) ys))

-- if none of the bytes has a fault, all of them are sound, and so on
pub sound-go_on : (before xs ys : List ℕ) → fault_after before xs ≡ None
    → sound_after before (xs ++ ys) ≡ xs ++ sound_after (before ++ xs) ys
sound-go_on before [] ys h = rw (append-nil before) refl
sound-go_on before (x ∷ xs) ys h = go (fault_of_byte before x) refl (sound-go_on (before ++ x ∷ []) xs ys)
  where
    go : (f : Option FrameFault) → fault_of_byte before x ≡ f
        → (fault_after (before ++ x ∷ []) xs ≡ None → sound_after (before ++ x ∷ []) (xs ++ ys)
        ≡ xs ++ sound_after ((before ++ x ∷ []) ++ xs) ys) → sound_after before (x ∷ (xs ++ ys))
        ≡ x ∷ (xs ++ sound_after (before ++ x ∷ xs) ys)
    go None e ih = rw (e, ih (rw e at h), append_assoc before (x ∷ []) xs) refl
    go (Some f) e ih = absurd (let bad = rw e at h in cc)

-- after a fault nothing is sound
pub sound-stays : (before xs ys : List ℕ) (fault : FrameFault) → fault_after before xs ≡ Some fault
    → sound_after before (xs ++ ys) ≡ sound_after before xs
sound-stays before [] ys fault h = absurd (cc)
sound-stays before (x ∷ xs) ys fault h = go (fault_of_byte before x) refl (sound-stays (before ++ x ∷ []) xs ys fault)
  where
    go : (f : Option FrameFault) → fault_of_byte before x ≡ f
        → (fault_after (before ++ x ∷ []) xs ≡ Some fault → sound_after (before ++ x ∷ []) (xs ++ ys)
        ≡ sound_after (before ++ x ∷ []) xs) → sound_after before (x ∷ (xs ++ ys)) ≡ sound_after before (x ∷ xs)
    go None e ih = rw (e, ih (rw e at h)) refl
    go (Some f) e ih = rw e refl

pub sound-all : (bytes : List ℕ) → frame_fault bytes ≡ None → sound_part bytes ≡ bytes
sound-all bytes h =
    let e = sound-go_on [] bytes [] h in
    rw (append-nil bytes) at e

-- a list with one more element, taken apart: at an earlier element, or at the last
data Parts {A : Type 0} (before : List A) (x : A) (prefix : List A) (y : A) : Type 0 where
  earlier : (back : List A) → before ≡ prefix ++ y ∷ back → Parts before x prefix y
  last : prefix ≡ before → y ≡ x → Parts before x prefix y

parts : {A : Type 0} (before : List A) (x : A) (prefix : List A) (y : A) (back : List A)
    → before ++ x ∷ [] ≡ prefix ++ y ∷ back → Parts before x prefix y
parts [] x [] y back e = last refl (cc)
parts [] x (z ∷ prefix) y back e = absurd (no_more prefix (cc))
  where
    no_more : (prefix : List _) → [] ≡ prefix ++ y ∷ back → ⊥
    no_more [] e = cc
    no_more (w ∷ ws) e = cc
parts (w ∷ before) x [] y back e = earlier before (cc)
parts (w ∷ before) x (z ∷ prefix) y back e = put_first (parts before x prefix y back (cc))
  where
    same : w ≡ z
    same = cc

    put_first : Parts before x prefix y → Parts (w ∷ before) x (z ∷ prefix) y
    put_first (earlier rest f) = earlier rest (cc)
    put_first (last f g) = last (cc) g

one_more : (before : List ℕ) (x : ℕ) → ((prefix : List ℕ) (y : ℕ) (back : List ℕ) → before ≡ prefix ++ y ∷ back
    → fault_of_byte prefix y ≡ None) → fault_of_byte before x ≡ None → (prefix : List ℕ) (y : ℕ) (back : List ℕ)
    → before ++ x ∷ [] ≡ prefix ++ y ∷ back → fault_of_byte prefix y ≡ None
one_more before x sound here prefix y back e = go (parts before x prefix y back e)
  where
    go : Parts before x prefix y → fault_of_byte prefix y ≡ None
    go (earlier rest f) = sound prefix y rest f
    go (last f g) = rw (f, g) here

-- ---- the laws

pub open_lines-append : (bytes more : List ℕ) → frame_fault bytes ≡ None
    → open_lines (bytes ++ more) ≡ open_lines bytes ++ numbered_from (length (ended_lines bytes) + 1)
    (ended_lines (unended_line bytes ++ sound_after bytes more))
open_lines-append bytes more h =
    rw (sound-go_on [] bytes more h, sound-all bytes h, ended_lines-append bytes (sound_after bytes more))
    (numbered-append 1 (ended_lines bytes) (ended_lines (unended_line bytes ++ sound_after bytes more)))

open_lines-stay : (bytes more : List ℕ) (fault : FrameFault) → frame_fault bytes ≡ Some fault
    → open_lines (bytes ++ more) ≡ open_lines bytes
open_lines-stay bytes more fault h = rw (sound-stays [] bytes more fault h) refl

pub lines_go_on_lem : (bytes more : List ℕ) → (new : List Line) × (open_lines (bytes ++ more) ≡ open_lines bytes ++ new)
lines_go_on_lem bytes more = go (frame_fault bytes) refl
  where
    go : (f : Option FrameFault) → frame_fault bytes ≡ f → (new : List Line)
        × (open_lines (bytes ++ more) ≡ open_lines bytes ++ new)
    go None e = (
      numbered_from (length (ended_lines bytes) + 1) (ended_lines (unended_line bytes ++ sound_after bytes more)),
      open_lines-append bytes more e,
    )
    go (Some fault) e = ([], open_lines-stay bytes more fault e ∙ sym (append-nil (open_lines bytes)))

pub fault-stays : (bytes more : List ℕ) (fault : FrameFault) → frame_fault bytes ≡ Some fault
    → StaysFaulty bytes more fault
fault-stays bytes more fault e =
    record {
      same_fault = same;
      same_lines = open_lines-stay bytes more fault e;
      same_finished =
          rw same (open_lines-stay bytes more fault e);
    }
  where
    same : frame_fault (bytes ++ more) ≡ Some fault
    same = fault-append [] bytes more ∙ ap (λ f. first_fault_of f (fault_after bytes more)) e

-- the first fault of bytes that stand after others, of which none has one
first_fault_after : (before bytes : List ℕ) (fault : FrameFault)
    → ((prefix : List ℕ) (y : ℕ) (back : List ℕ) → before ≡ prefix ++ y ∷ back → fault_of_byte prefix y ≡ None)
    → fault_after before bytes ≡ Some fault → IsFirstFault (before ++ bytes) fault
first_fault_after before [] fault sound h = absurd (cc)
first_fault_after before (x ∷ rest) fault sound h =
    go (fault_of_byte before x) refl (first_fault_after (before ++ x ∷ []) rest fault)
  where
    go : (f : Option FrameFault) → fault_of_byte before x ≡ f
        → (((prefix : List ℕ) (y : ℕ) (back : List ℕ) → before ++ x ∷ [] ≡ prefix ++ y ∷ back
        → fault_of_byte prefix y ≡ None) → fault_after (before ++ x ∷ []) rest ≡ Some fault
        → IsFirstFault ((before ++ x ∷ []) ++ rest) fault) → IsFirstFault (before ++ x ∷ rest) fault
    go (Some f) e ih = record {
      before = before;
      byte = x;
      after = rest;
      parts = refl;
      here =
          e ∙ (rw e at h);
      none_before = sound;
    }
    go None e ih = rw (append_assoc before (x ∷ []) rest) at (ih (one_more before x sound e) (rw e at h))

none_after : (before bytes : List ℕ) → ((prefix : List ℕ) (y : ℕ) (back : List ℕ) → bytes ≡ prefix ++ y ∷ back
    → fault_of_byte (before ++ prefix) y ≡ None) → fault_after before bytes ≡ None
none_after before [] sound = refl
none_after before (x ∷ rest) sound =
    let first : fault_of_byte before x ≡ None = rw (append-nil before) at (sound [] x rest refl) in
    rw first (none_after (before ++ x ∷ []) rest (λ prefix y back e.
    rw (sym (append_assoc before (x ∷ []) prefix)) at (sound (x ∷ prefix) y back (ap (λ ys. x ∷ ys) e))))

fault_of_first : (bytes : List ℕ) (fault : FrameFault) → IsFirstFault bytes fault → frame_fault bytes ≡ Some fault
fault_of_first bytes fault first =
    rw (
      first.parts,
      fault-append [] first.before (first.byte ∷ first.after),
      none_after [] first.before first.none_before,
      first.here,
    ) refl

pub fault_is_first_lem : (bytes : List ℕ) (fault : FrameFault) → (frame_fault bytes ≡ Some fault)
    ↔ IsFirstFault bytes fault
fault_is_first_lem bytes fault =
    (first_fault_after [] bytes fault (λ prefix y back e. absurd (none prefix y back e)), fault_of_first bytes fault)
  where
    none : (prefix : List ℕ) (y : ℕ) (back : List ℕ) → [] ≡ prefix ++ y ∷ back → ⊥
    none [] y back e = cc
    none (z ∷ prefix) y back e = cc

-- ---- pieces

batches_joined : (before : List ℕ) (pieces : List (List ℕ)) (batches : List (List Line))
    → AreBatches before pieces batches → open_lines (before ++ joined pieces) ≡ open_lines before ++ joined batches
batches_joined before [] [] h = rw (append-nil before, append-nil (open_lines before)) refl
batches_joined before [] (b ∷ batches) h = absurd h
batches_joined before (p ∷ pieces) [] h = absurd h
batches_joined before (p ∷ pieces) (b ∷ batches) h =
    ap open_lines (sym (append_assoc before p (joined pieces)))
    ∙ batches_joined (before ++ p) pieces batches h.1
    ∙ ap (λ ls. ls ++ joined batches) h.0.new_lines
    ∙ append_assoc (open_lines before) b (joined batches)

pub cuts_dont_matter_lem : (pieces : List (List ℕ)) (batches : List (List Line)) → AreBatches [] pieces batches
    → joined batches ≡ open_lines (joined pieces)
cuts_dont_matter_lem pieces batches h = sym (batches_joined [] pieces batches h)

-- ---- short bytes

unended_is_shorter : (bytes : List ℕ) → length (unended_line bytes) ≤ length bytes
unended_is_shorter [] = omega arith
unended_is_shorter (x ∷ rest) = go (has_line_feed (x ∷ rest)) (unended_is_shorter rest)
  where
    go : (h : Bool) → length (unended_line rest) ≤ length rest → length (cond h (unended_line rest) (x ∷ rest))
        ≤ suc (length rest)
    go true ih = omega arith
    go false ih = omega arith

no_fault_of_byte : (before : List ℕ) (byte : ℕ) → length before < line_byte_limit → fault_of_byte before byte ≡ None
no_fault_of_byte before byte h =
    rw (
      not_le line_byte_limit (length (unended_line before)) (omega (arith, unended_is_shorter before)),
      not_le stream_byte_limit (length before) (omega arith),
      and_false (not (byte == line_feed)),
    ) refl
  where
    not_le : (a b : ℕ) → b < a → nat_le a b ≡ false
    not_le a b h = grind (arith, nat_tests)

    and_false : (b : Bool) → (b && false) ≡ false
    and_false true = refl
    and_false false = refl

pub short_is_sound_lem : (bytes : List ℕ) → length bytes ≤ line_byte_limit → frame_fault bytes ≡ None
short_is_sound_lem bytes h =
    none_after [] bytes (λ prefix y back e. no_fault_of_byte prefix y (shorter prefix y back e))
  where
    shorter : (prefix : List ℕ) (y : ℕ) (back : List ℕ) → bytes ≡ prefix ++ y ∷ back → length prefix < line_byte_limit
    shorter prefix y back e = omega (arith, simp length-append at (ap length e))
