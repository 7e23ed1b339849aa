-- The lines that a source gave, while bytes come.
use Rattle.std.proofs.Common.{◌≡◌, ◌<◌, ℕ, Bool, true, false, true≢false, List, [], ◌∷◌, ◌++◌, length, refl, sym, ap, ◌∙◌, subst, append-nil, append_assoc, arith}
use Rattle.std.specs.Prelude.{◌==◌, ◌||◌, IfNone, IfSome, Option, Some, None}
use Rattle.std.specs.Io.KnownBytes.{Consumes, IsAtEnd}
use Rattle.std.proofs.KnownBytes.{Consumes-trans, Consumes-whole}
use Rattle.def_format.specs.Lines.{all_lines, as_line, ended_lines, has_line_feed, line_feed, unended_line}
use Rattle.def_format.proofs.LineFacts.{ended_lines-append, has_feed-append, no_ended_lines, or_false, unended-append, unended-no_feed}
use Rattle.def_judgement.specs.Writes.{FailsAfter, IsWholeInput, Source}
use Rattle.read_lines.specs.GivenLines.{AreLines, BreaksOff, EndsIn, Gives, HasLines, HasNext, HasPart, IsLine, State}
use Rattle.read_lines.specs.Steps.{Fills, IsInLine, IsKept, TakesPart}
use Rattle.read_lines.specs.declared.line.Line.{Line}

-- ---- lines

or_true : (b : Bool) → (b || true) ≡ true
or_true true = refl
or_true false = refl

has_feed : (part : List ℕ) → has_line_feed (part ++ 10 ∷ []) ≡ true
has_feed [] = refl
has_feed (x ∷ part) = rw (has_feed part) (or_true (x == line_feed))

ended_part : (part : List ℕ) → has_line_feed part ≡ false → ended_lines (part ++ 10 ∷ []) ≡ part ∷ []
ended_part [] none = refl
ended_part (x ∷ part) none =
    let both = or_false (x == line_feed) (has_line_feed part) none in rw (both.0, ended_part part both.1) refl

unended_part : (part : List ℕ) → unended_line (part ++ 10 ∷ []) ≡ []
unended_part [] = refl
unended_part (x ∷ part) = rw (has_feed (x ∷ part)) (unended_part part)

-- lines, and one more that an LF ends
one_more : (taken part : List ℕ) (lines : List (List ℕ)) → ended_lines taken ≡ lines → unended_line taken ≡ []
    → has_line_feed part ≡ false
    → (ended_lines (taken ++ part ++ 10 ∷ []) ≡ lines ++ part ∷ []) × (unended_line (taken ++ part ++ 10 ∷ []) ≡ [])
one_more taken part lines are ends none =
    let joined : taken ++ part ++ 10 ∷ [] ≡ taken ++ (part ++ 10 ∷ []) = append_assoc taken part (10 ∷ []) in (
      ap ended_lines joined ∙ ended_lines-append taken (part ++ 10 ∷ [])
          ∙ rw (are, ends, ended_part part none) refl,
      ap unended_line joined ∙ unended-append taken (part ++ 10 ∷ []) ∙ rw ends (unended_part part),
    )

-- lines, and then bytes without LF
some_more : (taken part : List ℕ) (lines : List (List ℕ)) → ended_lines taken ≡ lines → unended_line taken ≡ []
    → has_line_feed part ≡ false
    → (ended_lines (taken ++ part) ≡ lines) × (all_lines (taken ++ part) ≡ lines ++ as_line part)
some_more taken part lines are ends none =
    let ended : ended_lines (taken ++ part) ≡ lines =
    ended_lines-append taken part ∙ rw (are, ends, no_ended_lines part none) (append-nil lines) in
    let rest : unended_line (taken ++ part) ≡ part =
    unended-append taken part ∙ rw ends (unended-no_feed part none) in
    (ended, rw (ended, rest) refl)

-- ---- what a read and a part do

-- nothing of a line was taken yet
pub begins : (input : Source) (lines : List (List ℕ)) (left : Source) (held : List ℕ)
    → HasPart input lines [] left held → IsInLine input lines [] left held
begins input lines left held has = record {
  part = [];
  is_kept = record { same = λ _. refl; long = λ over. absurd (omega (arith, over)) };
  has_part = has;
}

-- an LF ends the line
pub next_line : (input : Source) (lines : List (List ℕ)) (kept kept_new : List ℕ) (left : Source)
    (held rest : List ℕ) (line : Line) (state : State) → IsInLine input lines kept left held
    → TakesPart true held rest kept kept_new → ((part : List ℕ) → IsKept kept_new part → IsLine line part)
    → state.left ≡ left → state.held ≡ rest → state.ended ≡ false → HasNext input lines line state
next_line input lines kept kept_new left held rest line state at takes is_line same_left same_rest open' =
    let has = at.has_part in
    let part = at.part ++ takes.part in
    let none : has_line_feed part ≡ false =
    has_feed-append at.part takes.part ∙ rw (has.goes_on, takes.no_feed) refl in
    let more = one_more has.taken part lines has.are_lines has.are_ended none in
    let bytes : has.taken ++ at.part ++ held ≡ has.taken ++ part ++ 10 ∷ [] ++ [] ++ rest =
    rw takes.is_cut (simp (append_assoc, append-nil)) in
    record {
      bytes = part;
      is_line = is_line part (takes.keeps at.part at.is_kept);
      has_lines = rw (open', same_left, same_rest) (record {
        taken = has.taken ++ part ++ 10 ∷ [];
        consumed = subst (Consumes input.bytes left.bytes) bytes has.consumed;
        same_fate = has.same_fate;
        are_lines = more.0;
        are_ended = more.1;
        goes_on = refl;
      });
      unended = λ ended. absurd (true≢false (sym ended ∙ open'));
    }

-- no LF ends the line yet
pub line_goes_on : (input : Source) (lines : List (List ℕ)) (kept kept_new : List ℕ) (left : Source)
    (held rest : List ℕ) → IsInLine input lines kept left held → TakesPart false held rest kept kept_new
    → IsInLine input lines kept_new left []
line_goes_on input lines kept kept_new left held rest at takes =
    let has = at.has_part in
    record {
      part = at.part ++ takes.part;
      is_kept = takes.keeps at.part at.is_kept;
      has_part = record {
        taken = has.taken;
        consumed = subst (Consumes input.bytes left.bytes)
            (rw takes.is_cut.0 (simp (append_assoc, append-nil))) has.consumed;
        same_fate = has.same_fate;
        are_lines = has.are_lines;
        are_ended = has.are_ended;
        goes_on = has_feed-append at.part takes.part ∙ rw (has.goes_on, takes.no_feed) refl;
      };
    }

-- a read gave more bytes
pub more_came : (input : Source) (lines : List (List ℕ)) (kept : List ℕ) (before after : Source) (held : List ℕ)
    → IsInLine input lines kept before [] → Fills true before after held → IsInLine input lines kept after held
more_came input lines kept before after held at fills =
    let has = at.has_part in
    record {
      part = at.part;
      is_kept = at.is_kept;
      has_part = record {
        taken = has.taken;
        consumed = subst (Consumes input.bytes after.bytes) (ap (λ xs. xs ++ held) (append-nil (has.taken ++ at.part)))
            (Consumes-trans input.bytes before.bytes after.bytes _ held has.consumed fills.consumed);
        same_fate = fills.same_fate refl ∙ has.same_fate;
        are_lines = has.are_lines;
        are_ended = has.are_ended;
        goes_on = has.goes_on;
      };
    }

all_given : (input left : Option (List ℕ)) (given : List ℕ) → Consumes input left given → IsAtEnd left
    → IfSome input (λ all. given ≡ all)
all_given None left given consumed ends = tt
all_given (Some all) None given consumed ends = absurd consumed
all_given (Some all) (Some rest) given consumed ends = sym (consumed ∙ ap (λ l. given ++ l) ends ∙ append-nil given)

-- no byte is left: these are all
given_at_end : (input : Source) (lines : List (List ℕ)) (kept : List ℕ) (before after : Source) (held : List ℕ)
    (at : IsInLine input lines kept before []) → Fills false before after held
    → IsWholeInput input (at.has_part.taken ++ at.part)
given_at_end input lines kept before after held at fills =
    let has = at.has_part in
    let consumed : Consumes input.bytes after.bytes (has.taken ++ at.part) =
    subst (Consumes input.bytes after.bytes)
    (rw (fills.none refl) (append-nil _ ∙ append-nil _))
    (Consumes-trans input.bytes before.bytes after.bytes _ held has.consumed fills.consumed) in
    record {
      all = all_given input.bytes after.bytes (has.taken ++ at.part) consumed (fills.at_end refl);
      ends = λ failing. fills.no_failure refl (has.same_fate ∙ failing);
    }

-- the bytes so far are the last line, if there are any
pub at_end : (input : Source) (lines : List (List ℕ)) (kept : List ℕ) (before after : Source) (held : List ℕ)
    (at : IsInLine input lines kept before []) → Fills false before after held
    → AreLines input (lines ++ as_line at.part)
at_end input lines kept before after held at fills =
    let has = at.has_part in
    record {
      bytes = has.taken ++ at.part;
      is_given = given_at_end input lines kept before after held at fills;
      are_lines = (some_more has.taken at.part lines has.are_lines has.are_ended has.goes_on).1;
    }

-- no byte is left: the bytes so far have no LF, and those before them end with one
pub ends_in : (input : Source) (lines : List (List ℕ)) (kept : List ℕ) (before after : Source) (held : List ℕ)
    (at : IsInLine input lines kept before []) → Fills false before after held → EndsIn input lines at.part
ends_in input lines kept before after held at fills =
    let has = at.has_part in
    let all = given_at_end input lines kept before after held at fills in
    let more = some_more has.taken at.part lines has.are_lines has.are_ended has.goes_on in
    record {
      bytes = has.taken ++ at.part;
      is_given = all;
      are_ended = more.0;
      is_rest = unended-append has.taken at.part ∙ rw has.are_ended (unended-no_feed at.part has.goes_on);
    }

as_one_line : (bytes : List ℕ) → 0 < length bytes → as_line bytes ≡ bytes ∷ []
as_one_line [] some = absurd (omega arith)
as_one_line (x ∷ bytes) some = refl

-- the last line, if it isn't empty
pub last_gives : (found : Option Line) (kept : List ℕ) (old new : State) (before after : Source) (held : List ℕ)
    → ((input : Source) (lines : List (List ℕ)) → HasLines input lines old → IsInLine input lines kept before [])
    → Fills false before after held → IfNone found ((part : List ℕ) → IsKept kept part → part ≡ [])
    → IfSome found (λ line. (part : List ℕ) → IsKept kept part → IsLine line part × (0 < length part))
    → new.ended ≡ true → Gives found old new
last_gives None kept old new before after held at fills none some ended = (
  ended,
  λ input lines has.
      let here = at input lines has in
      subst (AreLines input)
      (ap (λ part. lines ++ as_line part) (none here.part here.is_kept) ∙ append-nil lines)
      (at_end input lines kept before after held here fills),
  λ open' input lines has.
      let here = at input lines has in
      subst (EndsIn input lines) (none here.part here.is_kept) (ends_in input lines kept before after held here fills),
)
last_gives (Some line) kept old new before after held at fills none some ended = λ input lines has.
    let here = at input lines has in
    let is = some here.part here.is_kept in
    record {
      bytes = here.part;
      is_line = is.0;
      has_lines = rw ended (subst (AreLines input)
          (ap (λ more. lines ++ more) (as_one_line here.part is.1))
          (at_end input lines kept before after held here fills));
      unended = λ _. ends_in input lines kept before after held here fills;
    }

-- a read failed
pub breaks_off : (input : Source) (lines : List (List ℕ)) (kept : List ℕ) (left : Source)
    → IsInLine input lines kept left [] → FailsAfter left (λ rest. rest ≡ []) → BreaksOff input lines
breaks_off input lines kept left at failed =
    let has = at.has_part in
    record {
      may = λ e. failed.may (has.same_fate ∙ e);
      all = λ e.
          Consumes-whole input.bytes left.bytes (has.taken ++ at.part) (λ bytes. ended_lines bytes ≡ lines)
          (subst (Consumes input.bytes left.bytes) (append-nil _) has.consumed)
          (ends_here left.bytes (failed.all (has.same_fate ∙ e)))
          (some_more has.taken at.part lines has.are_lines has.are_ended has.goes_on).0;
    }
  where
    ends_here : (known : Option (List ℕ)) → IfSome known (λ rest. rest ≡ []) → IsAtEnd known
    ends_here None none = tt
    ends_here (Some rest) none = none
