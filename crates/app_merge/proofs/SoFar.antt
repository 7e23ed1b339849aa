-- The lines that are summed up, one after another.
use Rattle.std.proofs.Common.{◌≡◌, ℕ, suc, ◌+◌, Bool, true, false, List, [], ◌∷◌, ◌++◌, length, length-append, Option, Some, None, Ok, Err, refl, sym, ap, ◌∙◌, subst, append-nil, append_assoc, inl, inr, ◌⊎◌, arith}
use Rattle.std.specs.Prelude.{IfSome, IsErrAnd, IsOk, Result}
use Rattle.std.specs.Io.KnownBytes.{Consumes}
use Rattle.def_format.specs.Lines.{all_lines, as_line, ended_lines, unended_line}
use Rattle.def_format.proofs.LineFacts.{ended_lines-append, unended-append}
use Rattle.def_judgement.specs.Writes.{Source}
use Rattle.read_lines.specs.GivenLines.{BreaksOff, Gives, HasLines, HasLinesBy, IsLine, State}
use Rattle.read_lines.specs.declared.line.Line.{Line}
use Rattle.judge_session.specs.declared.fault.EngineFault.{EngineFault}
use Rattle.judge_summary.specs.Summaries.{Summary, no_summary}
use Rattle.judge_summary.specs.declared.fault.LineFault.{LineFault}
use Rattle.judge_summary.specs.declared.fault.LineFault.TheVariants as faults
use Rattle.app_merge.specs.Merges.{IsFaultyAt, IsSummaryOf, IsUnread, after_given, after_lines, goes_on, summary_of}
use Rattle.app_merge.specs.Steps.{IsSoFar}
use Rattle.app_merge.specs.Views.{wrong_view}
use Rattle.app_merge.specs.declared.outcome.LineWrong.{LineWrong}
use Rattle.app_merge.specs.declared.outcome.LineWrong.TheVariants.{Overflow, Shape}

-- ---- lines

one_more : (s t u : Summary) (n : ℕ) (lines : List (List ℕ)) (line : List ℕ) → after_lines s n lines ≡ Ok t
    → after_given t line ≡ Ok u → after_lines s n (lines ++ line ∷ []) ≡ Ok u
one_more s t u n [] line so_far due = let same : s ≡ t = cc in rw (same, due) refl
one_more s t u n (first ∷ lines) line so_far due =
    go (after_given s first) refl so_far (λ next e. one_more next t u (suc n) lines line e due)
  where
    go : (found : Result Summary LineFault) → after_given s first ≡ found
        → goes_on n (λ next. after_lines next (suc n) lines) found ≡ Ok t
        → ((next : Summary) → after_lines next (suc n) lines ≡ Ok t
        → after_lines next (suc n) (lines ++ line ∷ []) ≡ Ok u)
        → goes_on n (λ next. after_lines next (suc n) (lines ++ line ∷ [])) (after_given s first) ≡ Ok u
    go (Ok next) is e ih = rw is (ih next e)
    go (Err fault) is e ih = absurd (cc)

one_wrong : (s t : Summary) (n : ℕ) (lines : List (List ℕ)) (line : List ℕ) (rest : List (List ℕ)) (fault : LineFault)
    → after_lines s n lines ≡ Ok t → after_given t line ≡ Err fault
    → after_lines s n (lines ++ line ∷ rest) ≡ Err (length lines + n, fault)
one_wrong s t n [] line rest fault so_far due =
    let same : s ≡ t = cc in
    let number : 0 + n ≡ n = omega arith in
    rw (same, due, number) refl
one_wrong s t n (first ∷ lines) line rest fault so_far due =
    go (after_given s first) refl so_far (λ next e. one_wrong next t (suc n) lines line rest fault e due)
  where
    number : length lines + suc n ≡ suc (length lines) + n
    number = omega arith

    go : (found : Result Summary LineFault) → after_given s first ≡ found
        → goes_on n (λ next. after_lines next (suc n) lines) found ≡ Ok t
        → ((next : Summary) → after_lines next (suc n) lines ≡ Ok t
        → after_lines next (suc n) (lines ++ line ∷ rest) ≡ Err (length lines + suc n, fault))
        → goes_on n (λ next. after_lines next (suc n) (lines ++ line ∷ rest)) (after_given s first)
        ≡ Err (suc (length lines) + n, fault)
    go (Ok next) is e ih = rw is (ih next e ∙ ap (λ k. Err (k, fault)) number)
    go (Err other) is e ih = absurd (cc)

-- the lines of an input that are known begin with those that it gave
lines_after : (taken more : List ℕ) (lines : List (List ℕ)) → ended_lines taken ≡ lines → unended_line taken ≡ []
    → all_lines (taken ++ more) ≡ lines ++ all_lines more
lines_after taken more lines are ends =
    let ended : ended_lines (taken ++ more) ≡ lines ++ ended_lines more =
    ended_lines-append taken more ∙ rw (are, ends) refl in
    let rest : unended_line (taken ++ more) ≡ unended_line more = unended-append taken more ∙ rw ends refl in
    rw (ended, rest) (append_assoc lines (ended_lines more) (as_line (unended_line more)))

begins_with : (bytes left : Option (List ℕ)) (taken held : List ℕ) (lines : List (List ℕ))
    → Consumes bytes left (taken ++ [] ++ held) → ended_lines taken ≡ lines → unended_line taken ≡ []
    → IfSome bytes (λ all. (rest : List (List ℕ)) × (all_lines all ≡ lines ++ rest))
begins_with None left taken held lines consumed are ends = tt
begins_with (Some all) None taken held lines consumed are ends = absurd consumed
begins_with (Some all) (Some more) taken held lines consumed are ends =
    let whole : all ≡ taken ++ (held ++ more) =
    consumed ∙ append_assoc (taken ++ []) held more ∙ ap (λ t. t ++ (held ++ more)) (append-nil taken) in
    (all_lines (held ++ more), ap all_lines whole ∙ lines_after taken (held ++ more) lines are ends)

all_of : (bytes : Option (List ℕ)) (given : List ℕ) (lines : List (List ℕ)) → IfSome bytes (λ all. given ≡ all)
    → all_lines given ≡ lines → IfSome bytes (λ all. (rest : List (List ℕ)) × (all_lines all ≡ lines ++ rest))
all_of None given lines same are = tt
all_of (Some all) given lines same are = ([], sym (ap all_lines same) ∙ are ∙ sym (append-nil lines))

given_first : (ended : Bool) (input : Source) (lines : List (List ℕ)) (left : Source) (held : List ℕ)
    → HasLinesBy ended input lines left held
    → IfSome input.bytes (λ all. (rest : List (List ℕ)) × (all_lines all ≡ lines ++ rest))
given_first false input lines left held has =
    begins_with input.bytes left.bytes has.taken held lines has.consumed has.are_lines has.are_ended
given_first true input lines left held are =
    all_of input.bytes are.bytes lines are.is_given.all are.are_lines

if_some : {P Q : List ℕ → Type 0} (bytes : Option (List ℕ)) → ((all : List ℕ) → P all → Q all) → IfSome bytes P
    → IfSome bytes Q
if_some None weaker holds = tt
if_some (Some all) weaker holds = weaker all holds

-- ---- steps

pub no_line_yet : (input : Source) (state : State) → HasLines input [] state → IsSoFar input state no_summary 1
no_line_yet input state has = record {
  lines = [];
  has_lines = has;
  is_due = refl;
  numbered = refl;
}

pub added : (input : Source) (old new : State) (summary next : Summary) (number : ℕ) (line : Line)
    → IsSoFar input old summary number → Gives (Some line) old new
    → ((bytes : List ℕ) → IsLine line bytes → after_given summary bytes ≡ Ok next)
    → IsSoFar input new next (number + 1)
added input old new summary next number line so_far gives due =
    let found = gives input so_far.lines so_far.has_lines in
    record {
      lines = so_far.lines ++ found.bytes ∷ [];
      has_lines = found.has_lines;
      is_due = one_more no_summary summary next 1 so_far.lines found.bytes so_far.is_due
          (due found.bytes found.is_line);
      numbered =
          let is = so_far.numbered in
          omega (arith, is, length-append so_far.lines (found.bytes ∷ []));
    }

pub ended : (input : Source) (old new : State) (summary : Summary) (number : ℕ) → IsSoFar input old summary number
    → Gives None old new → IsSummaryOf input summary
ended input old new summary number so_far gives =
    let are = gives.1 input so_far.lines so_far.has_lines in
    record {
      bytes = are.bytes;
      is_given = are.is_given;
      is_due = ap summary_of are.are_lines ∙ so_far.is_due;
    }

faulty : (input : Source) (old new : State) (summary : Summary) (number : ℕ) (line : Line) (fault : LineFault)
    → IsSoFar input old summary number → Gives (Some line) old new
    → ((bytes : List ℕ) → IsLine line bytes → after_given summary bytes ≡ Err fault)
    → IsFaultyAt input number fault
faulty input old new summary number line fault so_far gives due =
    let found = gives input so_far.lines so_far.has_lines in
    if_some input.bytes (λ all begins.
    ap summary_of (begins.1 ∙ append_assoc so_far.lines (found.bytes ∷ []) begins.0)
    ∙ one_wrong no_summary summary 1 so_far.lines found.bytes begins.0 fault so_far.is_due
    (due found.bytes found.is_line)
    ∙ ap (λ k. Err (k, fault)) (sym so_far.numbered))
    (given_first new.ended input (so_far.lines ++ found.bytes ∷ []) new.left new.held found.has_lines)

-- a fault that is no want of memory
pub wrong_line : (input : Source) (old new : State) (summary : Summary) (number : ℕ) (line : Line) (fault : LineFault)
    (wrong : LineWrong) → IsSoFar input old summary number → Gives (Some line) old new
    → ((bytes : List ℕ) → IsLine line bytes → (fault ≡ faults.Memory) ⊎ (after_given summary bytes ≡ Err fault))
    → wrong_view wrong ≡ fault → IsFaultyAt input number (wrong_view wrong)
wrong_line input old new summary number line fault wrong so_far gives due is =
    faulty input old new summary number line (wrong_view wrong) so_far gives (λ bytes here.
    sure wrong bytes is (due bytes here))
  where
    sure : (wrong : LineWrong) (bytes : List ℕ) → wrong_view wrong ≡ fault
        → (fault ≡ faults.Memory) ⊎ (after_given summary bytes ≡ Err fault)
        → after_given summary bytes ≡ Err (wrong_view wrong)
    sure wrong bytes is (inr e) = e ∙ ap Err (sym is)
    sure Shape bytes is (inl e) = absurd (cc)
    sure Overflow bytes is (inl e) = absurd (cc)

pub unread : (input : Source) (old : State) (summary : Summary) (number : ℕ) → IsSoFar input old summary number
    → ((lines : List (List ℕ)) → HasLines input lines old → BreaksOff input lines) → IsUnread input
unread input old summary number so_far breaks =
    let off = breaks so_far.lines so_far.has_lines in
    record {
      may = off.may;
      all = λ e. if_some input.bytes (λ bytes are. subst IsOk (sym (ap summary_of are ∙ so_far.is_due)) refl)
          (off.all e);
    }

-- a fault that is handed on
pub same_fault : {A B : Type 0} (result : Result A EngineFault) (fault reported : EngineFault)
    → IsErrAnd result (λ e. e ≡ fault) → result ≡ Err reported
    → ◌≡◌ {A = Result B EngineFault} (Err fault) (Err reported)
same_fault (Ok x) fault reported is e = absurd is
same_fault (Err f) fault reported is e = cc
