-- Which predicate is drawn, and what stands against a picture.
use Rattle.std.specs.Prelude.{◌≡◌, ℕ, Bool, true, false, ◌||◌, if◌then◌else◌, List, Option, Some, None, position, slice_get}
use Rattle.std.specs.Str.{bytes_eq}
use Rattle.def_format.specs.OtherTexts.{Checked, Finding, NotRead, OfRefusal, OfSession, Verdict, Good, Bad, Unchecked}
use Rattle.def_judgement.specs.Findings.{has_bad}
use Rattle.out_picture.specs.Scopes.{Scope}
use Rattle.out_picture.specs.declared.kind.Kind.{Kind}
use Rattle.out_picture.specs.declared.kind.Kind.TheVariants.{Possibly, Definitely}
use Rattle.judge_draw.specs.declared.choice.Choice.{Choice}
use Rattle.judge_draw.specs.declared.choice.Choice.TheVariants.{Alone, Of, Unknown, Lacking}

-- evidence is printed, if this is the verdict on it
abbrev pub is_printed : Verdict → Bool
is_printed Unchecked = false
is_printed _ = true

-- a predicate has evidence, of this kind if one is asked for
abbrev pub has_evidence : Option Kind → Checked → Bool
has_evidence None checked = is_printed checked.possibly || is_printed checked.definitely
has_evidence (Some Possibly) checked = is_printed checked.possibly
has_evidence (Some Definitely) checked = is_printed checked.definitely

abbrev pub has_evidence_in : Option Kind → Option Checked → Bool
has_evidence_in kind None = false
has_evidence_in kind (Some checked) = has_evidence kind checked

-- no predicate has evidence: the run alone is drawn, unless evidence of a kind is asked for
abbrev pub without_evidence : Option Kind → Choice
without_evidence None = Alone
without_evidence (Some kind) = Lacking

abbrev pub by_evidence : Option Kind → Option ℕ → Choice
by_evidence kind None = without_evidence kind
by_evidence kind (Some i) = Of i

-- the predicate with this number, unless evidence of a kind is asked for that it doesn't have
abbrev pub by_kind : Option Kind → List Checked → ℕ → Choice
by_kind None checked i = Of i
by_kind (Some kind) checked i = if has_evidence_in (Some kind) (slice_get checked i) then Of i else Lacking

abbrev pub by_name : Option Kind → List Checked → Option ℕ → Choice
by_name kind checked None = Unknown
by_name kind checked (Some i) = by_kind kind checked i

abbrev pub choice_of : Option (List ℕ) → Option Kind → List Checked → Choice
choice_of None kind checked = by_evidence kind (position (has_evidence kind) checked)
choice_of (Some name) kind checked = by_name kind checked (position (λ (c : Checked). bytes_eq c.name name) checked)

-- The predicate that is drawn: the one of the name that is asked for, and without a name the first that has evidence;
-- of the kind that is asked for, if one is.
abbrev pub choice : Scope → List Checked → Choice
choice scope checked = choice_of scope.name scope.kind checked

-- there is no predicate of the name that is asked for
abbrev pub LacksName : Scope → List Checked → Type 0
LacksName scope checked = choice scope checked ≡ Unknown

-- there is no evidence of the kind that is asked for
abbrev pub LacksEvidence : Scope → List Checked → Type 0
LacksEvidence scope checked = choice scope checked ≡ Lacking

abbrev pub has_bad_in : Option Checked → Bool
has_bad_in None = false
has_bad_in (Some checked) = has_bad checked

-- whether a verdict on the evidence of the predicate that is drawn is bad
abbrev pub is_chosen_bad : List Checked → Choice → Bool
is_chosen_bad checked (Of i) = has_bad_in (slice_get checked i)
is_chosen_bad checked _ = false

-- Something in the finding stands against the picture: the report isn't read, or it is a refusal or the session is
-- refused, or the counts or the names are wrong, or the evidence that would be drawn is bad.
abbrev pub stands_against : Scope → Finding → Bool
stands_against scope (OfSession true (Some checked)) = is_chosen_bad checked (choice scope checked)
stands_against scope _ = true
