-- The evidence that a check found good.
use Rattle.std.proofs.Common.{◌≡◌, ℕ, zero, suc, ◌<◌, Bool, true, false, ◌||◌, if◌then◌else◌, IsTrue, Option, Some, None, List, [], ◌∷◌, length, get_or, zip, refl, sym, ap, ◌∙◌, subst, arith}
use Rattle.std.specs.Prelude.{position, slice_get}
use Rattle.std.specs.List.{AllZip}
use Rattle.std.specs.Str.{bytes_eq}
use Rattle.std.proofs.lemmas.List.Quantifiers.{position-Some}
use Rattle.std.proofs.lemmas.Option.{slice_get-get_or}
use Rattle.def_model.specs.Predicates.{Predicate, Recorded, test_of}
use Rattle.def_format.specs.Documents.{Document}
use Rattle.def_format.specs.Names.{ProcessNames}
use Rattle.def_format.specs.OtherTexts.{Checked, Finding, OfSession, Unchecked, by_test, definitely_verdict, possibly_verdict}
use Rattle.def_format.specs.Readings.{Trace}
use Rattle.def_format.specs.Reports.{Answer, Judged, Report}
use Rattle.def_judgement.specs.Findings.{IsAnswersFinding, IsChecked, IsCheckedFor, has_bad, is_bad, of_verdicts}
use Rattle.def_judgement.specs.Judgements.{recorded_of}
use Rattle.judge_check.specs.Found.{IsFoundOf, of_session}
use Rattle.out_picture.specs.Scopes.{Scope}
use Rattle.out_picture.specs.declared.kind.Kind.{Kind}
use Rattle.judge_draw.specs.Choices.{by_evidence, by_kind, by_name, choice, choice_of, has_bad_in, has_evidence, has_evidence_in, is_chosen_bad, stands_against}
use Rattle.judge_draw.specs.Drawn.{IsGoodAt, IsGoodChoice, IsLetBy}
use Rattle.judge_draw.specs.Exhibits.{HasGoodEvidence}
use Rattle.judge_draw.specs.declared.choice.Choice.{Choice}
use Rattle.judge_draw.specs.declared.choice.Choice.TheVariants.{Alone, Of, Unknown, Lacking}

-- ---- one answer

passes : (good : Bool) → is_bad (by_test good) ≡ false → IsTrue good
passes true clean = refl
passes false clean = absurd (cc)

first_clean : (a b : Bool) → (a || b) ≡ false → a ≡ false
first_clean true b clean = absurd (cc)
first_clean false b clean = refl

second_clean : (a b : Bool) → (a || b) ≡ false → b ≡ false
second_clean true b clean = absurd (cc)
second_clean false b clean = clean

good_evidence : (names : List ProcessNames) (recorded : Recorded) (predicate : Predicate) (answer : Answer)
    (checked : Checked) → IsChecked names recorded.events (test_of recorded predicate) answer checked
    → has_bad checked ≡ false → HasGoodEvidence names recorded predicate answer
good_evidence names recorded predicate answer checked is clean = record {
  cut = λ cut yes'.
      (is.cut_right cut yes').0 (passes is.cut_is_good
      (ap is_bad (ap (possibly_verdict (λ (_ : List ℕ). is.cut_is_good)) (sym yes')) ∙ (ap is_bad (sym is.possibly)
      ∙ first_clean (is_bad checked.possibly) (is_bad checked.definitely) clean)));
  path = λ reported no'.
      (is.path_right reported no').0 (passes is.path_is_good
      (ap is_bad (ap (definitely_verdict (λ (_ : List (List ℕ)). is.path_is_good)) (sym no'))
      ∙ (ap is_bad (sym is.definitely) ∙ second_clean (is_bad checked.possibly) (is_bad checked.definitely) clean)));
}

-- ---- the answers side by side

zipped_there : {A B C : Type 0} (R : A × B → C → Type 0) (xs : List A) (ys : List B) (zs : List C) (i : ℕ)
    → AllZip R (zip xs ys) zs → i < length zs → (i < length xs) × (i < length ys)
zipped_there R [] ys [] i all lt = absurd (omega arith)
zipped_there R [] ys (z ∷ zs) i all lt = absurd all
zipped_there R (x ∷ xs) [] [] i all lt = absurd (omega arith)
zipped_there R (x ∷ xs) [] (z ∷ zs) i all lt = absurd all
zipped_there R (x ∷ xs) (y ∷ ys) [] i all lt = absurd (omega arith)
zipped_there R (x ∷ xs) (y ∷ ys) (z ∷ zs) zero all lt = (omega arith, omega arith)
zipped_there R (x ∷ xs) (y ∷ ys) (z ∷ zs) (suc i) all lt =
    let rest = zipped_there R xs ys zs i all.1 (omega arith) in
    let first : i < length xs = rest.0 in
    let second : i < length ys = rest.1 in (omega arith, omega arith)

zipped_at : {A B C : Type 0} (R : A × B → C → Type 0) (xs : List A) (ys : List B) (zs : List C) (i : ℕ) (x : A) (y : B)
    (z : C) → AllZip R (zip xs ys) zs → slice_get xs i ≡ Some x → slice_get ys i ≡ Some y → slice_get zs i ≡ Some z
    → R (x, y) z
zipped_at R [] ys zs i x y z all is_x is_y is_z = absurd (cc)
zipped_at R (a ∷ xs) [] zs i x y z all is_x is_y is_z = absurd (cc)
zipped_at R (a ∷ xs) (b ∷ ys) [] i x y z all is_x is_y is_z = absurd all
zipped_at R (a ∷ xs) (b ∷ ys) (d ∷ zs) zero x y z all is_x is_y is_z =
    let e : a ≡ x = cc in
    let f : b ≡ y = cc in
    let g : d ≡ z = cc in
    subst (λ (w : _). R (x, y) w) g (subst (λ (v : _). R (x, v) d) f (subst (λ (u : _). R (u, b) d) e all.0))
zipped_at R (a ∷ xs) (b ∷ ys) (d ∷ zs) (suc i) x y z all is_x is_y is_z =
    zipped_at R xs ys zs i x y z all.1 is_x is_y is_z

-- ---- the choice

nothing : Checked
nothing = record { name = []; possibly = Unchecked; definitely = Unchecked }

by_evidence_at : (kind : Option Kind) (place : Option ℕ) (i : ℕ) → by_evidence kind place ≡ Of i → place ≡ Some i
by_evidence_at None None i is = absurd (cc)
by_evidence_at (Some kind) None i is = absurd (cc)
by_evidence_at kind (Some j) i is = let e : j ≡ i = cc in ap Some e

if_there : (there : Bool) (j i : ℕ) → (if there then Of j else Lacking) ≡ Of i → j ≡ i
if_there true j i is = cc
if_there false j i is = absurd (cc)

by_kind_at : (kind : Option Kind) (checked : List Checked) (j i : ℕ) → by_kind kind checked j ≡ Of i → j ≡ i
by_kind_at None checked j i is = cc
by_kind_at (Some kind) checked j i is = if_there (has_evidence_in (Some kind) (slice_get checked j)) j i is

by_name_at : (kind : Option Kind) (checked : List Checked) (place : Option ℕ) (i : ℕ)
    → by_name kind checked place ≡ Of i → place ≡ Some i
by_name_at kind checked None i is = absurd (cc)
by_name_at kind checked (Some j) i is = ap Some (by_kind_at kind checked j i is)

of_there : (name : Option (List ℕ)) (kind : Option Kind) (checked : List Checked) (i : ℕ)
    → choice_of name kind checked ≡ Of i → i < length checked
of_there None kind checked i is =
    (position-Some (has_evidence kind) checked i nothing
    (by_evidence_at kind (position (has_evidence kind) checked) i is)).0
of_there (Some name) kind checked i is =
    (position-Some (λ (c : Checked). bytes_eq c.name name) checked i nothing
    (by_name_at kind checked (position (λ (c : Checked). bytes_eq c.name name) checked) i is)).0

chosen_there : (scope : Scope) (checked : List Checked) (i : ℕ) → choice scope checked ≡ Of i → i < length checked
chosen_there scope checked i is = of_there scope.name scope.kind checked i is

same_answers : (p e m q f n : ℕ) (answers others : List Answer) → Judged p e m answers ≡ Judged q f n others
    → answers ≡ others
same_answers p e m q f n answers others same = cc

module _ (document : Document) (traces : List Trace) (scope : Scope) (i : ℕ) where
  good_at : (answers : List Answer) (checked : List Checked) → IsAnswersFinding document traces answers (Some checked)
      → choice scope checked ≡ Of i → stands_against scope (OfSession true (Some checked)) ≡ false
      → IsGoodAt document (recorded_of document traces) answers i
  good_at answers checked (of_verdicts _ names all) is stands =
      let there : i < length checked = chosen_there scope checked i is in
      let both = zipped_there (IsCheckedFor document traces) document.predicates answers checked i all there in
      let found : slice_get checked i ≡ Some (get_or checked i nothing) =
      slice_get-get_or checked i nothing there in
      let clean : has_bad (get_or checked i nothing) ≡ false =
      ap has_bad_in (sym found) ∙ (ap (is_chosen_bad checked) (sym is) ∙ stands) in record {
        asked_there = both.0;
        answer_there = both.1;
        good = λ asked answer is_asked is_answer.
            good_evidence document.names (recorded_of document traces) asked.predicate answer
            (get_or checked i nothing) (zipped_at (IsCheckedFor document traces) document.predicates answers checked i
            asked answer (get_or checked i nothing) all is_asked is_answer found) clean;
      }

  found_at : (messages : ℕ) (claimed : Report) (p e m : ℕ) (answers : List Answer)
      (checked : List Checked) → claimed ≡ Judged p e m answers
      → IsFoundOf document traces messages claimed (OfSession true (Some checked))
      → choice scope checked ≡ Of i → stands_against scope (OfSession true (Some checked)) ≡ false
      → IsGoodAt document (recorded_of document traces) answers i
  found_at messages claimed p e m answers checked judged
      (of_session processes events matched others good found is counts verdicts) chosen stands =
      let same : others ≡ answers =
      same_answers processes events matched p e m others answers (sym is ∙ judged) in
      subst (λ (list : List Answer). IsGoodAt document (recorded_of document traces) list i) same
      (good_at others checked verdicts chosen stands)

-- what the choice draws is good
pub good_choice : (document : Document) (traces : List Trace) (messages : ℕ) (recorded : Recorded)
    (claimed : Report) (p e m : ℕ) (answers : List Answer) (scope : Scope) (finding : Finding)
    (chosen : Choice) → recorded ≡ recorded_of document traces → claimed ≡ Judged p e m answers
    → IsFoundOf document traces messages claimed finding → IsLetBy scope finding (Some chosen)
    → IsGoodChoice document recorded answers chosen
good_choice document traces messages recorded claimed p e m answers scope finding Alone same judged found lets = tt
good_choice document traces messages recorded claimed p e m answers scope finding Unknown same judged found lets = tt
good_choice document traces messages recorded claimed p e m answers scope finding Lacking same judged found lets = tt
good_choice document traces messages recorded claimed p e m answers scope finding (Of i) same judged found lets =
    subst (λ (r : Recorded). IsGoodAt document r answers i) (sym same)
    (found_at document traces scope i messages claimed p e m answers lets.0 judged
    (subst (IsFoundOf document traces messages claimed) lets.1 found) (sym lets.3)
    (subst (λ (f : Finding). stands_against scope f ≡ false) lets.1 lets.2))
