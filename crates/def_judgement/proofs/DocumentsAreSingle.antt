-- An inquiry is of one document, or is refused with one fault, and never both.
use Rattle.std.proofs.Common.{◌≡◌, ℕ, ◌+◌, List, [], ◌∷◌, ◌++◌, length, refl, sym, ◌∙◌, ap, subst}
use Rattle.std.specs.Prelude.{Option, Some, None, Ok, Err}
use Rattle.std.specs.List.{AllZip, AllByRecursion}
use Rattle.def_model.specs.Messages.{Version}
use Rattle.def_model.specs.Predicates.{Predicate}
use Rattle.def_format.specs.Limits.{process_limit}
use Rattle.def_format.specs.Documents.{Outline, Document, NamedPredicate, DocumentFault, Long, Json, Shape, Processes, Name, NameTwice, Vars, Predicates, Width, OtherVersion, InPredicate, IsNamedPredicate, IsDocument, IsSpelled, HasRefusedPredicate, HasOtherVersion, IsRefusedDocument, Inquiry, outline_of_inquiry, names_of_outline, initial_of, width_of, version_of}
use Rattle.def_format.specs.Laws.{AreClear}
use Rattle.def_format.specs.Names.{ProcessNames}
use Rattle.def_format.specs.PredicateTexts.{PredicateFault, IsPredicate, IsRefusedPredicate}
use Rattle.def_format.proofs.OneAnswer.{one_predicate_lem, predicate_not_refused_lem, refused_once_lem}
use Rattle.def_format.proofs.DocumentNames.{clear_document}

abbrev Written : Type 0
Written = List ℕ × List ℕ

same_outline : (inquiry : Inquiry) (a b : Outline) → outline_of_inquiry inquiry ≡ Ok a
    → outline_of_inquiry inquiry ≡ Ok b → a ≡ b
same_outline inquiry a b e f = cc

-- ---- one document

one_named : (names : List ProcessNames) → AreClear names → (written : Written) (a b : NamedPredicate)
    → IsNamedPredicate names written a → IsNamedPredicate names written b → a ≡ b
one_named names clear written a b p q =
    let name : a.name ≡ b.name = p.0 ∙ sym q.0 in
    let predicate : a.predicate ≡ b.predicate =
    one_predicate_lem names clear written.1 a.predicate b.predicate p.1 q.1 in
    λ i. record { name = name i; predicate = predicate i }

one_each : (names : List ProcessNames) → AreClear names → (written : List Written) (a b : List NamedPredicate)
    → AllZip (IsNamedPredicate names) written a → AllZip (IsNamedPredicate names) written b → a ≡ b
one_each names clear [] [] [] p q = refl
one_each names clear [] [] (y ∷ b) p q = absurd q
one_each names clear [] (x ∷ a) b p q = absurd p
one_each names clear (w ∷ written) [] b p q = absurd p
one_each names clear (w ∷ written) (x ∷ a) [] p q = absurd q
one_each names clear (w ∷ written) (x ∷ a) (y ∷ b) p q =
    let first : x ≡ y = one_named names clear w x y p.0 q.0 in
    let rest : a ≡ b = one_each names clear written a b p.1 q.1 in
    λ i. first i ∷ rest i

pub one_document_lem : (inquiry : Inquiry) (a b : Document) → IsDocument inquiry a → IsDocument inquiry b → a ≡ b
one_document_lem inquiry a b p q =
    let same : q.outline ≡ p.outline = same_outline inquiry q.outline p.outline q.sound p.sound in
    let names : a.names ≡ b.names = p.names ∙ (ap names_of_outline (sym same) ∙ sym q.names) in
    let initial : a.initial ≡ b.initial = p.initial ∙ (ap initial_of (sym same) ∙ sym q.initial) in
    let width : a.width ≡ b.width = p.width ∙ (ap (λ (o : Outline). width_of o.width) (sym same) ∙ sym q.width) in
    let moved : AllZip (IsNamedPredicate (names_of_outline p.outline)) p.outline.predicates b.predicates =
    subst (λ (o : Outline). AllZip (IsNamedPredicate (names_of_outline o)) o.predicates b.predicates) same
    q.predicates in
    let predicates : a.predicates ≡ b.predicates =
    one_each (names_of_outline p.outline) (clear_document process_limit inquiry p.outline p.sound)
    p.outline.predicates a.predicates b.predicates p.predicates moved in
    let version : a.version ≡ b.version =
    same_version (version_of p.outline.version) a.version b.version p.version
    (ap (λ (o : Outline). version_of o.version) (sym same) ∙ q.version) in
    let beyond_width : a.beyond_width ≡ b.beyond_width = p.beyond_width ∙ sym q.beyond_width in
    λ i. record {
      names = names i;
      initial = initial i;
      predicates = predicates i;
      width = width i;
      version = version i;
      beyond_width = beyond_width i;
    }
  where
    same_version : (said : Option Version) (v w : Version) → said ≡ Some v → said ≡ Some w → v ≡ w
    same_version said v w e f = cc

-- ---- a document isn't refused

-- what stands beside an element in the midst of a list
partner : {A B : Type 0} (R : A → B → Type 0) (before : List A) (x : A) (after : List A) (ys : List B)
    → AllZip R (before ++ x ∷ after) ys → (y : B) × R x y
partner R [] x after [] h = absurd h
partner R [] x after (y ∷ ys) h = (y, h.0)
partner R (z ∷ before) x after [] h = absurd h
partner R (z ∷ before) x after (y ∷ ys) h = partner R before x after ys h.1

-- a refusal of the outline, one of a predicate, or one of the version
data Refusing (inquiry : Inquiry) (fault : DocumentFault) : Type 0 where
  of_outline : outline_of_inquiry inquiry ≡ Err fault → Refusing inquiry fault
  of_predicate : (number : ℕ) (inner : PredicateFault) (at : ℕ) → fault ≡ InPredicate number inner at
      → HasRefusedPredicate process_limit inquiry number inner at → Refusing inquiry fault
  of_version : fault ≡ OtherVersion → HasOtherVersion process_limit inquiry → Refusing inquiry fault

refusing : (inquiry : Inquiry) (fault : DocumentFault) → IsRefusedDocument inquiry fault → Refusing inquiry fault
refusing inquiry Long h = of_outline h
refusing inquiry Json h = of_outline h
refusing inquiry Shape h = of_outline h
refusing inquiry Processes h = of_outline h
refusing inquiry Name h = of_outline h
refusing inquiry NameTwice h = of_outline h
refusing inquiry Vars h = of_outline h
refusing inquiry Predicates h = of_outline h
refusing inquiry Width h = of_outline h
refusing inquiry OtherVersion h = of_version refl h
refusing inquiry (InPredicate number inner at) h = of_predicate number inner at refl h

not_both : (inquiry : Inquiry) (outline : Outline) (fault : DocumentFault) → outline_of_inquiry inquiry ≡ Ok outline
    → outline_of_inquiry inquiry ≡ Err fault → ⊥
not_both inquiry outline fault e f = cc

pub document_not_refused_lem : (inquiry : Inquiry) (document : Document) (fault : DocumentFault)
    → IsDocument inquiry document → IsRefusedDocument inquiry fault → ⊥
document_not_refused_lem inquiry document fault p refused = go (refusing inquiry fault refused)
  where
    none : (version : Option Version) → version ≡ Some document.version → version ≡ None → ⊥
    none version e f = cc

    go : Refusing inquiry fault → ⊥
    go (of_outline e) = not_both inquiry p.outline fault p.sound e
    go (of_predicate number inner at e r) =
        let same : p.outline ≡ r.outline = same_outline inquiry p.outline r.outline p.sound r.sound in
        let moved : AllZip (IsNamedPredicate (names_of_outline r.outline)) r.outline.predicates document.predicates =
        subst (λ (o : Outline). AllZip (IsNamedPredicate (names_of_outline o)) o.predicates document.predicates)
        same p.predicates in
        let parts : AllZip (IsNamedPredicate (names_of_outline r.outline)) (r.before ++ r.refused ∷ r.after)
        document.predicates =
        subst (λ (ws : List Written). AllZip (IsNamedPredicate (names_of_outline r.outline)) ws document.predicates)
        r.parts moved in
        let found : (y : NamedPredicate) × IsNamedPredicate (names_of_outline r.outline) r.refused y =
        partner (IsNamedPredicate (names_of_outline r.outline)) r.before r.refused r.after document.predicates parts
        in
        predicate_not_refused_lem (names_of_outline r.outline) r.refused.1 found.0.predicate inner at found.1.1 r.stands
    go (of_version e v) =
        let same : p.outline ≡ v.outline = same_outline inquiry p.outline v.outline p.sound v.sound in
        none (version_of v.outline.version) (ap (λ (o : Outline). version_of o.version) (sym same) ∙ p.version) v.none

-- ---- one fault

-- the first element without P is one, and so is what stands before it
one_first : {A : Type 0} (P : A → Type 0) (before : List A) (x : A) (after before' : List A) (x' : A) (after' : List A)
    → AllByRecursion P before → AllByRecursion P before' → ¬ P x → ¬ P x' → before ++ x ∷ after ≡ before' ++ x' ∷ after'
    → (before ≡ before') × (x ≡ x')
one_first P [] x after [] x' after' h h' none none' e = (refl, cc)
one_first P [] x after (y ∷ before') x' after' h h' none none' e = let same : y ≡ x =
    cc in absurd (none (subst P same h'.0))
one_first P (z ∷ before) x after [] x' after' h h' none none' e = let same : z ≡ x' =
    cc in absurd (none' (subst P same h.0))
one_first P (z ∷ before) x after (y ∷ before') x' after' h h' none none' e =
    let first : z ≡ y = cc in
    let rest : (before ≡ before') × (x ≡ x') = one_first P before x after before' x' after' h.1 h'.1 none none' (cc) in
    ((λ i. first i ∷ rest.0 i), rest.1)

-- the text is some predicate's
abbrev IsSome : List ProcessNames → Written → Type 0
IsSome names written = (predicate : Predicate) × IsPredicate names written.1 predicate

-- a refused predicate of a known outline
record Refuses (outline : Outline) (number : ℕ) (fault : PredicateFault) (at : ℕ) : Type 0 where
  before : List Written
  refused : Written
  after : List Written
  parts : outline.predicates ≡ before ++ refused ∷ after
  place : number ≡ length before + 1
  stands : IsRefusedPredicate (names_of_outline outline) refused.1 fault at
  none_before : AllByRecursion (IsSome (names_of_outline outline)) before

refuses : (inquiry : Inquiry) (number : ℕ) (fault : PredicateFault) (at : ℕ)
    (r : HasRefusedPredicate process_limit inquiry number fault at) → Refuses r.outline number fault at
refuses inquiry number fault at r =
    record {
      before = r.before;
      refused = r.refused;
      after = r.after;
      parts = r.parts;
      place = r.place;
      stands =
          r.stands;
      none_before = r.none_before;
    }

not_some : (names : List ProcessNames) (written : Written) (fault : PredicateFault) (at : ℕ)
    → IsRefusedPredicate names written.1 fault at → ¬ IsSome names written
not_some names written fault at r some = predicate_not_refused_lem names written.1 some.0 fault at some.1 r

one_refuses : (outline : Outline) (number other : ℕ) (f g : PredicateFault) (at place : ℕ) → Refuses outline number f at
    → Refuses outline other g place → InPredicate number f at ≡ InPredicate other g place
one_refuses outline number other f g at place r s =
    let same =
    one_first (IsSome (names_of_outline outline)) r.before r.refused r.after s.before s.refused s.after
    r.none_before s.none_before
    (not_some (names_of_outline outline) r.refused f at r.stands)
    (not_some (names_of_outline outline) s.refused g place s.stands) (sym r.parts ∙ s.parts) in
    let numbers : number ≡ other = r.place ∙ (ap (λ (ws : List Written). length ws + 1) same.0 ∙ sym s.place) in
    let stands : IsRefusedPredicate (names_of_outline outline) s.refused.1 f at =
    subst (λ (w : Written). IsRefusedPredicate (names_of_outline outline) w.1 f at) same.1 r.stands in
    let once = refused_once_lem (names_of_outline outline) s.refused.1 f g at place stands s.stands in
    λ i. InPredicate (numbers i) (once.0 i) (once.1 i)

-- what holds of all elements holds of one in their midst
in_midst : {A : Type 0} (P : A → Type 0) (before : List A) (x : A) (after : List A)
    → AllByRecursion P (before ++ x ∷ after) → P x
in_midst P [] x after h = h.0
in_midst P (z ∷ before) x after h = in_midst P before x after h.1

-- no predicate is refused where each is spelled
spelled_not_refused : (inquiry : Inquiry) (number : ℕ) (fault : PredicateFault) (at : ℕ)
    → HasRefusedPredicate process_limit inquiry number fault at → HasOtherVersion process_limit inquiry → ⊥
spelled_not_refused inquiry number fault at r v =
    let same : v.outline ≡ r.outline = same_outline inquiry v.outline r.outline v.sound r.sound in
    let moved : AllByRecursion (IsSpelled r.outline) r.outline.predicates =
    subst (λ (o : Outline). AllByRecursion (IsSpelled o) o.predicates) same v.spelled in
    let parts : AllByRecursion (IsSpelled r.outline) (r.before ++ r.refused ∷ r.after) =
    subst (AllByRecursion (IsSpelled r.outline)) r.parts moved in
    not_some (names_of_outline r.outline) r.refused fault at r.stands
    (in_midst (IsSpelled r.outline) r.before r.refused r.after parts)

pub one_document_fault_lem : (inquiry : Inquiry) (f g : DocumentFault) → IsRefusedDocument inquiry f
    → IsRefusedDocument inquiry g → f ≡ g
one_document_fault_lem inquiry f g p q = go (refusing inquiry f p) (refusing inquiry g q)
  where
    go : Refusing inquiry f → Refusing inquiry g → f ≡ g
    go (of_outline e) (of_outline e') = cc
    go (of_outline e) (of_predicate number inner at k r) = absurd (not_both inquiry r.outline f r.sound e)
    go (of_outline e) (of_version k v) = absurd (not_both inquiry v.outline f v.sound e)
    go (of_version k v) (of_outline e) = absurd (not_both inquiry v.outline g v.sound e)
    go (of_version k v) (of_version l w) = k ∙ sym l
    go (of_version k v) (of_predicate number inner at l r) = absurd (spelled_not_refused inquiry number inner at r v)
    go (of_predicate number inner at k r) (of_version l v) = absurd (spelled_not_refused inquiry number inner at r v)
    go (of_predicate number inner at k r) (of_outline e) = absurd (not_both inquiry r.outline g r.sound e)
    go (of_predicate number inner at k r) (of_predicate number' inner' at' k' r') =
        let same : r.outline ≡ r'.outline = same_outline inquiry r.outline r'.outline r.sound r'.sound in
        let moved : Refuses r'.outline number inner at =
        subst (λ (o : Outline). Refuses o number inner at) same (refuses inquiry number inner at r) in
        k ∙ (one_refuses r'.outline number number' inner inner' at at' moved (refuses inquiry number' inner' at' r')
        ∙ sym k')
