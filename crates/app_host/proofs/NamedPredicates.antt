-- Which predicates a document has, and what is left after they were looked up.
use Rattle.std.proofs.Common.{◌≡◌, ◌≢◌, ℕ, List, [], ◌∷◌, None, Some, Option, true, false, refl, sym, subst, ◌∙◌}
use Rattle.std.specs.Borrow.{Bor}
use Rattle.std.specs.Prelude.{MatchOption, is_some, if◌then◌else◌}
use Rattle.def_format.specs.Documents as faults
use Rattle.def_format.specs.Documents.{Document, DocumentFault, Inquiry, IsDocument, IsRefusedDocument, Options, inquiry_of}
use Rattle.def_format.specs.PredicateTexts.{PredicateFault}
use Rattle.def_judgement.specs.OneReport.{DocumentNotRefused, OneDocument}
use Rattle.pd_spec.specs.Views.{IsFaultOf}
use Rattle.pd_spec.specs.declared.fault.SpecFault.{SpecFault}
use Rattle.pd_spec.specs.declared.fault.SpecFault.TheVariants as kinds
use Rattle.app_arguments.specs.Conditions.{unknown_name}
use Rattle.judge_runs.specs.Wishes.{Condition, lacks_name, names_of}
use Rattle.app_arguments.specs.ConditionViews.{name_view}
use Rattle.app_arguments.specs.Statuses.{Ending, Success, Negative, Alarm, NoPredicate, Misuse, Failed, MemoryFailure, ReadFailure, WriteFailure, BundleFailure, NetworkFailure, HasNamed, OfNamed}
use Rattle.app_host.specs.Faults.{is_out_of_memory}
use Rattle.app_host.specs.FileSources.{ReadLeaves, SameOutline}
use Rattle.app_host.proofs.DocumentPrefixes.{same_document}

-- a fault that isn't out of memory refuses the document
pub refused_unless_memory : (document : Inquiry) (fault : SpecFault) → is_out_of_memory fault ≡ false
    → IsFaultOf document fault → (refused : DocumentFault) × IsRefusedDocument document refused
refused_unless_memory document kinds.Long e h = (faults.Long, h)
refused_unless_memory document kinds.Json e h = (faults.Json, h)
refused_unless_memory document kinds.Shape e h = (faults.Shape, h)
refused_unless_memory document kinds.Processes e h = (faults.Processes, h)
refused_unless_memory document kinds.Name e h = (faults.Name, h)
refused_unless_memory document kinds.NameTwice e h = (faults.NameTwice, h)
refused_unless_memory document kinds.Vars e h = (faults.Vars, h)
refused_unless_memory document kinds.Predicates e h = (faults.Predicates, h)
refused_unless_memory document kinds.Width e h = (faults.Width, h)
refused_unless_memory document (kinds.Predicate number error) e h = go _ h
  where
    go : (o : Option PredicateFault)
        → MatchOption o ⊥ (λ fault. IsRefusedDocument document (faults.InPredicate number fault error.at))
        → (refused : DocumentFault) × IsRefusedDocument document refused
    go None h = absurd h
    go (Some fault) h = (faults.InPredicate number fault error.at, h)
refused_unless_memory document kinds.Version e h = (faults.OtherVersion, h)
refused_unless_memory document kinds.Memory e h = cc

-- ---- which predicates are there

-- a condition without a name has none to look up
none_named : (names : List (List ℕ)) (name : Option (List ℕ)) (others known : Option (List ℕ))
    → (if lacks_name [] name then name else others) ≡ None
    → (others ≡ None → known ≡ None) → (if lacks_name names name then name else known) ≡ None
none_named names None others known none go = go none
none_named names (Some name) others known none go = absurd (cc)

pub names_none : (names : List (List ℕ)) (conditions : List Condition) → unknown_name [] conditions ≡ None
    → unknown_name names conditions ≡ None
names_none names [] none = refl
names_none names (condition ∷ conditions) none =
    none_named names condition.name (unknown_name [] conditions) (unknown_name names conditions) none
    (names_none names conditions)

pub has_of_none : (fail_on : List Condition) (inquiry : Inquiry) → is_some (unknown_name [] fail_on) ≡ false
    → HasNamed fail_on inquiry
has_of_none fail_on inquiry none = λ document is. names_none (names_of document.predicates) fail_on (go _ none)
  where
    go : (name : Option (List ℕ)) → is_some name ≡ false → name ≡ None
    go None e = refl
    go (Some name) e = absurd (cc)

-- what is found is a name as it is seen
pub none_found : (found : Option (Bor (List ℕ))) (name : Option (List ℕ)) → name_view found ≡ name
    → is_some found ≡ false → name ≡ None
none_found None name is none = sym is
none_found (Some bytes) name is none = absurd (cc)

pub some_found : (found : Option (Bor (List ℕ))) (name : Option (List ℕ)) → name_view found ≡ name
    → is_some found ≡ true → name ≢ None
some_found None name is some = absurd (cc)
some_found (Some bytes) name is some = λ none. let clash : Some bytes.now ≡ None = is ∙ none in cc

-- a document that is read is the one that there is
pub has_of_read : (fail_on : List Condition) (inquiry : Inquiry) (read : Document) → OneDocument
    → IsDocument inquiry read → unknown_name (names_of read.predicates) fail_on ≡ None → HasNamed fail_on inquiry
has_of_read fail_on inquiry read one is known = λ document other.
    subst (λ (d : Document). unknown_name (names_of d.predicates) fail_on ≡ None) (one inquiry read document is other)
    known

-- a document that is refused has no predicates to look up
pub has_of_refused : (fail_on : List Condition) (inquiry : Inquiry) (fault : DocumentFault) → DocumentNotRefused
    → IsRefusedDocument inquiry fault → HasNamed fail_on inquiry
has_of_refused fail_on inquiry fault not_refused refused = λ document is.
    absurd (not_refused inquiry document fault is refused)

-- ---- what is left

-- what is left if all are there, where P says of no run that one isn't
pub with_named : (fail_on : List Condition) (P : Inquiry → Ending → (old new : Option (List ℕ)) → Type 0)
    (inquiry : Inquiry) (old new : Option (List ℕ)) → HasNamed fail_on inquiry
    → (P inquiry NoPredicate old new → ⊥) → (ending : Ending) → ReadLeaves (P inquiry) ending old new
    → ReadLeaves (OfNamed fail_on P inquiry) ending old new
with_named fail_on P inquiry old new has never Success left = (has, left)
with_named fail_on P inquiry old new has never Negative left = (has, left)
with_named fail_on P inquiry old new has never Alarm left = (has, left)
with_named fail_on P inquiry old new has never NoPredicate left = absurd (never left)
with_named fail_on P inquiry old new has never Misuse left = (has, left)
with_named fail_on P inquiry old new has never (Failed MemoryFailure) left = left
with_named fail_on P inquiry old new has never (Failed ReadFailure) left = left
with_named fail_on P inquiry old new has never (Failed WriteFailure) left = (has, left)
with_named fail_on P inquiry old new has never (Failed BundleFailure) left = (has, left)
with_named fail_on P inquiry old new has never (Failed NetworkFailure) left = (has, left)

-- the document of a file has the predicates of the one that was read of it
module _ (fail_on : List Condition) (options : Options) (read document : List ℕ)
    (P Q : Inquiry → Ending → (old new : Option (List ℕ)) → Type 0) (old new : Option (List ℕ))
    (same : SameOutline options read document)
    (go : (ending : Ending) → P (inquiry_of options read) ending old new
    → Q (inquiry_of options document) ending old new) where
  has_same : HasNamed fail_on (inquiry_of options read) → HasNamed fail_on (inquiry_of options document)
  has_same has = λ other is. has other (same_document options document read other (λ limit. sym (same limit)) is)

  pub named_of_file : (ending : Ending) → OfNamed fail_on P (inquiry_of options read) ending old new
      → OfNamed fail_on Q (inquiry_of options document) ending old new
  named_of_file Success left = (has_same left.0, go Success left.1)
  named_of_file Negative left = (has_same left.0, go Negative left.1)
  named_of_file Alarm left = (has_same left.0, go Alarm left.1)
  named_of_file NoPredicate left =
      ((left.0.0, same_document options read document left.0.0 same left.0.1, left.0.2), left.1)
  named_of_file Misuse left = (has_same left.0, go Misuse left.1)
  named_of_file (Failed MemoryFailure) left = (has_same left.0, go (Failed MemoryFailure) left.1)
  named_of_file (Failed ReadFailure) left = (has_same left.0, go (Failed ReadFailure) left.1)
  named_of_file (Failed WriteFailure) left = (has_same left.0, go (Failed WriteFailure) left.1)
  named_of_file (Failed BundleFailure) left = (has_same left.0, go (Failed BundleFailure) left.1)
  named_of_file (Failed NetworkFailure) left = (has_same left.0, go (Failed NetworkFailure) left.1)
