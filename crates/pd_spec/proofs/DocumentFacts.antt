-- The document of an inquiry, from what the steps of the reader say.
use Rattle.std.proofs.Common.{◌≡◌, ℕ, ◌<◌, ◌≤◌, List, Option, None, Some, Ok, Err, length, option_map, refl, sym, ap, ◌∙◌}
use Rattle.std.specs.Prelude.{MatchOption}
use Rattle.std.proofs.lemmas.Bool.{lt-ltb, le-ltb}
use Rattle.serde_json.specs.Data.{Data}
use Rattle.serde_json.specs.View.{view}
use Rattle.serde_json.specs.declared.value.Value.{Value}
use Rattle.def_format.specs.Documents.{Outline, Document, Inquiry, IsDocumentWithin, HasRefusedPredicate, Options, inquiry_json, inquiry_of, outline_of, outline_fault, outline_within, outline_of_json, checked_outline, names_of_outline, with_options}
use Rattle.def_format.specs.Limits.{document_byte_limit}
use Rattle.def_format.specs.Documents as faults
use Rattle.def_format.specs.Lists.{unless}
use Rattle.def_format.specs.PredicateTexts.{PredicateFault}
use Rattle.def_format.specs.Records.{json_value}
use Rattle.pd_pred.specs.Views.{predicate_fault_view}
use Rattle.pd_spec.specs.DocumentParts.{IsDocumentOf}
use Rattle.pd_spec.specs.Faults.{IsFaultFound}
use Rattle.pd_spec.specs.Predicates.{IsFaultAmong, IsLateFault, IsRefusedAmong}
use Rattle.pd_spec.specs.Views.{IsFaultWithin}
use Rattle.pd_spec.specs.declared.fault.SpecFault.{SpecFault}
use Rattle.pd_spec.specs.declared.fault.SpecFault.TheVariants as kinds

-- ---- the value of its bytes

pub no_value : (options : Options) (bytes : List ℕ) (found : Option Value) → option_map view found ≡ json_value bytes
    → found ≡ None → inquiry_json (inquiry_of options bytes) ≡ None
no_value options bytes found read none =
    ap (option_map (with_options options)) (sym read ∙ ap (option_map view) none)

-- the value that was read, after it was changed
pub changed_value : (options : Options) (bytes : List ℕ) (found : Option Value) (value : Value) (changed : Data)
    → option_map view found ≡ json_value bytes → found ≡ Some value → changed ≡ with_options options (view value)
    → inquiry_json (inquiry_of options bytes) ≡ Some changed
changed_value options bytes found value changed read is same =
    ap (option_map (with_options options)) (sym read ∙ ap (option_map view) is) ∙ ap Some (sym same)

-- ---- its outline, if it may have this many processes

module _ (limit : ℕ) where
  pub long_bytes : (inquiry : Inquiry) → document_byte_limit < length inquiry.bytes
      → outline_within limit inquiry ≡ Err faults.Long
  unfolding outline_within
  long_bytes inquiry long = rw (lt-ltb document_byte_limit (length inquiry.bytes) long) refl

  short_bytes : (inquiry : Inquiry) → length inquiry.bytes ≤ document_byte_limit
      → outline_within limit inquiry ≡ outline_of_json limit (inquiry_json inquiry)
  unfolding outline_within
  short_bytes inquiry short = rw (le-ltb document_byte_limit (length inquiry.bytes) short) refl

  pub no_json : (inquiry : Inquiry) → length inquiry.bytes ≤ document_byte_limit → inquiry_json inquiry ≡ None
      → outline_within limit inquiry ≡ Err faults.Json
  no_json inquiry short none = short_bytes inquiry short ∙ ap (outline_of_json limit) none

  pub no_shape : (inquiry : Inquiry) (value : Data) → length inquiry.bytes ≤ document_byte_limit
      → inquiry_json inquiry ≡ Some value → outline_of value ≡ None → outline_within limit inquiry ≡ Err faults.Shape
  no_shape inquiry value short is none =
      short_bytes inquiry short ∙ (ap (outline_of_json limit) is ∙ ap (checked_outline limit) none)

  with_shape : (inquiry : Inquiry) (value : Data) (outline : Outline) → length inquiry.bytes ≤ document_byte_limit
      → inquiry_json inquiry ≡ Some value → outline_of value ≡ Some outline
      → outline_within limit inquiry ≡ unless (outline_fault limit outline) outline
  with_shape inquiry value outline short is shape =
      short_bytes inquiry short ∙ (ap (outline_of_json limit) is ∙ ap (checked_outline limit) shape)

  pub sound_bytes : (inquiry : Inquiry) (value : Data) (outline : Outline) → length inquiry.bytes ≤ document_byte_limit
      → inquiry_json inquiry ≡ Some value → outline_of value ≡ Some outline → outline_fault limit outline ≡ None
      → outline_within limit inquiry ≡ Ok outline
  sound_bytes inquiry value outline short is shape none = with_shape inquiry value outline short is shape
      ∙ ap (λ fault. unless fault outline) none

  refused_with : (inquiry : Inquiry) (outline : Outline) (fault : faults.DocumentFault)
      → outline_within limit inquiry ≡ unless (outline_fault limit outline) outline
      → outline_fault limit outline ≡ Some fault → outline_within limit inquiry ≡ Err fault
  refused_with inquiry outline fault e reported = e ∙ ap (λ o. unless o outline) reported

  fault_found : (inquiry : Inquiry) (outline : Outline) (fault : SpecFault)
      → outline_within limit inquiry ≡ unless (outline_fault limit outline) outline
      → IsFaultFound fault (outline_fault limit outline) → IsFaultWithin limit inquiry fault
  fault_found inquiry outline kinds.Long e reported = refused_with inquiry outline faults.Long e reported
  fault_found inquiry outline kinds.Json e reported = refused_with inquiry outline faults.Json e reported
  fault_found inquiry outline kinds.Shape e reported = refused_with inquiry outline faults.Shape e reported
  fault_found inquiry outline kinds.Processes e reported = refused_with inquiry outline faults.Processes e reported
  fault_found inquiry outline kinds.Name e reported = refused_with inquiry outline faults.Name e reported
  fault_found inquiry outline kinds.NameTwice e reported = refused_with inquiry outline faults.NameTwice e reported
  fault_found inquiry outline kinds.Vars e reported = refused_with inquiry outline faults.Vars e reported
  fault_found inquiry outline kinds.Predicates e reported = refused_with inquiry outline faults.Predicates e reported
  fault_found inquiry outline kinds.Width e reported = refused_with inquiry outline faults.Width e reported
  fault_found inquiry outline (kinds.Predicate number error) e reported = cc
  fault_found inquiry outline kinds.Version e reported = cc
  fault_found inquiry outline kinds.Memory e reported = tt

  pub outline_fault_reported : (inquiry : Inquiry) (value : Data) (outline : Outline) (fault : SpecFault)
      → length inquiry.bytes ≤ document_byte_limit → inquiry_json inquiry ≡ Some value → outline_of value ≡ Some outline
      → IsFaultFound fault (outline_fault limit outline) → IsFaultWithin limit inquiry fault
  outline_fault_reported inquiry value outline fault short is shape reported =
      fault_found inquiry outline fault (with_shape inquiry value outline short is shape) reported

  predicate_fault : (inquiry : Inquiry) (outline : Outline) (fault : SpecFault)
      → outline_within limit inquiry ≡ Ok outline → IsFaultAmong (names_of_outline outline) outline.predicates fault
      → IsFaultWithin limit inquiry fault
  predicate_fault inquiry outline kinds.Memory sound reported = tt
  predicate_fault inquiry outline (kinds.Predicate number error) sound reported =
      go (predicate_fault_view error.kind) reported
    where
      go : (o : Option PredicateFault) → MatchOption o ⊥ (λ fault.
          IsRefusedAmong (names_of_outline outline) outline.predicates number fault error.at)
          → MatchOption o ⊥ (λ fault. HasRefusedPredicate limit inquiry number fault error.at)
      go None h = h
      go (Some fault) h =
          record {
            outline = outline;
            sound = sound;
            before = h.before;
            refused = h.refused;
            after = h.after;
            parts = h.parts;
            place = h.place;
            stands = h.stands;
            none_before = h.none_before;
          }
  predicate_fault inquiry outline _ sound reported = absurd reported

  pub late_fault : (inquiry : Inquiry) (outline : Outline) (fault : SpecFault)
      → outline_within limit inquiry ≡ Ok outline → IsLateFault outline fault → IsFaultWithin limit inquiry fault
  late_fault inquiry outline kinds.Version sound reported =
      record { outline = outline; sound = sound; spelled = reported.0; none = reported.1 }
  late_fault inquiry outline kinds.Memory sound reported = tt
  late_fault inquiry outline (kinds.Predicate number error) sound reported =
      predicate_fault inquiry outline (kinds.Predicate number error) sound reported
  late_fault inquiry outline _ sound reported = absurd reported

  pub document_of_inquiry : (inquiry : Inquiry) (outline : Outline) (document : Document)
      → outline_within limit inquiry ≡ Ok outline → IsDocumentOf outline inquiry.options.beyond_width document
      → IsDocumentWithin limit inquiry document
  document_of_inquiry inquiry outline document sound is =
      record {
        outline = outline;
        sound = sound;
        names = is.names;
        initial = is.initial;
        width = is.width;
        version = is.version;
        beyond_width = is.beyond_width;
        predicates =
            is.predicates;
      }
