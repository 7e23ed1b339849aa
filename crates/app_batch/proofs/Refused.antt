-- A document whose refusal is reported is refused; and what stands in a line.
use Rattle.std.proofs.Common.{◌≡◌, ℕ, List, subst}
use Rattle.std.specs.Prelude.{MatchOption, None, Option, Some}
use Rattle.def_format.specs.Documents.{DocumentFault, Inquiry, IsRefusedDocument}
use Rattle.def_format.specs.Documents as documents
use Rattle.def_format.specs.PredicateTexts.{PredicateFault}
use Rattle.def_format.specs.Names.{ProcessNames}
use Rattle.def_format.specs.Reports.{Refusal, Report}
use Rattle.out_lines.specs.Lines.{answer_data, line_text}
use Rattle.judge_session.specs.Refusals.{IsDocumentRefusal}
use Rattle.pd_pred.specs.Views.{predicate_fault_view}
use Rattle.pd_spec.specs.Views.{IsFaultOf}
use Rattle.pd_spec.specs.declared.fault.SpecFault.{SpecFault}
use Rattle.pd_spec.specs.declared.fault.SpecFault.TheVariants as faults

abbrev pub IsRefusedFor : Inquiry → Type 0
IsRefusedFor inquiry = (fault : DocumentFault) × IsRefusedDocument inquiry fault

in_predicate : (inquiry : Inquiry) (k at : ℕ) (fault : Option PredicateFault)
    → MatchOption fault ⊥ (λ f. IsRefusedDocument inquiry (documents.InPredicate k f at)) → IsRefusedFor inquiry
in_predicate inquiry k at None is = absurd is
in_predicate inquiry k at (Some fault) is = (documents.InPredicate k fault at, is)

pub refused_for : (inquiry : Inquiry) (fault : SpecFault) (refusal : Refusal) → IsFaultOf inquiry fault
    → IsDocumentRefusal fault refusal → IsRefusedFor inquiry
refused_for inquiry faults.Long refusal is reported = (documents.Long, is)
refused_for inquiry faults.Json refusal is reported = (documents.Json, is)
refused_for inquiry faults.Shape refusal is reported = (documents.Shape, is)
refused_for inquiry faults.Processes refusal is reported = (documents.Processes, is)
refused_for inquiry faults.Name refusal is reported = (documents.Name, is)
refused_for inquiry faults.NameTwice refusal is reported = (documents.NameTwice, is)
refused_for inquiry faults.Vars refusal is reported = (documents.Vars, is)
refused_for inquiry faults.Predicates refusal is reported = (documents.Predicates, is)
refused_for inquiry faults.Width refusal is reported = (documents.Width, is)
refused_for inquiry (faults.Predicate k error) refusal is reported =
    in_predicate inquiry k error.at (predicate_fault_view error.kind) is
refused_for inquiry faults.Version refusal is reported = (documents.OtherVersion, is)
refused_for inquiry faults.Memory refusal is reported = absurd reported

-- the line of what is the same
pub line_same : (text : List ℕ) (id due_id : Option (List ℕ)) (names due_names : List ProcessNames) (report : Report)
    (status due : ℕ) → id ≡ due_id → names ≡ due_names → status ≡ due
    → text ≡ line_text (answer_data id names report status)
    → text ≡ line_text (answer_data due_id due_names report due)
line_same text id due_id names due_names report status due same_id same_names same_status is =
    subst (λ (s : ℕ). text ≡ line_text (answer_data due_id due_names report s)) same_status
    (subst (λ (ns : List ProcessNames). text ≡ line_text (answer_data due_id ns report status)) same_names
    (subst (λ (i : Option (List ℕ)). text ≡ line_text (answer_data i names report status)) same_id is))
