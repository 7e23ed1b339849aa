-- What is left written of streams that were read.
use Rattle.std.proofs.Common.{◌≡◌, ◌≤◌, ℕ, List, length, take, sym, subst, ap, ◌∙◌, Option, Ok, Err}
use Rattle.std.specs.Prelude.{IfOk, IsOkUnless, OnErr, OnOk, Result}
use Rattle.std.specs.Io.KnownBytes.{Appends}
use Rattle.std.specs.List.{AllZip}
use Rattle.app_arguments.specs.Statuses.{File}
use Rattle.app_host.proofs.FilesRead.{up_to_weaker}
use Rattle.app_host.proofs.WrittenSoFar.{up_to}
use Rattle.judge_infer.specs.DocumentParts.{document_of, worded_document}
use Rattle.judge_infer.specs.Streams.{Process}
use Rattle.judge_infer.proofs.DocumentSteps.{document_same}
use Rattle.judge_session.specs.declared.fault.EngineFault.{EngineFault}
use Rattle.judge_session.specs.declared.fault.EngineFault.TheVariants.{BundleLong, Memory, Read, Write}
use Rattle.app_infer.specs.Inferences.{InferLeaves, Infers}
use Rattle.app_infer.specs.Outcomes.{IsSaidIn}
use Rattle.app_infer.specs.declared.outcome.InferOutcome.{InferOutcome}
use Rattle.app_infer.specs.declared.outcome.InferOutcome.TheVariants.{Refused, Written}

module _ (files : List ℕ → File) (names : List (List ℕ)) (processes : List Process) (text : List ℕ)
    (said : AllZip (IsSaidIn files) names processes) (is_document : document_of processes ≡ Ok text)
    (old new : Option (List ℕ)) where
  document : Infers files names (Ok text)
  document = record {
    processes = processes;
    said = said;
    is_due = document_same names processes ∙ ap (worded_document names) is_document;
  }

  pub document_written : (result : Result InferOutcome EngineFault) → OnOk result (Appends old new text)
      → IfOk result (λ outcome. outcome ≡ Written)
      → OnErr result ((count : ℕ) × (count ≤ length text) × Appends old new (take count text))
      → IsOkUnless result Write → InferLeaves files names result old new
  document_written (Ok Written) whole is part fault = (text, document, whole)
  document_written (Ok (Refused place notice)) whole is part fault = absurd (cc)
  document_written (Err Write) whole is part fault =
      up_to_weaker (λ written. written ≡ text) (λ written. Infers files names (Ok written)) old new
      (λ written same. subst (λ (w : List ℕ). Infers files names (Ok w)) (sym same) document)
      (up_to text old new part.0 part.2)
  document_written (Err Memory) whole is part fault = absurd (cc)
  document_written (Err Read) whole is part fault = absurd (cc)
  document_written (Err BundleLong) whole is part fault = absurd (cc)
