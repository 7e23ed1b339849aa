-- Nothing is left written if there is no document, a file can't be opened or read, or memory runs out.
use Rattle.std.proofs.Common.{◌≡◌, ◌<◌, ◌⊎◌, ℕ, List, length, map, Option, None, Some, Ok, Err, refl, ap, subst, ◌∙◌, inl, inr, arith, true, false}
use Rattle.std.proofs.lemmas.List.{get_or-map, length-map}
use Rattle.std.specs.Prelude.{⊤, All, IfOk, IsOkUnless, MatchOption, Result}
use Rattle.std.specs.List.{AllZip}
use Rattle.app_arguments.specs.Statuses.{File}
use Rattle.app_host.proofs.UnreadFiles.{keeps_same}
use Rattle.judge_infer.specs.DocumentParts.{document_of, fault_words, worded_document}
use Rattle.judge_infer.specs.DocumentParts as documents
use Rattle.judge_infer.specs.Streams.{Process}
use Rattle.judge_infer.proofs.DocumentSteps.{document_same}
use Rattle.judge_session.specs.declared.fault.EngineFault.{EngineFault}
use Rattle.judge_session.specs.declared.fault.EngineFault.TheVariants.{BundleLong, Memory, Read, Write}
use Rattle.app_infer.specs.Inferences.{InferLeaves, IsRefusedFor, of_all, refused_line}
use Rattle.app_infer.specs.Outcomes.{IsSaidIn, refused_notice}
use Rattle.app_infer.specs.declared.outcome.InferOutcome.{InferOutcome}
use Rattle.app_infer.specs.declared.outcome.InferOutcome.TheVariants.{Refused, Written}

module _ (files : List ℕ → File) (names : List (List ℕ)) (old : Option (List ℕ)) where
  memory_left : (fault : EngineFault) → fault ≡ Memory → InferLeaves files names (Err fault) old old
  memory_left Memory is = keeps_same old
  memory_left Read is = absurd (cc)
  memory_left Write is = absurd (cc)
  memory_left BundleLong is = absurd (cc)

  -- there is no document for this reason, or memory ran out
  pub refused_left : (line : List ℕ) (result : Result InferOutcome EngineFault) → IsRefusedFor files names line
      → IfOk result (λ outcome. refused_notice outcome ≡ Some line) → IsOkUnless result Memory
      → InferLeaves files names result old old
  refused_left line (Ok Written) reason notice fault = absurd (cc)
  refused_left line (Ok (Refused place text)) reason notice fault =
      let same : line ≡ text.items = cc in (subst (IsRefusedFor files names) same reason, keeps_same old)
  refused_left line (Err f) reason notice fault = memory_left f fault

  -- streams that were read have no document together, or memory ran out
  pub none_left : (processes : List Process) (fault : Option documents.Fault) (result : Result InferOutcome EngineFault)
      → AllZip (IsSaidIn files) names processes → MatchOption fault ⊤ (λ f. document_of processes ≡ Err f)
      → IfOk result (λ outcome. MatchOption fault ⊥ (λ f. refused_notice outcome
      ≡ Some (refused_line (fault_words names f))))
      → IsOkUnless result Memory → InferLeaves files names result old old
  none_left processes None (Ok outcome) said due notice reported = absurd notice
  none_left processes None (Err f) said due notice reported = memory_left f reported
  none_left processes (Some f) result said due notice reported =
      refused_left (refused_line (fault_words names f)) result (of_all (fault_words names f) (record {
        processes = processes;
        said = said;
        is_due = document_same names processes ∙ ap (worded_document names) due;
      }) refl) notice reported

-- what holds of all files of these names
all_named : {N : Type 0} (P : File → Type 0) (files : List ℕ → File) (name_of : N → List ℕ) (names : List N)
    → All P (map files (map name_of names)) → All (λ name. P (files (name_of name))) names
all_named P files name_of names all i d lt =
    let here : i < length (map name_of names) = omega (arith, lt, length-map names name_of) in
    subst P
    (get_or-map files (map name_of names) i (name_of d) (files (name_of d)) here
    ∙ ap files (get_or-map name_of names i d (name_of d) lt))
    (all i (files (name_of d)) (omega (arith, here, length-map (map name_of names) files)))

-- a file can't be opened or read, or memory ran out
pub unread_left : {N : Type 0} (files : List ℕ → File) (name_of : N → List ℕ) (names : List N)
    (old : Option (List ℕ)) (fault : EngineFault) → (fault ≡ Memory) ⊎ (fault ≡ Read)
    → (All (λ name. (files (name_of name)).opens ≡ true) names
    → All (λ name. (files (name_of name)).source.fails ≡ Some false) names → fault ≡ Read → ⊥)
    → InferLeaves files (map name_of names) (Err fault) old old
unread_left files name_of names old Memory is sure = keeps_same old
unread_left files name_of names old Read is sure = (
  λ opened read. sure (all_named (λ (file : File). file.opens ≡ true) files name_of names opened)
      (all_named (λ (file : File). file.source.fails ≡ Some false) files name_of names read) refl,
  keeps_same old,
)
unread_left files name_of names old Write (inl is) sure = absurd (cc)
unread_left files name_of names old Write (inr is) sure = absurd (cc)
unread_left files name_of names old BundleLong (inl is) sure = absurd (cc)
unread_left files name_of names old BundleLong (inr is) sure = absurd (cc)
