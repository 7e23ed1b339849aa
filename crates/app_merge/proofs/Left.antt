-- What is left on the output of lines that are merged.
use Rattle.std.proofs.Common.{◌≡◌, ◌≤◌, ◌⊎◌, ℕ, List, length, take, Option, Ok, Err, refl, sym, ◌∙◌, ap, subst, inl, inr}
use Rattle.std.specs.Prelude.{IfOk, IsOkUnless, Result}
use Rattle.std.specs.Io.KnownBytes.{Appends}
use Rattle.app_host.proofs.FilesRead.{up_to_weaker}
use Rattle.app_host.proofs.UnreadFiles.{keeps_same}
use Rattle.app_host.proofs.WrittenSoFar.{up_to}
use Rattle.def_judgement.specs.Writes.{Source}
use Rattle.judge_session.specs.declared.fault.EngineFault.{EngineFault}
use Rattle.judge_session.specs.declared.fault.EngineFault.TheVariants.{BundleLong, Memory, Read, Write}
use Rattle.judge_summary.specs.Conclusions.{conclusion_of}
use Rattle.judge_summary.specs.Summaries.{Summary, summary_text}
use Rattle.judge_summary.specs.declared.conclusion.Conclusion.{Conclusion}
use Rattle.judge_summary.specs.declared.fault.LineFault.{LineFault}
use Rattle.app_merge.specs.Merges.{IsFaultyAt, IsSummaryOf, IsUnread, MergeLeaves, line_notice}
use Rattle.app_merge.specs.Steps.{IsRefusal}
use Rattle.app_merge.specs.Views.{wrong_view}
use Rattle.app_merge.specs.declared.outcome.MergeOutcome.{MergeOutcome}
use Rattle.app_merge.specs.declared.outcome.MergeOutcome.TheVariants.{Refused, Written}

-- the whole summary is written
pub written : (input : Source) (summary : Summary) (text : List ℕ) (conclusion : Conclusion)
    (old new : Option (List ℕ)) → IsSummaryOf input summary → text ≡ summary_text summary
    → conclusion ≡ conclusion_of summary → Appends old new text
    → MergeLeaves input (Ok (Written conclusion)) old new
written input summary text conclusion old new due is comes appends = (
  text,
  record { summary = summary; is_due = due; comes = comes; is_text = is },
  appends,
)

-- a part of it is, since the output fails
pub unwritten : (input : Source) (summary : Summary) (text : List ℕ) (fault : EngineFault)
    (old new : Option (List ℕ)) → IsSummaryOf input summary → text ≡ summary_text summary → fault ≡ Write
    → (count : ℕ) × (count ≤ length text) × Appends old new (take count text)
    → MergeLeaves input (Err fault) old new
unwritten input summary text Write old new due is fault part =
    up_to_weaker (λ written. written ≡ text) _ old new
    (λ written same. record { summary = summary; is_due = due; is_text = same ∙ is }) (up_to text old new part.0 part.2)
unwritten input summary text Memory old new due is fault part = absurd (cc)
unwritten input summary text Read old new due is fault part = absurd (cc)
unwritten input summary text BundleLong old new due is fault part = absurd (cc)

-- memory ran out
pub memory_left : (input : Source) (fault : EngineFault) (old : Option (List ℕ)) → fault ≡ Memory
    → MergeLeaves input (Err fault) old old
memory_left input Memory old is = keeps_same old
memory_left input Read old is = absurd (cc)
memory_left input Write old is = absurd (cc)
memory_left input BundleLong old is = absurd (cc)

-- a line is at fault
pub refused_left : (input : Source) (number : ℕ) (fault : LineFault) (result : Result MergeOutcome EngineFault)
    (old : Option (List ℕ)) → IsFaultyAt input number fault → IfOk result (IsRefusal number fault)
    → IsOkUnless result Memory → MergeLeaves input result old old
refused_left input number fault (Ok (Written conclusion)) old at notice fails = absurd notice
refused_left input number fault (Ok (Refused line wrong text)) old at notice fails =
    let here : IsFaultyAt input line fault = subst (λ (n : ℕ). IsFaultyAt input n fault) (sym notice.0) at in
    let words : text.items ≡ line_notice line (wrong_view wrong) =
    notice.2 ∙ ap (λ (n : ℕ). line_notice n fault) (sym notice.0) ∙ ap (line_notice line) (sym notice.1) in
    (subst (IsFaultyAt input line) (sym notice.1) here, words, keeps_same old)
refused_left input number fault (Err f) old at notice fails = memory_left input f old fails

-- the input can't be read, or memory ran out
pub unread_left : (input : Source) (fault : EngineFault) (old : Option (List ℕ))
    → (fault ≡ Memory) ⊎ (fault ≡ Read) → (fault ≡ Read → IsUnread input) → MergeLeaves input (Err fault) old old
unread_left input Memory old is cause = keeps_same old
unread_left input Read old is cause = (cause refl, keeps_same old)
unread_left input Write old (inl is) cause = absurd (cc)
unread_left input Write old (inr is) cause = absurd (cc)
unread_left input BundleLong old (inl is) cause = absurd (cc)
unread_left input BundleLong old (inr is) cause = absurd (cc)
