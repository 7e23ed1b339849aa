-- What is left if the report that is due of streams is drawn.
use Rattle.std.proofs.Common.{◌≡◌, ◌⊎◌, ℕ, List, Option, Ok, Err, refl, inl, inr}
use Rattle.std.specs.Prelude.{All, IfErr, Result}
use Rattle.std.specs.List.{AllZip}
use Rattle.std.specs.Io.KnownBytes.{Keeps}
use Rattle.def_format.specs.Documents.{Inquiry, Options, inquiry_of}
use Rattle.def_format.specs.Limits.{stream_byte_limit}
use Rattle.def_format.specs.Reports.{Report, report_text}
use Rattle.def_judgement.specs.Writes.{IsAnyReport, IsTextOfStreams, Source}
use Rattle.out_picture.specs.Scopes.{Scope}
use Rattle.judge_draw.specs.declared.drawings.DrawOutcome.{DrawOutcome}
use Rattle.judge_session.specs.declared.fault.EngineFault.{EngineFault}
use Rattle.judge_session.specs.declared.fault.EngineFault.TheVariants.{Memory, Write, Read, BundleLong}
use Rattle.pd_engine.specs.SessionReports.{IsTrueReportOfInputs}
use Rattle.app_host.specs.FileSources.{Knows}
use Rattle.app_draw.specs.Drawings.{DrawReadLeaves, DrawsDue, DrawsReport, IsSurelyRead, OfOwnDrawing}
use Rattle.app_draw.proofs.FilesDrawn.{own_of_files}

-- the text of a report that is due, of which this is said
pub due_text : (inquiry : Inquiry) (inputs : List Source) (report : Report) (IsSaid : Report → Type 0)
    → IsTrueReportOfInputs inquiry inputs report → IsSaid report
    → IsTextOfStreams inquiry inputs IsSaid (report_text report)
due_text inquiry inputs report IsSaid right said = record {
  streams = right.streams;
  are_given = right.are_given;
  is_report_text = record { report = report; right = right.right; truth = right.truth; said = said; is_text = refl };
}

-- a report that is drawn is drawn as the one that is due
pub drawn_due : (report : List ℕ) (inputs : List Source) (scope : Scope) (inquiry : Inquiry)
    (old new : Option (List ℕ)) (result : Result DrawOutcome EngineFault)
    → DrawReadLeaves (DrawsReport report inputs scope inquiry) result old new
    → DrawReadLeaves (DrawsDue report inputs scope inquiry) result old new
drawn_due report inputs scope inquiry old new (Ok outcome) left = inr left
drawn_due report inputs scope inquiry old new (Err Memory) left = left
drawn_due report inputs scope inquiry old new (Err Read) left = inr left
drawn_due report inputs scope inquiry old new (Err Write) left = inr left
drawn_due report inputs scope inquiry old new (Err BundleLong) left = inr left

-- the streams can't all be read
pub own_unread : (inputs : List Source) (scope : Scope) (inquiry : Inquiry) (old : Option (List ℕ))
    (fault : EngineFault) → Keeps old old → (fault ≡ Memory) ⊎ (fault ≡ Read)
    → (fault ≡ Read → ¬ All (IsSurelyRead stream_byte_limit) inputs)
    → DrawReadLeaves (OfOwnDrawing inputs scope inquiry) (Err fault) old old
own_unread inputs scope inquiry old Memory keeps is unread = keeps
own_unread inputs scope inquiry old Read keeps is unread = (unread refl, keeps)
own_unread inputs scope inquiry old Write keeps (inl is) unread = absurd (cc)
own_unread inputs scope inquiry old Write keeps (inr is) unread = absurd (cc)
own_unread inputs scope inquiry old BundleLong keeps (inl is) unread = absurd (cc)
own_unread inputs scope inquiry old BundleLong keeps (inr is) unread = absurd (cc)

module _ (options : Options) (document : List ℕ) (scope : Scope) (old new : Option (List ℕ))
    (lefts wholes : List Source) (are : AllZip Knows lefts wholes) (report : Report)
    (right : IsTrueReportOfInputs (inquiry_of options document) wholes report) where
  own_here : (result : Result DrawOutcome EngineFault)
      → DrawsDue (report_text report) wholes scope (inquiry_of options document) result old new
      → (result ≡ Err Read → ⊥)
      → OfOwnDrawing wholes scope (inquiry_of options document) result old new
  own_here (Ok outcome) left other = record {
    report = report_text report;
    is_due = due_text (inquiry_of options document) wholes report IsAnyReport right tt;
    drawn = left;
  }
  own_here (Err Memory) left other = record {
    report = report_text report;
    is_due = due_text (inquiry_of options document) wholes report IsAnyReport right tt;
    drawn = left;
  }
  own_here (Err Read) left other = absurd (other refl)
  own_here (Err Write) left other = record {
    report = report_text report;
    is_due = due_text (inquiry_of options document) wholes report IsAnyReport right tt;
    drawn = left;
  }
  own_here (Err BundleLong) left other = record {
    report = report_text report;
    is_due = due_text (inquiry_of options document) wholes report IsAnyReport right tt;
    drawn = left;
  }

  lifted : (result : Result DrawOutcome EngineFault) → (result ≡ Err Read → ⊥)
      → DrawsDue (report_text report) wholes scope (inquiry_of options document) result old new
      → OfOwnDrawing lefts scope (inquiry_of options document) result old new
  lifted result other left =
      own_of_files options document document scope old new (λ limit. refl) lefts wholes are result
      (own_here result left other)

  -- the report is drawn by the bytes that were read
  pub own_drawn : (result : Result DrawOutcome EngineFault)
      → DrawReadLeaves (DrawsDue (report_text report) wholes scope (inquiry_of options document)) result old new
      → IfErr result (λ fault. (fault ≡ Memory) ⊎ (fault ≡ Write))
      → DrawReadLeaves (OfOwnDrawing lefts scope (inquiry_of options document)) result old new
  own_drawn (Ok outcome) left is = lifted (Ok outcome) (λ e. cc) left
  own_drawn (Err Memory) left is = left
  own_drawn (Err Read) left (inl is) = absurd (cc)
  own_drawn (Err Read) left (inr is) = absurd (cc)
  own_drawn (Err Write) left is = lifted (Err Write) (λ e. cc) left
  own_drawn (Err BundleLong) left is = lifted (Err BundleLong) (λ e. cc) left
