-- A report that is drawn by what readers have left is drawn by all that their files hold.
use Rattle.std.proofs.Common.{ℕ, List, Option, Ok, Err, inl, inr, true}
use Rattle.std.specs.Prelude.{Result}
use Rattle.std.specs.List.{AllZip}
use Rattle.def_format.specs.Documents.{Options, inquiry_of}
use Rattle.def_judgement.specs.Writes.{Source, Whole}
use Rattle.def_judgement.proofs.Writing.{writes_weaker}
use Rattle.out_picture.specs.Scopes.{Scope}
use Rattle.judge_draw.specs.Drawings.{IsAnyTextOf, IsCycleTextOf, IsDrawingTextOf, LacksKind, LacksPredicate}
use Rattle.judge_draw.specs.declared.drawings.DrawOutcome.{DrawOutcome}
use Rattle.judge_draw.specs.declared.drawings.DrawOutcome.TheVariants.{Written, CycleWritten, Refused, NoPredicate, NoEvidence}
use Rattle.judge_session.specs.declared.fault.EngineFault.{EngineFault}
use Rattle.judge_session.specs.declared.fault.EngineFault.TheVariants.{Memory, Write, Read, BundleLong}
use Rattle.app_draw.specs.Drawings.{DrawsDue, DrawsReport, IsNoticeOf, IsUndrawn}
use Rattle.app_host.specs.FileSources.{Knows, SameOutline}
use Rattle.app_host.proofs.DocumentPrefixes.{same_document, same_finding, same_session}
use Rattle.app_host.proofs.FilesRead.{given_as_files, report_text_of_files, up_to_weaker}

module _ (options : Options) (read document report : List ℕ) (files lefts : List Source) (scope : Scope)
    (same : SameOutline options read document) (are : AllZip Knows files lefts) where
  drawing_of_files : (text : List ℕ) → IsDrawingTextOf (inquiry_of options read) report lefts scope true text
      → IsDrawingTextOf (inquiry_of options document) report files scope true text
  drawing_of_files text h =
      let is = h.is_picture in record {
        picture = h.picture;
        is_picture = record {
          streams = is.streams;
          are_given = given_as_files files lefts is.streams are is.are_given;
          document = is.document;
          traces = is.traces;
          messages = is.messages;
          held = same_session options read document is.streams is.document is.traces is.messages same is.held;
          pairs = is.pairs;
          are_pairs = is.are_pairs;
          claimed = is.claimed;
          read = is.read;
          drawn = is.drawn;
        };
        has_text = h.has_text;
      }

  cycle_of_files : (text : List ℕ) → IsCycleTextOf (inquiry_of options read) report lefts scope.extent true text
      → IsCycleTextOf (inquiry_of options document) report files scope.extent true text
  cycle_of_files text h =
      let is = h.is_picture in record {
        picture = h.picture;
        is_picture = record {
          streams = is.streams;
          are_given = given_as_files files lefts is.streams are is.are_given;
          document = is.document;
          is_document = same_document options read document is.document same is.is_document;
          results = is.results;
          are_results = is.are_results;
          traces = is.traces;
          joined = is.joined;
          claimed = is.claimed;
          read = is.read;
          draws = is.draws;
        };
        has_text = h.has_text;
      }

  any_of_files : (text : List ℕ) → IsAnyTextOf (inquiry_of options read) report lefts scope true text
      → IsAnyTextOf (inquiry_of options document) report files scope true text
  any_of_files text (inl h) = inl (drawing_of_files text h)
  any_of_files text (inr h) = inr (cycle_of_files text h)

  notice_of_files : (notice : List ℕ) → IsNoticeOf (inquiry_of options read) report lefts scope notice
      → IsNoticeOf (inquiry_of options document) report files scope notice
  notice_of_files notice h =
      let is = h.is_against.is_against in record {
        found = h.found;
        is_against = record {
          finding = h.is_against.finding;
          is_against = record {
            streams = is.streams;
            are_given = given_as_files files lefts is.streams are is.are_given;
            right = same_finding options read document report is.streams h.is_against.finding same is.right;
            stands = is.stands;
            undrawn = is.undrawn;
          };
          is_text = h.is_against.is_text;
        };
        is_notice = h.is_notice;
      }

  lack_of_files : LacksPredicate (inquiry_of options read) report lefts scope
      → LacksPredicate (inquiry_of options document) report files scope
  lack_of_files h = record {
    streams = h.streams;
    are_given = given_as_files files lefts h.streams are h.are_given;
    checked = h.checked;
    right = same_finding options read document report h.streams _ same h.right;
    is_unknown = h.is_unknown;
  }

  kind_of_files : LacksKind (inquiry_of options read) report lefts scope
      → LacksKind (inquiry_of options document) report files scope
  kind_of_files h = record {
    streams = h.streams;
    are_given = given_as_files files lefts h.streams are h.are_given;
    checked = h.checked;
    right = same_finding options read document report h.streams _ same h.right;
    is_lacking = h.is_lacking;
  }

module _ (options : Options) (read document report : List ℕ) (files lefts : List Source) (scope : Scope)
    (old new : Option (List ℕ)) (same : SameOutline options read document) (are : AllZip Knows files lefts) where
  -- a report that is drawn by what the readers have left is drawn by the files
  pub report_of_files : (result : Result DrawOutcome EngineFault)
      → DrawsReport report lefts scope (inquiry_of options read) result old new
      → DrawsReport report files scope (inquiry_of options document) result old new
  report_of_files (Ok Written) left =
      writes_weaker _ _ Whole old new (drawing_of_files options read document report files lefts scope same are) left
  report_of_files (Ok CycleWritten) left =
      writes_weaker _ _ Whole old new (cycle_of_files options read document report files lefts scope same are) left
  report_of_files (Ok (Refused notice)) left =
      (notice_of_files options read document report files lefts scope same are notice.items left.0, left.1)
  report_of_files (Ok NoPredicate) left =
      (lack_of_files options read document report files lefts scope same are left.0, left.1)
  report_of_files (Ok NoEvidence) left =
      (kind_of_files options read document report files lefts scope same are left.0, left.1)
  report_of_files (Err Memory) left = left
  report_of_files (Err Read) left = left
  report_of_files (Err Write) left =
      up_to_weaker _ _ old new (any_of_files options read document report files lefts scope same are) left
  report_of_files (Err BundleLong) left = left

  -- so is the report that is due
  pub due_of_files : (result : Result DrawOutcome EngineFault)
      → DrawsDue report lefts scope (inquiry_of options read) result old new
      → DrawsDue report files scope (inquiry_of options document) result old new
  due_of_files result (inl (undrawn, refused, keeps)) = inl (
    report_text_of_files options read document files lefts IsUndrawn report same are undrawn,
    refused,
    keeps,
  )
  due_of_files result (inr drawn) = inr (report_of_files result drawn)
