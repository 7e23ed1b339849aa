-- The wishes, the notes and the pattern.
use Rattle.std.proofs.Common.{◌∙◌, Bor, List, ℕ, ap, map, refl, subst, sym}
use Rattle.std.specs.List.{AllZip}
use Rattle.std.specs.Prelude.{All, string_bytes}
use Rattle.app_host.specs.FileSources.{bytes_in}
use Rattle.app_host.proofs.UnreadFiles.{same_fault}
use Rattle.judge_runs.specs.Views.{wish_view}
use Rattle.judge_runs.specs.declared.wish.Wish.{Wish}
use Rattle.judge_session.specs.declared.fault.EngineFault.TheVariants.{Read}
use Rattle.app_explore.specs.Explorations.{IsNoteOf, IsNotesFile, shown_wish}
use Rattle.app_explore.proofs.NotesRead.{all_notes, shown_each}
use Rattle.app_explore.proofs.page_extras.extras_of.Goals as goal

pub returns-clause-extras : goal.returns-clause-extras
returns-clause-extras g c =
    let bytes_of = bytes_in (g.Y.Files.FileSource.file_of c.args.world.now.files.now) in
    record {
      wishes = c.in_ok-wishes.ensures
          ∙ ap (λ (wishes : List Wish). map (λ (wish : Wish). shown_wish (wish_view wish)) wishes)
          c.deref-2.ensures.value
          ∙ shown_each c.args.page.now.wishes.items;
      notes = subst (λ (names : List (Bor (List ℕ))). AllZip (IsNoteOf bytes_of)
          (map (λ (name : Bor (List ℕ)). name.now) names) (map string_bytes c.in_ok-notes.notes.items))
          c.deref.ensures.value c.in_ok-notes.ensures.notes;
      link = refl;
    }

pub returns-in_err-notes-clause-unread : goal.returns-in_err-notes-clause-unread
returns-in_err-notes-clause-unread g c reported = λ all.
    let files = g.Y.Files.FileSource.file_of c.args.world.now.files.now in
    c.in_err-notes.ensures.sure
    (subst (λ (names : List (Bor (List ℕ))). All (λ (name : Bor (List ℕ)). IsNotesFile (files name.now)) names)
    (sym c.deref.ensures.value) (all_notes files (λ (name : Bor (List ℕ)). name.now) c.args.page.now.notes.items all))
    (same_fault c.from_residual.result c.in_err-notes.field-0.0 Read c.from_residual.ensures.1 reported)
