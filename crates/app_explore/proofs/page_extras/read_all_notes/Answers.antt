-- One more file of notes after each turn.
use Rattle.std.proofs.Common.{Bor, List, ℕ, map, subst}
use Rattle.std.proofs.lemmas.List.{take_all}
use Rattle.std.specs.List.{AllZip}
use Rattle.std.specs.Prelude.{string_bytes}
use Rattle.app_host.specs.FileSources.{bytes_in}
use Rattle.app_explore.specs.Explorations.{IsNoteOf}
use Rattle.app_explore.proofs.NotesRead.{note_on}
use Rattle.app_explore.proofs.page_extras.read_all_notes.Goals as goal

pub loop-place-init : goal.loop-place-init
loop-place-init g c = rw c.new-notes.ensures.items tt

pub loop-place-preserved : goal.loop-place-preserved
loop-place-preserved g c =
    rw c.in_ok-push-in-Ok.ensures.items (note_on
    (bytes_in (g.Y.Files.FileSource.file_of c.args.world.now.files.now)) (λ (name : Bor (List ℕ)). name.now)
    string_bytes c.args.names.now c.loop-place.notes.items c.loop-place.place _ c.in-Ok.text
    c.loop-place-test.true c.loop-place.invariant c.in-Ok.ensures.notes)

pub returns-clause-notes : goal.returns-clause-notes
returns-clause-notes g c =
    let all = take_all c.loop-place.place c.args.names.now c.loop-place-test.false in
    subst (λ (names : List (Bor (List ℕ))). AllZip (IsNoteOf (bytes_in (g.Y.Files.FileSource.file_of
    c.args.world.now.files.now))) (map (λ (name : Bor (List ℕ)). name.now) names)
    (map string_bytes c.loop-place.notes.items)) all c.loop-place.invariant

pub returns-in-Err-clause-sure : goal.returns-in-Err-clause-sure
returns-in-Err-clause-sure g c all reported =
    c.in-Err.ensures.sure (all c.loop-place.place _ c.loop-place-test.true) (cc)
