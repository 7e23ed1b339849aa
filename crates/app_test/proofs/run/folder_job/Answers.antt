-- What comes of the bytes that were read comes of the file.
use Rattle.std.proofs.Common.{◌≡◌, ◌∷◌, [], ℕ, Err, List, ap, subst, string_bytes, ◌∙◌}
use Rattle.app_arguments.specs.Statuses.{MayBeUnread}
use Rattle.app_host.specs.FileSources.{IsReadOf}
use Rattle.judge_runs.specs.Views.{wishes_view}
use Rattle.pd_spec.specs.Views.{options_view}
use Rattle.app_test.specs.Tests.{document_in}
use Rattle.app_test.proofs.OutcomesOfRead.{jobs_of_read, unread_document}
use Rattle.app_test.proofs.run.folder_job.Goals as goal

pub returns-in-Ok-clause-job : goal.returns-in-Ok-clause-job
returns-in-Ok-clause-job g c =
    let files = g.Y.Files.FileSource.file_of c.args.world.now.files.now in
    let path : c.deref.result.now ≡ document_in c.args.folder.now = c.deref.ensures ∙ c.in_ok-path.ensures in
    let read : IsReadOf c.in-Ok.document.items (files (document_in c.args.folder.now)).source =
    subst (λ (p : List ℕ). IsReadOf c.in-Ok.document.items (files p).source) path c.in-Ok.ensures.read in
    jobs_of_read files (options_view c.args.options.now) (wishes_view c.args.wishes.now) c.args.folder.now
    c.in-Ok.document.items read (λ stream. g.Y.Files.File.ByteSource.left stream.source) c.read_job.result
    c.read_job.ensures.job

pub returns-clause-job : goal.returns-clause-job
returns-clause-job g c =
    let files = g.Y.Files.FileSource.file_of c.args.world.now.files.now in
    unread_document files (options_view c.args.options.now) (wishes_view c.args.wishes.now) c.args.folder.now
    (string_bytes c.in_ok-path.path) c.in-Err.fault c.in_ok-path.ensures
    (λ is. subst (λ (p : List ℕ). MayBeUnread (files p ∷ []) (files p ∷ [])) c.deref.ensures
    (c.in-Err.ensures.unread (ap Err is))) _ c.in_ok-outcome-in-Err.ensures.outcome
