-- The page has what is asked beside the run.
use Rattle.std.proofs.Common.{List, ap, refl, subst, ◌∙◌}
use Rattle.app_arguments.specs.Statuses.{PageOptions}
use Rattle.app_host.specs.FileSources.{bytes_in}
use Rattle.judge_runs.specs.Views.{wishes_view}
use Rattle.judge_runs.specs.declared.wish.Wish.{Wish}
use Rattle.out_page.specs.Views.{extras_view}
use Rattle.app_explore.specs.Explorations.{AreExtras, AskedPage}
use Rattle.app_results.specs.RunPages.{page_of_wishes}
use Rattle.app_results.proofs.run_page.run_page.Goals as goal

pub returns : goal.returns
returns g c =
    let files = g.Y.Files.FileSource.file_of c.args.world.now.files.now in
    let page = page_of_wishes (wishes_view c.args.test.now.wishes.items) in
    let extras = extras_view c.in_ok-extras.extras in
    let beside : AreExtras (bytes_in files) page extras =
    subst (λ (asked : PageOptions). AreExtras (bytes_in files) asked extras)
    (c.in_ok-asked.ensures
    ∙ ap (λ (wishes : List Wish). page_of_wishes (wishes_view wishes)) c.deref.ensures.value)
    c.in_ok-extras.ensures.extras in
    c.run_text.ensures.made (AskedPage page) (extras, beside, refl)
