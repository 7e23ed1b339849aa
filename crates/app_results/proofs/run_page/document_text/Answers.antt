-- What is made is that of the streams' files.
use Rattle.std.proofs.Common.{Bor, List, ℕ, ap, map, subst, sym, ◌∙◌}
use Rattle.std.specs.Global.{Global}
use Rattle.std.specs.Prelude.{String, string_bytes}
use Rattle.app_host.specs.FileSources.{bytes_in}
use Rattle.judge_explore.specs.FileViews.{files_view}
use Rattle.judge_explore.specs.Forms.{form_view}
use Rattle.judge_explore.specs.Sources.{AreFilesOf}
use Rattle.judge_explore.specs.declared.stream_file.StreamFile.{StreamFile as Used}
use Rattle.pd_report.specs.Views.{report_view}
use Rattle.pd_spec.specs.Views.{document_view, options_view}
use Rattle.app_results.proofs.PagesOfRuns.{made_of_streams}
use Rattle.app_results.proofs.run_page.document_text.Goals as goal

pub returns-in-Ok-explore : goal.returns-in-Ok-explore
returns-in-Ok-explore g c = λ asked is_form.
    let files = g.Y.Files.FileSource.file_of c.args.world.now.files.now in
    made_of_streams files asked c.args.folder.now (options_view c.args.test.now.options) c.args.document.now
    (document_view c.args.spec.now) c.requires (map (λ name. name.now) c.deref-3.result.now)
    (ap (λ (names : List (Bor (List ℕ))). map (λ (name : Bor (List ℕ)). name.now) names) c.deref-3.ensures.value
    ∙ (c.in_ok-names.ensures ∙ (ap (λ (names : List (String Global)). map string_bytes names) c.deref.ensures.value
    ∙ c.in_ok-files.ensures)))
    (map (λ stream. g.Y.Files.File.ByteSource.left stream.source) c.in-Ok.streams.items) c.in-Ok.ensures.known
    (form_view c.args.form) is_form (files_view c.deref-4.result.now)
    (subst (λ (used : List Used). AreFilesOf (bytes_in files) (map (λ name. name.now) c.deref-3.result.now)
    (files_view used)) (sym c.deref-4.ensures.value) c.in_ok-sources.ensures)
    (report_view c.in-Ok-explore.page.report) c.in-Ok-explore.page.text.items c.in-Ok-explore.ensures.page
