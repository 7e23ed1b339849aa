-- The page is that of the parts.
use Rattle.std.proofs.Common.{◌≡◌, ℕ, List, ap, arith, length, map, string_bytes, ◌∙◌}
use Rattle.std.specs.Global.{Global}
use Rattle.std.specs.Prelude.{String, Vec}
use Rattle.std.proofs.lemmas.List.{length-map}
use Rattle.def_judgement.specs.Writes.{whole_source}
use Rattle.judge_bundle_pages.specs.BundlePages.{files_of, stream_names}
use Rattle.judge_bundle_pages.specs.Parts.{bytes_of}
use Rattle.judge_bundle_pages.proofs.StreamFiles.{names_counted}
use Rattle.judge_bundle_pages.proofs.WholeParts.{page_of_explored, whole_sources}
use Rattle.judge_explore.specs.FileViews.{files_view}
use Rattle.judge_explore.specs.Forms.{form_view}
use Rattle.judge_explore.specs.declared.stream_file.StreamFile.{StreamFile}
use Rattle.pd_report.specs.Views.{report_view}
use Rattle.pd_spec.specs.Views.{options_view}
use Rattle.judge_bundle_pages.proofs.pages.parts_page.Goals as goal

pub stream_files-requires : goal.stream_files-requires
stream_files-requires g c =
    omega (
      arith,
      ap length c.deref.ensures.value,
      length-map c.in_ok-names.names.items string_bytes,
      ap length c.in_ok-names.ensures,
      names_counted c.args.name.now c.len.result,
      c.len.ensures,
      c.args.parts.now.streams.ok.0,
      ap length c.deref-2.ensures.value,
    )

pub returns-in-Ok : goal.returns-in-Ok
returns-in-Ok g c = λ input held.
    let streams = c.args.parts.now.streams.items in
    let name = c.args.name.now in
    let counted : c.len.result ≡ length (bytes_of streams) =
    omega (
      arith,
      c.len.ensures,
      c.args.parts.now.streams.ok.0,
      length-map streams (λ (stream : Vec ℕ Global). stream.items),
    ) in
    let named : map string_bytes c.deref.result.now ≡ stream_names name (length (bytes_of streams)) =
    ap (λ (names : List (String Global)). map string_bytes names) c.deref.ensures.value
    ∙ (c.in_ok-names.ensures ∙ ap (stream_names name) counted) in
    let are_files : files_view c.deref-5.result.now
    ≡ files_of (stream_names name (length (bytes_of streams))) (bytes_of streams) =
    ap (λ (files : List StreamFile). files_view files) c.deref-5.ensures.value
    ∙ (c.in_ok-files.ensures
    ∙ (ap (λ (names : List (List ℕ)). files_of names (bytes_of c.deref-2.result.now)) named
    ∙ ap (λ (some : List (Vec ℕ Global)). files_of (stream_names name (length (bytes_of streams))) (bytes_of some))
    c.deref-2.ensures.value)) in
    page_of_explored (options_view c.args.options.now) (form_view c.args.form) name c.args.parts.now input
    c.in-Ok.page.text.items held (report_view c.in-Ok.page.report) c.deref-4.result.now
    (files_view c.deref-5.result.now) (map (λ source. whole_source source.rest.now) c.in_ok-sources.sources.items)
    c.deref-4.ensures.value are_files
    (c.in_ok-sources.ensures
    ∙ (ap (λ (some : List (Vec ℕ Global)). map (λ (stream : Vec ℕ Global). whole_source stream.items) some)
    c.deref-3.ensures.value ∙ whole_sources streams)) c.in-Ok.ensures.page
