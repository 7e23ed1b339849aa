-- All lines of the bytes.
use Rattle.std.proofs.Common.{◌≡◌, ◌∙◌, ◌++◌, List, [], ap}
use Rattle.std.proofs.lemmas.Result.{IfOk-weaker}
use Rattle.def_format.specs.Lines as formats
use Rattle.def_format.specs.Lines.{finished_lines, open_lines}
use Rattle.pd_frames.specs.Views.{lines_view}
use Rattle.judge_explore.specs.FileViews.{file_view}
use Rattle.judge_explore.specs.Sources.{file_of_lines, stream_file}
use Rattle.judge_explore.proofs.StreamFiles.{all_lines_seen}
use Rattle.judge_explore.proofs.stream_file.StreamFile.read.Goals as goal

pub returns : goal.returns
returns c =
    let name = c.args.name.now in
    let bytes = c.args.bytes.now in
    let fed = c.in_ok-fed.fed.lines.items in
    let ended = c.in_ok-ended.ended.lines.items in
    let batch = c.in_ok-fed.ensures.batch [] c.new-framer.ensures in
    let first : open_lines bytes ≡ lines_view fed = batch.new_lines in
    let last : finished_lines bytes ≡ open_lines bytes ++ lines_view ended =
    c.in_ok-ended.ensures.lines bytes (c.in_ok-fed.ensures.stands [] c.new-framer.ensures) in
    let whole : lines_view c.deref.result.now ≡ finished_lines bytes =
    all_lines_seen bytes c.deref.result.now fed ended (c.deref.ensures.value ∙ c.in_ok-append.ensures.items) first
    last in
    IfOk-weaker c.file_of_lines.result
    (λ file. file_view file ≡ file_of_lines name (lines_view c.deref.result.now))
    (λ file. file_view file ≡ stream_file name bytes)
    (λ file is. is ∙ ap (λ (lines : List formats.Line). file_of_lines name lines) whole) c.file_of_lines.ensures
