-- Some more runs are tested after each turn.
use Rattle.std.proofs.Common.{◌+◌, ◌∙◌, Bor, List, ℕ, ap, None, arith, drop, inl, length, refl, rules, subst}
use Rattle.std.proofs.lemmas.List.{drop_all, length-map}
use Rattle.app_arguments.specs.Views.{format_view, names_view}
use Rattle.app_results.specs.RunReports.{IsReportOf}
use Rattle.app_test.specs.TestedRuns.{AddsReports, lists_failing, wanted_by}
use Rattle.judge_runs.specs.Views.{wishes_view}
use Rattle.pd_spec.specs.Views.{options_view}
use Rattle.app_test.proofs.WrittenTests.{nothing_concluded}
use Rattle.app_results.proofs.TestsSoFar.{all_ended, begun, cut_off, gone_on, json_of_all, junit_of_all, left_off, names_next, of_file, of_output, of_reports, records_of_all, texts_of}
use Rattle.app_results.proofs.tested_runs.test_all.Goals as goal

pub loop-from-init : goal.loop-from-init
loop-from-init g c = record {
  tested = begun (g.Y.Files.FileSource.file_of c.args.world.now.files.now) (options_view c.args.test.now.options)
      (wishes_view c.args.test.now.wishes.items) (format_view c.args.test.now.format) (wanted_by c.args.test.now)
      (names_view c.args.test.now.runs.items) (g.O.Write.contents c.args.output.now) c.new-tested.result.records
      (c.new-tested.ensures.records (wishes_view c.args.test.now.wishes.items));
  sound = c.new-tested.ensures.orders (options_view c.args.test.now.options);
  within = omega arith;
}

pub loop-from-preserved : goal.loop-from-preserved
loop-from-preserved g c =
    let all = names_view c.args.test.now.runs.items in
    let runs = c.runs_from-runs.result.now in
    record {
      tested = gone_on (g.Y.Files.FileSource.file_of c.args.world.now.files.now) (options_view c.args.test.now.options)
          (wishes_view c.args.test.now.wishes.items) (format_view c.args.test.now.format) (wanted_by c.args.test.now)
          all (g.O.Write.contents c.args.output.now) (drop c.loop-from.from all) (names_view runs)
          (drop (c.loop-from.from + length runs) all)
          (names_next c.args.test.now.runs.items c.deref.result.now runs c.loop-from.from c.deref.ensures.value
          c.runs_from-runs.ensures.next)
          c.loop-from.tested.records (g.O.Write.contents c.loop-from.output) (lists_failing c.args.test.now)
          c.test_some.new.tested.records
          (record { tally = c.test_some.new.tested.records.tally; results = c.add_reports.new.results })
          (names_view c.in_ok-failing.failing.items) (g.O.Write.contents c.test_some.new.output)
          (of_reports c.args.test.now) c.loop-from.invariant.tested c.in_ok-failing.ensures.tested refl
          (subst (λ (names : List (Bor (List ℕ))). AddsReports
          (IsReportOf (g.Y.Files.FileSource.file_of c.args.world.now.files.now) (options_view c.args.test.now.options))
          (wanted_by c.args.test.now).json (names_view names) c.test_some.new.tested.records.results
          c.add_reports.new.results) c.deref-in-loop-from.ensures.value c.in_ok-add_reports.ensures.added);
      sound = c.in_ok-failing.ensures.sound;
      within = omega (arith, c.runs_from-runs.ensures.within, ap length c.deref.ensures.value);
    }

pub returns-in_err-failing : goal.returns-in_err-failing
returns-in_err-failing g c =
    let all = names_view c.args.test.now.runs.items in
    let runs = c.runs_from-runs.result.now in
    cut_off (g.Y.Files.FileSource.file_of c.args.world.now.files.now) (options_view c.args.test.now.options)
    (wishes_view c.args.test.now.wishes.items) (format_view c.args.test.now.format) (wanted_by c.args.test.now) all
    (g.O.Write.contents c.args.output.now) (drop c.loop-from.from all) (names_view runs)
    (drop (c.loop-from.from + length runs) all)
    (names_next c.args.test.now.runs.items c.deref.result.now runs c.loop-from.from c.deref.ensures.value
    c.runs_from-runs.ensures.next)
    c.loop-from.tested.records (g.O.Write.contents c.loop-from.output) (g.O.Write.contents c.test_some.new.output)
    c.loop-from.invariant.tested c.in_err-failing.ensures.left c.from_residual.result c.in_err-failing.field-0.0
    c.from_residual.ensures.1 c.in_err-failing.ensures.err

pub returns-in_err-add_reports : goal.returns-in_err-add_reports
returns-in_err-add_reports g c =
    let all = names_view c.args.test.now.runs.items in
    let runs = c.runs_from-runs.result.now in
    left_off (g.Y.Files.FileSource.file_of c.args.world.now.files.now) (options_view c.args.test.now.options)
    (wishes_view c.args.test.now.wishes.items) (format_view c.args.test.now.format) (wanted_by c.args.test.now) all
    (g.O.Write.contents c.args.output.now) (drop c.loop-from.from all) (names_view runs)
    (drop (c.loop-from.from + length runs) all)
    (names_next c.args.test.now.runs.items c.deref.result.now runs c.loop-from.from c.deref.ensures.value
    c.runs_from-runs.ensures.next)
    c.loop-from.tested.records (g.O.Write.contents c.loop-from.output) (lists_failing c.args.test.now)
    c.test_some.new.tested.records (names_view c.in_ok-failing.failing.items)
    (g.O.Write.contents c.test_some.new.output) c.loop-from.invariant.tested c.in_ok-failing.ensures.tested
    c.from_residual-in_err-add_reports.result c.in_err-add_reports.field-0.0
    c.from_residual-in_err-add_reports.ensures.1 (inl c.in_err-add_reports.ensures.err)

pub returns-in_err-add_pages : goal.returns-in_err-add_pages
returns-in_err-add_pages g c =
    let all = names_view c.args.test.now.runs.items in
    let runs = c.runs_from-runs.result.now in
    left_off (g.Y.Files.FileSource.file_of c.args.world.now.files.now) (options_view c.args.test.now.options)
    (wishes_view c.args.test.now.wishes.items) (format_view c.args.test.now.format) (wanted_by c.args.test.now) all
    (g.O.Write.contents c.args.output.now) (drop c.loop-from.from all) (names_view runs)
    (drop (c.loop-from.from + length runs) all)
    (names_next c.args.test.now.runs.items c.deref.result.now runs c.loop-from.from c.deref.ensures.value
    c.runs_from-runs.ensures.next)
    c.loop-from.tested.records (g.O.Write.contents c.loop-from.output) (lists_failing c.args.test.now)
    c.test_some.new.tested.records (names_view c.in_ok-failing.failing.items)
    (g.O.Write.contents c.test_some.new.output) c.loop-from.invariant.tested c.in_ok-failing.ensures.tested
    c.from_residual-in_err-add_pages.result c.in_err-add_pages.field-0.0 c.from_residual-in_err-add_pages.ensures.1
    (inl c.in_err-add_pages.ensures)

pub returns-in_err-texts : goal.returns-in_err-texts
returns-in_err-texts g c =
    all_ended (g.Y.Files.FileSource.file_of c.args.world.now.files.now) (options_view c.args.test.now.options)
    (wishes_view c.args.test.now.wishes.items) (format_view c.args.test.now.format) (wanted_by c.args.test.now)
    (names_view c.args.test.now.runs.items) (g.O.Write.contents c.args.output.now)
    (drop c.loop-from.from (names_view c.args.test.now.runs.items))
    (drop_all c.loop-from.from (names_view c.args.test.now.runs.items)
    (omega (
      arith,
      c.loop-from-test.false,
      c.len.ensures,
      c.args.test.now.runs.ok.0,
      length-map c.args.test.now.runs.items (λ name. name.now),
    )))
    c.loop-from.tested.records (g.O.Write.contents c.loop-from.output) c.loop-from.invariant.tested
    (g.O.Write.contents c.loop-from.output) None c.from_residual-in_err-texts.result
    (of_output c.args.test.now)
    (λ runs reports are. nothing_concluded (format_view c.args.test.now.format)
    (wishes_view c.args.test.now.wishes.items) runs reports None (g.O.Write.contents c.loop-from.output)
    c.from_residual-in_err-texts.result c.from_residual-in_err-texts.ensures.0)
    (search rules)

pub save_results-requires-clause-json : goal.save_results-requires-clause-json
save_results-requires-clause-json g c = λ _ _ is.
    json_of_all (g.Y.Files.FileSource.file_of c.args.world.now.files.now) (options_view c.args.test.now.options)
    (wishes_view c.args.test.now.wishes.items) (wanted_by c.args.test.now) (names_view c.args.test.now.runs.items)
    c.loop-from.tested.records c.counts.result c.count-different.result c.in_ok-texts.texts c.counts.ensures
    c.in_ok-texts.ensures
    (records_of_all (g.Y.Files.FileSource.file_of c.args.world.now.files.now) (options_view c.args.test.now.options)
    (wishes_view c.args.test.now.wishes.items) (format_view c.args.test.now.format) (wanted_by c.args.test.now)
    (names_view c.args.test.now.runs.items) (g.O.Write.contents c.args.output.now)
    (drop c.loop-from.from (names_view c.args.test.now.runs.items))
    (drop_all c.loop-from.from (names_view c.args.test.now.runs.items)
    (omega (
      arith,
      c.loop-from-test.false,
      c.len.ensures,
      c.args.test.now.runs.ok.0,
      length-map c.args.test.now.runs.items (λ name. name.now),
    )))
    c.loop-from.tested.records (g.O.Write.contents c.loop-from.output) c.loop-from.invariant.tested)
    (of_file c.args.test.now is)

pub save_results-requires-clause-junit : goal.save_results-requires-clause-junit
save_results-requires-clause-junit g c = λ _ _ is.
    junit_of_all (g.Y.Files.FileSource.file_of c.args.world.now.files.now) (options_view c.args.test.now.options)
    (wishes_view c.args.test.now.wishes.items) (wanted_by c.args.test.now) (names_view c.args.test.now.runs.items)
    c.loop-from.tested.records c.counts.result c.count-different.result c.in_ok-texts.texts c.counts.ensures
    c.in_ok-texts.ensures
    (records_of_all (g.Y.Files.FileSource.file_of c.args.world.now.files.now) (options_view c.args.test.now.options)
    (wishes_view c.args.test.now.wishes.items) (format_view c.args.test.now.format) (wanted_by c.args.test.now)
    (names_view c.args.test.now.runs.items) (g.O.Write.contents c.args.output.now)
    (drop c.loop-from.from (names_view c.args.test.now.runs.items))
    (drop_all c.loop-from.from (names_view c.args.test.now.runs.items)
    (omega (
      arith,
      c.loop-from-test.false,
      c.len.ensures,
      c.args.test.now.runs.ok.0,
      length-map c.args.test.now.runs.items (λ name. name.now),
    )))
    c.loop-from.tested.records (g.O.Write.contents c.loop-from.output) c.loop-from.invariant.tested)
    is

pub returns : goal.returns
returns g c =
    all_ended (g.Y.Files.FileSource.file_of c.args.world.now.files.now) (options_view c.args.test.now.options)
    (wishes_view c.args.test.now.wishes.items) (format_view c.args.test.now.format) (wanted_by c.args.test.now)
    (names_view c.args.test.now.runs.items) (g.O.Write.contents c.args.output.now)
    (drop c.loop-from.from (names_view c.args.test.now.runs.items))
    (drop_all c.loop-from.from (names_view c.args.test.now.runs.items)
    (omega (
      arith,
      c.loop-from-test.false,
      c.len.ensures,
      c.args.test.now.runs.ok.0,
      length-map c.args.test.now.runs.items (λ name. name.now),
    )))
    c.loop-from.tested.records (g.O.Write.contents c.loop-from.output) c.loop-from.invariant.tested
    (g.O.Write.contents c.conclude.new.output) c.count-different.result c.conclude.result
    (of_output c.args.test.now)
    (λ runs reports are. c.conclude.ensures.end (wishes_view c.args.test.now.wishes.items) runs reports are.tally
    (λ is. c.deref-2.ensures.value
    ∙ (texts_of (g.Y.Files.FileSource.file_of c.args.world.now.files.now) (options_view c.args.test.now.options)
    (wishes_view c.args.test.now.wishes.items) (wanted_by c.args.test.now) (names_view c.args.test.now.runs.items)
    c.loop-from.tested.records c.counts.result c.count-different.result c.in_ok-texts.texts c.counts.ensures
    c.in_ok-texts.ensures runs reports are).json
    (of_output c.args.test.now is))) c.conclude.ensures.err
