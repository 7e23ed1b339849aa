-- One more run is written after each turn.
use Rattle.std.proofs.Common.{arith, sym}
use Rattle.std.proofs.lemmas.List.{get_or-map, length-map}
use Rattle.app_arguments.specs.Views.{format_view, names_view}
use Rattle.judge_runs.specs.Views.{wishes_view}
use Rattle.app_test.proofs.RunLines.{begin, on_err, step, stop}
use Rattle.app_test.proofs.tests.put_runs.Goals as goal

pub loop-place-init : goal.loop-place-init
loop-place-init g c =
    rw c.new-failing.ensures.items
    (begin (format_view c.args.asked.now.format) (wishes_view c.args.asked.now.wishes.now)
    c.args.asked.now.lists_failing
    (names_view c.args.folders.now) c.args.found.now c.args.records.now (g.O.Write.contents c.args.output.now))

pub loop-place-preserved : goal.loop-place-preserved
loop-place-preserved g c =
    step (format_view c.args.asked.now.format) (wishes_view c.args.asked.now.wishes.now)
    c.args.asked.now.lists_failing (names_view c.args.folders.now) c.args.found.now
    c.loop-place.place (omega (arith, c.loop-place-test.true, length-map c.args.folders.now (λ name. name.now)))
    (omega (arith, c.loop-place-test.true, c.requires)) _ _
    (sym (get_or-map (λ name. name.now) c.args.folders.now c.loop-place.place _ _ c.loop-place-test.true))
    c.index-found-place.is c.args.records.now c.loop-place.records c.put_run.new.records
    (names_view c.loop-place.failing.items) (names_view c.put_run.new.failing.items)
    (g.O.Write.contents c.args.output.now) (g.O.Write.contents c.loop-place.output)
    (g.O.Write.contents c.put_run.new.output) c.loop-place.invariant c.in_ok-put_run.ensures.written

pub returns-in_err-put_run-clause-left : goal.returns-in_err-put_run-clause-left
returns-in_err-put_run-clause-left g c =
    on_err c.from_residual.result
    (stop (format_view c.args.asked.now.format) (wishes_view c.args.asked.now.wishes.now)
    c.args.asked.now.lists_failing (names_view c.args.folders.now) c.args.found.now
    c.loop-place.place (omega (arith, c.loop-place-test.true, length-map c.args.folders.now (λ name. name.now)))
    (omega (arith, c.loop-place-test.true, c.requires)) _ _
    (sym (get_or-map (λ name. name.now) c.args.folders.now c.loop-place.place _ _ c.loop-place-test.true))
    c.index-found-place.is c.args.records.now c.loop-place.records (names_view c.loop-place.failing.items)
    (g.O.Write.contents c.args.output.now) (g.O.Write.contents c.loop-place.output)
    (g.O.Write.contents c.put_run.new.output) c.loop-place.invariant c.in_err-put_run.ensures.left)
