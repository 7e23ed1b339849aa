-- Round after round is answered.
use Rattle.std.proofs.Common.{Err, List, ap, arith, inl, refl, subst, sym}
use Rattle.app_arguments.specs.ConditionViews.{fail_on_view}
use Rattle.app_batch.specs.Rounds.{IsRound}
use Rattle.app_batch.proofs.Given.{none_given}
use Rattle.app_batch.proofs.Progress.{ended_by, left_cut, left_early, left_so_far, left_whole, more_answered, no_items, none_answered, nothing_left, why_unread, why_unwritten}
use Rattle.judge_session.specs.declared.fault.EngineFault.TheVariants.{Memory}
use Rattle.pd_spec.specs.Views.{options_view}
use Rattle.read_lines.specs.declared.line.Line.{Line}
use Rattle.app_batch.proofs.batch.batch_lines.Goals as goal

pub returns-in_err-lines : goal.returns-in_err-lines
returns-in_err-lines g c =
    let input = g.R.ByteSource.left c.args.input in
    let options = options_view c.args.asked.now.options.now in
    let fail_on = fail_on_view c.args.asked.now.fail_on.now in
    let in_bundles = c.args.asked.now.in_bundles in
    let old = g.O.Write.contents c.args.output.now in
    ended_by input options fail_on in_bundles old old c.from_residual.result Memory c.from_residual.ensures.1
    (left_early input options fail_on in_bundles Memory old old (inl refl)
    (nothing_left input options fail_on in_bundles old))

pub rounds-init : goal.rounds-init
rounds-init g c =
    let input = g.R.ByteSource.left c.args.input in
    let in_bundles = c.args.asked.now.in_bundles in
    none_answered input (options_view c.args.asked.now.options.now) (fail_on_view c.args.asked.now.fail_on.now)
    in_bundles c.in_ok-lines.lines c.nothing.result (g.O.Write.contents c.args.output.now)
    (none_given in_bundles input c.in_ok-lines.lines c.in_ok-lines.ensures) c.nothing.ensures

pub returns-in_err-round : goal.returns-in_err-round
returns-in_err-round g c =
    let input = g.R.ByteSource.left c.args.input in
    let options = options_view c.args.asked.now.options.now in
    let fail_on = fail_on_view c.args.asked.now.fail_on.now in
    let in_bundles = c.args.asked.now.in_bundles in
    let old = g.O.Write.contents c.args.output.now in
    let new = g.O.Write.contents c.rounds.output in
    let fault = c.in_err-round.field-0.0 in
    let so_far = c.rounds.invariant in
    ended_by input options fail_on in_bundles old new c.from_residual-in_err-round.result fault
    c.from_residual-in_err-round.ensures.1
    (left_early input options fail_on in_bundles fault old new
    (why_unread in_bundles input so_far.given fault c.in_err-round.ensures.err
    (λ is. c.in_err-round.ensures.cause (ap Err is) input so_far.given so_far.has_entries))
    (left_so_far input options fail_on in_bundles c.rounds.lines c.rounds.progress.number c.rounds.progress.found old
    new so_far))

pub returns-then-len-eq0 : goal.returns-then-len-eq0
returns-then-len-eq0 g c =
    let input = g.R.ByteSource.left c.args.input in
    let options = options_view c.args.asked.now.options.now in
    let fail_on = fail_on_view c.args.asked.now.fail_on.now in
    let in_bundles = c.args.asked.now.in_bundles in
    let so_far = c.rounds.invariant in
    left_whole input options fail_on in_bundles c.conclusion.result c.rounds.lines c.read_round.new.lines
    c.rounds.progress.number c.rounds.progress.found (g.O.Write.contents c.args.output.now)
    (g.O.Write.contents c.rounds.output) c.in_ok-round.round.items so_far
    (no_items c.in_ok-round.round.items (omega arith))
    (c.in_ok-round.ensures.round input so_far.given so_far.has_entries) c.conclusion.ensures

pub returns-in_err-progress : goal.returns-in_err-progress
returns-in_err-progress g c =
    let input = g.R.ByteSource.left c.args.input in
    let options = options_view c.args.asked.now.options.now in
    let fail_on = fail_on_view c.args.asked.now.fail_on.now in
    let in_bundles = c.args.asked.now.in_bundles in
    let old = g.O.Write.contents c.args.output.now in
    let middle = g.O.Write.contents c.rounds.output in
    let new = g.O.Write.contents c.write_round.new.output in
    let fault = c.in_err-progress.field-0.0 in
    let so_far = c.rounds.invariant in
    let is = subst (λ (round : List Line). IsRound in_bundles round input so_far.given c.read_round.new.lines)
    (sym c.deref.ensures.value) (c.in_ok-round.ensures.round input so_far.given so_far.has_entries) in
    ended_by input options fail_on in_bundles old new c.from_residual-in_err-progress.result fault
    c.from_residual-in_err-progress.ensures.1
    (left_early input options fail_on in_bundles fault old new (why_unwritten input fault c.in_err-progress.ensures.err)
    (left_cut input options fail_on in_bundles c.rounds.lines c.read_round.new.lines c.rounds.progress.number
    c.rounds.progress.found old middle new c.deref.result.now so_far is c.in_err-progress.ensures.left))

pub rounds-preserved : goal.rounds-preserved
rounds-preserved g c =
    let input = g.R.ByteSource.left c.args.input in
    let options = options_view c.args.asked.now.options.now in
    let fail_on = fail_on_view c.args.asked.now.fail_on.now in
    let in_bundles = c.args.asked.now.in_bundles in
    let so_far = c.rounds.invariant in
    let is = subst (λ (round : List Line). IsRound in_bundles round input so_far.given c.read_round.new.lines)
    (sym c.deref.ensures.value) (c.in_ok-round.ensures.round input so_far.given so_far.has_entries) in
    more_answered input options fail_on in_bundles c.rounds.lines c.read_round.new.lines c.rounds.progress.number
    c.in_ok-progress.progress.number c.rounds.progress.found c.in_ok-progress.progress.found
    (g.O.Write.contents c.args.output.now) (g.O.Write.contents c.rounds.output)
    (g.O.Write.contents c.write_round.new.output) c.deref.result.now so_far is c.in_ok-progress.ensures.written

pub returns : goal.returns
returns g c =
    let input = g.R.ByteSource.left c.args.input in
    let options = options_view c.args.asked.now.options.now in
    let fail_on = fail_on_view c.args.asked.now.fail_on.now in
    let in_bundles = c.args.asked.now.in_bundles in
    left_so_far input options fail_on in_bundles c.rounds.lines c.rounds.progress.number c.rounds.progress.found
    (g.O.Write.contents c.args.output.now) (g.O.Write.contents c.rounds.output) c.rounds.invariant
