-- The processes of the names so far.
use Rattle.std.proofs.Common.{List, ℕ, sym, ◌∙◌, subst}
use Rattle.pd_report.specs.Steps.{names_view}
use Rattle.judge_check.specs.Verdicts.{AreNamed}
use Rattle.judge_check.proofs.PathNames.{all_steps, no_path, one_more_named, process_at}
use Rattle.judge_check.proofs.evidence.path_of.Goals as goal

pub returns-in-None : goal.returns-in-None
returns-in-None c =
    let names = c.args.names.now in
    let i = c.loop-step.step-index in
    let here =
    process_at names c.parts.result.0.now c.in_ok-processes.processes.items c.parts.result.1.now c.args.reported.now i
    c.index.result.now c.parts.ensures.names c.in_ok-processes.ensures c.parts.ensures.places c.loop-step-test.true in
    no_path names c.args.reported.now i here.0 (sym here.1 ∙ (sym c.index.ensures ∙ c.in-None.is))

pub loop-step-preserved : goal.loop-step-preserved
loop-step-preserved c =
    let names = c.args.names.now in
    let i = c.loop-step.step-index in
    let here =
    process_at names c.parts.result.0.now c.in_ok-processes.processes.items c.parts.result.1.now c.args.reported.now i
    c.index.result.now c.parts.ensures.names c.in_ok-processes.ensures c.parts.ensures.places c.loop-step-test.true in
    rw c.in_ok-push-in-Some.ensures.items (one_more_named names c.args.reported.now i c.loop-step.path.items c.in-Some.p
    here.0 (sym here.1 ∙ (sym c.index.ensures ∙ c.in-Some.is)) c.loop-step.invariant)

pub returns : goal.returns
returns c =
    subst (λ (reported : List (List ℕ)). AreNamed c.args.names.now reported c.loop-step.path.items)
    (all_steps (names_view c.parts.result.0.now) c.parts.result.1.now c.args.reported.now c.loop-step.step-index
    c.parts.ensures.names c.loop-step-test.false) c.loop-step.invariant
