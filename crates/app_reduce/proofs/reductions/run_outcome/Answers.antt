-- What the run has, and the session that is made of it.
use Rattle.std.proofs.Common.{◌∙◌, ap, length, refl, subst, sym}
use Rattle.def_judgement.specs.Judgements.{recorded_of}
use Rattle.judge_orders.specs.OrderViews.{HasOrder}
use Rattle.judge_orders.specs.declared.long_order.KeptRun.{KeptRun}
use Rattle.judge_session.specs.Inquiries.{inquiry_view}
use Rattle.pd_spec.specs.Views.{document_view}
use Rattle.app_reduce.proofs.RunsRead.{as_many_named, as_many_rows, has_counts, is_run, some_process, unmade}
use Rattle.app_reduce.proofs.reductions.run_outcome.Goals as goal

pub returns-in_default-clause-outcome : goal.returns-in_default-clause-outcome
returns-in_default-clause-outcome g c = λ streams traces are ran.
    unmade (inquiry_view c.args.inquiry) streams (document_view c.args.spec) traces are c.args.run ran
    (record { processes = c.processes.result; events = c.args.run.events; messages = c.args.run.messages })
    (c.processes.ensures ∙ ap length c.names.ensures) refl refl

pub returns-in-None-clause-outcome : goal.returns-in-None-clause-outcome
returns-in-None-clause-outcome g c = λ streams traces are ran.
    unmade (inquiry_view c.args.inquiry) streams (document_view c.args.spec) traces are c.args.run ran
    (record { processes = c.processes.result; events = c.args.run.events; messages = c.args.run.messages })
    (c.processes.ensures ∙ ap length c.names.ensures) refl refl

pub returns-in-Some-found-clause-outcome : goal.returns-in-Some-found-clause-outcome
returns-in-Some-found-clause-outcome g c = λ streams traces are ran.
    let inquiry = inquiry_view c.args.inquiry in
    let document = document_view c.args.spec in
    let found = rw c.in-Some-found.is at c.in_ok-found.ensures in
    let kept = rw c.in-Some.is at ran.has_kept in
    let order = subst (λ (kept : KeptRun). HasOrder document (recorded_of document traces) kept.order)
    (sym c.in-Some.kept-is) kept.order in record {
      document = document;
      recorded = recorded_of document traces;
      is_run = is_run inquiry streams document traces are ran.formed;
      counts = has_counts inquiry streams document traces are c.args.run ran
          (record { processes = c.processes.result; events = c.args.run.events; messages = c.args.run.messages })
          (c.processes.ensures ∙ ap length c.names.ensures) refl refl;
      reduction = found (recorded_of document traces) (some_process inquiry streams document traces are)
          (as_many_named inquiry streams document traces are) (as_many_rows inquiry streams document traces are) refl
          ran.formed.no_cycle order;
    }
