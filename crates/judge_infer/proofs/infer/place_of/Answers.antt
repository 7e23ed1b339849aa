-- The place of the process of this name, counted from 0.
use Rattle.std.proofs.Common.{◌∙◌, sym, map}
use Rattle.std.specs.Str.{bytes_eq}
use Rattle.pd_pred.proofs.Positions.{position-map}
use Rattle.judge_infer.specs.Streams.{Process}
use Rattle.judge_infer.specs.Views.{process_view}
use Rattle.judge_infer.proofs.infer.place_of.Goals as goal

pub returns : goal.returns
returns c =
    c.process_at.ensures
    ∙ (sym (position-map (λ (p : Process). bytes_eq p.name c.args.name.now) process_view c.args.processes.now)
    ∙ sym (position-map (λ other. bytes_eq other c.args.name.now) (λ (p : Process). p.name)
    (map process_view c.args.processes.now)))
