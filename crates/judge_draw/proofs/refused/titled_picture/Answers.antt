-- The picture has this title.
use Rattle.std.proofs.Common.{ℕ, List, subst, ◌∙◌}
use Rattle.pd_clock.specs.Orders.{places_view}
use Rattle.pd_match.specs.Views.{pairs_view}
use Rattle.out_picture.specs.Cycles.{IsCyclePicture}
use Rattle.pd_spec.specs.Views.{document_view}
use Rattle.read_traces.specs.Views.{computation_view}
use Rattle.judge_draw.specs.Drawn.{process_names}
use Rattle.judge_draw.proofs.refused.titled_picture.Goals as goal

pub returns : goal.returns
returns c = record {
  cycle = places_view c.args.cycle.now;
  named = c.requires.named;
  is_picture = subst (λ (title : List ℕ). IsCyclePicture (computation_view c.args.traces.now)
      (pairs_view c.args.pairs.now) (process_names (document_view c.args.spec.now)) title
      (places_view c.args.cycle.now) c.args.extent c.in_ok-picture.picture.drawing)
      (c.deref.ensures ∙ c.in_ok-title.ensures) c.in_ok-picture.ensures;
}
