-- The picture shows the run alone.
use Rattle.std.proofs.Common.{◌≡◌, List, ℕ, refl}
use Rattle.pd_gather.specs.Views.{traces_view}
use Rattle.pd_match.specs.Views.{pairs_view}
use Rattle.out_picture.specs.declared.evidence.Evidence.{Evidence}
use Rattle.out_picture.specs.declared.evidence.Evidence.TheVariants.{Absent}
use Rattle.pd_spec.specs.Views.{document_view}
use Rattle.judge_draw.specs.Exhibits.{ShowsNothing, run_title}
use Rattle.judge_draw.proofs.Pictured.{pictured}
use Rattle.judge_draw.proofs.drawn.draw_run.Goals as goal

pub returns : goal.returns
returns c =
    pictured (document_view c.args.run.now.spec.now) (traces_view c.args.run.now.traces.now)
    (pairs_view c.args.run.now.pairs.now) c.args.run.now.computation.now
    (λ (evidence : Evidence) (title : List ℕ). ShowsNothing evidence × (title ≡ run_title))
    c.run_picture.result Absent run_title c.args.extent c.requires.read.recorded (tt, refl) c.run_picture.ensures
