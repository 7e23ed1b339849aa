-- What holds of the round holds of each of its tasks.
use Rattle.std.proofs.Common.{◌≡◌, ◌*◌, ◌<◌, ◌≤◌, ℕ, get_or, refl, sym, subst}
use Rattle.std.proofs.lemmas.List.{get_or_default}
use Rattle.def_format.specs.Limits.{event_limit}
use Rattle.def_model.specs.Cuts.{total}
use Rattle.def_model.specs.Events.{event_count}
use Rattle.def_model.specs.Order.{HasNoCycle}
use Rattle.def_model.specs.Predicates.{Recorded}
use Rattle.walk_runs.specs.Levels.{IsWholeLevel}
use Rattle.walk.proofs.task.task_of.Goals as goal

pub threads_for-requires : goal.threads_for-requires
threads_for-requires g c =
    (c.of-skips.ensures c.args.round.now.tests.now c.index-round-i.result c.args.round.now.level.now
    c.requires.round.skipped c.requires.within).few

pub returns : goal.returns
returns g c =
    let recorded : (get_or c.args.round.now.tests.now c.args.i c.index-round-i.result).recorded
    ≡ c.args.round.now.computation.now =
    c.requires.round.tests_for c.args.i c.index-round-i.result c.requires.within in
    record {
      sound = record {
        acyclic = subst (λ (r : Recorded). HasNoCycle r.events) (sym recorded) c.limits.ensures.acyclic;
        short = subst (λ (r : Recorded). (p : ℕ) → event_count r.events p ≤ event_limit) (sym recorded)
            c.limits.ensures.short;
        whole = subst (λ (r : Recorded). IsWholeLevel r.events c.args.round.now.level.now) (sym recorded)
            c.requires.round.whole;
        within = subst (λ (r : Recorded). c.args.round.now.level.now.number ≤ total r.events) (sym recorded)
            c.requires.round.within;
        narrow = c.requires.round.narrow;
        root = subst (λ (r : Recorded). total r.events < c.args.round.now.gap * c.args.round.now.gap) (sym recorded)
            c.requires.round.root;
        few = c.requires.round.few;
        skips =
            c.of-skips.ensures c.args.round.now.tests.now c.index-round-i.result c.args.round.now.level.now
            c.requires.round.skipped c.requires.within;
      };
      test = λ d. get_or_default c.args.round.now.tests.now c.args.i c.index-round-i.result d c.requires.within;
      recorded = recorded;
      width = refl;
      gap = refl;
      level = refl;
    }
