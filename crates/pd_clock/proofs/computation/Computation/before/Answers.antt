-- An event happened before another if it is in its clock, and is another one.
use Rattle.std.proofs.Common.{◌≡◌, ◌≢◌, ◌↔◌, ◌≤◌, sym, subst, ◌∙◌}
use Rattle.std.proofs.lemmas.Bool.{leb-true, le-leb, false≢true}
use Rattle.def_model.specs.Events as events
use Rattle.def_model.specs.Order.{HappenedBefore}
use Rattle.pd_match.specs.Views.{place_view}
use Rattle.def_model.proofs.ClockSteps.{in_clock}
use Rattle.pd_clock.proofs.PastFacts.{apart_from_test, same_from_test}
use Rattle.pd_clock.proofs.computation.Computation.before.Goals as goal

pub returns-then-ne : goal.returns-then-ne
returns-then-ne c =
    let apart : place_view c.args.e ≢ place_view c.args.f =
    apart_from_test (place_view c.args.e) (place_view c.args.f) (sym c.ne.ensures ∙ c.if-ne.true) in
    let exact : (c.args.e.number ≤ c.clock.result)
    ↔ HappenedBefore c.args.self.now.events (place_view c.args.e) (place_view c.args.f) =
    in_clock c.args.self.now.events (place_view c.args.e) (place_view c.args.f) c.clock.result c.requires.first
    c.clock.ensures apart in (
      λ passes. exact.0 (leb-true c.args.e.number c.clock.result passes),
      λ h. le-leb c.args.e.number c.clock.result (exact.1 h),
    )

pub returns-else-ne : goal.returns-else-ne
returns-else-ne c =
    let same : place_view c.args.e ≡ place_view c.args.f =
    same_from_test (place_view c.args.e) (place_view c.args.f) (sym c.ne.ensures ∙ c.if-ne.false) in (
      λ passes. absurd (false≢true (sym c.if-ne.false ∙ passes)),
      λ h. absurd (c.limits.ensures.acyclic (place_view c.args.f)
          (subst (λ (e : events.Place). HappenedBefore c.args.self.now.events e (place_view c.args.f)) same h)),
    )
