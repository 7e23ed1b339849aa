-- The run of a cut is pushed, and its births.
use Rattle.std.proofs.Common.{◌≡◌, ◌+◌, ◌-◌, ◌^◌, ◌<◌, ◌≤◌, ℕ, List, [], ◌∷◌, ◌++◌, length, sum, refl, sym, ap, ◌∙◌, subst, arith}
use Rattle.def_format.specs.Limits.{event_limit}
use Rattle.walk_keys.specs.Keys.{count_base, digits}
use Rattle.def_model.specs.Events.{event_count}
use Rattle.def_model.specs.Cuts.{IsConsistent}
use Rattle.walk_keys.specs.Neighbors.{cut_at}
use Rattle.walk_runs.specs.Births.{IsUndoable, IsYoung}
use Rattle.walk_runs.specs.Kept.{KeyedCut}
use Rattle.walk_runs.specs.Points.{point_cut}
use Rattle.walk_runs.proofs.Pushing.{births_of_born}
use Rattle.walk_runs.proofs.RunCuts.{sum_cut}
use Rattle.walk_runs.proofs.RunSteps.{last_counts}
use Rattle.walk_runs.proofs.advance.push_born.Goals as goal

pub overflow_add-point-inside : goal.overflow_add-point-inside
overflow_add-point-inside g c =
    let e : c.prefix.result + 2 ≡ length c.args.steps.now = omega (arith, c.prefix.ensures, c.limits.ensures.two) in
    let same : point_cut (length c.args.steps.now - 2) c.point_of-point.result
    ≡ digits (length c.args.steps.now) (g.K.Key.number c.args.birth.cut) =
    ap (λ (n : ℕ). point_cut (n - 2) c.point_of-point.result) (sym e)
    ∙ (c.point_of-point.ensures.cut ∙ ap (λ (n : ℕ). digits n (g.K.Key.number c.args.birth.cut)) e) in
    let ok : IsConsistent c.args.steps.now (point_cut (length c.args.steps.now - 2) c.point_of-point.result) =
    subst (IsConsistent c.args.steps.now) (sym same) c.requires.cut in
    let w = last_counts c.args.steps.now c.limits.ensures.two c.point_of-point.result.key c.point_of-point.result.x
    c.point_of-point.result.y ok in
    let x : c.point_of-point.result.x ≤ event_count c.args.steps.now (length c.args.steps.now - 2) = w.0 in
    let y : c.point_of-point.result.y ≤ event_count c.args.steps.now (length c.args.steps.now - 1) = w.1 in
    let few : event_count c.args.steps.now (length c.args.steps.now - 2) ≤ event_limit =
    c.limits.ensures.short (length c.args.steps.now - 2) in
    let few_y : event_count c.args.steps.now (length c.args.steps.now - 1) ≤ event_limit =
    c.limits.ensures.short (length c.args.steps.now - 1) in
    let x_is : c.point.inside.x ≡ c.point_of-point.result.x = ap (λ (p : KeyedCut). p.x) c.point.view_is in
    let y_is : c.point.inside.y ≡ c.point_of-point.result.y = ap (λ (p : KeyedCut). p.y) c.point.view_is in
    omega arith

pub add_births-requires-clause-latest : goal.add_births-requires-clause-latest
add_births-requires-clause-latest g c =
    let e : c.prefix.result + 2 ≡ length c.args.steps.now = omega (arith, c.prefix.ensures, c.limits.ensures.two) in
    let same : point_cut (length c.args.steps.now - 2) c.point_of-point.result
    ≡ digits (length c.args.steps.now) (g.K.Key.number c.args.birth.cut) =
    ap (λ (n : ℕ). point_cut (n - 2) c.point_of-point.result) (sym e)
    ∙ (c.point_of-point.ensures.cut ∙ ap (λ (n : ℕ). digits n (g.K.Key.number c.args.birth.cut)) e) in
    λ _. subst (λ (cut : List ℕ). IsUndoable c.args.steps.now cut c.args.birth.by) (sym same) c.requires.latest

pub returns : goal.returns
returns g c =
    let e : c.prefix.result + 2 ≡ length c.args.steps.now = omega (arith, c.prefix.ensures, c.limits.ensures.two) in
    let same : point_cut (length c.args.steps.now - 2) c.point_of-point.result
    ≡ digits (length c.args.steps.now) (g.K.Key.number c.args.birth.cut) =
    ap (λ (n : ℕ). point_cut (n - 2) c.point_of-point.result) (sym e)
    ∙ (c.point_of-point.ensures.cut ∙ ap (λ (n : ℕ). digits n (g.K.Key.number c.args.birth.cut)) e) in
    let ok : IsConsistent c.args.steps.now (point_cut (length c.args.steps.now - 2) c.point_of-point.result) =
    subst (IsConsistent c.args.steps.now) (sym same) c.requires.cut in
    let y_is : c.point_of-point.result.x + c.point_of-point.result.y - c.point_of-point.result.x
    ≡ c.point_of-point.result.y = omega arith in
    let young : IsYoung c.args.steps.now (sum (digits (length c.args.steps.now) (g.K.Key.number c.args.birth.cut)))
    (digits (length c.args.steps.now - 2) c.point_of-point.result.key) =
    subst (λ (key : ℕ). IsYoung c.args.steps.now
    (sum (digits (length c.args.steps.now) (g.K.Key.number c.args.birth.cut)))
    (digits (length c.args.steps.now - 2) key)) (sym c.point_of-point.ensures.key) c.requires.young in
    record {
      run = record {
        key = c.point_of-point.result.key;
        lo = c.point_of-point.result.x;
        hi = c.point_of-point.result.x;
        rest = c.point_of-point.result.x + c.point_of-point.result.y;
      };
      key = c.point_of-point.ensures.key;
      single = refl;
      is =
          ap (λ (y : ℕ). cut_at (digits (length c.args.steps.now - 2) c.point_of-point.result.key)
          c.point_of-point.result.x y) y_is ∙ same;
      kept = record {
        below = subst (λ (n : ℕ). c.point_of-point.result.key < count_base ^ (n - 2)) e
            c.point_of-point.ensures.below;
        level =
            sym (sum_cut (digits (length c.args.steps.now - 2) c.point_of-point.result.key)
            c.point_of-point.result.x c.point_of-point.result.y) ∙ ap sum same;
      };
      pushed =
          c.in_ok-push.ensures.items ∙ ap (λ (p : KeyedCut). c.args.runs.now.items ++ (record {
            key = p.key;
            lo = p.x;
            hi = p.x;
            rest = p.x + p.y;
          }) ∷ []) c.point.view_is;
      births =
          births_of_born c.args.steps.now c.limits.ensures.two
          (sum (digits (length c.args.steps.now) (g.K.Key.number c.args.birth.cut))) c.point_of-point.result.key
          c.point_of-point.result.x
          c.point_of-point.result.y ok (ap sum same) young c.args.born.now c.add_births.new.born
          c.in_ok-add_births.ensures;
    }
