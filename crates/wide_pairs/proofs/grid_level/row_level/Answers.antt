-- The events of the greatest cut.
use Rattle.std.proofs.Common.{◌+◌, ◌≤◌, ℕ, Option, sum, sym, ap, ◌∙◌, subst, arith}
use Rattle.def_model.specs.Cuts.{total}
use Rattle.def_model.proofs.Steps.{sum_within}
use Rattle.wide_pairs.specs.Levels.{IsRowLevel}
use Rattle.wide_pairs.specs.Mosts.{IsMostWithin}
use Rattle.wide_pairs.proofs.MostCuts.{most_within}
use Rattle.wide_pairs.proofs.grid_level.row_level.Goals as goal

pub events-requires : goal.events-requires
events-requires c =
    let counts = c.in_ok-counts-in-Some.counts.items in
    let most : IsMostWithin c.args.computation.now.events c.args.p c.args.q c.args.i c.in-Some.j counts =
    most_within c.args.computation.now.events c.args.p c.args.q c.args.i c.in-Some.j counts c.requires.first
    c.requires.second c.in_ok-counts-in-Some.ensures in
    let within : sum counts ≤ total c.args.computation.now.events =
    sum_within c.args.computation.now.events counts most.consistent in
    omega (arith, within, ap sum c.deref.ensures.value, c.total.ensures.sum, c.total.ensures.small)

pub overflow_add-result : goal.overflow_add-result
overflow_add-result c =
    let counts = c.in_ok-counts-in-Some.counts.items in
    let most : IsMostWithin c.args.computation.now.events c.args.p c.args.q c.args.i c.in-Some.j counts =
    most_within c.args.computation.now.events c.args.p c.args.q c.args.i c.in-Some.j counts c.requires.first
    c.requires.second c.in_ok-counts-in-Some.ensures in
    let within : sum counts ≤ total c.args.computation.now.events =
    sum_within c.args.computation.now.events counts most.consistent in
    omega (
      arith,
      within,
      ap sum c.deref.ensures.value,
      c.events.ensures,
      c.total.ensures.sum,
      c.total.ensures.small,
    )

pub returns-in_ok-counts-in-Some : goal.returns-in_ok-counts-in-Some
returns-in_ok-counts-in-Some c =
    let events = c.args.computation.now.events in
    let counts = c.in_ok-counts-in-Some.counts.items in
    subst (λ (last : Option ℕ). IsRowLevel events c.args.p c.args.q c.args.i last (c.events.result + 1))
    (sym c.in-Some.is) (
      counts,
      most_within events c.args.p c.args.q c.args.i c.in-Some.j counts c.requires.first c.requires.second
          c.in_ok-counts-in-Some.ensures,
      ap (λ (n : ℕ). n + 1) (c.events.ensures ∙ ap sum c.deref.ensures.value),
    )
