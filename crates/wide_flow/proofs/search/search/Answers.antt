-- A search begins at one step.
use Rattle.std.proofs.Common.{◌≡◌, ℕ, List, length, refl, sym, subst, ◌∙◌}
use Rattle.wide_flow.specs.Searches.{AreTops, IsSearch, reached_at}
use Rattle.wide_flow.proofs.SearchSteps.{search_none}
use Rattle.wide_flow.proofs.search.search.Goals as goal

pub go_on-requires-clause-search : goal.go_on-requires-clause-search
go_on-requires-clause-search c =
    let flow = c.args.flow.now in
    let reached = c.in_ok-reached.reached.items in
    let tops = c.in_ok-tops.tops.items in
    let e = (reached_at reached 0).step in
    let same : c.in_ok-lows.lows.items ≡ tops =
    c.in_ok-lows.ensures.items_if_clones_equal (λ x y same. same) ∙ c.deref.ensures.value in
    subst
    (λ (xs : List ℕ).
    IsSearch (length c.args.rows.now) c.args.steps.now c.args.rows.now flow c.args.frozen.now e reached xs tops 1)
    (sym same)
    (search_none (length c.args.rows.now) c.args.steps.now c.args.rows.now flow c.args.frozen.now e reached tops
    (subst (λ (n : ℕ). AreTops (length c.args.rows.now) c.args.steps.now c.args.rows.now c.args.frozen.now n tops)
    (sym c.in_ok-reached.ensures.first) c.in_ok-tops.ensures) c.in_ok-reached.ensures.reached.some refl)
