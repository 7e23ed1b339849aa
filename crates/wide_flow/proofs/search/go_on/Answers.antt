-- One step more was looked at, or one payer.
use Rattle.std.proofs.Common.{◌≡◌, ◌+◌, ◌-◌, ◌<◌, ◌≤◌, ℕ, List, get_or, length, sum, sym, ap, ◌∙◌, subst, arith}
use Rattle.std.proofs.lemmas.List.{get_or_read}
use Rattle.std.proofs.lemmas.List.Sums.{sum_by-set}
use Rattle.wide_flow.specs.declared.reach.Reached.{Reached}
use Rattle.wide_flow.specs.Searches.{AreLookedAt, AreRaised, GoesOn, IsSearch, reached_at}
use Rattle.wide_flow.proofs.SearchSteps.{reached_few, search_all, search_down, search_up}
use Rattle.wide_flow.proofs.search.go_on.Goals as goal
use Rattle.wide_flow.proofs.search.go_on.Goals.{After-look_between}

pub looking-preserved-then-at-len : goal.looking-preserved-then-at-len
looking-preserved-then-at-len c =
    let steps = c.args.steps.now in
    let processes = length c.args.rows.now in
    let old = c.looking.reached.items in
    let new = c.extend.new.reached.items in
    let at = c.looking.at in
    let there : at < length old = omega (arith, c.if-at-len.true, c.len.ensures, c.looking.reached.ok.0) in
    let on : GoesOn old new = c.in_ok-found.ensures.on in
    let longer : length old ≤ length new = on.longer in
    let raised : AreRaised processes steps c.args.rows.now c.args.flow.now new (reached_at old at).step
    c.looking.tops.items c.extend.new.tops.items processes =
    rw c.in-None.is at c.in_ok-found.ensures.found in
    record {
      reached = c.in_ok-found.ensures.reached;
      first =
          ap (λ (r : Reached). r.step) (on.same 0 c.looking.invariant.reached.some) ∙ c.looking.invariant.first;
      search =
          search_up processes steps c.args.rows.now c.args.flow.now c.args.frozen.now
          (reached_at c.args.reached.now.items 0).step old new c.looking.lows.items c.looking.tops.items at
          c.looking.invariant.search on c.extend.new.tops.items raised there;
      within = omega (arith, there, longer);
    }

pub looking-smaller-then-at-len : goal.looking-smaller-then-at-len
looking-smaller-then-at-len c =
    let there : c.looking.at < length c.looking.reached.items =
    omega (arith, c.if-at-len.true, c.len.ensures, c.looking.reached.ok.0) in
    omega (
      arith,
      there,
      reached_few c.args.steps.now c.args.flow.now c.looking.reached.items c.looking.places
          c.looking.invariant.reached,
    )

-- the process has payers left, and these come before its low
low_is : (c : After-look_between)
    → (get_or c.looking.lows.items c.in-Some-latest_process.process 0 ≡ c.index.result.now - 1 + 1)
    × (get_or c.args.frozen.now c.in-Some-latest_process.process 0 ≤ c.index.result.now - 1)
low_is c =
    let p = c.in-Some-latest_process.process in
    let lows = c.looking.lows.items in
    let there : p < length lows =
    omega (arith, c.in-Some-latest_process.ensures.0, c.looking.invariant.search.lows_each) in
    let e : c.index.result.now ≡ get_or lows p 0 = get_or_read lows p _ there c.index.ensures 0 in
    let high : get_or c.args.frozen.now p 0 < get_or lows p 0 =
    subst (λ (xs : List ℕ). get_or c.args.frozen.now p 0 < get_or xs p 0) c.deref.ensures.value
    c.in-Some-latest_process.ensures.1 in
    (omega (arith, e, high), omega (arith, e, high))

pub looking-preserved : goal.looking-preserved
looking-preserved c =
    let at = (goal.at.looking-preserved c).After-look_between in
    let steps = c.args.steps.now in
    let rows = c.args.rows.now in
    let flow = c.args.flow.now in
    let p = c.in-Some-latest_process.process in
    let low = c.index.result.now - 1 in
    let old = c.looking.reached.items in
    let new = c.look_between.new.reached.items in
    let loop = c.looking.invariant in
    let on : GoesOn old new = c.in_ok-found-2.ensures.on in
    let longer : length old ≤ length new = on.longer in
    let now : AreLookedAt flow new c.row-row.result.now low (low + 1) =
    rw c.in-None-found.is at c.in_ok-found-2.ensures.found in
    record {
      reached = c.in_ok-found-2.ensures.reached;
      first = ap (λ (r : Reached). r.step) (on.same 0 loop.reached.some) ∙ loop.first;
      search =
          subst
          (λ (xs : List ℕ).
          IsSearch (length rows) steps rows flow c.args.frozen.now (reached_at c.args.reached.now.items 0).step new xs
          c.looking.tops.items c.looking.at)
          (sym c.set_at.ensures)
          (search_down (length rows) steps rows flow c.args.frozen.now (reached_at c.args.reached.now.items 0).step
          old new c.looking.lows.items c.looking.tops.items c.looking.at
          loop.search on p low c.in-Some-latest_process.ensures.0 (low_is at).1 (low_is at).0
          (subst (λ (row : List ℕ). AreLookedAt flow new row low (low + 1)) c.row-row.ensures now) loop.within);
      within = omega (arith, loop.within, longer);
    }

pub looking-smaller : goal.looking-smaller
looking-smaller c =
    let at = (goal.at.looking-smaller c).After-look_between in
    let p = c.in-Some-latest_process.process in
    let lows = c.looking.lows.items in
    let there : p < length lows =
    omega (arith, c.in-Some-latest_process.ensures.0, c.looking.invariant.search.lows_each) in
    omega (
      arith,
      ap sum c.set_at.ensures,
      sum_by-set (λ (n : ℕ). n) lows p (c.index.result.now - 1) 0 there,
      (low_is at).0,
    )

pub returns-in-None-latest_process-clause-found : goal.returns-in-None-latest_process-clause-found
returns-in-None-latest_process-clause-found c =
    search_all (length c.args.rows.now) c.args.steps.now c.args.rows.now c.args.flow.now c.args.frozen.now
    (reached_at c.args.reached.now.items 0).step c.looking.reached.items c.looking.lows.items c.looking.tops.items
    c.looking.at
    c.looking.invariant.search (omega (arith, c.if-at-len.false, c.len.ensures, c.looking.reached.ok.0))
    (subst
    (λ (xs : List ℕ). (p : ℕ) → p < length c.args.rows.now → get_or xs p 0 ≤ get_or c.args.frozen.now p 0)
    c.deref.ensures.value c.in-None-latest_process.ensures)
