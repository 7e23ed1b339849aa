-- The first hit in the first run with one.
use Rattle.std.proofs.Common.{◌≡◌, ℕ, ◌<◌, true, List, length, sym, subst, ◌∙◌, arith}
use Rattle.def_model.specs.Answers.{IsFirstSatisfying}
use Rattle.def_model.specs.Cuts.{IsOfLevel}
use Rattle.walk_marks.specs.RunPlaces.{run_at}
use Rattle.walk_marks.proofs.AvoidingBits.{cut_in_run}
use Rattle.walk_marks.proofs.ByThreads.{hit_at}
use Rattle.walk_marks.proofs.FirstSatisfying.{first_at_run, none_in_level}
use Rattle.walk_marks.proofs.RunKeys.{prefix_length}
use Rattle.walk_marks.proofs.by_threads.first_hit_by_threads.Goals as goal

pub cut_in-requires-clause-processes : goal.cut_in-requires-clause-processes
cut_in-requires-clause-processes g c =
    prefix_length (g.T.RunTest.events c.args.test.now) c.args.level.now c.requires.level c.loop-i.i
    (omega (arith, c.loop-i-test.true, c.len-i-end.ensures)) ∙ sym c.requires.level.processes

pub returns-in-Some-clause-level : goal.returns-in-Some-clause-level
returns-in-Some-clause-level g c =
    let lt : c.loop-i.i < length c.args.level.now.runs = omega (arith, c.loop-i-test.true, c.len-i-end.ensures) in
    let hit = hit_at (g.T.RunTest.test c.args.test.now) c.args.level.now.number
    (run_at c.args.level.now.runs c.loop-i.i) c.in_ok-found.found.items c.loop-i.i c.in-Some.x c.index.result.now
    (omega (arith, lt, c.in_ok-found.ensures.one_each)) c.index.ensures c.in-Some.is
    (c.in_ok-found.ensures.hits c.loop-i.i lt) in
    subst (λ (cut : List ℕ). IsOfLevel (g.T.RunTest.events c.args.test.now) c.args.level.now.number cut)
    (sym c.cut_in.ensures)
    (cut_in_run (g.T.RunTest.events c.args.test.now) c.args.level.now c.requires.level c.loop-i.i c.in-Some.x lt hit.0
    hit.1)

pub returns-in-Some-clause-satisfies : goal.returns-in-Some-clause-satisfies
returns-in-Some-clause-satisfies g c =
    let lt : c.loop-i.i < length c.args.level.now.runs = omega (arith, c.loop-i-test.true, c.len-i-end.ensures) in
    let hit = hit_at (g.T.RunTest.test c.args.test.now) c.args.level.now.number
    (run_at c.args.level.now.runs c.loop-i.i) c.in_ok-found.found.items c.loop-i.i c.in-Some.x c.index.result.now
    (omega (arith, lt, c.in_ok-found.ensures.one_each)) c.index.ensures c.in-Some.is
    (c.in_ok-found.ensures.hits c.loop-i.i lt) in
    subst (λ (cut : List ℕ). g.T.RunTest.test c.args.test.now cut ≡ true) (sym c.cut_in.ensures) hit.2

pub returns-in-Some-clause-first : goal.returns-in-Some-clause-first
returns-in-Some-clause-first g c none =
    let lt : c.loop-i.i < length c.args.level.now.runs = omega (arith, c.loop-i-test.true, c.len-i-end.ensures) in
    let hit = hit_at (g.T.RunTest.test c.args.test.now) c.args.level.now.number
    (run_at c.args.level.now.runs c.loop-i.i) c.in_ok-found.found.items c.loop-i.i c.in-Some.x c.index.result.now
    (omega (arith, lt, c.in_ok-found.ensures.one_each)) c.index.ensures c.in-Some.is
    (c.in_ok-found.ensures.hits c.loop-i.i lt) in
    subst (λ (cut : List ℕ). IsFirstSatisfying (g.T.RunTest.events c.args.test.now)
    (g.T.RunTest.test c.args.test.now) cut) (sym c.cut_in.ensures)
    (first_at_run (g.T.RunTest.events c.args.test.now) (g.T.RunTest.test c.args.test.now) c.args.level.now
    c.requires.level c.loop-i.i c.in-Some.x lt hit.0 hit.1 hit.2 hit.3 c.loop-i.invariant none)

pub returns-clause-none : goal.returns-clause-none
returns-clause-none g c =
    none_in_level (g.T.RunTest.events c.args.test.now) (g.T.RunTest.test c.args.test.now) c.args.level.now
    c.requires.level (λ k u lt. c.loop-i.invariant k u (omega (arith, c.loop-i-test.false, c.len-i-end.ensures)))
