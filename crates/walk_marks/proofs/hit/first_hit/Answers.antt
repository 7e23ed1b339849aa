-- The first hit in the first run with one.
use Rattle.std.proofs.Common.{◌≡◌, ◌∙◌, ◌-◌, IsTrue, ℕ, ◌<◌, ◌≤◌, ◌⊎◌, inl, inr, true, false, List, refl, sym, subst, arith}
use Rattle.std.proofs.lemmas.Bool.{cases_lt}
use Rattle.def_model.specs.Answers.{IsFirstSatisfying}
use Rattle.def_model.specs.Cuts.{IsOfLevel}
use Rattle.walk_runs.specs.WholeLevels.{rest_at}
use Rattle.walk_marks.specs.Marks.{cut_with}
use Rattle.walk_marks.specs.RunPlaces.{run_at}
use Rattle.walk_marks.proofs.AvoidingBits.{cut_in_run}
use Rattle.walk_marks.proofs.FirstSatisfying.{first_at_run, none_in_level}
use Rattle.walk_marks.proofs.hit.first_hit.Goals as goal

pub returns-in-Some-clause-level : goal.returns-in-Some-clause-level
returns-in-Some-clause-level g c =
    subst (λ (cut : List ℕ). IsOfLevel (g.T.RunTest.events c.args.test.now) c.args.level.now.number cut)
    (sym c.cut_in.ensures)
    (cut_in_run (g.T.RunTest.events c.args.test.now) c.args.level.now c.requires.level c.loop-i.i c.in-Some.x
    (omega (arith, c.loop-i-test.true, c.len-i-end.ensures)) c.in-Some.ensures.some.0 c.in-Some.ensures.some.1)

pub returns-in-Some-clause-satisfies : goal.returns-in-Some-clause-satisfies
returns-in-Some-clause-satisfies g c =
    subst (λ (cut : List ℕ). g.T.RunTest.test c.args.test.now cut ≡ true) (sym c.cut_in.ensures)
    c.in-Some.ensures.some.2

pub returns-in-Some-clause-first : goal.returns-in-Some-clause-first
returns-in-Some-clause-first g c none =
    subst (λ (cut : List ℕ). IsFirstSatisfying (g.T.RunTest.events c.args.test.now)
    (g.T.RunTest.test c.args.test.now) cut) (sym c.cut_in.ensures)
    (first_at_run (g.T.RunTest.events c.args.test.now) (g.T.RunTest.test c.args.test.now) c.args.level.now
    c.requires.level c.loop-i.i c.in-Some.x (omega (arith, c.loop-i-test.true, c.len-i-end.ensures))
    c.in-Some.ensures.some.0 c.in-Some.ensures.some.1 c.in-Some.ensures.some.2 c.in-Some.ensures.some.3
    c.loop-i.invariant none)

pub returns-then-are_all-clause-none : goal.returns-then-are_all-clause-none
returns-then-are_all-clause-none g c =
    let all : IsTrue c.args.skips.all = sym c.are_all.ensures ∙ c.if-are_all.true in
    none_in_level (g.T.RunTest.events c.args.test.now) (g.T.RunTest.test c.args.test.now) c.args.level.now
    c.requires.level (λ k u lt low high. c.requires.skips.none k u
    (rest_at c.args.level.now.number (run_at c.args.level.now.runs k) - u) lt (c.requires.skips.all all k lt)
    (cut_in_run (g.T.RunTest.events c.args.test.now) c.args.level.now c.requires.level k u lt low high).0.fits)

pub returns-clause-none : goal.returns-clause-none
returns-clause-none g c =
    none_in_level (g.T.RunTest.events c.args.test.now) (g.T.RunTest.test c.args.test.now) c.args.level.now
    c.requires.level (λ k u lt. c.loop-i.invariant k u (omega (arith, c.loop-i-test.false, c.len-i-end.ensures)))

pub loop-i-preserved : goal.loop-i-preserved
loop-i-preserved g c k u lt = go (cases_lt k c.loop-i.i)
  where
    go : (k < c.loop-i.i) ⊎ (c.loop-i.i ≤ k) → (run_at c.args.level.now.runs k).lo ≤ u
        → u ≤ (run_at c.args.level.now.runs k).hi
        → g.T.RunTest.test c.args.test.now (cut_with c.args.level.now.number (run_at c.args.level.now.runs k) u)
        ≡ false
    go (inl less) = c.loop-i.invariant k u less
    go (inr more) =
        let e : c.loop-i.i ≡ k = omega arith in
        subst (λ (n : ℕ). (run_at c.args.level.now.runs n).lo ≤ u → u ≤ (run_at c.args.level.now.runs n).hi
        → g.T.RunTest.test c.args.test.now (cut_with c.args.level.now.number (run_at c.args.level.now.runs n) u)
        ≡ false) e (c.in-None.ensures.none refl u)
