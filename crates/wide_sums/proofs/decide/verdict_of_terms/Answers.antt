-- Each term adds to what the first come to, and all of them decide the predicate.
use Rattle.std.proofs.Common.{◌≡◌, ◌+◌, ◌<◌, length, List, [], refl, sym, subst, arith}
use Rattle.std.specs.Prelude.{Bool, slice_index_or}
use Rattle.def_wide.specs.Terms as model
use Rattle.pd_pred.specs.Trees.{tree_view}
use Rattle.wide_sums.specs.Literals.{terms_at}
use Rattle.wide_sums.specs.TermVerdicts.{HaveVerdict, IsVerdictOf}
use Rattle.wide_sums.specs.declared.prepared.Prepared.{Prepared}
use Rattle.wide_sums.specs.declared.verdict.Verdict.{Verdict}
use Rattle.wide_terms.specs.Rows.{numbers_view}
use Rattle.wide_sums.proofs.Reading.{many_terms}
use Rattle.wide_sums.proofs.Verdicts.{all_excluded, all_satisfied, one_excluded, one_satisfied, sums_named, undecided}
use Rattle.wide_sums.proofs.decide.verdict_of_terms.Goals as goal
use Rattle.wide_sums.proofs.decide.verdict_of_terms.Goals.{in-Unsatisfied, in-Satisfied}

-- the terms that were prepared
abbrev terms_view : Prepared → List (List model.Literal)
terms_view prepared = terms_at prepared.terms.literals.items (numbers_view prepared.terms.terms.items)

-- are as many as their numbers
many : (prepared : Prepared) → length prepared.terms.terms.items ≡ length (terms_view prepared)
many prepared = many_terms prepared.terms.literals.items prepared.terms.terms.items (terms_view prepared) refl

pub verdict_of_term-requires-clause-names : goal.verdict_of_term-requires-clause-names
verdict_of_term-requires-clause-names c =
    sums_named (length c.args.computation.now.events) (tree_view c.args.tree.now) (terms_view c.in_ok-prepared.prepared)
    c.loop-i.i c.requires.there c.in_ok-prepared.ensures.terms
    (omega (arith, many c.in_ok-prepared.prepared, c.loop-i-test.true, c.len-i-end.ensures))

pub returns-in-Undecided : goal.returns-in-Undecided
returns-in-Undecided c =
    let r = c.args.computation.now in
    let terms = terms_view c.in_ok-prepared.prepared in
    undecided r (tree_view c.args.tree.now) terms c.in_ok-prepared.ensures.terms c.loop-i.i
    (omega (arith, many c.in_ok-prepared.prepared, c.loop-i-test.true, c.len-i-end.ensures))
    (subst (λ (v : Verdict). IsVerdictOf r (slice_index_or terms c.loop-i.i []) v) c.in-Undecided.is
    c.in_ok-verdict.ensures)

pub loop-i-preserved : goal.loop-i-preserved
loop-i-preserved c =
    let r = c.args.computation.now in
    let terms = terms_view c.in_ok-prepared.prepared in
    let lt : c.loop-i.i < length terms =
    omega (arith, many c.in_ok-prepared.prepared, c.loop-i-test.true, c.len-i-end.ensures) in
    elim c.match-verdict.branch [
      | in-Unsatisfied w ↦
          subst (λ (b : Bool). HaveVerdict r terms (c.loop-i.i + 1) b) (sym w.satisfied-is)
          (one_excluded r terms c.loop-i.i c.loop-i.satisfied c.loop-i.invariant
          (subst (λ (v : Verdict). IsVerdictOf r (slice_index_or terms c.loop-i.i []) v) w.in-Unsatisfied.is
          c.in_ok-verdict.ensures))
      | in-Satisfied w ↦
          subst (λ (b : Bool). HaveVerdict r terms (c.loop-i.i + 1) b) (sym w.satisfied-is)
          (one_satisfied r terms c.loop-i.i c.loop-i.satisfied lt c.loop-i.invariant
          (subst (λ (v : Verdict). IsVerdictOf r (slice_index_or terms c.loop-i.i []) v) w.in-Satisfied.is
          c.in_ok-verdict.ensures))
    ]

pub returns-then-satisfied : goal.returns-then-satisfied
returns-then-satisfied c =
    let r = c.args.computation.now in
    let terms = terms_view c.in_ok-prepared.prepared in
    all_satisfied r (tree_view c.args.tree.now) terms c.in_ok-prepared.ensures.terms c.loop-i.i
    (omega (arith, many c.in_ok-prepared.prepared, c.loop-i-test.false, c.len-i-end.ensures))
    (subst (λ (b : Bool). HaveVerdict r terms c.loop-i.i b) c.if-satisfied.true c.loop-i.invariant) c.requires.few
    c.requires.there

pub returns : goal.returns
returns c =
    let r = c.args.computation.now in
    let terms = terms_view c.in_ok-prepared.prepared in
    all_excluded r (tree_view c.args.tree.now) terms c.in_ok-prepared.ensures.terms c.loop-i.i
    (omega (arith, many c.in_ok-prepared.prepared, c.loop-i-test.false, c.len-i-end.ensures))
    (subst (λ (b : Bool). HaveVerdict r terms c.loop-i.i b) c.if-satisfied.false c.loop-i.invariant) c.requires.few
    c.requires.there
