-- One more term.
use Rattle.std.proofs.Common.{◌≡◌, ◌+◌, List, ℕ, [], length, get_or, Option, refl, sym, subst, arith}
use Rattle.std.proofs.lemmas.Option.{get_or_from_slice_get}
use Rattle.std.specs.Prelude.{Bool, IfSome, IfNone}
use Rattle.wide_conjunctions.specs.LeastCuts.{HasNoGood, IsLeastGood}
use Rattle.wide_terms.specs.FirstCuts.{IsFirstSoFar, goods_of}
use Rattle.wide_terms.specs.Rows.{numbers_view, term_allows}
use Rattle.wide_terms.proofs.Firsts.{none_more}
use Rattle.wide_terms.proofs.first.first_least.Goals.{in-Some, in-None}
use Rattle.wide_terms.proofs.first.first_least.Goals as goal

pub loop-i-preserved : goal.loop-i-preserved
loop-i-preserved c =
    let at : get_or (numbers_view c.args.terms.now.terms.items) c.loop-i.i [] ≡ c.term.result.numbers.now =
    get_or_from_slice_get (numbers_view c.args.terms.now.terms.items) c.loop-i.i c.term.result.numbers.now []
    c.term.ensures.numbers in
    let same : term_allows c.term.result.rows.now c.term.result.numbers.now
    ≡ goods_of c.args.terms.now.rows.items (numbers_view c.args.terms.now.terms.items) c.loop-i.i =
    rw (c.term.ensures.rows, at) refl in
    elim c.match-branch-2.branch [
      | in-Some w ↦ (
          let least : IsLeastGood c.args.computation.now.events
          (term_allows c.term.result.rows.now c.term.result.numbers.now) w.in-Some.cut =
          subst (λ (found : Option (List ℕ)). IfSome found (IsLeastGood c.args.computation.now.events
          (term_allows c.term.result.rows.now c.term.result.numbers.now))) w.in-Some.is c.in_ok-cut.ensures.some in
          subst (λ (first : Option (List ℕ)). IsFirstSoFar c.args.computation.now.events
          (goods_of c.args.terms.now.rows.items (numbers_view c.args.terms.now.terms.items)) (c.loop-i.i + 1) first)
          (sym w.first-is)
          (w.earlier.ensures c.args.computation.now.events
          (goods_of c.args.terms.now.rows.items (numbers_view c.args.terms.now.terms.items)) c.loop-i.i
          c.loop-i.invariant
          (subst (λ (good : ℕ → ℕ → Bool). IsLeastGood c.args.computation.now.events good w.in-Some.cut) same least))
          )
      | in-None w ↦ (
          let none : HasNoGood c.args.computation.now.events
          (term_allows c.term.result.rows.now c.term.result.numbers.now) =
          subst (λ (found : Option (List ℕ)). IfNone found (HasNoGood c.args.computation.now.events
          (term_allows c.term.result.rows.now c.term.result.numbers.now))) w.in-None.is c.in_ok-cut.ensures.none in
          subst (λ (first : Option (List ℕ)). IsFirstSoFar c.args.computation.now.events
          (goods_of c.args.terms.now.rows.items (numbers_view c.args.terms.now.terms.items)) (c.loop-i.i + 1) first)
          (sym w.first-is)
          (none_more c.args.computation.now.events
          (goods_of c.args.terms.now.rows.items (numbers_view c.args.terms.now.terms.items)) c.loop-i.i c.loop-i.first
          c.loop-i.invariant
          (subst (λ (good : ℕ → ℕ → Bool). HasNoGood c.args.computation.now.events good) same none))
          )
    ]

pub returns : goal.returns
returns c =
    let end : c.loop-i.i ≡ length c.args.terms.now.terms.items =
    omega (arith, c.loop-i-test.false, c.loop-i.auto.i-end, c.len-i-end.ensures) in
    subst (λ (n : ℕ). IsFirstSoFar c.args.computation.now.events
    (goods_of c.args.terms.now.rows.items (numbers_view c.args.terms.now.terms.items)) n c.loop-i.first) end
    c.loop-i.invariant
