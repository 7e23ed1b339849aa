-- By the pair that is left.
use Rattle.std.proofs.Common.{◌+◌, ◌<◌, ◌≡◌, ◌↔◌, List, ℕ, true, get_or, ap, ◌∙◌, refl, subst, arith}
use Rattle.std.proofs.lemmas.Bool.{false≢true}
use Rattle.def_model.specs.Cuts.{one_less}
use Rattle.def_model.specs.Events.{event_count}
use Rattle.wide_pairs.specs.Avoiding.{IsAvoidingPair, test_of_pairs}
use Rattle.wide_pairs.proofs.Passing.{leaves_by_pair, leaves_consistent}
use Rattle.wide_pairs.proofs.way.leaves.Goals as goal

pub returns-then-not-can_undo : goal.returns-then-not-can_undo
returns-then-not-can_undo g c = (
  λ h. absurd (false≢true h),
  λ leaves. c.if-not-can_undo.ensures.1
      (leaves_consistent c.args.computation.now.events (test_of_pairs (g.G.GoodPairs.good c.args._wanted.now) c.args.p
      c.args.q) c.args.cut.now c.args.r leaves),
)

pub returns : goal.returns
returns g c =
    let events = c.args.computation.now.events in
    let good = g.G.GoodPairs.good c.args._wanted.now in
    let test = test_of_pairs good c.args.p c.args.q in
    let cut = c.args.cut.now in
    let left : c.count_without-i.result ≡ get_or (one_less cut c.args.r) c.args.p 0 =
    c.count_without-i.ensures ∙ ap (λ (xs : List ℕ). get_or (one_less xs c.args.r) c.args.p 0) c.counts.ensures in
    let right : c.count_without-j.result ≡ get_or (one_less cut c.args.r) c.args.q 0 =
    c.count_without-j.ensures ∙ ap (λ (xs : List ℕ). get_or (one_less xs c.args.r) c.args.q 0) c.counts-2.ensures in
    leaves_by_pair events c.limits.ensures.acyclic good c.args.p c.args.q
    (λ e. let less : c.args.p < c.args.q = c.requires.order in omega (arith, e)) cut c.args.r
    (c.if-not-can_undo.ensures.0 refl) c.is_avoiding.result
    (subst (λ (n : ℕ). (c.is_avoiding.result ≡ true)
    ↔ IsAvoidingPair events test c.args.p c.args.q (get_or (one_less cut c.args.r) c.args.p 0) n) right
    (subst (λ (n : ℕ). (c.is_avoiding.result ≡ true)
    ↔ IsAvoidingPair events test c.args.p c.args.q n c.count_without-j.result) left
    (c.is_avoiding.ensures events test c.args.p c.args.q (event_count events c.args.p + 1) c.requires.rows)))
