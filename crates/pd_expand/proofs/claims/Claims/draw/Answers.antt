use Rattle.std.proofs.Common.{◌≡◌, ℕ, ◌+◌, ◌<◌, ap, subst, ◌∙◌, arith, cond, leb, List, [], ◌∷◌, ◌++◌, ltb}
use Rattle.std.proofs.lemmas.Bool.Decides.{nat_tests}
use Rattle.pd_expand.specs.ClaimRule.{past}
use Rattle.pd_expand.proofs.RuleSteps.{draws, counted}
use Rattle.pd_expand.proofs.claims.Claims.draw.Goals as goal

pub fetch_add-found-requires : goal.fetch_add-found-requires
fetch_add-found-requires c = let key = c.args.self.now.table.shared.key in let me = c.args.me.now.inner.me in
    let lawful = c.args.self.now.lawful in
    let one = c.args.me.now.one_worker in let e = c.requires.own.1 in
    let none : past key.blocks me.0.drawn < me.0.workers = subst (λ (n : ℕ). past n me.0.drawn < me.0.workers) e (let n
    : ℕ = past c.args.me.now.blocks me.0.drawn in let w : ℕ = me.0.workers in
    omega (arith, one.0, c.requires.open)) in
    (c.requires.own.0, omega (arith, c.args.self.now.sized), draws key.blocks key.workers _ _ me lawful.0 lawful.2 none)

noted : (b n : ℕ) (xs ys : List ℕ) → ys ≡ xs ++ n ∷ [] → ¬ (0 < past b xs) → leb b n ≡ ltb 0 (past b ys)
noted b n xs ys e room = let h : past b ys ≡ past b xs + cond (leb b n) 1 0 = ap (past b) e ∙ counted (λ y. leb b y) xs
    n in let p : ℕ = past b ys in let q : ℕ = past b xs in small p q h room
  where
    small : (p q : ℕ) → p ≡ q + cond (leb b n) 1 0 → ¬ (0 < q) → leb b n ≡ ltb 0 p
    small p q h o = grind (arith, nat_tests)

pub invariant_of-me : goal.invariant_of-me
invariant_of-me c = let me = c.fetch_add-found.ensures.2 in record {
  one_worker = (ap (λ m. m.0.workers) me ∙ c.args.me.now.one_worker.0, ap (λ m. m.1) me ∙ c.args.me.now.one_worker.1);
  noted = noted c.args.me.now.blocks c.fetch_add-found.result c.args.me.now.inner.me.0.drawn
      c.fetch_add-found.new.seat.me.0.drawn (ap (λ m. m.0.drawn) me) c.requires.open;
}
