-- One count more is read at a time.
use Rattle.std.proofs.Common.{rules, ◌≡◌, ℕ, ◌+◌, ◌++◌, ◌∷◌, [], List, get_or, take, set, sym, ap, ◌∙◌, subst, arith}
use Rattle.std.proofs.lemmas.List.{length-set, take_all, take_more, take_more_set}
use Rattle.walk_keys.specs.Keys.{digits}
use Rattle.walk_keys.proofs.Keys.{length-digits}
use Rattle.pd_level.proofs.read.cut_of.Goals as goal

pub loop-p-preserved : goal.loop-p-preserved
loop-p-preserved g c =
    let n = c.args.n in
    let key = g.K.Key.number c.args.key in
    let p = c.loop-p.p in
    let written : take (p + 1) (set c.loop-p.counts p c.digit.result) ≡ take p c.loop-p.counts ++ c.digit.result ∷ [] =
    take_more_set c.loop-p.counts p c.digit.result (omega arith) in
    let read : take (p + 1) (digits n key) ≡ take p (digits n key) ++ get_or (digits n key) p 0 ∷ [] =
    take_more (digits n key) p 0 (omega (arith, length-digits n key)) in
    record {
      many = length-set c.loop-p.counts p c.digit.result ∙ c.loop-p.invariant.many;
      so_far = written
          ∙ (ap (λ (xs : List ℕ). xs ++ c.digit.result ∷ []) c.loop-p.invariant.so_far
          ∙ (ap (λ (x : ℕ). take p (digits n key) ++ x ∷ []) c.digit.ensures ∙ sym read));
    }

pub returns : goal.returns
returns g c =
    let n = c.args.n in
    let all : take n (digits n (g.K.Key.number c.args.key)) ≡ digits n (g.K.Key.number c.args.key) =
    take_all n (digits n (g.K.Key.number c.args.key)) (omega (arith, length-digits n (g.K.Key.number c.args.key))) in
    let end : c.loop-p.p ≡ n = omega arith in
    let read : take n c.loop-p.counts ≡ digits n (g.K.Key.number c.args.key) =
    subst (λ (p : ℕ). take p c.loop-p.counts ≡ take p (digits n (g.K.Key.number c.args.key))) end
    c.loop-p.invariant.so_far ∙ all in
    search rules
