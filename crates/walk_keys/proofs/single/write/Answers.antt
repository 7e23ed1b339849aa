-- The lowest digit of what is left is written before those that are written already.
use Rattle.std.proofs.Common.{◌≡◌, ℕ, suc, ◌+◌, ◌-◌, ◌*◌, ◌/◌, ◌%◌, ◌^◌, ◌<◌, ◌++◌, List, length, drop, set, sym, ◌∙◌, subst, arith}
use Rattle.std.proofs.lemmas.List.{length-set}
use Rattle.std.proofs.Math.Nat.{pow-suc}
use Rattle.std.proofs.lemmas.Nat.{div_below}
use Rattle.walk_keys.specs.Keys.{count_base, digits}
use Rattle.walk_keys.proofs.Written.{one_written}
use Rattle.walk_keys.proofs.single.write.Goals as goal

less : (n p rest : ℕ) → p < n → rest < count_base ^ (n - p) → rest / count_base < count_base ^ (n - (p + 1))
less n p rest within below =
    let left : n - p ≡ suc (n - (p + 1)) = omega arith in
    let whole : rest < count_base ^ suc (n - (p + 1)) = subst (λ k. rest < count_base ^ k) left below in
    let parts : rest < count_base ^ (n - (p + 1)) * count_base = rw (pow-suc) at whole in
    div_below rest count_base (count_base ^ (n - (p + 1))) (omega arith) parts

step : (n p rest key : ℕ) (counts : List ℕ) → p < n → length counts ≡ n → rest < count_base ^ (n - p)
    → digits (n - p) rest ++ drop (n - p) counts ≡ digits n key
    → digits (n - (p + 1)) (rest / count_base) ++ drop (n - (p + 1)) (set counts (n - 1 - p) (rest % count_base))
    ≡ digits n key
step n p rest key counts within many below so_far =
    let left : n - p ≡ suc (n - 1 - p) = omega arith in
    let then : n - (p + 1) ≡ n - 1 - p = omega arith in
    (λ i. digits (then i) (rest / count_base) ++ drop (then i) (set counts (n - 1 - p) (rest % count_base)))
    ∙ (one_written (n - 1 - p) rest counts (omega (arith, many)) (subst (λ k. rest < count_base ^ k) left below)
    ∙ ((λ i. digits (sym left i) rest ++ drop (sym left i) counts) ∙ so_far))

pub loop-places-preserved : goal.loop-places-preserved
loop-places-preserved c =
    record {
      many = simp length-set (c.loop-places.invariant.many);
      small = less (length c.args.counts.now) c.loop-places.places c.loop-places.rest (omega arith)
          c.loop-places.invariant.small;
      so_far = step (length c.args.counts.now) c.loop-places.places c.loop-places.rest c.args.key
          c.loop-places.counts (omega arith) c.loop-places.invariant.many c.loop-places.invariant.small
          c.loop-places.invariant.so_far;
    }

pub returns : goal.returns
returns c =
    let none : length c.args.counts.now - c.loop-places.places ≡ 0 = omega arith in
    (λ i. digits (sym none i) c.loop-places.rest ++ drop (sym none i) c.loop-places.counts)
    ∙ c.loop-places.invariant.so_far
