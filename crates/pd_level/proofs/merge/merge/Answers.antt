-- Each turn takes the least key that is left.
use Rattle.std.proofs.Common.{◌≡◌, ℕ, ◌-◌, ◌<◌, ◌≤◌, List, ◌++◌, length, get_or, take, drop, Contains, sym, ◌∙◌, subst, inl, inr, ◌⊎◌, ◌↔◌, arith}
use Rattle.std.proofs.lemmas.Bool.{false≢true}
use Rattle.std.proofs.lemmas.List.{take_all}
use Rattle.walk_keys.specs.Keys.{Ascending}
use Rattle.pd_level.proofs.Merges.{IsMerged, take_left, take_right, take_both, rest_left, swapped}
use Rattle.pd_level.proofs.merge.merge.Goals as goal
use Rattle.pd_level.proofs.merge.merge.Goals.{then-loop-i-test+else-j-len, else-loop-i-test}

pub loop-i-preserved-then-is_below : goal.loop-i-preserved-then-is_below
loop-i-preserved-then-is_below g c =
    rw (c.in_ok-push.ensures, c.get-a.ensures) (take_left c.args.left.now c.loop-i.i c.args.right.now c.loop-i.j
    c.loop-i.both c.loop-i.invariant c.requires.left (omega arith) (omega arith)
    (rw (sym c.get-a.ensures, sym c.get-b.ensures) (c.is_below.ensures.0 c.if-is_below.true)))

pub loop-i-preserved-then-is_below-2 : goal.loop-i-preserved-then-is_below-2
loop-i-preserved-then-is_below-2 g c =
    rw (c.in_ok-push-2.ensures, c.get-b.ensures) (take_right c.args.left.now c.loop-i.i c.args.right.now c.loop-i.j
    c.loop-i.both c.loop-i.invariant c.requires.right (omega arith) (omega arith)
    (rw (sym c.get-a.ensures, sym c.get-b.ensures) (c.is_below-else-is_below.ensures.0 c.if-is_below-2.true)))

pub loop-i-preserved : goal.loop-i-preserved
loop-i-preserved g c =
    rw (c.in_ok-push-3.ensures, c.get-a.ensures) (take_both c.args.left.now c.loop-i.i c.args.right.now c.loop-i.j
    c.loop-i.both c.loop-i.invariant c.requires.left c.requires.right (omega arith) (omega arith)
    (tie (get_or c.args.left.now c.loop-i.i 0) (get_or c.args.right.now c.loop-i.j 0)
    (λ lt. false≢true (sym c.if-is_below.false
    ∙ c.is_below.ensures.1 (rw (c.get-a.ensures, c.get-b.ensures) lt)))
    (λ lt. false≢true (sym c.if-is_below-2.false
    ∙ c.is_below-else-is_below.ensures.1 (rw (c.get-a.ensures, c.get-b.ensures) lt)))))
  where
    tie : (a b : ℕ) → ¬ (a < b) → ¬ (b < a) → a ≡ b
    tie a b not_less not_more = omega arith

-- both lists are taken to their ends
ended : (left : List ℕ) (i : ℕ) (right : List ℕ) (j : ℕ) (both : List ℕ) → IsMerged left i right j both → Ascending left
    → Ascending right → (length left ≤ i) ⊎ (length right ≤ j)
    → IsMerged left (length left) right (length right) ((both ++ drop i left) ++ drop j right)
ended left i right j both m asc_left asc_right done =
    swapped right (length right) left (length left) ((both ++ drop i left) ++ drop j right)
    (rest_left right j left (length left) (both ++ drop i left)
    (swapped left (length left) right j (both ++ drop i left) (rest_left left i right j both m asc_left done))
    asc_right (inr (omega arith)))

whole_just : (left right both : List ℕ) → IsMerged left (length left) right (length right) both → (x : ℕ)
    → Contains both x ↔ (Contains left x ⊎ Contains right x)
whole_just left right both m x =
    let l : take (length left) left ≡ left = take_all (length left) left (omega arith) in
    let r : take (length right) right ≡ right = take_all (length right) right (omega arith) in
    subst (λ (ys : List ℕ). Contains both x ↔ (Contains left x ⊎ Contains ys x)) r
    (subst (λ (xs : List ℕ). Contains both x ↔ (Contains xs x ⊎ Contains (take (length right) right) x)) l (m.just x))

pub returns-clause-ascending : goal.returns-clause-ascending
returns-clause-ascending g c =
    let done : (length c.args.left.now ≤ c.loop-i.i) ⊎ (length c.args.right.now ≤ c.loop-i.j) =
    elim c.loop-i-test.branch [
      | then-loop-i-test+else-j-len w ↦ inr (omega (arith, w.if-j-len.false, w.len-in-loop-i-2.ensures))
      | else-loop-i-test w ↦ inl
          (omega (arith, w.loop-i-test.false, c.len-in-loop-i.ensures))
    ] in
    let whole : IsMerged c.args.left.now (length c.args.left.now) c.args.right.now (length c.args.right.now)
    c.extend-2.new.self =
    rw (c.in_ok-extend-2.ensures, c.in_ok-extend.ensures)
    (ended c.args.left.now c.loop-i.i c.args.right.now c.loop-i.j c.loop-i.both c.loop-i.invariant
    c.requires.left c.requires.right done) in
    whole.ascending

pub returns-clause-just : goal.returns-clause-just
returns-clause-just g c =
    let done : (length c.args.left.now ≤ c.loop-i.i) ⊎ (length c.args.right.now ≤ c.loop-i.j) =
    elim c.loop-i-test.branch [
      | then-loop-i-test+else-j-len w ↦ inr (omega (arith, w.if-j-len.false, w.len-in-loop-i-2.ensures))
      | else-loop-i-test w ↦ inl
          (omega (arith, w.loop-i-test.false, c.len-in-loop-i.ensures))
    ] in
    let whole : IsMerged c.args.left.now (length c.args.left.now) c.args.right.now (length c.args.right.now)
    c.extend-2.new.self =
    rw (c.in_ok-extend-2.ensures, c.in_ok-extend.ensures)
    (ended c.args.left.now c.loop-i.i c.args.right.now c.loop-i.j c.loop-i.both c.loop-i.invariant
    c.requires.left c.requires.right done) in
    whole_just c.args.left.now c.args.right.now c.extend-2.new.self whole
