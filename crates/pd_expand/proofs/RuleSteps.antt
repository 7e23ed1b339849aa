-- Each step of the claims keeps their rule.
use Rattle.std.proofs.Common.{◌≡◌, ℕ, zero, suc, ◌+◌, ◌-◌, ◌%◌, ◌^◌, ◌<◌, ◌≤◌, ◌≢◌, Bool, eqb, leb, cond, List, [], ◌∷◌, ◌++◌, length, set, slice_index, All, sum_by, count_by, sym, refl, ap, ◌∙◌, subst, ⊎_elim, arith, length-set, get_or-set_same}
use mathlib.Core.Option.{some, some-injective, some-ne-none}
use lib.ListN.{get_elem?}
use Rattle.std.proofs.Math.Nat.{mod-eq_of_lt}
use Rattle.std.proofs.lemmas.Bool.Decides.{nat_tests}
use Rattle.std.proofs.lemmas.List.Sums.{sum_by-cons, sum_by-append, sum_by_push}
use Rattle.atomic_table.specs.Table.{State, Me, step, keeps, opening, Allows, Splits, Joins, Seen}
use mathlib.Core.Option.{none}
use native.Mathlib.Decide.{dec_le}
use Rattle.atomic_table.proofs.Lists.{at_set, at_snoc, set_else}
use Rattle.def_format.specs.Limits.{worker_limit}
use Rattle.pd_expand.specs.declared.view.View.{View}
use Rattle.pd_expand.specs.ClaimRule.{view, times, past, once_below, IsFair, Kept, Draws}

module _ {A : Type 0} where
  -- the sum after a change of one element
  pub sum_set : (f : A → ℕ) (l : List A) (i : ℕ) (a b : A) → get_elem? l i ≡ some a
      → sum_by f (set l i b) + f a ≡ sum_by f l + f b
  sum_set f [] i a b e = absurd (some-ne-none a (sym e))
  sum_set f (x ∷ xs) zero a b e = let h : f x ≡ f a = ap f (some-injective x a e) in
      omega (arith, sum_by-cons f x xs, sum_by-cons f b xs)
  sum_set f (x ∷ xs) (suc i) a b e = omega (
    arith,
    sum_by-cons f x xs,
    sum_by-cons f x (set xs i b),
    sum_set f xs i a b e,
  )

  pub sum_at : (f : A → ℕ) (l : List A) (i : ℕ) (a : A) → get_elem? l i ≡ some a → f a ≤ sum_by f l
  sum_at f [] i a e = absurd (some-ne-none a (sym e))
  sum_at f (x ∷ xs) zero a e = let h : f x ≡ f a = ap f (some-injective x a e) in omega (arith, sum_by-cons f x xs)
  sum_at f (x ∷ xs) (suc i) a e = omega (arith, sum_by-cons f x xs, sum_at f xs i a e)

  pub sum_bound : (f g : A → ℕ) (l : List A) → ((i : ℕ) (a : A) → get_elem? l i ≡ some a → f a ≤ g a)
      → sum_by f l ≤ sum_by g l
  sum_bound f g [] h = omega arith
  sum_bound f g (x ∷ xs) h = omega (
    arith,
    sum_by-cons f x xs,
    sum_by-cons g x xs,
    h 0 x refl,
    sum_bound f g xs (λ i a e. h (suc i) a e),
  )

  pub sum_none : (f g : A → ℕ) (l : List A) → sum_by g l ≡ 0 → ((i : ℕ) (a : A) → get_elem? l i ≡ some a → g a ≡ 0
      → f a ≡ 0) → sum_by f l ≡ 0
  sum_none f g [] z h = refl
  sum_none f g (x ∷ xs) z h = let gx : g x ≡ 0 = omega (arith, sum_by-cons g x xs) in
      let rest : sum_by g xs ≡ 0 = omega (arith, sum_by-cons g x xs) in
      omega (arith, sum_by-cons f x xs, h 0 x refl gx, sum_none f g xs rest (λ i a e. h (suc i) a e))

  -- where one element has all of g, and none of g means none of f, it has all of f
  pub sum_sole : (f g : A → ℕ) (l : List A) (i : ℕ) (a : A) → get_elem? l i ≡ some a → sum_by g l ≡ g a
      → ((j : ℕ) (b : A) → get_elem? l j ≡ some b → g b ≡ 0 → f b ≡ 0) → sum_by f l ≡ f a
  sum_sole f g [] i a e s h = absurd (some-ne-none a (sym e))
  sum_sole f g (x ∷ xs) zero a e s h = let fx : f x ≡ f a = ap f (some-injective x a e) in
      let gx : g x ≡ g a = ap g (some-injective x a e) in
      let rest : sum_by g xs ≡ 0 = omega (arith, sum_by-cons g x xs) in
      omega (arith, sum_by-cons f x xs, sum_none f g xs rest (λ j b m. h (suc j) b m))
  sum_sole f g (x ∷ xs) (suc i) a e s h = let gx : g x ≡ 0 = omega (arith, sum_by-cons g x xs, sum_at g xs i a e) in
      let rest : sum_by g xs ≡ g a = omega (arith, sum_by-cons g x xs) in
      omega (arith, sum_by-cons f x xs, h 0 x refl gx, sum_sole f g xs i a e rest (λ j b m. h (suc j) b m))

  -- what holds of each element still holds after a change of one
  pub each_set : (P : A → Type 0) (l : List A) (i : ℕ) (b : A) → P b → ((j : ℕ) (a : A) → get_elem? l j ≡ some a → P a)
      → (j : ℕ) (a : A) → get_elem? (set l i b) j ≡ some a → P a
  each_set P l i b here all j a e = ⊎_elim (λ (t : (j ≡ i) × (b ≡ a)). subst P t.1 here) (λ (t : (j ≢ i) × (get_elem? l
      j ≡ some a)). all j a t.1) (at_set l i j b a e)

  pub each_snoc : (P : A → Type 0) (l : List A) (b : A) → P b → ((j : ℕ) (a : A) → get_elem? l j ≡ some a → P a)
      → (j : ℕ) (a : A) → get_elem? (l ++ b ∷ []) j ≡ some a → P a
  each_snoc P l b here all j a e = ⊎_elim (λ (t : get_elem? l j ≡ some a). all j a t) (λ (t : b ≡ a). subst P t here)
      (at_snoc l b a j e)

pub counted : (p : ℕ → Bool) (xs : List ℕ) (n : ℕ) → count_by p (xs ++ n ∷ []) ≡ count_by p xs + cond (p n) 1 0
counted p xs n = sum_by_push (λ x. cond (p x) 1 0) xs n

one_more : (x n : ℕ) → once_below x (n + 1) ≡ once_below x n + cond (eqb n x) 1 0
one_more x n = grind (arith, nat_tests)

past_more : (blocks n p : ℕ) → n ≤ blocks + p → n + 1 ≤ blocks + (p + cond (leb blocks n) 1 0)
past_more blocks n p h = grind (arith, nat_tests)

one_past : (blocks n : ℕ) → cond (leb blocks n) 1 0 ≤ 1
one_past blocks n = grind (arith, nat_tests)

module _ {S : Type 0} (blocks workers : ℕ) where
  abbrev Rule : State S View → Type 0
  Rule = Kept blocks workers

  pub opens : (slots : List S) → Rule (opening (0 ∷ []) slots (view workers []))
  opens slots = record {
    wide = refl;
    all_workers = omega arith;
    once = λ x. grind (arith, nat_tests);
    bounded = omega arith;
    fair = each_here (IsFair blocks) (view workers []) (omega arith, λ _. refl);
  }
    where
      each_here : (P : View → Type 0) (v : View) → P v → (j : ℕ) (w : View) → get_elem? (v ∷ []) j ≡ some w → P w
      each_here P v p zero w e = subst P (some-injective v w e) p
      each_here P v p (suc j) w e = absurd (some-ne-none w (sym e))

  -- a seat of more than one worker, which drew nothing, gives one to a new seat
  pub deals : (id n : ℕ) → 1 < n → Splits {S = S} Rule id (view n []) (view (n - 1) []) (view 1 [])
  deals id n more s r at = let v : View = view n [] in let left : View = view (n - 1) [] in
      let right : View = view 1 [] in let views : List View = set s.views id left in record {
        wide = r.wide;
        all_workers = omega (
          arith,
          r.all_workers,
          sum_by_push (λ (u : View). u.workers) views right,
          sum_set (λ (u : View). u.workers) s.views id v left at,
        );
        once = λ x. omega (
          arith,
          r.once x,
          sum_by_push (λ (u : View). times x u.drawn) views right,
          sum_set (λ (u : View). times x u.drawn) s.views id v left at,
        );
        bounded = omega (
          arith,
          r.bounded,
          sum_by_push (λ (u : View). past blocks u.drawn) views right,
          sum_set (λ (u : View). past blocks u.drawn) s.views id v left at,
        );
        fair = each_snoc (IsFair blocks) views right (
          omega arith,
          λ _. refl,
        ) (each_set (IsFair blocks) s.views id left (omega arith, λ _. refl) r.fair);
      }

  -- the word stays far below 2 ^ 64
  far_below : (s : State S View) → Rule s → slice_index s.words 0 ≤ blocks + workers
  far_below s r = omega (
    arith,
    r.bounded,
    r.all_workers,
    sum_bound (λ (u : View). past blocks u.drawn) (λ (u : View). u.workers) s.views (λ i v e. (r.fair i v e).0),
  )

  pub draws : (slots id : ℕ) (me : Me S View) → blocks ≤ 2 ^ 63 → workers ≤ worker_limit
      → past blocks me.0.drawn < me.0.workers
      → Allows Rule slots id me 0 (λ n. (n + 1) % 2 ^ 64) (Draws (step slots 0 1 0 none) me)
  draws slots id me few_blocks few_workers room s r wide at small = let n : ℕ = slice_index s.words 0 in
      let v : View = me.0 in let w : View = view v.workers (v.drawn ++ n ∷ []) in
      let below = far_below s r in let up : (n + 1) % 2 ^ 64 ≡ n + 1 = mod-eq_of_lt (omega arith) in
      let long = r.wide in
      let now : slice_index (set s.words 0 ((n + 1) % 2 ^ 64)) 0 ≡ n + 1 = get_or-set_same s.words 0 ((n + 1) % 2 ^ 64)
      0 (omega arith) ∙ up in (
        w,
        keeps,
        tt,
        record {
          wide = length-set s.words 0 ((n + 1) % 2 ^ 64) ∙ r.wide;
          all_workers = omega (arith, r.all_workers, sum_set (λ (u : View). u.workers) s.views id v w at);
          once = λ x. rw now (omega (
            arith,
            r.once x,
            one_more x n,
            sum_set (λ (u : View). times x u.drawn) s.views id v w at,
            counted (λ y. eqb y x) v.drawn n,
          ));
          bounded = rw now (let p : ℕ = sum_by (λ (u : View). past blocks u.drawn) s.views in
              omega (
                arith,
                past_more blocks n p r.bounded,
                sum_set (λ (u : View). past blocks u.drawn) s.views id v w at,
                counted (λ y. leb blocks y) v.drawn n,
              ));
          fair = each_set (IsFair blocks) s.views id w (
            omega (
              arith,
              one_past blocks n,
              counted (λ y. leb blocks y) v.drawn n,
            ),
            λ z. absurd (omega arith),
          ) r.fair;
        },
        refl,
      )

  pub joins : (id : ℕ) (v : View) (other : ℕ) (w : View)
      → Joins {S = S} Rule id v other w (view (v.workers + w.workers) (v.drawn ++ w.drawn)) (view 0 [])
  joins id v other w s r at apart at_other = let both : View = view (v.workers + w.workers) (v.drawn ++ w.drawn) in
      let spent : View = view 0 [] in let views : List View = set s.views id both in
      let was : get_elem? s.views other ≡ some w = sym (set_else s.views id other both apart) ∙ at_other in
      let fv = r.fair id v at in let fw = r.fair other w was in record {
        wide = r.wide;
        all_workers = omega (
          arith,
          r.all_workers,
          sum_set (λ (u : View). u.workers) s.views id v both at,
          sum_set (λ (u : View). u.workers) views other w spent at_other,
        );
        once = λ x. omega (
          arith,
          r.once x,
          sum_set (λ (u : View). times x u.drawn) s.views id v both at,
          sum_set (λ (u : View). times x u.drawn) views other w spent at_other,
          sum_by-append (λ y. cond (eqb y x) 1 0) v.drawn w.drawn,
        );
        bounded = omega (
          arith,
          r.bounded,
          sum_set (λ (u : View). past blocks u.drawn) s.views id v both at,
          sum_set (λ (u : View). past blocks u.drawn) views other w spent at_other,
          sum_by-append (λ y. cond (leb blocks y) 1 0) v.drawn w.drawn,
        );
        fair = each_set (IsFair blocks) views other spent (
          omega arith,
          λ _. refl,
        ) (each_set (IsFair blocks) s.views id both (
          omega (arith, fv.0, fw.0, sum_by-append (λ y. cond (leb blocks y) 1 0) v.drawn w.drawn),
          λ z. ap (λ (l : List ℕ). l ++ w.drawn) (fv.1 (omega arith)) ∙ fw.1 (omega arith),
        ) r.fair);
      }

  -- the seat that stands for all workers has each number below the word once
  pub settles : (id : ℕ) (v : View) (s : State S View) → Seen Rule id v s → v.workers ≡ workers → (x : ℕ)
      → times x v.drawn ≡ once_below x (slice_index s.words 0)
  settles id v s r all x = let k = r.0 in
      sym (sum_sole (λ (u : View). times x u.drawn) (λ (u : View). u.workers) s.views id v r.1 (k.all_workers ∙ sym all)
      (λ j u e z. ap (times x) ((k.fair j u e).1 z))) ∙ k.once x

-- the last element of a list, and the others
pub all_popped : {A : Type 0} (P : A → Type 0) (l : List A) (x : A) → All P (l ++ x ∷ []) → All P l × P x
all_popped P [] x h = (λ k d lt. absurd (omega arith), h 0 x (omega arith))
all_popped P (y ∷ ys) x h = let t = all_popped P ys x (λ k d lt. h (suc k) d (omega arith)) in (front t.0, t.1)
  where
    front : All P ys → All P (y ∷ ys)
    front g zero d lt = h 0 d (omega arith)
    front g (suc k) d lt = g k d (omega arith)

pub sum_popped : {A : Type 0} (f : A → ℕ) (l m : List A) (x : A) → l ≡ m ++ x ∷ [] → f x + sum_by f m ≡ sum_by f l
sum_popped f l m x e = omega (arith, ap (sum_by f) e, sum_by_push f m x)

pub sum_of_none : {A : Type 0} (f : A → ℕ) (l : List A) → length l ≡ 0 → sum_by f l ≡ 0
sum_of_none f [] e = refl
sum_of_none f (x ∷ xs) e = absurd (omega arith)

-- a number of `blocks` or more stands there
abbrev Stands : ℕ → List ℕ → Type 0
Stands blocks xs = (y : ℕ) × (blocks ≤ y) × (0 < times y xs)

itself : (x : ℕ) → cond {A = ℕ} (eqb x x) 1 0 ≡ 1
itself x = grind (arith, nat_tests)

not_past : (blocks x : ℕ) → ¬ (blocks ≤ x) → cond {A = ℕ} (leb blocks x) 1 0 ≡ 0
not_past blocks x d = grind (arith, nat_tests)

found_from : (blocks x : ℕ) (xs : List ℕ) → (0 < past blocks xs → Stands blocks xs) → 0 < past blocks (x ∷ xs)
    → Dec (blocks ≤ x) → Stands blocks (x ∷ xs)
found_from blocks x xs later some_past (yes d) = (
  x,
  d,
  omega (
    arith,
    itself x,
    sum_by-cons (λ y. cond (eqb y x) 1 0) x xs,
  ),
)
found_from blocks x xs later some_past (no d) = let t = later (omega (
  arith,
  not_past blocks x d,
  sum_by-cons (λ y. cond (leb blocks y) 1 0) x xs,
)) in
    (t.0, t.1, omega (arith, t.2, sum_by-cons (λ y. cond (eqb y t.0) 1 0) x xs))

found : (blocks : ℕ) (xs : List ℕ) → 0 < past blocks xs → Stands blocks xs
found blocks [] some_past = absurd (omega arith)
found blocks (x ∷ xs) some_past = found_from blocks x xs (found blocks xs) some_past (dec_le blocks x)

-- who has each number below n once and no other, and one past the blocks, has each block once
pub has_each : (blocks n : ℕ) (xs : List ℕ) → ((x : ℕ) → times x xs ≡ once_below x n) → 0 < past blocks xs → (x : ℕ)
    → x < blocks → times x xs ≡ 1
has_each blocks n xs each some_past x below = let t = found blocks xs some_past in let e = each t.0 in
    let y : ℕ = t.0 in let c : ℕ = times t.0 xs in
    let some : 0 < once_below y n = omega (arith, t.2, e) in let far : blocks ≤ y = t.1 in
    each x ∙ inside x y n blocks some far below
  where
    inside : (x y n blocks : ℕ) → 0 < once_below y n → blocks ≤ y → x < blocks → once_below x n ≡ 1
    inside x y n blocks a b c = grind (arith, nat_tests)
