-- Lists: sums after a change of one element, facts of each element after a change, and elements by place.
use Rattle.std.proofs.Common.{◌≡◌, ◌≢◌, ℕ, zero, suc, ◌+◌, ◌<◌, ◌≤◌, List, [], ◌∷◌, ◌++◌, drop, length, map, get_or, set, All, sum_by, sym, refl, ap, ◌∙◌, subst, ⊎_elim, arith, append_assoc, append-nil}
use mathlib.Core.List.{IsPrefix}
use mathlib.Core.Option.{some, some-injective, some-ne-none}
use lib.ListN.{get_elem?}
use Rattle.std.proofs.lemmas.List.{map-append}
use Rattle.std.proofs.lemmas.List.Elements.{All-nil, All-cons}
use Rattle.std.proofs.lemmas.List.Sums.{sum_by-cons}
use Rattle.atomic_table.proofs.Lists.{at_set, at_snoc}
use Rattle.def_model.specs.Cuts.{indices_from}

module _ {A : Type 0} where
  -- the sum after a change of one element
  pub sum_set : (f : A → ℕ) (l : List A) (i : ℕ) (a b : A) → get_elem? l i ≡ some a
      → sum_by f (set l i b) + f a ≡ sum_by f l + f b
  sum_set f [] i a b e = absurd (some-ne-none a (sym e))
  sum_set f (x ∷ xs) zero a b e =
      let h : f x ≡ f a = ap f (some-injective x a e) in
      omega (arith, sum_by-cons f x xs, sum_by-cons f b xs)
  sum_set f (x ∷ xs) (suc i) a b e =
      omega (arith, sum_by-cons f x xs, sum_by-cons f x (set xs i b), sum_set f xs i a b e)

  pub sum_at : (f : A → ℕ) (l : List A) (i : ℕ) (a : A) → get_elem? l i ≡ some a → f a ≤ sum_by f l
  sum_at f [] i a e = absurd (some-ne-none a (sym e))
  sum_at f (x ∷ xs) zero a e =
      let h : f x ≡ f a = ap f (some-injective x a e) in
      omega (arith, sum_by-cons f x xs)
  sum_at f (x ∷ xs) (suc i) a e = omega (arith, sum_by-cons f x xs, sum_at f xs i a e)

  -- two elements at different places
  pub sum_two : (f : A → ℕ) (l : List A) (i j : ℕ) (a b : A) → i ≢ j → get_elem? l i ≡ some a
      → get_elem? l j ≡ some b → f a + f b ≤ sum_by f l
  sum_two f [] i j a b ne e g = absurd (some-ne-none a (sym e))
  sum_two f (x ∷ xs) zero zero a b ne e g = absurd (ne refl)
  sum_two f (x ∷ xs) zero (suc j) a b ne e g =
      let h : f x ≡ f a = ap f (some-injective x a e) in
      omega (arith, sum_by-cons f x xs, sum_at f xs j b g)
  sum_two f (x ∷ xs) (suc i) zero a b ne e g =
      let h : f x ≡ f b = ap f (some-injective x b g) in
      omega (arith, sum_by-cons f x xs, sum_at f xs i a e)
  sum_two f (x ∷ xs) (suc i) (suc j) a b ne e g =
      omega (arith, sum_by-cons f x xs, sum_two f xs i j a b (λ h. ne (ap suc h)) e g)

  -- what holds of each element, after a change of one and after one more
  pub each_set : (P : A → Type 0) (l : List A) (i : ℕ) (b : A) → P b
      → ((j : ℕ) (a : A) → j ≢ i → get_elem? l j ≡ some a → P a)
      → (j : ℕ) (a : A) → get_elem? (set l i b) j ≡ some a → P a
  each_set P l i b here all j a e =
      ⊎_elim (λ (t : (j ≡ i) × (b ≡ a)). subst P t.1 here)
      (λ (t : (j ≢ i) × (get_elem? l j ≡ some a)). all j a t.0 t.1) (at_set l i j b a e)

  pub each_snoc : (P : A → Type 0) (l : List A) (b : A) → P b → ((j : ℕ) (a : A) → get_elem? l j ≡ some a → P a)
      → (j : ℕ) (a : A) → get_elem? (l ++ b ∷ []) j ≡ some a → P a
  each_snoc P l b here all j a e =
      ⊎_elim (λ (t : get_elem? l j ≡ some a). all j a t) (λ (t : b ≡ a). subst P t here) (at_snoc l b a j e)

  -- all but the last, and the last
  pub all_popped : (P : A → Type 0) (l : List A) (x : A) → All P (l ++ x ∷ []) → All P l × P x
  all_popped P [] x h = (All-nil P, h 0 x (omega arith))
  all_popped P (y ∷ ys) x h =
      let t = all_popped P ys x (λ k d lt. h (suc k) d (omega arith)) in
      (All-cons P y ys (h 0 y (omega arith)) t.0, t.1)

  pub prefix_longer : (xs ys : List A) (y : A) → IsPrefix xs ys → IsPrefix xs (ys ++ y ∷ [])
  prefix_longer xs ys y p =
      (p.0 ++ y ∷ [], sym (append_assoc xs p.0 (y ∷ [])) ∙ ap (λ l. l ++ y ∷ []) p.1)

  pub prefix_whole : (xs : List A) → IsPrefix xs xs
  prefix_whole xs = ([], append-nil xs)

  pub at_bound : (l : List A) (i : ℕ) (a : A) → get_elem? l i ≡ some a → i < length l
  at_bound [] i a e = absurd (some-ne-none a (sym e))
  at_bound (x ∷ xs) zero a e = omega arith
  at_bound (x ∷ xs) (suc i) a e =
      let t = at_bound xs i a e in
      omega arith

  pub nothing_before : (l m : List A) → length l ≡ 0 → l ++ m ≡ m
  nothing_before [] m e = refl
  nothing_before (x ∷ xs) m e = absurd (omega arith)

  -- one element more at the end, and its place
  pub each_push : (P : ℕ → A → Type 0) (xs : List A) (x : A) → ((k : ℕ) (d : A) → k < length xs → P k (get_or xs k d))
      → P (length xs) x → (k : ℕ) (d : A) → k < length (xs ++ x ∷ []) → P k (get_or (xs ++ x ∷ []) k d)
  each_push P [] x h p zero d lt = p
  each_push P [] x h p (suc k) d lt = absurd (omega arith)
  each_push P (y ∷ ys) x h p zero d lt = h 0 d (omega arith)
  each_push P (y ∷ ys) x h p (suc k) d lt =
      each_push (λ j. P (suc j)) ys x (λ j e l. h (suc j) e (omega arith)) p k d (omega arith)

  -- what f gives of the elements are the numbers from a on
  pub in_order : (f : A → ℕ) (a : ℕ) (xs : List A) → ((k : ℕ) (d : A) → k < length xs → f (get_or xs k d) ≡ a + k)
      → map f xs ≡ indices_from a xs
  in_order f a [] h = refl
  in_order f a (x ∷ xs) h =
      let head : f x ≡ a = h 0 x (omega arith) ∙ omega arith in
      let tail = in_order f (suc a) xs (λ k d lt. h (suc k) d (omega arith) ∙ omega arith) in
      λ i. head i ∷ tail i

  pub order_at : (f : A → ℕ) (a : ℕ) (xs : List A) → map f xs ≡ indices_from a xs
      → (k : ℕ) (d : A) → k < length xs → f (get_or xs k d) ≡ a + k
  order_at f a [] e k d lt = absurd (omega arith)
  order_at f a (x ∷ xs) e zero d lt = ap (λ (l : List ℕ). get_or l 0 0) e ∙ omega arith
  order_at f a (x ∷ xs) e (suc k) d lt =
      order_at f (suc a) xs (ap (drop 1) e) k d (omega arith) ∙ omega arith

module _ {A B : Type 0} where
  pub prefix_map : (f : A → B) (xs ys : List A) → IsPrefix xs ys → IsPrefix (map f xs) (map f ys)
  prefix_map f xs ys p = (map f p.0, sym (map-append f xs p.0) ∙ ap (map f) p.1)
