-- One element more at the end of a list.
use Rattle.std.proofs.Common.{◌≡◌, ℕ, ◌+◌, ◌<◌, List, [], ◌∷◌, ◌++◌, length, get_or, sym, ap, ◌∙◌, subst, arith}
use Rattle.std.proofs.lemmas.List.{get_or_append_left, get_or_push}
use borrow.Author.Count.{below_more}

-- what holds at each place below n, and of the new element, holds at each place below n + 1
pub each_push : {A : Type 0} (P : ℕ → A → Type 0) (xs ys : List A) (x d : A) (n : ℕ) → length xs ≡ n
    → ys ≡ xs ++ x ∷ [] → ((k : ℕ) → k < n → P k (get_or xs k d)) → P n x → (k : ℕ) → k < n + 1
    → P k (get_or ys k d)
each_push {A} P xs ys x d n same made before here =
    below_more (λ k. P k (get_or ys k d)) n
    (λ k lt. subst (P k)
    (sym (ap (λ (zs : List A). get_or zs k d) made
    ∙ get_or_append_left xs (x ∷ []) d k (omega (arith, same, lt)))) (before k lt))
    (subst (P n) (sym (ap (λ (zs : List A). get_or zs n d) made ∙ get_or_push xs x d n same)) here)
