-- Lists whose neighbors stand in a relation, their first and last elements, and one element more at the end.
use Rattle.std.proofs.Common.{◌≡◌, ℕ, zero, suc, ◌<◌, List, [], ◌∷◌, ◌++◌, length, get_or, Some, All, Contains, Bool, true, false, refl, sym, subst, inl, inr, ◌⊎◌, arith}
use Rattle.std.proofs.lemmas.List.Elements.{All-cons, All-nil}
use Rattle.std.proofs.lemmas.Option.{same_Some}
use Rattle.def_model.specs.Events.{Linked, first_of, last_of}

pub linked_at : {A : Type 0} (R : A → A → Type 0) (xs : List A) → Linked R xs → (j : ℕ) (d : A) → suc j < length xs
    → R (get_or xs j d) (get_or xs (suc j) d)
linked_at R [] h j d lt = absurd (omega arith)
linked_at R (x ∷ []) h j d lt = absurd (omega arith)
linked_at R (x ∷ y ∷ rest) h zero d lt = h.0
linked_at R (x ∷ y ∷ rest) h (suc j) d lt = linked_at R (y ∷ rest) h.1 j d (omega arith)

pub linked_push : {A : Type 0} (R : A → A → Type 0) (xs : List A) (x y : A) → Linked R xs → last_of xs ≡ Some x → R x y
    → Linked R (xs ++ y ∷ [])
linked_push R [] x y h e r = tt
linked_push R (z ∷ []) x y h e r = (subst (λ u. R u y) (sym (same_Some z x e)) r, tt)
linked_push R (z ∷ w ∷ rest) x y h e r = (h.0, linked_push R (w ∷ rest) x y h.1 e r)

pub last_of_push : {A : Type 0} (xs : List A) (y : A) → last_of (xs ++ y ∷ []) ≡ Some y
last_of_push [] y = refl
last_of_push (x ∷ []) y = refl
last_of_push (x ∷ z ∷ rest) y = last_of_push (z ∷ rest) y

pub first_of_push : {A : Type 0} (xs : List A) (x y : A) → first_of xs ≡ Some x → first_of (xs ++ y ∷ []) ≡ Some x
first_of_push [] x y e = cc
first_of_push (z ∷ rest) x y e = e

pub at_first : {A : Type 0} (xs : List A) (x d : A) → first_of xs ≡ Some x → (get_or xs 0 d ≡ x) × (0 < length xs)
at_first [] x d e = absurd (cc)
at_first (z ∷ rest) x d e = (same_Some z x e, omega arith)

pub at_last : {A : Type 0} (xs : List A) (x d : A) (n : ℕ) → last_of xs ≡ Some x → length xs ≡ suc n → get_or xs n d ≡ x
at_last [] x d n e l = absurd (cc)
at_last (z ∷ []) x d zero e l = same_Some z x e
at_last (z ∷ []) x d (suc n) e l = absurd (omega arith)
at_last (z ∷ w ∷ rest) x d zero e l = absurd (omega arith)
at_last (z ∷ w ∷ rest) x d (suc n) e l = at_last (w ∷ rest) x d n e (omega arith)

-- some element passes the test, or each fails
pub find_or_all : {A : Type 0} (test : A → Bool) (xs : List A) → ((x : A) × Contains xs x × (test x ≡ true))
    ⊎ All (λ x. test x ≡ false) xs
find_or_all test [] = inr (All-nil (λ x. test x ≡ false))
find_or_all {A} test (x ∷ rest) = go (test x) refl (find_or_all test rest)
  where
    go : (b : Bool) → test x ≡ b → ((y : A) × Contains rest y × (test y ≡ true)) ⊎ All (λ y. test y ≡ false) rest
        → ((y : A) × Contains (x ∷ rest) y × (test y ≡ true)) ⊎ All (λ y. test y ≡ false) (x ∷ rest)
    go true e found = inl (x, (0, omega arith, refl), e)
    go false e (inl (y, (k, lt, at), pass)) = inl (y, (suc k, omega arith, at), pass)
    go false e (inr fail) = inr (All-cons (λ y. test y ≡ false) x rest e fail)
