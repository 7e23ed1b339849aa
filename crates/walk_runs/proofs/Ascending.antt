-- Lists in which each element stands in a relation to the next, and what they contain; and the order of cuts by their
-- prefix.
use Rattle.std.proofs.Common.{◌≡◌, ℕ, zero, suc, ◌<◌, List, [], ◌∷◌, ◌++◌, Contains, refl, subst, inl, inr, ◌⊎◌, arith}
use Rattle.def_model.specs.Events.{Linked}
use Rattle.def_model.specs.Answers.{LexBelow}
use Rattle.def_model.proofs.OneAnswer.{lex_transitive}
use Rattle.walk_keys.specs.Neighbors.{cut_at}
use Rattle.walk_runs.specs.WholeLevels.{Run, IsBelowRun}

pub nothing_in_empty : {A : Type 0} (z : A) → ¬ Contains [] z
nothing_in_empty z (n, lt, at) = omega arith

pub in_cons : {A : Type 0} (x z : A) (xs : List A) → Contains (x ∷ xs) z → (x ≡ z) ⊎ Contains xs z
in_cons x z xs (zero, lt, at) = inl at
in_cons x z xs (suc k, lt, at) = inr (k, omega arith, at)

pub in_rest : {A : Type 0} (x z : A) (xs : List A) → Contains xs z → Contains (x ∷ xs) z
in_rest x z xs (k, lt, at) = (suc k, omega arith, at)

pub in_head : {A : Type 0} (x : A) (xs : List A) → Contains (x ∷ xs) x
in_head x xs = (0, omega arith, refl)

pub linked_cons : {A : Type 0} (R : A → A → Type 0) (x : A) (xs : List A) → ((z : A) → Contains xs z → R x z)
    → Linked R xs → Linked R (x ∷ xs)
linked_cons R x [] below links = tt
linked_cons R x (y ∷ xs) below links = (below y (in_head y xs), links)

pub linked_rest : {A : Type 0} (R : A → A → Type 0) (x : A) (xs : List A) → Linked R (x ∷ xs) → Linked R xs
linked_rest R x [] links = tt
linked_rest R x (y ∷ xs) links = links.1

pub linked_append : {A : Type 0} (R : A → A → Type 0) (xs ys : List A) → Linked R xs → Linked R ys
    → ((x y : A) → Contains xs x → Contains ys y → R x y) → Linked R (xs ++ ys)
linked_append R [] ys first second cross = second
linked_append R (x ∷ []) ys first second cross = linked_cons R x ys (λ z has. cross x z (in_head x []) has) second
linked_append R (x ∷ w ∷ xs) ys first second cross =
    (first.0, linked_append R (w ∷ xs) ys first.1 second (λ u v hu hv. cross u v (in_rest x u (w ∷ xs) hu) hv))

-- the first run of an ascending list is below each later one
pub below_later : (x z : Run) (xs : List Run) → Linked IsBelowRun (x ∷ xs) → Contains xs z → IsBelowRun x z
below_later x z [] links has = absurd (nothing_in_empty z has)
below_later x z (y ∷ xs) links has = go (in_cons y z xs has) (below_later y z xs links.1)
  where
    go : (y ≡ z) ⊎ Contains xs z → (Contains xs z → IsBelowRun y z) → IsBelowRun x z
    go (inl e) rest = subst (λ (w : Run). IsBelowRun x w) e links.0
    go (inr later) rest = lex_transitive x.prefix y.prefix z.prefix links.0 (rest later)

-- cuts of different prefixes are in the order of these, cuts of one in that of x
pub lex_prefixes : (prefix other : List ℕ) (x y u v : ℕ) → LexBelow prefix other
    → LexBelow (cut_at prefix x y) (cut_at other u v)
lex_prefixes [] other x y u v h = absurd h
lex_prefixes (n ∷ prefix) [] x y u v h = absurd h
lex_prefixes (n ∷ prefix) (m ∷ other) x y u v (inl lt) = inl lt
lex_prefixes (n ∷ prefix) (m ∷ other) x y u v (inr (e, h)) = inr (e, lex_prefixes prefix other x y u v h)

pub lex_in_prefix : (prefix : List ℕ) (x y u v : ℕ) → x < u → LexBelow (cut_at prefix x y) (cut_at prefix u v)
lex_in_prefix [] x y u v lt = inl lt
lex_in_prefix (n ∷ prefix) x y u v lt = inr (refl, lex_in_prefix prefix x y u v lt)
