-- The number of messages is one.
use Rattle.std.proofs.Common.{◌≡◌, ℕ, zero, suc, ◌<◌, List, [], ◌∷◌, length, Contains, refl, sym, ap, ◌∙◌, subst, inl, inr, ◌⊎◌, ◌↔◌, arith}
use Rattle.def_model.specs.Events.{Computation, Place, IsBefore, Linked}
use Rattle.def_model.specs.Messages.{AreReceived, HasMessages}

before_trans : (d e f : Place) → IsBefore d e → IsBefore e f → IsBefore d f
before_trans d e f (inl h) (inl k) = inl (omega arith)
before_trans d e f (inl h) (inr (p, k)) = inl (omega arith)
before_trans d e f (inr (p, h)) (inl k) = inl (omega arith)
before_trans d e f (inr (p, h)) (inr (q, k)) = inr (p ∙ q, omega arith)

not_before : (d : Place) → ¬ IsBefore d d
not_before d (inl h) = omega arith
not_before d (inr (p, h)) = omega arith

contains_cases : (x z : Place) (xs : List Place) → Contains (x ∷ xs) z → (x ≡ z) ⊎ Contains xs z
contains_cases x z xs (zero, lt, at) = inl at
contains_cases x z xs (suc k, lt, at) = inr (k, omega arith, at)

contains_later : (x z : Place) (xs : List Place) → Contains xs z → Contains (x ∷ xs) z
contains_later x z xs (k, lt, at) = (suc k, omega arith, at)

-- the first of an ascending list stands before each later one
before_rest : (x z : Place) (xs : List Place) → Linked IsBefore (x ∷ xs) → Contains xs z → IsBefore x z
before_rest x z [] links (k, lt, at) = absurd (omega arith)
before_rest x z (y ∷ xs) links has = go (contains_cases y z xs has) (before_rest y z xs links.1)
  where
    go : (y ≡ z) ⊎ Contains xs z → (Contains xs z → IsBefore y z) → IsBefore x z
    go (inl e) rest = subst (λ (w : Place). IsBefore x w) e links.0
    go (inr later) rest = before_trans x y z links.0 (rest later)

ascending_rest : (x : Place) (xs : List Place) → Linked IsBefore (x ∷ xs) → Linked IsBefore xs
ascending_rest x [] links = tt
ascending_rest x (y ∷ xs) links = links.1

one_ascending : (xs ys : List Place) → Linked IsBefore xs → Linked IsBefore ys
    → ((z : Place) → Contains xs z ↔ Contains ys z) → xs ≡ ys
one_ascending [] [] a b same = refl
one_ascending [] (y ∷ ys) a b same = let w : Contains [] y = (same y).1 (0, omega arith, refl) in let lt : w.0 < 0 =
    w.1 in absurd (omega arith)
one_ascending (x ∷ xs) [] a b same = let w : Contains [] x = (same x).0 (0, omega arith, refl) in let lt : w.0 < 0 =
    w.1 in absurd (omega arith)
one_ascending (x ∷ xs) (y ∷ ys) a b same =
    let e : x ≡ y =
    first (contains_cases y x ys ((same x).0 (0, omega arith, refl)))
    (contains_cases x y xs ((same y).1 (0, omega arith, refl))) in
    let rest : xs ≡ ys = one_ascending xs ys (ascending_rest x xs a) (ascending_rest y ys b) (λ z. (to e z, from e z))
    in
    λ i. e i ∷ rest i
  where
    first : (y ≡ x) ⊎ Contains ys x → (x ≡ y) ⊎ Contains xs y → x ≡ y
    first (inl e) r = sym e
    first (inr l) (inl e) = e
    first (inr l) (inr r) =
        absurd (not_before x (before_trans x y x (before_rest x y xs a r) (before_rest y x ys b l)))

    to : x ≡ y → (z : Place) → Contains xs z → Contains ys z
    to e z has = go (contains_cases y z ys ((same z).0 (contains_later x z xs has)))
      where
        go : (y ≡ z) ⊎ Contains ys z → Contains ys z
        go (inl f) = absurd (not_before z (subst (λ (w : Place). IsBefore w z) (e ∙ f) (before_rest x z xs a has)))
        go (inr later) = later

    from : x ≡ y → (z : Place) → Contains ys z → Contains xs z
    from e z has = go (contains_cases x z xs ((same z).1 (contains_later y z ys has)))
      where
        go : (x ≡ z) ⊎ Contains xs z → Contains xs z
        go (inl f) =
            absurd (not_before z (subst (λ (w : Place). IsBefore w z) (sym e ∙ f) (before_rest y z ys b has)))
        go (inr later) = later

-- the sends that are received are one list
pub one_received : (c : Computation) (xs ys : List Place) → AreReceived c xs → AreReceived c ys → xs ≡ ys
one_received c xs ys p q =
    one_ascending xs ys p.ascending q.ascending (λ z. (
      (λ has. (q.just z).1 ((p.just z).0 has)),
      (λ has. (p.just z).1 ((q.just z).0 has)),
    ))

pub one_count : (c : Computation) (m n : ℕ) → HasMessages c m → HasMessages c n → m ≡ n
one_count c m n (xs, are, e) (ys, are', f) = e ∙ (ap length (one_received c xs ys are are') ∙ sym f)
