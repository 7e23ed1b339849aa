-- The first place in a list whose elements are seen through a function.
use Rattle.std.proofs.Common.{◌≡◌, ◌+◌, Bool, cond, List, [], ◌∷◌, map, refl, ap}
use Rattle.std.specs.Prelude.{position, not}
use Rattle.std.specs.List.{prefix_len}
use Rattle.std.proofs.lemmas.List.{length-map}

prefix-map : {A B : Type 0} (p : B → Bool) (f : A → B) (xs : List A)
    → prefix_len p (map f xs) ≡ prefix_len (λ x. p (f x)) xs
prefix-map p f [] = refl
prefix-map p f (x ∷ xs) = ap (λ n. cond (p (f x)) (1 + n) 0) (prefix-map p f xs)

pub position-map : {A B : Type 0} (p : B → Bool) (f : A → B) (xs : List A)
    → position p (map f xs) ≡ position (λ x. p (f x)) xs
position-map p f xs = rw (prefix-map (λ y. not (p y)) f xs, length-map xs f) refl
