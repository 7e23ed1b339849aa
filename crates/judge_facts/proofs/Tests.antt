-- Tests of the elements of a list, one after another.
use Rattle.std.proofs.Common.{◌≡◌, ℕ, ◌+◌, Bool, true, false, List, [], ◌∷◌, take, Option, Some, None, zero, suc, ◌∙◌, refl}
use Rattle.std.specs.Prelude.{◌||◌, slice_get, option_map}
use Rattle.std.specs.List.{list_any}
use Rattle.std.proofs.lemmas.Option.{slice_get_within, get_or_from_slice_get}
use Rattle.std.proofs.lemmas.List.Folds.{list_any_more}

or_true : (b : Bool) → (b || true) ≡ true
or_true true = refl
or_true false = refl

-- an element that passes is found
pub found : {X : Type 0} (test : X → Bool) (xs : List X) (i : ℕ) (x : X) → slice_get xs i ≡ Some x → test x ≡ true
    → list_any test xs ≡ true
found test [] i x at passes = absurd (cc)
found {X = X} test (y ∷ xs) zero x at passes = here y x (cc) passes
  where
    here : (y x : X) → y ≡ x → test x ≡ true → (test y || list_any test xs) ≡ true
    here y x e passes = rw (e, passes) refl
found test (y ∷ xs) (suc i) x at passes = rw (found test xs i x at passes) (or_true (test y))

-- one more element that doesn't pass
pub none_more : {X : Type 0} (test : X → Bool) (xs : List X) (i : ℕ) (x : X) → slice_get xs i ≡ Some x
    → test x ≡ false → list_any test (take i xs) ≡ false → list_any test (take (i + 1) xs) ≡ false
none_more test xs i x at fails before =
    list_any_more test xs i x (slice_get_within xs i x at)
    ∙ rw (before, get_or_from_slice_get xs i x x at, fails) refl

-- the element of which something is known
pub mapped : {X Y : Type 0} (f : X → Y) (xs : List X) (i : ℕ) (y : Y) → option_map f (slice_get xs i) ≡ Some y
    → (x : X) × (slice_get xs i ≡ Some x) × (f x ≡ y)
mapped {X = X} f xs i y h = go (slice_get xs i) refl h
  where
    go : (o : Option X) → slice_get xs i ≡ o → option_map f o ≡ Some y
        → (x : X) × (slice_get xs i ≡ Some x) × (f x ≡ y)
    go None e h = absurd (cc)
    go (Some x) e h = (x, e, cc)
