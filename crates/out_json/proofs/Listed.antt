-- Values that are made of the elements of a list, one after another.
use Rattle.std.proofs.Common.{◌≡◌, List, [], ◌∷◌, map, refl, ap, ◌∙◌}

through : {A B D : Type 0} (f : B → D) (g : A → B) (xs : List A) → map (λ x. f (g x)) xs ≡ map f (map g xs)
through f g [] = refl
through f g (x ∷ xs) = ap (λ rest. f (g x) ∷ rest) (through f g xs)

-- all of them
pub all_seen : {A B D V : Type 0} (see : V → D) (f : B → D) (g : A → B) (values : List V) (xs taken : List A)
    → map see values ≡ map (λ x. f (g x)) taken → taken ≡ xs → map see values ≡ map f (map g xs)
all_seen see f g values xs taken before whole =
    before ∙ ap (map (λ x. f (g x))) whole ∙ through f g xs
