-- Words with a byte between each two, as the first word and those after it.
use Rattle.std.proofs.Common.{◌≡◌, ℕ, List, [], ◌∷◌, ◌++◌, map, sym, ap, ◌∙◌, append-nil, append_assoc}
use Rattle.std.specs.List.{flat_map, join_with_byte}
use Rattle.std.proofs.lemmas.List.Folds.{flat_map-map}

pub joined : (c : ℕ) (word : List ℕ) (words : List (List ℕ)) → join_with_byte c (word ∷ words)
    ≡ word ++ flat_map (λ next. c ∷ next) words
joined c word [] = sym (append-nil word)
joined c word (next ∷ words) = ap (λ rest. word ++ (c ∷ rest)) (joined c next words)

pub joined-map : {A : Type 0} (c : ℕ) (f : A → List ℕ) (x : A) (xs : List A) → join_with_byte c (map f (x ∷ xs))
    ≡ f x ++ flat_map (λ y. c ∷ f y) xs
joined-map c f x xs = joined c (f x) (map f xs) ∙ ap (λ rest. f x ++ rest) (flat_map-map (λ next. c ∷ next) f xs)

-- what was written of words between commas: the first one, and then each with its comma
pub words_end : {A : Type 0} (f : A → List ℕ) (before middle after : List ℕ) (all others taken : List A) (first : A)
    → all ≡ first ∷ others → middle ≡ before ++ f first
    → after ≡ middle ++ flat_map (λ word. 44 ∷ f word) taken → taken ≡ others
    → after ≡ before ++ join_with_byte 44 (map f all)
words_end f before middle after all others taken first split begun written whole =
    written
    ∙ ap (λ out. out ++ flat_map (λ word. 44 ∷ f word) taken) begun
    ∙ append_assoc before (f first) (flat_map (λ word. 44 ∷ f word) taken)
    ∙ ap (λ words. before ++ (f first ++ flat_map (λ word. 44 ∷ f word) words)) whole
    ∙ ap (λ words. before ++ words) (sym (joined-map 44 f first others)
    ∙ ap (λ words. join_with_byte 44 (map f words)) (sym split))
