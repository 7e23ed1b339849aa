-- The first process whose name an earlier one has.
use Rattle.std.proofs.Common.{◌≡◌, ◌<◌, ◌+◌, ℕ, suc, List, [], ◌∷◌, ◌++◌, length, map, take, drop, get_or, refl, sym, ap, ◌∙◌, add-one, drop-cons}
use Rattle.std.specs.Prelude.{Option, None, position}
use Rattle.std.specs.Str.{bytes_eq}
use Rattle.std.proofs.lemmas.List.{map-append, map_more}
use Rattle.judge_infer.specs.DocumentParts.{names_of, again_after}
use Rattle.judge_infer.specs.Streams.{Process}

module _ {N : Type 0} (view : N → Process) (xs : List N) (i : ℕ) (d : N) (lt : i < length xs) where
  abbrev pub before : List (List ℕ)
  before = names_of (map view (take i xs))

  abbrev pub name : List ℕ
  name = (view (get_or xs i d)).name

  abbrev pub later : List (List ℕ)
  later = names_of (map view (drop (suc i) xs))

  left : names_of (map view (drop i xs)) ≡ name ∷ later
  left = ap (λ rest. names_of (map view rest)) (drop-cons xs i d lt)

  taken : names_of (map view (take (i + 1) xs)) ≡ before ++ name ∷ []
  taken =
      ap names_of (map_more view xs i d lt)
      ∙ map-append (λ (process : Process). process.name) (map view (take i xs)) (view (get_or xs i d) ∷ [])

  -- no earlier one has its name
  same_on : position (λ other. bytes_eq other name) before ≡ None
      → again_after before (names_of (map view (drop i xs)))
      ≡ again_after (names_of (map view (take (i + 1) xs))) (names_of (map view (drop (i + 1) xs)))
  same_on none = rw (left, none, taken, add-one i) refl

  pub same_goes_on : (front : List N) (n : List ℕ) (place : Option ℕ) → front ≡ take i xs → n ≡ name
      → place ≡ position (λ other. bytes_eq other n) (names_of (map view front)) → place ≡ None
      → again_after before (names_of (map view (drop i xs)))
      ≡ again_after (names_of (map view (take (i + 1) xs))) (names_of (map view (drop (i + 1) xs)))
  same_goes_on front n place fronts names places none =
      same_on (ap (λ (f : List N). position (λ other. bytes_eq other name) (names_of (map view f))) (sym fronts)
      ∙ (ap (λ (m : List ℕ). position (λ other. bytes_eq other m) (names_of (map view front))) (sym names)
      ∙ (sym places ∙ none)))
