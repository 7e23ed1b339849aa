-- What a loop over the items of an array has made so far.
use Rattle.std.proofs.lemmas.List.{map-append}
use Rattle.std.proofs.Common.{◌≡◌, ℕ, suc, ◌+◌, ◌<◌, List, [], ◌∷◌, ◌++◌, length, get_or, drop, map, refl, sym, ap, append_assoc, add-one, drop-cons}
use Rattle.std.specs.Prelude.{Option, None, Some, option_map}
use Rattle.serde_json.specs.Data.{Data}
use Rattle.serde_json.specs.View.{view, items_view}
use Rattle.serde_json.specs.declared.value.Value.{Value}
use Rattle.def_format.specs.Documents.{each}

-- what was made so far, and then the rest
abbrev pub onto : {A : Type 0} → List A → Option (List A) → Option (List A)
onto done rest = option_map (λ others. done ++ others) rest

pub onto_nothing : {A : Type 0} (rest : Option (List A)) → onto [] rest ≡ rest
onto_nothing None = refl
onto_nothing (Some others) = refl

onto_more : {A : Type 0} (done : List A) (x : A) (rest : Option (List A))
    → onto done (option_map (λ others. x ∷ others) rest) ≡ onto (done ++ x ∷ []) rest
onto_more done x None = refl
onto_more done x (Some others) = ap Some (sym (append_assoc done (x ∷ []) others))

from_here : (items : List Value) (i : ℕ) (value : Value) → i < length items → value ≡ get_or items i value
    → drop i items ≡ value ∷ drop (i + 1) items
from_here items i value h e = rw (add-one, drop-cons items i value) (ap (λ first. first ∷ drop (suc i) items) (sym e))

-- one item more
pub each_more : {A B : Type 0} (f : Data → Option A) (seen : B → A) (items : List Value) (i : ℕ) (value : Value)
    (done new : List B) (made : B) → i < length items → value ≡ get_or items i value
    → Some (seen made) ≡ f (view value) → new ≡ done ++ made ∷ []
    → onto (map seen done) (each f (items_view (drop i items)))
    ≡ onto (map seen new) (each f (items_view (drop (i + 1) items)))
each_more f seen items i value done new made h at e pushed =
    rw (from_here items i value h at, ← e, pushed, map-append)
    (onto_more (map seen done) (seen made) (each f (items_view (drop (i + 1) items))))

-- an item of which nothing is made
pub each_none : {A : Type 0} (f : Data → Option A) (items : List Value) (i : ℕ) (value : Value) (done : List A)
    → i < length items → value ≡ get_or items i value → None ≡ f (view value)
    → onto done (each f (items_view (drop i items))) ≡ None
each_none f items i value done h at e = rw (from_here items i value h at, ← e) refl
