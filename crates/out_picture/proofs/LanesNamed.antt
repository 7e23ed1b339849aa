-- The names of processes stand at their lanes, in their order.
use Rattle.std.proofs.Common.{◌≡◌, ℕ, zero, suc, ◌+◌, ◌-◌, List, [], ◌∷◌, ◌++◌, Some, flat_map, length, refl, sym, ap, ◌∙◌, subst, arith}
use Rattle.std.specs.Fmt.Cut.{cut_to}
use Rattle.std.specs.List.{AllZip}
use Rattle.std.specs.Prelude.{slice_get}
use Rattle.std.proofs.lemmas.List.{append-nil, append_assoc}
use Rattle.out_svg.specs.declared.point.Point.{Point}
use Rattle.out_picture.specs.Layout.{lane_y, upto}
use Rattle.out_picture.specs.Pictures.{lane_shapes, lanes_shapes, point, shortened, text_at, text_in}
use Rattle.out_picture.specs.Shown.{IsName, name, numbered_from}
use Rattle.out_picture.specs.declared.window.Window.{Window}
use Rattle.out_picture.proofs.Selected.{flat_upto}

-- the first part, and then the others
upto_first : {A : Type 0} (f : ℕ → List A) (n : ℕ) → upto f (suc n) ≡ f 0 ++ upto (λ p. f (suc p)) n
upto_first f zero = sym (append-nil (f 0))
upto_first f (suc n) =
    ap (λ xs. xs ++ f (suc n)) (upto_first f n) ∙ append_assoc (f 0) (upto (λ p. f (suc p)) n) (f (suc n))

each_named : (y : ℕ → ℕ) (names : List (List ℕ)) (k : ℕ) (label : ℕ → Point × ℕ × List ℕ)
    → ((p : ℕ) (text : List ℕ) → slice_get names p ≡ Some text → IsName y (k + p, text) (label p))
    → AllZip (IsName y) (numbered_from k names) (upto (λ p. label p ∷ []) (length names))
each_named y [] k label each = tt
each_named y (text ∷ names) k label each =
    let none : k + 0 ≡ k = omega arith in
    subst (AllZip (IsName y) (numbered_from k (text ∷ names))) (sym (upto_first (λ p. label p ∷ []) (length names))) (
      subst (λ (n : ℕ). IsName y (n, text) (label 0)) none (each 0 text refl),
      each_named y names (k + 1) (λ p. label (suc p)) (λ p other is.
          let next : k + suc p ≡ k + 1 + p = omega arith in
          subst (λ (n : ℕ). IsName y (n, other) (label (suc p))) next (each (suc p) other is)),
    )

module _ (window : Window) (names : List (List ℕ)) where
  abbrev label_of : ℕ → Point × ℕ × List ℕ
  label_of p = (point (window.left - 14) (lane_y p + 5), 15, shortened 32 (text_at names p))

  pub names_of_lanes : flat_map name (lanes_shapes window names) ≡ upto (λ p. label_of p ∷ []) (length names)
  names_of_lanes = flat_upto name (lane_shapes window names) (length names)

  pub lanes_named : AllZip (IsName lane_y) (numbered_from 0 names) (upto (λ p. label_of p ∷ []) (length names))
  lanes_named =
      each_named lane_y names 0 label_of (λ p text is. (
        ap (λ found. cut_to 32 (text_in found)) is,
        omega arith,
        omega arith,
        omega arith,
      ))
