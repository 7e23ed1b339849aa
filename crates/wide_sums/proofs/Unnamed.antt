-- What a process adds that a sum doesn't name.
use Rattle.std.proofs.Common.{◌≡◌, ◌≢◌, ℕ, ◌<◌, Bool, false, cond, nat_eq, List, [], ◌∷◌, ℤ, pos, ◌*ℤ◌, refl, sym, ap, subst, arith, lit≤}
use Rattle.std.proofs.lemmas.Int.{ints}
use Rattle.std.proofs.lemmas.Bool.Decides.{nat_tests}
use Rattle.def_model.specs.Predicates.{Sign, Plus, Minus, Term, Number, Variable, Times, Recorded, signed}
use Rattle.wide_pairs.specs.Parts.{IsRowOf, part_value, parts_value, value_after}
use Rattle.wide_sums.specs.Unnamed.{NamesAnother, NoneNames}

is_other : (q p : ℕ) → q ≢ p → nat_eq q p ≡ false
is_other q p apart = grind (arith, nat_tests, apart)

part_none : (r : Recorded) (p n : ℕ) (term : Term) → NamesAnother p term → part_value r p n false term ≡ pos 0
part_none r p n (Number k) names = refl
part_none r p n (Variable q v) names =
    ap (λ (b : Bool). cond b (value_after r p n v) (pos 0)) (is_other q p names)
part_none r p n (Times k q v) names =
    ap (λ (b : Bool). cond b (pos k *ℤ value_after r p n v) (pos 0)) (is_other q p names)

signed_none : (sign : Sign) (x : ℤ) → x ≡ pos 0 → signed sign x ≡ pos 0
signed_none Plus x is = is
signed_none Minus x is = omega (arith, ints, is)

parts_none : (r : Recorded) (p n : ℕ) (terms : List (Sign × Term)) → NoneNames p terms
    → parts_value r p n false terms ≡ pos 0
parts_none r p n [] names = refl
parts_none r p n ((sign, term) ∷ rest) names =
    let first : signed sign (part_value r p n false term) ≡ pos 0 =
    signed_none sign (part_value r p n false term) (part_none r p n term names.0) in
    let others : parts_value r p n false rest ≡ pos 0 = parts_none r p n rest names.1 in
    omega (arith, ints, first, others)

-- an empty row is the row of a process that neither sum names, but for the first one
pub empty_row : (r : Recorded) (p : ℕ) (left right : List (Sign × Term)) → 0 < p → NoneNames p left → NoneNames p right
    → IsRowOf r p (nat_eq p 0) left right []
empty_row r p left right some names_left names_right =
    subst (λ (numbers : Bool). IsRowOf r p numbers left right [])
    (sym (is_other p 0 (λ is. omega (arith, some, is))))
    (record {
      small = λ n. lit≤ tt;
      adds = λ n le.
          let first : parts_value r p n false left ≡ pos 0 = parts_none r p n left names_left in
          let second : parts_value r p n false right ≡ pos 0 = parts_none r p n right names_right in
          omega (arith, ints, first, second);
    })
