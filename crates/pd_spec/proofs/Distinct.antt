-- Names that differ.
use Rattle.std.proofs.Common.{◌≡◌, ℕ, ◌<◌, List, [], ◌∷◌, String, Global, Less, Equal, nat_cmp, string_cmp, string_bytes, length, get_or, map, sym, ◌∙◌, arith}
use Rattle.std.specs.List.Sorted.{IsStrictlySortedBy}
use Rattle.std.specs.Cmp.Lexicographic.{slice_cmp}
use Rattle.std.proofs.lemmas.Cmp.{nat_list_cmp_total, tied_itself}
use Rattle.std.proofs.lemmas.List.{length-map, get_or-map}
use Rattle.std.proofs.lemmas.Map.Keys.{Less-from_sorted}
use Rattle.pd_spec.specs.Outlines.{AreDistinctTexts}

below_differs : (x y : List ℕ) → slice_cmp nat_cmp x y ≡ Less → x ≡ y → ⊥
below_differs x y less same = let tied : slice_cmp nat_cmp x y ≡ Equal = rw same (tied_itself nat_list_cmp_total y) in
    cc

-- the keys of a map differ
pub distinct_keys : (keys : List (String Global)) → IsStrictlySortedBy string_cmp keys
    → AreDistinctTexts (map string_bytes keys)
distinct_keys [] sorted i j d before within same = absurd (omega arith)
distinct_keys (key ∷ keys) sorted i j d before within same =
    let inside : j < length (key ∷ keys) = rw length-map at within in
    let first : i < length (key ∷ keys) = omega arith in
    below_differs (string_bytes (get_or (key ∷ keys) i key)) (string_bytes (get_or (key ∷ keys) j key))
    (Less-from_sorted string_cmp (key ∷ keys) i j key sorted before inside)
    (sym (get_or-map string_bytes (key ∷ keys) i key d first)
    ∙ (same ∙ get_or-map string_bytes (key ∷ keys) j key d inside))
