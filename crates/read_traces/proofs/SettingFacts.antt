-- Settings, from their variables and their values.
use Rattle.std.proofs.Common.{◌≡◌, ◌<◌, ◌≤◌, ◌+◌, ℕ, zero, suc, ℤ, pos, List, [], ◌∷◌, drop, length, get_or, Some, refl, ap, ◌∙◌, arith}
use Rattle.std.specs.List.{zip}
use Rattle.std.specs.Prelude.{slice_get}
use Rattle.std.proofs.lemmas.List.{get_or-drop, get_or-take}
use Rattle.read_traces.specs.Columns.{part}
use Rattle.read_traces.proofs.ColumnFacts.{length_part}

setting_there : (places : List ℕ) (values : List ℤ) (i : ℕ) → i < length places → i < length values
    → slice_get (zip places values) i ≡ Some (get_or places i 0, get_or values i (pos 0))
setting_there [] values i h k = absurd (omega arith)
setting_there (place ∷ places) [] i h k = absurd (omega arith)
setting_there (place ∷ places) (value ∷ values) zero h k = refl
setting_there (place ∷ places) (value ∷ values) (suc i) h k =
    setting_there places values i (omega arith) (omega arith)

length_zipped : (places : List ℕ) (values : List ℤ) → length places ≡ length values
    → length (zip places values) ≡ length places
length_zipped [] values e = refl
length_zipped (place ∷ places) [] e = absurd (omega (arith, e))
length_zipped (place ∷ places) (value ∷ values) e = ap suc (length_zipped places values (omega (arith, e)))

-- what stands in a part of a column
part_there : (start len : ℕ) (values : List ℤ) (i : ℕ) → i < len → start + len ≤ length values
    → get_or (part start len values) i (pos 0) ≡ get_or values (start + i) (pos 0)
part_there start len values i lt within =
    get_or-take len (drop start values) i (pos 0) lt ∙ get_or-drop start values i (pos 0)

module _ (places : List ℕ) (values : List ℤ) (start : ℕ) (within : start + length places ≤ length values) where
  -- the setting at an index, by the columns
  pub setting_in : (i : ℕ) → i < length places → slice_get (zip places (part start (length places) values)) i
      ≡ Some (get_or places i 0, get_or values (start + i) (pos 0))
  setting_in i lt =
      let long : length (part start (length places) values) ≡ length places =
      length_part start (length places) values within in
      setting_there places (part start (length places) values) i lt (omega (arith, long))
      ∙ (λ j. Some (get_or places i 0, part_there start (length places) values i lt within j))

  -- there are as many settings as variables
  pub settings_length : length (zip places (part start (length places) values)) ≡ length places
  settings_length =
      length_zipped places (part start (length places) values)
      (let long : length (part start (length places) values) ≡ length places =
      length_part start (length places) values within in omega (arith, long))
