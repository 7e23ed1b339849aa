-- Counts under the names of their processes, as they are put one after another.
use Rattle.std.proofs.Common.{◌≡◌, ℕ, zero, suc, ◌+◌, ◌<◌, ◌≤◌, List, [], ◌∷◌, length, drop, get_or, min, refl, sym, ap, ◌∙◌, add-one, arith}
use Rattle.std.specs.Prelude.{slice_get, IfSome}
use Rattle.serde_json.specs.Data.{Members, put}
use Rattle.def_format.specs.Names.{ProcessNames}
use Rattle.out_json.specs.JsonReports.{number_data, with_counts}

-- where either list ends, no count is left
pub no_more_counts : (names : List ProcessNames) (counts : List ℕ) (k : ℕ) (fields : Members)
    → min (length names) (length counts) ≤ k → with_counts (drop k names) (drop k counts) fields ≡ fields
no_more_counts [] counts zero fields end = refl
no_more_counts [] counts (suc k) fields end = refl
no_more_counts (process ∷ names) [] zero fields end = refl
no_more_counts (process ∷ names) (count ∷ counts) zero fields end = absurd (omega arith)
no_more_counts (process ∷ names) [] (suc k) fields end = ends (drop k names)
  where
    ends : (rest : List ProcessNames) → with_counts rest [] fields ≡ fields
    ends [] = refl
    ends (other ∷ rest) = refl
no_more_counts (process ∷ names) (count ∷ counts) (suc k) fields end =
    no_more_counts names counts k fields (omega arith)

-- one more count
next_count : (names : List ProcessNames) (counts : List ℕ) (k : ℕ) (fields : Members) (name : List ℕ) (d : ℕ)
    → k < length names → k < length counts → IfSome (slice_get names k) (λ (entry : ProcessNames). name ≡ entry.name)
    → with_counts (drop k names) (drop k counts) fields
    ≡ with_counts (drop (suc k) names) (drop (suc k) counts) (put name (number_data (get_or counts k d)) fields)
next_count [] counts k fields name d in_names in_counts is = absurd (omega arith)
next_count (process ∷ names) [] k fields name d in_names in_counts is = absurd (omega arith)
next_count (process ∷ names) (count ∷ counts) zero fields name d in_names in_counts is =
    ap (λ (key : List ℕ). with_counts names counts (put key (number_data count) fields)) (sym is)
next_count (process ∷ names) (count ∷ counts) (suc k) fields name d in_names in_counts is =
    next_count names counts k fields name d (omega arith) (omega arith) is

pub one_more_count : (names : List ProcessNames) (counts : List ℕ) (k : ℕ) (fields more : Members) (name : List ℕ)
    (d : ℕ) (whole : Members) → k < length names → k < length counts
    → IfSome (slice_get names k) (λ (entry : ProcessNames). name ≡ entry.name)
    → more ≡ put name (number_data (get_or counts k d)) fields
    → with_counts (drop k names) (drop k counts) fields ≡ whole
    → with_counts (drop (k + 1) names) (drop (k + 1) counts) more ≡ whole
one_more_count names counts k fields more name d whole in_names in_counts is put_in before =
    ap (λ (n : ℕ). with_counts (drop n names) (drop n counts) more) (add-one k)
    ∙ ap (with_counts (drop (suc k) names) (drop (suc k) counts)) put_in
    ∙ sym (next_count names counts k fields name d in_names in_counts is)
    ∙ before
