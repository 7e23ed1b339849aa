-- What a loop over a list has made so far, one for each element.
use Rattle.std.proofs.Common.{◌≡◌, ℕ, ◌+◌, ◌<◌, List, [], ◌∷◌, ◌++◌, String, Global, string_bytes, length, get_or, take, map, refl, ap}
use Rattle.std.proofs.lemmas.List.{map-append, take_more}
use Rattle.std.specs.Map.{keys_of}
use Rattle.serde_json.specs.Data.{Members}
use Rattle.serde_json.specs.View.{view, members_view}
use Rattle.serde_json.specs.declared.value.Value.{Value}
use Rattle.def_format.specs.Names.{ProcessNames}
use Rattle.def_format.specs.Records.{keys, values}
use Rattle.pd_spec.specs.Outlines.{entry_in, initial_value}

-- one element more, as f sees what was made of it, and h what seen sees of it
pub mapped_more : {A B C D : Type 0} (f : B → A) (h : D → A) (seen : C → D) (xs : List C) (i : ℕ) (x : C)
    (done new : List B) (made : B) → i < length xs → x ≡ get_or xs i x
    → map f done ≡ map h (map seen (take i xs)) → new ≡ done ++ made ∷ [] → f made ≡ h (seen x)
    → map f new ≡ map h (map seen (take (i + 1) xs))
mapped_more f h seen xs i x done new made within at same pushed one =
    rw (
      pushed,
      map-append f done (made ∷ []),
      same,
      one,
      take_more xs i x within,
      ← at,
      map-append seen (take i xs) (x ∷ []),
      map-append h (map seen (take i xs)) (seen x ∷ []),
    ) refl

pub bytes_of_keys : (entries : List (String Global × Value)) → map string_bytes (keys_of entries)
    ≡ keys (members_view entries)
bytes_of_keys [] = refl
bytes_of_keys (entry ∷ entries) = ap (λ others. string_bytes entry.0 ∷ others) (bytes_of_keys entries)

pub numbers_of_values : (entries : List (String Global × Value))
    → map (λ (value : Value). initial_value (view value)) (map (λ (entry : String Global × Value). entry.1) entries)
    ≡ map initial_value (values (members_view entries))
numbers_of_values [] = refl
numbers_of_values (entry ∷ entries) = ap (λ others. initial_value (view entry.1) ∷ others) (numbers_of_values entries)

pub names_of_entries : (processes : List (List ℕ × Members))
    → map (λ (process : ProcessNames). process.name) (map entry_in processes)
    ≡ map (λ (process : List ℕ × Members). process.0) processes
names_of_entries [] = refl
names_of_entries (process ∷ processes) = ap (λ others. process.0 ∷ others) (names_of_entries processes)
