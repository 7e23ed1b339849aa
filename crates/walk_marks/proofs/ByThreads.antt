-- What is seen at a place, and the spots of a level's words.
use Rattle.std.proofs.Common.{◌≡◌, ℕ, suc, ◌+◌, ◌-◌, ◌*◌, ◌/◌, ◌%◌, ◌<◌, ◌≤◌, ◌↔◌, IsTrue, Bool, false, true, List, [], ◌∷◌, ◌++◌, length, get_or, sym, subst, ap, ◌∙◌, arith}
use Rattle.std.proofs.lemmas.List.{get_or_append_left, get_or-append_right, get_or_default}
use Rattle.std.specs.Prelude.{None, Option, Some}
use Rattle.def_model.specs.Events.{Computation}
use Rattle.walk_runs.specs.WholeLevels.{Run, AvoidsAt}
use Rattle.walk_marks.specs.Marks.{HasWords, bit_from, cut_with, last_word}
use Rattle.walk_marks.specs.RunPlaces.{run_at}
use Rattle.walk_marks.specs.Spots.{HasSpots, IsHitIn, IsSpot, IsWordAt, spot_at}
use Rattle.walk_marks.specs.declared.spots.Spot.{Spot}

-- what is seen at the place of a run is its hit
pub hit_at : (test : List ℕ → Bool) (k : ℕ) (run : Run) (found : List (Option ℕ)) (i x : ℕ) (seen : Option ℕ)
    → i < length found → seen ≡ get_or found i seen → seen ≡ Some x → IsHitIn test k run (get_or found i None)
    → (run.lo ≤ x) × (x ≤ run.hi) × (test (cut_with k run x) ≡ true)
    × ((u : ℕ) → run.lo ≤ u → u < x → test (cut_with k run u) ≡ false)
hit_at test k run found i x seen lt at is hit =
    let e : get_or found i None ≡ Some x = get_or_default found i None seen lt ∙ (sym at ∙ is) in
    subst (λ (option : Option ℕ). IsHitIn test k run option) e hit

-- the spots that were there stay
pub spot_kept : (old new : List Spot) (spot : Spot) (k : ℕ) → new ≡ old ++ spot ∷ [] → k < length old
    → spot_at new k ≡ spot_at old k
spot_kept old new spot k is lt =
    ap (λ (xs : List Spot). spot_at xs k) is
    ∙ get_or_append_left old (spot ∷ []) (record { run = 0; x = 0 }) k lt

-- the new one stands behind them
pub spot_pushed : (old new : List Spot) (spot : Spot) (k : ℕ) → new ≡ old ++ spot ∷ [] → length old ≡ k
    → spot_at new k ≡ spot
spot_pushed old new spot k is many =
    let none : k - k ≡ 0 = omega arith in
    let le : k ≤ k = omega arith in
    ap (λ (xs : List Spot). spot_at xs k) is
    ∙ (get_or-append_right old (spot ∷ []) k k (record { run = 0; x = 0 }) many le
    ∙ ap (λ (n : ℕ). get_or (spot ∷ []) n (record { run = 0; x = 0 })) none)

pub last_spot : (old new : List Spot) (i lo b q start : ℕ)
    → new ≡ old ++ record { run = i; x = lo + b * 64 } ∷ [] → length old ≡ start + b → b ≤ q → q < b + 1
    → spot_at new (start + q) ≡ record { run = i; x = lo + 64 * q }
last_spot old new i lo b q start is many low high =
    let e : start + q ≡ start + b = omega arith in
    let x : lo + b * 64 ≡ lo + 64 * q = omega arith in
    ap (spot_at new) e
    ∙ (spot_pushed old new (record { run = i; x = lo + b * 64 }) (start + b) is many
    ∙ ap (spot_of i) x)
  where
    spot_of : ℕ → ℕ → Spot
    spot_of run n = record { run = run; x = n }

-- the spots of a run are spots
pub run_spots : (runs : List Run) (i : ℕ) (spots : List Spot) (start : ℕ) → i < length runs
    → (run_at runs i).lo ≤ (run_at runs i).hi → HasSpots runs i spots start
    → (j : ℕ) → start ≤ j → j < start + suc (last_word (run_at runs i)) → IsSpot runs (spot_at spots j)
run_spots runs i spots start lt some has j low high =
    let e : start + (j - start) ≡ j = omega arith in
    let is : spot_at spots j ≡ record { run = i; x = (run_at runs i).lo + 64 * (j - start) } =
    ap (spot_at spots) (sym e) ∙ has (j - start) (omega arith) in
    subst (λ (s : Spot). IsSpot runs s) (sym is) (lt, omega arith, omega arith)

-- the spots of a run stay
pub spots_kept : (runs : List Run) (i : ℕ) (old new : List Spot) (start : ℕ)
    → start + suc (last_word (run_at runs i)) ≤ length old
    → ((k : ℕ) → k < length old → spot_at new k ≡ spot_at old k) → HasSpots runs i old start
    → HasSpots runs i new start
spots_kept runs i old new start room same has q le = same (start + q) (omega arith) ∙ has q le

-- the words at the spots of a run are those of the run
pub words_at_spots : (c : Computation) (test : List ℕ → Bool) (k : ℕ) (run : Run) (words : List ℕ) (start : ℕ)
    → run.lo ≤ run.hi
    → ((q : ℕ) → q ≤ last_word run → IsWordAt c test k run (run.lo + 64 * q) (get_or words (start + q) 0))
    → HasWords c test k run words start
words_at_spots c test k run words start some each = record {
  just = λ d le.
      let e : run.lo + 64 * (d / 64) + d % 64 ≡ run.lo + d = omega arith in
      subst (λ (x : ℕ). IsTrue (bit_from words start d) ↔ AvoidsAt c test k run.prefix x) e
      ((each (d / 64) (omega arith)).just (d % 64) (omega arith) (omega arith));
  beyond = λ d out le. (each (d / 64) le).beyond (d % 64) (omega arith);
}
