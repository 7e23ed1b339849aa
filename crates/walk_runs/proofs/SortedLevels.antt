-- A level whose births are put in the order of their cuts.
use Rattle.std.proofs.Common.{◌≡◌, ℕ, List, Contains, map, subst}
use Rattle.walk_keys.specs.Keys.{digits}
use Rattle.def_model.specs.Events.{Computation}
use Rattle.walk_runs.specs.Collected.{IsSortedOf}
use Rattle.walk_runs.specs.Kept.{KeyedBirth, KeyedRun, cuts_of}
use Rattle.walk_runs.specs.Levels.{IsKeptLevel, IsWholeLevel, whole_view}
use Rattle.walk_runs.proofs.KeyLists.{from_map, in_map}

-- the cuts are the same
cuts_there : (xs ys : List KeyedBirth) → ((z : KeyedBirth) → Contains xs z → Contains ys z) → (cut : ℕ)
    → Contains (cuts_of xs) cut → Contains (cuts_of ys) cut
cuts_there xs ys there cut has =
    let w : (birth : KeyedBirth) × Contains xs birth × (birth.cut ≡ cut) =
    from_map (λ (birth : KeyedBirth). birth.cut) xs cut has in
    subst (Contains (cuts_of ys)) w.2 (in_map (λ (birth : KeyedBirth). birth.cut) ys w.0 (there w.0 w.1))

digits_there : (n : ℕ) (xs ys : List KeyedBirth) → ((z : KeyedBirth) → Contains xs z → Contains ys z)
    → (cut : List ℕ) → Contains (map (digits n) (cuts_of xs)) cut → Contains (map (digits n) (cuts_of ys)) cut
digits_there n xs ys there cut has =
    let w : (z : ℕ) × Contains (cuts_of xs) z × (digits n z ≡ cut) = from_map (digits n) (cuts_of xs) cut has in
    subst (Contains (map (digits n) (cuts_of ys))) w.2
    (in_map (digits n) (cuts_of ys) w.0 (cuts_there xs ys there w.0 w.1))

pub sorted_kept : (room n k : ℕ) (runs : List KeyedRun) (all sorted : List KeyedBirth) → IsSortedOf all sorted
    → IsKeptLevel room n k runs (cuts_of all) → IsKeptLevel room n k runs (cuts_of sorted)
sorted_kept room n k runs all sorted same level = record {
  few = level.few;
  two = level.two;
  keys = level.keys;
  kept = level.kept;
  some = level.some;
  below = λ cut has. level.below cut (cuts_there sorted all same.back cut has);
}

pub sorted_level : (c : Computation) (n k : ℕ) (runs : List KeyedRun) (all sorted : List KeyedBirth)
    → IsSortedOf all sorted → IsWholeLevel c (whole_view n k runs all) → IsWholeLevel c (whole_view n k runs sorted)
sorted_level c n k runs all sorted same level = record {
  processes = level.processes;
  two = level.two;
  whole = level.whole;
  born = λ cut has. level.born cut (digits_there n sorted all same.back cut has);
  all = λ cut candidate. digits_there n all sorted same.there cut (level.all cut candidate);
  undoable = λ birth has. level.undoable birth (same.back birth has);
}
