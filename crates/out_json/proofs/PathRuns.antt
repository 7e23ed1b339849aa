-- Runs give back a path, and are as long as they can be.
use Rattle.std.proofs.Common.{◌≡◌, ◌≢◌, ℕ, zero, suc, ◌<◌, List, [], ◌∷◌, ◌++◌, Bool, true, false, cond, replicate, refl, sym, ap, ◌∙◌, subst, arith}
use Rattle.std.specs.Prelude.{flat_map}
use Rattle.std.specs.List.{AllByRecursion}
use Rattle.std.specs.Str.{bytes_eq}
use Rattle.std.proofs.lemmas.Slice.Eq.{bytes_eq-Decides}
use Rattle.out_json.specs.JsonReports.{Run, runs_from}
use Rattle.out_json.specs.ReportLaws.{run_events, AreApart, RunsAreThePath, RunsAreLongest}

-- ---- the events

one_of_many : (name : List ℕ) (count : ℕ) (others : List (List ℕ))
    → name ∷ (replicate count name ++ others) ≡ replicate count name ++ name ∷ others
one_of_many name zero others = refl
one_of_many name (suc count) others = ap (λ rest. name ∷ rest) (one_of_many name count others)

events_from : (name : List ℕ) (count : ℕ) (others : List (List ℕ))
    → flat_map run_events (runs_from name count others) ≡ replicate count name ++ others
events_from name count [] = refl
events_from name count (next ∷ others) =
    go (events_from name (suc count) others) (events_from next 1 others) (bytes_eq next name) refl
  where
    go : flat_map run_events (runs_from name (suc count) others) ≡ replicate (suc count) name ++ others
        → flat_map run_events (runs_from next 1 others) ≡ next ∷ others → (b : Bool) → bytes_eq next name ≡ b
        → flat_map run_events (cond b (runs_from name (suc count) others)
        (record { name = name; count = count } ∷ runs_from next 1 others)) ≡ replicate count name ++ next ∷ others
    go longer then true e =
        longer ∙ one_of_many name count others
        ∙ ap (λ (same : List ℕ). replicate count name ++ same ∷ others) (sym ((bytes_eq-Decides next name).0 e))
    go longer then false e = ap (λ rest. replicate count name ++ rest) then

pub runs_give_path : RunsAreThePath
runs_give_path [] = refl
runs_give_path (name ∷ others) = events_from name 1 others

-- ---- their lengths

none_empty : (name : List ℕ) (count : ℕ) (others : List (List ℕ)) → 0 < count
    → AllByRecursion (λ (run : Run). 0 < run.count) (runs_from name count others)
none_empty name count [] some = (some, tt)
none_empty name count (next ∷ others) some =
    either (bytes_eq next name) (none_empty name (suc count) others (omega arith))
    (none_empty next 1 others (omega arith))
  where
    either : (b : Bool) → AllByRecursion (λ (run : Run). 0 < run.count) (runs_from name (suc count) others)
        → AllByRecursion (λ (run : Run). 0 < run.count) (runs_from next 1 others)
        → AllByRecursion (λ (run : Run). 0 < run.count) (cond b (runs_from name (suc count) others)
        (record { name = name; count = count } ∷ runs_from next 1 others))
    either true longer then = longer
    either false longer then = (some, then)

-- a run of this name comes first
record BeginsWith (name : List ℕ) (list : List Run) : Type 0 where
  count : ℕ
  others : List Run
  is : list ≡ record { name = name; count = count } ∷ others

begins : (name : List ℕ) (count : ℕ) (others : List (List ℕ)) → BeginsWith name (runs_from name count others)
begins name count [] = record { count = count; others = []; is = refl }
begins name count (next ∷ others) = either (bytes_eq next name) (begins name (suc count) others)
  where
    either : (b : Bool) → BeginsWith name (runs_from name (suc count) others)
        → BeginsWith name (cond b (runs_from name (suc count) others)
        (record { name = name; count = count } ∷ runs_from next 1 others))
    either true longer = longer
    either false longer = record { count = count; others = runs_from next 1 others; is = refl }

apart_after : (name next : List ℕ) (count : ℕ) (list : List Run) → name ≢ next → BeginsWith next list → AreApart list
    → AreApart (record { name = name; count = count } ∷ list)
apart_after name next count list differ first apart =
    subst (λ (runs : List Run). AreApart (record { name = name; count = count } ∷ runs)) (sym first.is)
    (differ, subst AreApart first.is apart)

all_apart : (name : List ℕ) (count : ℕ) (others : List (List ℕ)) → AreApart (runs_from name count others)
all_apart name count [] = tt
all_apart name count (next ∷ others) =
    either (all_apart name (suc count) others) (all_apart next 1 others) (bytes_eq next name) refl
  where
    either : AreApart (runs_from name (suc count) others) → AreApart (runs_from next 1 others) → (b : Bool)
        → bytes_eq next name ≡ b → AreApart (cond b (runs_from name (suc count) others)
        (record { name = name; count = count } ∷ runs_from next 1 others))
    either longer then true e = longer
    either longer then false e =
        apart_after name next count (runs_from next 1 others)
        (λ same. let equal = (bytes_eq-Decides next name).1 (sym same) in cc) (begins next 1 others) then

pub runs_are_longest : RunsAreLongest
runs_are_longest [] = (tt, tt)
runs_are_longest (name ∷ others) = (none_empty name 1 others (omega arith), all_apart name 1 others)
