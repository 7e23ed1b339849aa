-- A level as runs: the cuts that agree in all counts but the last two are a run, of which the least and the greatest
-- count of the last process but one are kept.
use Rattle.std.specs.Prelude.{◌≡◌, ℕ, zero, suc, ◌+◌, ◌-◌, ◌≤◌, ◌⊎◌, ◌↔◌, Bool, false, IsTrue, cond, ◌<◌, List, [], ◌∷◌, ◌++◌, length, sum, Contains, slice_index_or}
use Rattle.def_model.specs.Events.{Computation, Linked, place}
use Rattle.def_model.specs.Messages.{IsMessage}
use Rattle.def_model.specs.Cuts.{IsConsistent, IsOfLevel, one_more}
use Rattle.def_model.specs.Observations.{IsAvoiding}
use Rattle.def_model.specs.Answers.{LexBelow}
use Rattle.walk_keys.specs.Neighbors.{cut_at}
use Rattle.walk_runs.specs.Runs.{IsInterval}
use Rattle.walk_runs.specs.Births.{IsCandidate, IsYoung, IsTop, IsLow, IsMetAt, next_of}

-- the counts of all processes but the last two, and the ends of the interval
pub record Run : Type 0 where
  pub prefix : List ℕ
  pub lo : ℕ
  pub hi : ℕ

-- the sum of the last two counts of a run's cuts at level k
abbrev pub rest_at : ℕ → Run → ℕ
rest_at k run = k - sum run.prefix

-- so many cuts with this prefix, from this x on, whose last two counts have the sum s
abbrev pub cuts_from : List ℕ → ℕ → ℕ → ℕ → List (List ℕ)
cuts_from prefix s x zero = []
cuts_from prefix s x (suc n) = cut_at prefix x (s - x) ∷ cuts_from prefix s (suc x) n

-- the cuts of a run at level k, by x from lo to hi
abbrev pub cuts_of_run : ℕ → Run → List (List ℕ)
cuts_of_run k run = cuts_from run.prefix (rest_at k run) run.lo (suc run.hi - run.lo)

-- those of each run in turn
abbrev pub cuts_of_runs : ℕ → List Run → List (List ℕ)
cuts_of_runs k [] = []
cuts_of_runs k (run ∷ rest) = cuts_of_run k run ++ cuts_of_runs k rest

-- the run is its prefix's interval at level k, and isn't empty
pub record IsRunOf (c : Computation) (k : ℕ) (run : Run) : Type 0 where
  pub below : sum run.prefix ≤ k
  pub some : run.lo ≤ run.hi
  pub interval : IsInterval c run.prefix (rest_at k run) run.lo run.hi

-- in the order of the prefixes
abbrev pub IsBelowRun : Run → Run → Type 0
IsBelowRun run other = LexBelow run.prefix other.prefix

-- the prefix has a run in the list
abbrev pub HasRun : List Run → List ℕ → Type 0
HasRun runs prefix = (run : Run) × Contains runs run × (run.prefix ≡ prefix)

-- The runs are level k: one for each prefix that has a cut there, in order.
pub record IsWhole (c : Computation) (k : ℕ) (runs : List Run) : Type 0 where
  pub ascending : Linked IsBelowRun runs
  pub each : (run : Run) → Contains runs run → IsRunOf c k run
  pub alive : (prefix : List ℕ) (x y : ℕ) → IsOfLevel c k (cut_at prefix x y) → HasRun runs prefix

-- The end points one level on: the lower one stays where the last process can go on from it, and else moves by one; the
-- upper one moves by one where the last process but one can go on from it, and else stays.
pub record IsMovedTo (c : Computation) (k : ℕ) (run new : Run) : Type 0 where
  pub same : new.prefix ≡ run.prefix
  pub a : Bool
  pub b : Bool
  pub goes_y : IsTrue a ↔ IsConsistent c (cut_at run.prefix run.lo (rest_at k run - run.lo + 1))
  pub goes_x : IsTrue b ↔ IsConsistent c (cut_at run.prefix (run.hi + 1) (rest_at k run - run.hi))
  pub low : new.lo ≡ cond a run.lo (run.lo + 1)
  pub high : new.hi ≡ cond b (run.hi + 1) run.hi

-- a run of one cut of level k + 1, whose prefix has no run in the list
pub record IsBornBeside (c : Computation) (k : ℕ) (runs : List Run) (new : Run) : Type 0 where
  pub single : new.lo ≡ new.hi
  pub beside : ℕ
  pub level : IsOfLevel c (k + 1) (cut_at new.prefix new.lo beside)
  pub new_prefix : ¬ HasRun runs new.prefix

-- What is made from the runs of level k: each run moved, where that isn't empty, and a run for each candidate whose
-- prefix has none. There may be others of the same kind than those of the candidates.
pub record IsNextRuns (c : Computation) (k : ℕ) (runs next : List Run) : Type 0 where
  pub ascending : Linked IsBelowRun next
  pub each : (new : Run) → Contains next new → ((run : Run) × Contains runs run × IsMovedTo c k run new
      × (new.lo ≤ new.hi)) ⊎ IsBornBeside c k runs new
  pub moved : (run new : Run) → Contains runs run → IsMovedTo c k run new → new.lo ≤ new.hi → HasRun next new.prefix
  pub born : (prefix : List ℕ) (x y : ℕ) → IsCandidate c k (cut_at prefix x y) → HasRun next prefix

-- the run's cuts of least and of greatest x
abbrev pub least_cut : ℕ → Run → List ℕ
least_cut k run = cut_at run.prefix run.lo (rest_at k run - run.lo)

abbrev pub greatest_cut : ℕ → Run → List ℕ
greatest_cut k run = cut_at run.prefix run.hi (rest_at k run - run.hi)

-- A candidate by process p of the prefix, made at one of the run's two ends.
pub data IsMadeAt (c : Computation) (k : ℕ) (run : Run) (p : ℕ) (new : List ℕ) : Type 0 where
  if_young : IsYoung c k run.prefix → run.lo ≡ run.hi → IsMetAt c (least_cut k run) (next_of (least_cut k run) p)
      → new ≡ one_more (least_cut k run) p → IsMadeAt c k run p new
  if_top : IsTop c k run.prefix run.hi → IsMessage c (place (length run.prefix) run.hi) (next_of (greatest_cut k run) p)
      → new ≡ one_more (greatest_cut k run) p → IsMadeAt c k run p new
  if_low : IsLow c k run.prefix run.lo (rest_at k run - run.lo)
      → IsMessage c (place (suc (length run.prefix)) (rest_at k run - run.lo)) (next_of (least_cut k run) p)
      → new ≡ one_more (least_cut k run) p → IsMadeAt c k run p new

-- some cut of level k with this prefix and this x avoids
abbrev pub AvoidsAt : Computation → (List ℕ → Bool) → ℕ → List ℕ → ℕ → Type 0
AvoidsAt c test k prefix x = (y : ℕ) × IsAvoiding c test k (cut_at prefix x y)

-- The marks of a run: one for each x from lo to hi, which says whether that cut avoids.
pub record IsMarked (c : Computation) (test : List ℕ → Bool) (k : ℕ) (run : Run) (marks : List Bool) : Type 0 where
  pub one_each : length marks ≡ suc run.hi - run.lo
  pub just : (j : ℕ) → j < length marks → IsTrue (slice_index_or marks j false)
      ↔ IsAvoiding c test k (cut_at run.prefix (run.lo + j) (rest_at k run - (run.lo + j)))

-- the marks of each run
abbrev pub AreMarked : Computation → (List ℕ → Bool) → ℕ → List Run → List (List Bool) → Type 0
AreMarked c test k [] [] = Unit {0}
AreMarked c test k [] (first ∷ more) = ⊥
AreMarked c test k (run ∷ rest) [] = ⊥
AreMarked c test k (run ∷ rest) (first ∷ more) = IsMarked c test k run first × AreMarked c test k rest more

-- of the cuts with this prefix, from this x on, those that are marked
abbrev pub marked_from : List ℕ → ℕ → ℕ → List Bool → List (List ℕ)
marked_from prefix s x [] = []
marked_from prefix s x (mark ∷ marks) =
    cond mark (cut_at prefix x (s - x) ∷ marked_from prefix s (suc x) marks) (marked_from prefix s (suc x) marks)

-- those of each run in turn
abbrev pub marked_of_runs : ℕ → List Run → List (List Bool) → List (List ℕ)
marked_of_runs k [] marks = []
marked_of_runs k (run ∷ rest) [] = []
marked_of_runs k (run ∷ rest) (first ∷ more) =
    marked_from run.prefix (rest_at k run) run.lo first ++ marked_of_runs k rest more

-- how many marks there are
abbrev pub marks_in : List Bool → ℕ
marks_in [] = 0
marks_in (mark ∷ marks) = cond mark 1 0 + marks_in marks

abbrev pub marks_of_runs : List (List Bool) → ℕ
marks_of_runs [] = 0
marks_of_runs (first ∷ more) = marks_in first + marks_of_runs more

-- the run and its marks stand at one place of the two lists
abbrev pub IsPaired : List Run → List (List Bool) → Run → List Bool → Type 0
IsPaired runs marks run bits =
    (i : ℕ) × (i < length runs) × (slice_index_or runs i run ≡ run) × (i < length marks)
    × (slice_index_or marks i bits ≡ bits)

-- how many cuts the runs have
abbrev pub count_of_runs : List Run → ℕ
count_of_runs [] = 0
count_of_runs (run ∷ rest) = (suc run.hi - run.lo) + count_of_runs rest
