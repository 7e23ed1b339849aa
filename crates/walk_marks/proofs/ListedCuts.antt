-- The marked cuts of a whole level as a list, and their numbers.
use Rattle.std.proofs.Common.{◌≡◌, ℕ, zero, suc, ◌-◌, ◌<◌, ◌≤◌, Bool, List, [], ◌∷◌, length, map, take, Contains, arith, refl, sym, subst, ap, ◌∙◌, get_or}
use Rattle.def_format.specs.Limits.{process_limit, event_limit}
use Rattle.walk_keys.specs.Keys.{count_base, key_of, AreDigits, AreKeys}
use Rattle.walk_keys.proofs.Keys.{get_or_same}
use Rattle.pd_level.specs.Levels.{IsKept, cuts_of}
use Rattle.def_model.specs.Events.{Computation, event_count}
use Rattle.def_model.specs.Answers.{IsListOf}
use Rattle.def_model.specs.Cuts.{FitsProcesses, IsOfLevel}
use Rattle.def_model.specs.Observations.{IsAvoiding}
use Rattle.def_model.proofs.Paths.{avoiding_level}
use Rattle.walk_runs.specs.Levels.{WholeLevel, IsWholeLevel}
use Rattle.walk_runs.specs.WholeLevels.{Run, marked_of_runs, rest_at}
use Rattle.walk_runs.proofs.RunCuts.{x_at}
use Rattle.walk_marks.specs.RunPlaces.{run_at}
use Rattle.walk_marks.specs.Marks.{Marking, IsMarking, AreMarksOf, cut_with, lists_of}
use Rattle.walk_marks.proofs.RunKeys.{in_runs_at}
use Rattle.walk_marks.proofs.AvoidingBits.{cut_in_run}
use Rattle.walk_marks.proofs.MarkCounts.{marks_list}
use Rattle.walk_marks.proofs.MarkedKeys.{are_keys, cuts_again}

-- the counts of a cut are digits
fit_digits : (c : Computation) (cut : List ℕ) → ((p : ℕ) → event_count c p ≤ event_limit) → FitsProcesses c cut
    → AreDigits cut
fit_digits c cut short fits k d lt =
    let e : get_or cut k d ≡ get_or cut k 0 = get_or_same cut k d 0 lt in
    let a : get_or cut k 0 ≤ event_count c k = fits.within k in
    let b : event_count c k ≤ event_limit = short k in
    omega arith

pub run_digits : (level : WholeLevel) (marks : Marking) → AreMarksOf level marks → (i x : ℕ)
    → i < length level.runs → (run_at level.runs i).lo ≤ x → x ≤ (run_at level.runs i).hi
    → AreDigits (cut_with level.number (run_at level.runs i) x)
run_digits level marks known i x lt low high =
    fit_digits known.c (cut_with level.number (run_at level.runs i) x) known.short
    (cut_in_run known.c level known.whole i x lt low high).0.fits

pub run_small : (level : WholeLevel) (marks : Marking) → AreMarksOf level marks → (i : ℕ) → i < length level.runs
    → (run_at level.runs i).hi < count_base
run_small level marks known i lt =
    let some : (run_at level.runs i).lo ≤ (run_at level.runs i).hi = known.marking.shape.some i lt in
    let fits : FitsProcesses known.c (cut_with level.number (run_at level.runs i) (run_at level.runs i).hi) =
    (cut_in_run known.c level known.whole i (run_at level.runs i).hi lt some (omega arith)).0.fits in
    let a : get_or (cut_with level.number (run_at level.runs i) (run_at level.runs i).hi)
    (length (run_at level.runs i).prefix) 0 ≤ event_count known.c (length (run_at level.runs i).prefix) =
    fits.within (length (run_at level.runs i).prefix) in
    let b : event_count known.c (length (run_at level.runs i).prefix) ≤ event_limit =
    known.short (length (run_at level.runs i).prefix) in
    let e : get_or (cut_with level.number (run_at level.runs i) (run_at level.runs i).hi)
    (length (run_at level.runs i).prefix) 0 ≡ (run_at level.runs i).hi =
    x_at (run_at level.runs i).prefix (run_at level.runs i).hi
    (rest_at level.number (run_at level.runs i) - (run_at level.runs i).hi) in
    omega arith

pub run_high : (level : WholeLevel) (marks : Marking) → AreMarksOf level marks → (i : ℕ) → i < length level.runs
    → (run_at level.runs i).hi ≤ rest_at level.number (run_at level.runs i)
run_high level marks known i lt =
    (known.whole.whole.each (run_at level.runs i) (in_runs_at level.runs i lt)).interval.within

abbrev pub all_marked : WholeLevel → Marking → List (List ℕ)
all_marked level marks = marked_of_runs level.number level.runs (lists_of level.runs marks.words 0)

each_marked : (level : WholeLevel) (marks : Marking) → AreMarksOf level marks → (cut : List ℕ)
    → Contains (all_marked level marks) cut → (length cut ≡ level.processes) × AreDigits cut
each_marked level marks known cut has =
    let list : IsListOf (IsAvoiding known.c known.test level.number) (all_marked level marks) =
    (marks_list known.c known.test level marks known.whole known.marking).0 in
    let of_level : IsOfLevel known.c level.number cut =
    avoiding_level known.c known.test level.number cut ((list.just cut).0 has) in (
      of_level.0.fits.one_each ∙ sym known.whole.processes,
      fit_digits known.c cut known.short of_level.0.fits,
    )

pub marked_kept : (level : WholeLevel) (marks : Marking) (keys : List ℕ) → AreMarksOf level marks
    → level.processes ≤ process_limit → keys ≡ map key_of (all_marked level marks) → IsKept level.processes keys
marked_kept level marks keys known few is = record {
  few = few;
  are_keys =
      subst (λ (ks : List ℕ). AreKeys level.processes ks) (sym is)
      (are_keys level.processes (all_marked level marks)
      (marks_list known.c known.test level marks known.whole known.marking).0.ascending
      (each_marked level marks known));
}

pub marked_listed : (level : WholeLevel) (marks : Marking) (keys : List ℕ) → AreMarksOf level marks
    → keys ≡ map key_of (all_marked level marks) → (c : Computation) (test : List ℕ → Bool) → IsWholeLevel c level
    → IsMarking c test level marks → IsListOf (IsAvoiding c test level.number) (cuts_of level.processes keys)
marked_listed level marks keys known is c test whole marking =
    let same : cuts_of level.processes keys ≡ all_marked level marks =
    ap (cuts_of level.processes) is
    ∙ cuts_again level.processes (all_marked level marks) (each_marked level marks known) in
    subst (λ (cuts : List (List ℕ)). IsListOf (IsAvoiding c test level.number) cuts) (sym same)
    (marks_list c test level marks whole marking).0

pub all_taken : (runs : List Run) (i : ℕ) → i ≡ length runs → take i runs ≡ runs
all_taken [] zero is = refl
all_taken [] (suc i) is = refl
all_taken (run ∷ runs) zero is = absurd (omega arith)
all_taken (run ∷ runs) (suc i) is = ap (λ (rs : List Run). run ∷ rs) (all_taken runs i (omega arith))
