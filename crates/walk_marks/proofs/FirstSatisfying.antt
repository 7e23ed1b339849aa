-- The first cut of a level that satisfies: block by block in a run, and run by run.
use Rattle.std.proofs.Common.{◌≡◌, ℕ, zero, suc, ◌+◌, ◌-◌, ◌*◌, ◌<◌, ◌≤◌, ◌⊎◌, inl, inr, Bool, true, false, List, [], ◌∷◌, ◌++◌, length, take, drop, Contains, arith, refl, sym, subst, ap, ◌∙◌, sum}
use Rattle.std.proofs.lemmas.Bool.{cases_lt, false≢true}
use Rattle.walk_keys.specs.Words.{has_bit}
use Rattle.def_model.specs.Events.{Computation}
use Rattle.def_model.specs.Cuts.{IsOfLevel}
use Rattle.def_model.specs.Answers.{IsFirstSatisfying}
use Rattle.def_model.specs.Walks.{NoneBelow}
use Rattle.walk_keys.specs.Neighbors.{cut_at}
use Rattle.walk_runs.specs.WholeLevels.{Run, IsWhole, IsRunOf, rest_at}
use Rattle.walk_runs.specs.Levels.{WholeLevel, IsWholeLevel}
use Rattle.walk_marks.specs.RunPlaces.{run_at}
use Rattle.walk_runs.proofs.LevelCuts.{run_of_cut}
use Rattle.walk_runs.proofs.RunCuts.{split_cut}
use Rattle.walk_runs.proofs.FirstHits.{first_hit_in_runs}
use Rattle.walk_marks.specs.Marks.{cut_with}
use Rattle.walk_marks.proofs.RunKeys.{in_runs_at, place_of_run}

pub none_in_block : (F : ℕ → Bool) (lo b hi n found : ℕ)
    → ((j : ℕ) → j < n → has_bit found j ≡ F (lo + b * 64 + j)) → ((j : ℕ) → has_bit found j ≡ false)
    → (n < 64 → lo + b * 64 + n ≡ hi + 1)
    → ((u : ℕ) → lo ≤ u → u < lo + 64 * b → u ≤ hi → F u ≡ false)
    → (u : ℕ) → lo ≤ u → u < lo + 64 * (b + 1) → u ≤ hi → F u ≡ false
none_in_block F lo b hi n found bits none whole before u low below high = go (cases_lt u (lo + 64 * b))
  where
    inside : lo + 64 * b ≤ u → (n < 64) ⊎ (64 ≤ n) → u - (lo + b * 64) < n
    inside le (inl lt) = let w : lo + b * 64 + n ≡ hi + 1 = whole lt in omega arith
    inside le (inr ge) = omega arith

    go : (u < lo + 64 * b) ⊎ (lo + 64 * b ≤ u) → F u ≡ false
    go (inl less) = before u low less high
    go (inr le) =
        let e : lo + b * 64 + (u - (lo + b * 64)) ≡ u = omega arith in
        ap F (sym e) ∙ (sym (bits (u - (lo + b * 64)) (inside le (cases_lt n 64))) ∙ none (u - (lo + b * 64)))

pub first_in_block : (F : ℕ → Bool) (lo b hi n found at : ℕ)
    → ((j : ℕ) → j < n → has_bit found j ≡ F (lo + b * 64 + j)) → ((j : ℕ) → n ≤ j → has_bit found j ≡ false)
    → has_bit found at ≡ true → ((j : ℕ) → j < at → has_bit found j ≡ false) → lo + b * 64 + n ≤ hi + 1
    → ((u : ℕ) → lo ≤ u → u < lo + 64 * b → u ≤ hi → F u ≡ false)
    → (lo + b * 64 + at ≤ hi) × (F (lo + b * 64 + at) ≡ true)
    × ((u : ℕ) → lo ≤ u → u < lo + b * 64 + at → F u ≡ false)
first_in_block F lo b hi n found at bits beyond set least high before =
    (omega (arith, inside (cases_lt at n)), sym (bits at (inside (cases_lt at n))) ∙ set, earlier)
  where
    inside : (at < n) ⊎ (n ≤ at) → at < n
    inside (inl lt) = lt
    inside (inr ge) = absurd (false≢true (sym (beyond at ge) ∙ set))

    earlier : (u : ℕ) → lo ≤ u → u < lo + b * 64 + at → F u ≡ false
    earlier u low below = go (cases_lt u (lo + 64 * b))
      where
        go : (u < lo + 64 * b) ⊎ (lo + 64 * b ≤ u) → F u ≡ false
        go (inl less) = before u low less (omega (arith, inside (cases_lt at n)))
        go (inr le) =
            let e : lo + b * 64 + (u - (lo + b * 64)) ≡ u = omega arith in
            ap F (sym e)
            ∙ (sym (bits (u - (lo + b * 64)) (omega (arith, inside (cases_lt at n))))
            ∙ least (u - (lo + b * 64)) (omega arith))

-- the runs before and after one
split_at_run : (runs : List Run) (i : ℕ) → i < length runs
    → runs ≡ take i runs ++ run_at runs i ∷ drop (suc i) runs
split_at_run [] i lt = absurd (omega arith)
split_at_run (run ∷ runs) zero lt = refl
split_at_run (run ∷ runs) (suc i) lt = ap (λ (rs : List Run). run ∷ rs) (split_at_run runs i (omega arith))

in_taken : (runs : List Run) (i : ℕ) (run : Run) → Contains (take i runs) run → (k : ℕ) × (k < i)
    × (k < length runs) × (run_at runs k ≡ run)
in_taken [] zero run (n, lt, at) = absurd (omega arith)
in_taken [] (suc i) run (n, lt, at) = absurd (omega arith)
in_taken (first ∷ runs) zero run (n, lt, at) = absurd (omega arith)
in_taken (first ∷ runs) (suc i) run (zero, lt, at) = (0, omega arith, omega arith, at)
in_taken (first ∷ runs) (suc i) run (suc n, lt, at) =
    let w : (k : ℕ) × (k < i) × (k < length runs) × (run_at runs k ≡ run) =
    in_taken runs i run (n, omega arith, at) in
    (suc w.0, omega (arith, w.1), omega (arith, w.2), w.3)

pub first_at_run : (c : Computation) (test : List ℕ → Bool) (level : WholeLevel) → IsWholeLevel c level → (i x : ℕ)
    → i < length level.runs → (run_at level.runs i).lo ≤ x → x ≤ (run_at level.runs i).hi
    → test (cut_with level.number (run_at level.runs i) x) ≡ true
    → ((u : ℕ) → (run_at level.runs i).lo ≤ u → u < x
    → test (cut_with level.number (run_at level.runs i) u) ≡ false)
    → ((k u : ℕ) → k < i → (run_at level.runs k).lo ≤ u → u ≤ (run_at level.runs k).hi
    → test (cut_with level.number (run_at level.runs k) u) ≡ false)
    → NoneBelow c test level.number
    → IsFirstSatisfying c test (cut_with level.number (run_at level.runs i) x)
first_at_run c test level is i x lt low high set before others none =
    let run : IsRunOf c level.number (run_at level.runs i) =
    is.whole.each (run_at level.runs i) (in_runs_at level.runs i lt) in
    let below : sum (run_at level.runs i).prefix ≤ level.number = run.below in
    let within : (run_at level.runs i).hi ≤ rest_at level.number (run_at level.runs i) = run.interval.within in
    first_hit_in_runs c test level.number (take i level.runs) (run_at level.runs i) (drop (suc i) level.runs)
    (subst (λ (rs : List Run). IsWhole c level.number rs) (split_at_run level.runs i lt) is.whole) none x
    (rest_at level.number (run_at level.runs i) - x) low high (omega arith) set earlier same
  where
    earlier : (other : Run) (u v : ℕ) → Contains (take i level.runs) other → other.lo ≤ u → u ≤ other.hi
        → sum other.prefix + (u + v) ≡ level.number → test (cut_at other.prefix u v) ≡ false
    earlier other u v has low' high' total =
        let w : (k : ℕ) × (k < i) × (k < length level.runs) × (run_at level.runs k ≡ other) =
        in_taken level.runs i other has in
        let e : v ≡ rest_at level.number other - u = omega arith in
        let t : other.lo ≤ u → u ≤ other.hi → test (cut_with level.number other u) ≡ false =
        subst (λ (r : Run). r.lo ≤ u → u ≤ r.hi → test (cut_with level.number r u) ≡ false) w.3
        (others w.0 u w.1) in
        ap (λ (n : ℕ). test (cut_at other.prefix u n)) e ∙ t low' high'

    same : (u v : ℕ) → (run_at level.runs i).lo ≤ u → u < x → sum (run_at level.runs i).prefix + (u + v)
        ≡ level.number → test (cut_at (run_at level.runs i).prefix u v) ≡ false
    same u v low' less total =
        let e : v ≡ rest_at level.number (run_at level.runs i) - u = omega arith in
        ap (λ (n : ℕ). test (cut_at (run_at level.runs i).prefix u n)) e ∙ before u low' less

pub none_in_level : (c : Computation) (test : List ℕ → Bool) (level : WholeLevel) → IsWholeLevel c level
    → ((k u : ℕ) → k < length level.runs → (run_at level.runs k).lo ≤ u → u ≤ (run_at level.runs k).hi
    → test (cut_with level.number (run_at level.runs k) u) ≡ false)
    → (cut : List ℕ) → IsOfLevel c level.number cut → test cut ≡ false
none_in_level c test level is none cut of_level =
    let two : 2 ≤ length c = is.two in
    let many : length cut ≡ length c = of_level.0.fits.one_each in
    let s : (prefix : List ℕ) × (x : ℕ) × (y : ℕ) × (cut ≡ cut_at prefix x y) = split_cut cut (omega arith) in
    let w : (sum s.0 + (s.1 + s.2) ≡ level.number) × ((run : Run) × Contains level.runs run × (run.prefix ≡ s.0)
    × (run.lo ≤ s.1) × (s.1 ≤ run.hi)) =
    run_of_cut c level.number level.runs is.whole s.0 s.1 s.2
    (subst (λ (z : List ℕ). IsOfLevel c level.number z) s.3 of_level) in
    let v : (k : ℕ) × (k < length level.runs) × (run_at level.runs k ≡ w.1.0) =
    place_of_run level.runs w.1.0 w.1.1 in
    let t : w.1.0.lo ≤ s.1 → s.1 ≤ w.1.0.hi → test (cut_with level.number w.1.0 s.1) ≡ false =
    subst (λ (r : Run). r.lo ≤ s.1 → s.1 ≤ r.hi → test (cut_with level.number r s.1) ≡ false) v.2
    (none v.0 s.1 v.1) in
    let f : sum w.1.0.prefix ≡ sum s.0 = ap sum w.1.2 in
    let total : sum s.0 + (s.1 + s.2) ≡ level.number = w.0 in
    let e : s.2 ≡ rest_at level.number w.1.0 - s.1 = omega arith in
    ap test s.3
    ∙ (ap (λ (p : List ℕ). test (cut_at p s.1 s.2)) (sym w.1.2)
    ∙ (ap (λ (n : ℕ). test (cut_at w.1.0.prefix s.1 n)) e ∙ t w.1.3 w.1.4))
