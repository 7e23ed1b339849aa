-- The names of processes that a path is printed with.
use Rattle.std.proofs.Common.{◌≡◌, ◌↔◌, ℕ, zero, suc, ◌+◌, ◌<◌, ◌≤◌, ◌⊎◌, inl, inr, Bool, true, false, IsTrue, None, Some, List, [], ◌∷◌, ◌++◌, length, get_or, map, take, All, refl, sym, ap, ◌∙◌, subst, arith}
use Rattle.std.specs.Prelude.{String, Option, position, string_bytes}
use Rattle.std.specs.Global.{Global}
use Rattle.std.specs.List.{position_or_len}
use Rattle.std.specs.Str.{bytes_eq}
use Rattle.std.proofs.lemmas.Bool.{cases_lt, lt-ltb, false≢true}
use Rattle.std.proofs.lemmas.List.{get_or-map, length-map, length-set, map-append, take_all, take_more}
use Rattle.std.proofs.lemmas.List.Elements.{All-cons, All-push}
use Rattle.std.proofs.lemmas.List.Quantifiers.{position-Some}
use Rattle.std.proofs.lemmas.List.Sums.{fails_before_first}
use Rattle.std.proofs.lemmas.Slice.Eq.{bytes_eq-Decides}
use Rattle.def_model.specs.Answers.{IsAvoidingObservation}
use Rattle.def_model.specs.Cuts.{empty_cut, one_more}
use Rattle.def_model.specs.Events.{Computation, Event}
use Rattle.def_format.specs.Names.{name_of_process, ProcessNames, process_named}
use Rattle.def_judgement.specs.Findings.{IsGoodPath}
use Rattle.def_format.specs.Names.{AreDistinct}
use Rattle.def_model.specs.Paths.{AvoidsFrom}
use Rattle.def_model.proofs.AvoidingPaths.{avoids_here, avoids_on}
use Rattle.pd_report.specs.Steps.{name_at, names_at, names_view, AreBelow}
use Rattle.judge_check.specs.Verdicts.{AreNamed}

nowhere : ProcessNames
nowhere = record { name = []; vars = [] }

name_there : (names : List ProcessNames) (p : ℕ) (d : ProcessNames) → p < length names
    → name_of_process names p ≡ (get_or names p d).name
name_there [] p d lt = absurd (omega arith)
name_there (process ∷ names) zero d lt = refl
name_there (process ∷ names) (suc p) d lt = name_there names p d (omega arith)

-- ---- a name is found

none_found : {X : Type 0} (test : X → Bool) (xs : List X) (k : ℕ) (d : X) → position test xs ≡ None → k < length xs
    → test (get_or xs k d) ≡ false
none_found test xs k d none lt = go (cases_lt (position_or_len test xs) (length xs))
  where
    go : (position_or_len test xs < length xs) ⊎ (length xs ≤ position_or_len test xs) → test (get_or xs k d) ≡ false
    go (inl below) = absurd (let h = rw (lt-ltb (position_or_len test xs) (length xs) below) at none in cc)
    go (inr past) = fails_before_first test xs k d (omega arith)

abbrev has_name : List ℕ → ProcessNames → Bool
has_name name process = bytes_eq process.name name

name_unknown : (names : List ProcessNames) (name : List ℕ) (p : ℕ) → process_named names name ≡ None → p < length names
    → ¬ (name ≡ name_of_process names p)
name_unknown names name p none lt same =
    let fails : has_name name (get_or names p nowhere) ≡ false = none_found (has_name name) names p nowhere none lt in
    let is : (get_or names p nowhere).name ≡ name = sym (same ∙ name_there names p nowhere lt) in
    let passes : has_name name (get_or names p nowhere) ≡ true =
    (bytes_eq-Decides (get_or names p nowhere).name name).1 is in
    false≢true (sym fails ∙ passes)

name_known : (names : List ProcessNames) (name : List ℕ) (p : ℕ) → process_named names name ≡ Some p
    → (p < length names) × (name ≡ name_of_process names p)
name_known names name p found =
    let at = position-Some (has_name name) names p nowhere found in
    let is : (get_or names p nowhere).name ≡ name = (bytes_eq-Decides (get_or names p nowhere).name name).0 at.1 in
    (at.0, sym (name_there names p nowhere at.0 ∙ is))

-- ---- no two processes have one name

apart : (names : List ProcessNames) (p q : ℕ) → AreDistinct names → p < q → q < length names
    → ¬ (name_of_process names p ≡ name_of_process names q)
apart names p q distinct below lt same =
    let first : p < length names = omega arith in
    let same_there = sym (name_there names p nowhere first) ∙ (same ∙ name_there names q nowhere lt) in
    distinct.processes p q nowhere below lt same_there

same_process : (names : List ProcessNames) (p q : ℕ) → AreDistinct names → p < length names → q < length names
    → name_of_process names p ≡ name_of_process names q → p ≡ q
same_process names p q distinct there here same = go (cases_lt p q) (cases_lt q p)
  where
    go : (p < q) ⊎ (q ≤ p) → (q < p) ⊎ (p ≤ q) → p ≡ q
    go (inl below) other = absurd (apart names p q distinct below here same)
    go (inr le) (inl below) = absurd (apart names q p distinct below there (sym same))
    go (inr le) (inr ge) = omega arith

first_of_all : {X : Type 0} (P : X → Type 0) (x : X) (xs : List X) → All P (x ∷ xs) → P x
first_of_all P x xs all = all 0 x (omega arith)

rest_of_all : {X : Type 0} (P : X → Type 0) (x : X) (xs : List X) → All P (x ∷ xs) → All P xs
rest_of_all P x xs all = λ i d lt. all (suc i) d (omega arith)

abbrev IsThere : List ProcessNames → ℕ → Type 0
IsThere names p = p < length names

same_path : (names : List ProcessNames) (a b : List ℕ) → AreDistinct names → All (IsThere names) a
    → All (IsThere names) b → map (name_of_process names) a ≡ map (name_of_process names) b → a ≡ b
same_path names [] [] distinct in_a in_b same = refl
same_path names [] (q ∷ b) distinct in_a in_b same = absurd (cc)
same_path names (p ∷ a) [] distinct in_a in_b same = absurd (cc)
same_path names (p ∷ a) (q ∷ b) distinct in_a in_b same =
    let first : p ≡ q =
    same_process names p q distinct (first_of_all (IsThere names) p a in_a) (first_of_all (IsThere names) q b in_b)
    (let e : name_of_process names p ≡ name_of_process names q = cc in e) in
    let rest : a ≡ b =
    same_path names a b distinct (rest_of_all (IsThere names) p a in_a) (rest_of_all (IsThere names) q b in_b)
    (let e : map (name_of_process names) a ≡ map (name_of_process names) b = cc in e) in
    cc

-- ---- the path of names

-- one name that isn't found
pub no_path : (names : List ProcessNames) (reported : List (List ℕ)) (i : ℕ) → i < length reported
    → process_named names (get_or reported i []) ≡ None → (path : List ℕ) → ¬ AreNamed names reported path
no_path names reported i lt none path named =
    let count : length reported ≡ length path = ap length named.1 ∙ length-map path (name_of_process names) in
    let there : i < length path = omega arith in
    let is : get_or reported i [] ≡ name_of_process names (get_or path i 0) =
    ap (λ (ns : List (List ℕ)). get_or ns i []) named.1 ∙ get_or-map (name_of_process names) path i 0 [] there in
    name_unknown names (get_or reported i []) (get_or path i 0) none (named.0 i 0 there) is

pub nothing_named : (names : List ProcessNames) → AreNamed names [] []
nothing_named names = ((λ i d lt. absurd (omega arith)), refl)

pub one_more_named : (names : List ProcessNames) (reported : List (List ℕ)) (i : ℕ) (path : List ℕ) (p : ℕ)
    → i < length reported → process_named names (get_or reported i []) ≡ Some p
    → AreNamed names (take i reported) path → AreNamed names (take (i + 1) reported) (path ++ p ∷ [])
one_more_named names reported i path p lt found named =
    let known = name_known names (get_or reported i []) p found in (
      All-push (IsThere names) path p named.0 known.0,
      take_more reported i [] lt
          ∙ (ap (λ (before : List (List ℕ)). before ++ get_or reported i [] ∷ []) named.1
          ∙ (ap (λ (n : List ℕ). map (name_of_process names) path ++ n ∷ []) known.1
          ∙ sym (map-append (name_of_process names) path (p ∷ [])))),
    )

-- ---- names that are kept once

-- the process of a step's name, if the processes are those of the names that are kept
pub process_at : (names : List ProcessNames) (kept : List (String Global)) (processes : List (Option ℕ))
    (steps : List ℕ) (reported : List (List ℕ)) (i : ℕ) (d : Option ℕ) → reported ≡ names_at (names_view kept) steps
    → processes ≡ map (process_named names) (names_view kept) → AreBelow (length kept) steps → i < length steps
    → (i < length reported) × (get_or processes (get_or steps i 0) d ≡ process_named names (get_or reported i []))
process_at names kept processes steps reported i d same found below lt =
    let step : ℕ = get_or steps i 0 in
    let there : step < length kept = below i 0 lt in
    let in_view : step < length (names_view kept) = omega (arith, there, length-map kept string_bytes) in
    let count : length reported ≡ length steps = ap length same ∙ length-map steps (name_at (names_view kept)) in
    let is : get_or reported i [] ≡ name_at (names_view kept) step =
    ap (λ (ns : List (List ℕ)). get_or ns i []) same ∙ get_or-map (name_at (names_view kept)) steps i 0 [] lt in (
      omega arith,
      ap (λ (ps : List (Option ℕ)). get_or ps step d) found
          ∙ get_or-map (process_named names) (names_view kept) step [] d in_view
          ∙ ap (process_named names) (sym is),
    )

pub all_steps : (kept : List (List ℕ)) (steps : List ℕ) (reported : List (List ℕ)) (i : ℕ)
    → reported ≡ names_at kept steps → length steps ≤ i → take i reported ≡ reported
all_steps kept steps reported i same past =
    let count : length reported ≡ length steps = ap length same ∙ length-map steps (name_at kept) in
    take_all i reported (omega arith)

-- ---- paths that avoid

walked_there : (c : Computation) (test : List ℕ → Bool) (n : ℕ) (cut path : List ℕ) → length cut ≡ n
    → AvoidsFrom c test cut path → All (λ p. p < n) path
walked_there c test n cut [] count avoids = λ i d lt. absurd (omega arith)
walked_there c test n cut (p ∷ path) count avoids =
    let on = (avoids_on c test cut p path (avoids_here c test cut (p ∷ path) avoids)).0 avoids in
    let there : p < length cut = on.0 in
    All-cons (λ p. p < n) p path (omega arith) (walked_there c test n (one_more cut p) path (length-set cut p _ ∙ count)
    on.1)

path_there : (c : Computation) (test : List ℕ → Bool) (n : ℕ) (path : List ℕ) → length c ≡ n
    → IsAvoidingObservation c test path → All (λ p. p < n) path
path_there c test n path count avoids =
    walked_there c test n (empty_cut c) path (length-map c (λ (events : List Event). 0) ∙ count) avoids

-- the path of these names is the one that is meant
pub path_avoids : (names : List ProcessNames) (c : Computation) (test : List ℕ → Bool) (reported : List (List ℕ))
    (path : List ℕ) → AreDistinct names → length c ≡ length names → AreNamed names reported path
    → IsGoodPath names c test reported → IsAvoidingObservation c test path
path_avoids names c test reported path distinct count named shown =
    let same : shown.path ≡ path =
    same_path names shown.path path distinct (path_there c test (length names) shown.path count shown.avoids)
    named.0 (sym shown.named ∙ named.1) in
    subst (IsAvoidingObservation c test) same shown.avoids

-- the names found are those of the only path
pub only_path : (names : List ProcessNames) (c : Computation) (test : List ℕ → Bool) (reported : List (List ℕ))
    (path : List ℕ) (good : Bool) → AreDistinct names → length c ≡ length names → AreNamed names reported path
    → IsTrue good ↔ IsAvoidingObservation c test path → IsTrue good ↔ IsGoodPath names c test reported
only_path names c test reported path good distinct count named exact = (to, from)
  where
    to : IsTrue good → IsGoodPath names c test reported
    to yes' = record { path = path; named = named.1; avoids = exact.0 yes' }

    from : IsGoodPath names c test reported → IsTrue good
    from shown = exact.1 (path_avoids names c test reported path distinct count named shown)

pub without_path : (names : List ProcessNames) (c : Computation) (test : List ℕ → Bool) (reported : List (List ℕ))
    → length c ≡ length names → ((path : List ℕ) → ¬ AreNamed names reported path) → IsTrue false
    ↔ IsGoodPath names c test reported
without_path names c test reported count none = (
  λ no'. absurd (false≢true no'),
  λ shown.
      absurd (none shown.path (path_there c test (length names) shown.path count shown.avoids, shown.named)),
)
