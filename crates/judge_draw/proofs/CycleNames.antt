-- The places of a refused cycle by the names of their processes.
use Rattle.std.proofs.Common.{◌≡◌, ◌↔◌, ℕ, zero, suc, ◌<◌, List, [], ◌∷◌, All, IsTrue, length, get_or, refl, sym, ap, subst, ◌∙◌, Some, None, Ok, Err, arith}
use Rattle.std.specs.Prelude.{IfOk, IfSome, MatchOption, Option, Result, String}
use Rattle.std.specs.Global.{Global}
use Rattle.std.specs.Str.{bytes_eq}
use Rattle.std.proofs.lemmas.List.{get_or-map, length-map}
use Rattle.std.proofs.lemmas.List.Elements.{All-cons}
use Rattle.std.proofs.lemmas.List.Quantifiers.{position-Some}
use Rattle.std.proofs.lemmas.Slice.Eq.{bytes_eq-Decides}
use Rattle.def_model.specs.Events.{Computation, Place}
use Rattle.def_format.specs.Documents.{Document}
use Rattle.def_format.specs.Names.{ProcessNames, name_of_process, process_named}
use Rattle.def_format.specs.OtherTexts.{Finding}
use Rattle.def_format.specs.Reports.{Cycle, NamedPlace, Refusal, Refused, Report}
use Rattle.def_judgement.specs.Findings.{is_clean}
use Rattle.pd_report.specs.Views.{named_place_view, named_places_view}
use Rattle.out_picture.specs.declared.extent.Extent.{Extent}
use Rattle.out_picture.specs.declared.label.NotedPicture.{NotedPicture}
use Rattle.judge_draw.specs.Cycles.{IsCycleDrawn, IsOfProcess, IsRefusalDrawn, NamesProcesses, StatesCycle}
use Rattle.judge_check.proofs.PathNames.{no_path}
use Rattle.judge_check.specs.Found.{IsFoundOfRefused, of_refused_session}

nowhere : ProcessNames
nowhere = record { name = []; vars = [] }

name_there : (names : List ProcessNames) (p : ℕ) (d : ProcessNames) → p < length names
    → name_of_process names p ≡ (get_or names p d).name
name_there [] p d lt = absurd (omega arith)
name_there (process ∷ names) zero d lt = refl
name_there (process ∷ names) (suc p) d lt = name_there names p d (omega arith)

-- a process that is found by a name has this name
pub name_found : (names : List ProcessNames) (name : List ℕ) (p : ℕ) → process_named names name ≡ Some p
    → name_of_process names p ≡ name
name_found names name p found =
    let at = position-Some (λ (process : ProcessNames). bytes_eq process.name name) names p nowhere found in
    name_there names p nowhere at.0 ∙ (bytes_eq-Decides (get_or names p nowhere).name name).0 at.1

-- a process that isn't found by a name is none of those that are there
pub name_missing : (names : List ProcessNames) (place : NamedPlace) → process_named names place.name ≡ None
    → ¬ IsOfProcess names place
name_missing names place none is =
    no_path names (place.name ∷ []) 0 (omega arith) none (is.0 ∷ []) (
      All-cons (λ p. p < length names) is.0 [] is.1 (λ i d below. absurd (omega arith)),
      ap (λ (name : List ℕ). name ∷ []) is.2,
    )

-- one place that isn't of a process that is there
pub place_missing : (names : List ProcessNames) (places : List (String Global × ℕ)) (i : ℕ) (place : NamedPlace)
    (d : String Global × ℕ) → i < length places → place ≡ named_place_view (get_or places i d)
    → ¬ IsOfProcess names place → ¬ All (IsOfProcess names) (named_places_view places)
place_missing names places i place d lt is none all =
    let there : i < length (named_places_view places) = omega (arith, lt, length-map places named_place_view) in
    none (subst (IsOfProcess names) (get_or-map named_place_view places i d place lt ∙ sym is) (all i place there))

-- a report of which nothing is bad is the refusal, and the other way round
pub clean_claims : (refusal : Refusal) (claimed : Report) (finding : Finding)
    → IsFoundOfRefused refusal claimed finding → IsTrue (is_clean finding) ↔ (claimed ≡ Refused refusal)
clean_claims refusal claimed _ (of_refused_session good right) = right

-- what holds anyway holds of what is given
pub anyway : {A E : Type 0} (result : Result (Option A) E) (P : Type 0) → P
    → IfOk result (λ given. IfSome given (λ _. P))
anyway (Ok (Some x)) P p = p
anyway (Ok None) P p = tt
anyway (Err e) P p = tt

-- a picture of the cycle for which a session is refused
pub refusal_drawn : {E : Type 0} (document : Document) (events : Computation) (pairs : List (Place × Place))
    (places : List NamedPlace) (refusal : Refusal) (extent : Extent) → refusal ≡ Cycle places
    → (result : Result (Option NotedPicture) E)
    → IfOk result (λ drawn. MatchOption drawn (¬ All (IsOfProcess document.names) places)
    (λ picture. IsCycleDrawn document events pairs places extent picture.drawing))
    → IfOk result (λ drawn. IfSome drawn (λ picture. IsRefusalDrawn document events pairs refusal extent
    picture.drawing))
refusal_drawn document events pairs places refusal extent is (Ok (Some picture)) drawn =
    record { places = places; is_cycle = is; drawn = drawn }
refusal_drawn document events pairs places refusal extent is (Ok None) drawn = tt
refusal_drawn document events pairs places refusal extent is (Err e) drawn = tt

-- there is a picture of the cycle for which a session is refused, since its processes are there
pub cycle_undrawn : {E : Type 0} (names : List ProcessNames) (claimed : Report) (places : List NamedPlace)
    (refusal : Refusal) (P : NotedPicture → Type 0) → refusal ≡ Cycle places → NamesProcesses names refusal
    → (result : Result (Option NotedPicture) E)
    → IfOk result (λ drawn. MatchOption drawn (¬ All (IsOfProcess names) places) P)
    → IfOk result (λ drawn. drawn ≡ None → ¬ StatesCycle claimed refusal)
cycle_undrawn names claimed places refusal P is named (Ok (Some picture)) drawn = λ none. absurd (cc)
cycle_undrawn names claimed places refusal P is named (Ok None) drawn = λ none states. drawn (named places is)
cycle_undrawn names claimed places refusal P is named (Err e) drawn = tt
