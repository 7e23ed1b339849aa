-- Observations, and the modalities Possibly and Definitely. Source: Cooper and Marzullo, Consistent Detection of Global
-- Predicates, 1991. `test` says whether a cut satisfies.
use Rattle.std.specs.Prelude.{◌≡◌, ℕ, ◌+◌, Bool, true, false, List, length, Some, All, Contains}
use Rattle.def_model.specs.Events.{Computation, Linked, first_of, last_of}
use Rattle.def_model.specs.Cuts.{IsConsistent, AddsEvent, empty_cut, full_cut}

-- a list of consistent cuts from one to another, each next one having exactly one event more
pub record IsWalk (c : Computation) (from : List ℕ) (cuts : List (List ℕ)) (to : List ℕ) : Type 0 where
  pub begins : first_of cuts ≡ Some from
  pub ends : last_of cuts ≡ Some to
  pub steps : Linked AddsEvent cuts
  pub consistent : All (IsConsistent c) cuts

-- An observation is a walk from the empty cut to the full one.
abbrev pub IsObservation : Computation → List (List ℕ) → Type 0
IsObservation c cuts = IsWalk c (empty_cut c) cuts (full_cut c)

abbrev pub HasSatisfying : (List ℕ → Bool) → List (List ℕ) → Type 0
HasSatisfying test cuts = (cut : List ℕ) × Contains cuts cut × (test cut ≡ true)

abbrev pub HasNoSatisfying : (List ℕ → Bool) → List (List ℕ) → Type 0
HasNoSatisfying test cuts = All (λ cut. test cut ≡ false) cuts

-- Possibly: some consistent cut satisfies.
abbrev pub Possibly : Computation → (List ℕ → Bool) → Type 0
Possibly c test = (cut : List ℕ) × IsConsistent c cut × (test cut ≡ true)

-- Possibly in the wording of observations: some observation has a satisfying cut.
abbrev pub PossiblyObserved : Computation → (List ℕ → Bool) → Type 0
PossiblyObserved c test = (cuts : List (List ℕ)) × IsObservation c cuts × HasSatisfying test cuts

-- Definitely: every observation has a satisfying cut.
abbrev pub Definitely : Computation → (List ℕ → Bool) → Type 0
Definitely c test = (cuts : List (List ℕ)) → IsObservation c cuts → HasSatisfying test cuts

-- An avoiding cut of level k is the last of some list of k + 1 cuts that begins with the empty cut, adds one event each
-- time and has no satisfying cut.
abbrev pub IsAvoiding : Computation → (List ℕ → Bool) → ℕ → List ℕ → Type 0
IsAvoiding c test k cut =
    (cuts : List (List ℕ)) × IsWalk c (empty_cut c) cuts cut × (length cuts ≡ k + 1) × HasNoSatisfying test cuts

-- level k has no avoiding cut
abbrev pub HasNoAvoiding : Computation → (List ℕ → Bool) → ℕ → Type 0
HasNoAvoiding c test k = (cut : List ℕ) → ¬ IsAvoiding c test k cut
