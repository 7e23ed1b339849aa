-- The faults in the texts of predicates, and the one that is looked for after them.
use Rattle.std.specs.Prelude.{◌≡◌, ℕ, ◌+◌, List, ◌∷◌, ◌++◌, length, None, MatchOption}
use Rattle.std.specs.List.{AllByRecursion}
use Rattle.def_model.specs.Predicates.{Predicate}
use Rattle.def_format.specs.Documents.{Outline, IsSpelled, names_of_outline, version_of}
use Rattle.def_format.specs.Names.{ProcessNames}
use Rattle.def_format.specs.PredicateTexts.{PredicateFault, IsPredicate, IsRefusedPredicate}
use Rattle.pd_pred.specs.Views.{predicate_fault_view}
use Rattle.pd_spec.specs.declared.fault.SpecFault.{SpecFault}
use Rattle.pd_spec.specs.declared.fault.SpecFault.TheVariants as kinds

-- the fault says why this predicate's text is refused, or that memory ran out
abbrev pub IsFaultIn : List ProcessNames → List ℕ × List ℕ → ℕ → SpecFault → Type 0
IsFaultIn names written number kinds.Memory = Unit {0}
IsFaultIn names written number (kinds.Predicate k error) =
    (k ≡ number) × MatchOption (predicate_fault_view error.kind) ⊥ (λ fault.
    IsRefusedPredicate names written.1 fault error.at)
IsFaultIn names written number _ = ⊥

-- the text is a predicate
abbrev pub IsSomePredicate : List ProcessNames → List ℕ × List ℕ → Type 0
IsSomePredicate names written = (predicate : Predicate) × IsPredicate names written.1 predicate

-- the predicate of this number is refused, and those before it aren't
pub record IsRefusedAmong (names : List ProcessNames) (written : List (List ℕ × List ℕ)) (number : ℕ)
    (fault : PredicateFault) (at : ℕ) : Type 0 where
  pub before : List (List ℕ × List ℕ)
  pub refused : List ℕ × List ℕ
  pub after : List (List ℕ × List ℕ)
  pub parts : written ≡ before ++ refused ∷ after
  pub place : number ≡ length before + 1
  pub stands : IsRefusedPredicate names refused.1 fault at
  pub none_before : AllByRecursion (IsSomePredicate names) before

-- the fault is that of the first predicate that is refused, or that memory ran out
abbrev pub IsFaultAmong : List ProcessNames → List (List ℕ × List ℕ) → SpecFault → Type 0
IsFaultAmong names written kinds.Memory = Unit {0}
IsFaultAmong names written (kinds.Predicate number error) =
    MatchOption (predicate_fault_view error.kind) ⊥ (λ fault. IsRefusedAmong names written number fault error.at)
IsFaultAmong names written _ = ⊥

-- The fault is that of an outline with none of its own: that of its first predicate that is refused, that of its
-- version if no predicate is refused and its field says no version, or that memory ran out.
abbrev pub IsLateFault : Outline → SpecFault → Type 0
IsLateFault outline kinds.Version =
    AllByRecursion (IsSpelled outline) outline.predicates × (version_of outline.version ≡ None)
IsLateFault outline fault = IsFaultAmong (names_of_outline outline) outline.predicates fault
