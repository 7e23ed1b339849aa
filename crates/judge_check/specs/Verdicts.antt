-- How the evidence of one answer is found.
use Rattle.std.specs.Prelude.{◌≡◌, ℕ, ◌<◌, Bool, IsTrue, ◌↔◌, List, All, MatchOption, Option, Vec, length, map}
use Rattle.std.specs.Global.{Global}
use Rattle.def_model.specs.Events.{Computation}
use Rattle.def_model.specs.Predicates.{Recorded, test_of}
use Rattle.def_format.specs.Documents.{NamedPredicate}
use Rattle.def_format.specs.Names.{name_of_process, ProcessNames}
use Rattle.def_format.specs.OtherTexts.{Checked, Verdict, definitely_verdict, possibly_verdict}
use Rattle.def_format.specs.Reports.{Answer, Definitely, Possibly}
use Rattle.def_judgement.specs.Findings.{IsChecked, IsGoodCut, IsGoodPath}

-- the verdict on the cut, if one is printed
pub record IsCutVerdict (c : Computation) (test : List ℕ → Bool) (possibly : Possibly) (verdict : Verdict) :
    Type 0 where
  pub good : Bool
  pub reported : verdict ≡ possibly_verdict (λ _. good) possibly
  pub right : (cut : List ℕ) → possibly ≡ Possibly.Yes cut → IsTrue good ↔ IsGoodCut c test cut

-- the verdict on the path, if one is printed
pub record IsPathVerdict (names : List ProcessNames) (c : Computation) (test : List ℕ → Bool) (definitely : Definitely)
    (verdict : Verdict) : Type 0 where
  pub good : Bool
  pub reported : verdict ≡ definitely_verdict (λ _. good) definitely
  pub right : (path : List (List ℕ)) → definitely ≡ Definitely.No path → IsTrue good ↔ IsGoodPath names c test path

-- the processes are there, and have these names
abbrev pub AreNamed : List ProcessNames → List (List ℕ) → List ℕ → Type 0
AreNamed names reported path = All (λ p. p < length names) path × (reported ≡ map (name_of_process names) path)

-- the processes of these names, if each is there
abbrev pub IsPathOf : List ProcessNames → List (List ℕ) → Option (Vec ℕ Global) → Type 0
IsPathOf names reported found =
    MatchOption found ((path : List ℕ) → ¬ AreNamed names reported path) (λ path. AreNamed names reported path.items)

-- the verdicts on an answer, under the predicate in whose place it stands
abbrev pub IsCheckedBy : List ProcessNames → Recorded → NamedPredicate × Answer → Checked → Type 0
IsCheckedBy names recorded stands checked =
    IsChecked names recorded.events (test_of recorded stands.0.predicate) stands.1 checked
