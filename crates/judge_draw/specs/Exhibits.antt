-- The evidence that a picture shows of a predicate, and what the picture is called.
use Rattle.std.specs.Prelude.{◌≡◌, ℕ, Contains, List, ◌++◌, codes, decimal, map, Option, Some, None}
use Rattle.def_model.specs.Answers.{IsAvoidingObservation, cuts_along}
use Rattle.def_model.specs.Cuts.{empty_cut}
use Rattle.def_model.specs.Events.{Computation}
use Rattle.def_model.specs.Observations.{IsObservation}
use Rattle.def_model.specs.Predicates.{Predicate, Recorded, state_at, test_of}
use Rattle.def_format.specs.Names.{ProcessNames, name_of_process}
use Rattle.def_format.specs.Reports.{Answer, Definitely, Possibly}
use Rattle.def_judgement.specs.Findings.{IsGoodCut, IsGoodPath}
use Rattle.pd_evidence.specs.Ways.{IsThrough}
use Rattle.out_picture.specs.Pictures.{texts_view}
use Rattle.out_picture.specs.declared.evidence.Evidence.{Evidence}
use Rattle.out_picture.specs.declared.evidence.Evidence.TheVariants.{Absent, Cut, Observation}
use Rattle.out_picture.specs.declared.kind.Kind.{Kind}
use Rattle.out_picture.specs.declared.kind.Kind.TheVariants as kind
use Rattle.judge_draw.specs.Values.{value_texts}

-- ---- what is good

-- the evidence of an answer shows what it is printed for
pub record HasGoodEvidence (names : List ProcessNames) (recorded : Recorded) (predicate : Predicate) (answer : Answer) :
    Type 0 where
  pub cut : (cut : List ℕ) → answer.possibly ≡ Possibly.Yes cut
      → IsGoodCut recorded.events (test_of recorded predicate) cut
  pub path : (reported : List (List ℕ)) → answer.definitely ≡ Definitely.No reported
      → IsGoodPath names recorded.events (test_of recorded predicate) reported

-- ---- what is shown

-- the path is that of an observation that contains the cut: the one that takes the least process at each step
abbrev pub LeadsThrough : Computation → List ℕ → List ℕ → Type 0
LeadsThrough c cut path =
    IsThrough c cut path × IsObservation c (cuts_along (empty_cut c) path)
    × Contains (cuts_along (empty_cut c) path) cut

-- this cut, which is consistent and satisfies, with what the variables that the predicate names are worth there, and an
-- observation through it
abbrev pub ShowsCut : List ProcessNames → Recorded → Predicate → List ℕ → Evidence → Type 0
ShowsCut names recorded predicate cut (Cut counts values path) =
    (counts.items ≡ cut) × IsGoodCut recorded.events (test_of recorded predicate) cut
    × (texts_view values.items ≡ value_texts names (state_at recorded.initial recorded.events cut) predicate)
    × LeadsThrough recorded.events cut path.items
ShowsCut names recorded predicate cut _ = ⊥

-- an observation with no satisfying cut, whose processes have these names
abbrev pub ShowsPath : List ProcessNames → Recorded → Predicate → List (List ℕ) → Evidence → Type 0
ShowsPath names recorded predicate reported (Observation path) =
    (map (name_of_process names) path.items ≡ reported)
    × IsAvoidingObservation recorded.events (test_of recorded predicate) path.items
ShowsPath names recorded predicate reported _ = ⊥

-- nothing
abbrev pub ShowsNothing : Evidence → Type 0
ShowsNothing Absent = Unit {0}
ShowsNothing _ = ⊥

-- what is shown of an answer whose `possibly` has no cut: the observation, if its `definitely` has one
abbrev pub ShowsDefinitely : List ProcessNames → Recorded → Predicate → Definitely → Evidence → Type 0
ShowsDefinitely names recorded predicate (Definitely.No reported) evidence =
    ShowsPath names recorded predicate reported evidence
ShowsDefinitely names recorded predicate _ evidence = ShowsNothing evidence

abbrev pub ShowsPossibly : List ProcessNames → Recorded → Predicate → Possibly → Definitely → Evidence → Type 0
ShowsPossibly names recorded predicate (Possibly.Yes cut) definitely evidence =
    ShowsCut names recorded predicate cut evidence
ShowsPossibly names recorded predicate Possibly.No definitely evidence =
    ShowsDefinitely names recorded predicate definitely evidence
ShowsPossibly names recorded predicate (Possibly.Unknown level) definitely evidence =
    ShowsDefinitely names recorded predicate definitely evidence

-- what is shown of a *possibly* alone: its cut, if it has one
abbrev pub ShowsCutAlone : List ProcessNames → Recorded → Predicate → Possibly → Evidence → Type 0
ShowsCutAlone names recorded predicate (Possibly.Yes cut) evidence = ShowsCut names recorded predicate cut evidence
ShowsCutAlone names recorded predicate _ evidence = ShowsNothing evidence

-- What is shown of an answer: the cut of a *possibly yes* and an observation through it, else the observation of a
-- *definitely no*, else nothing. If evidence of one kind is asked for, it is that or nothing.
abbrev pub Shows : Option Kind → List ProcessNames → Recorded → Predicate → Answer → Evidence → Type 0
Shows None names recorded predicate answer evidence =
    ShowsPossibly names recorded predicate answer.possibly answer.definitely evidence
Shows (Some kind.Possibly) names recorded predicate answer evidence =
    ShowsCutAlone names recorded predicate answer.possibly evidence
Shows (Some kind.Definitely) names recorded predicate answer evidence =
    ShowsDefinitely names recorded predicate answer.definitely evidence

-- ---- what the picture is called

-- what the report says of a predicate, but for the cut and the path
abbrev pub possibly_words : Possibly → List ℕ
possibly_words (Possibly.Yes cut) = codes " possibly yes"
possibly_words Possibly.No = codes " possibly no"
possibly_words (Possibly.Unknown level) = codes " possibly unknown " ++ decimal level

abbrev pub definitely_words : Definitely → List ℕ
definitely_words (Definitely.Yes level) = codes ", definitely yes " ++ decimal level
definitely_words (Definitely.No reported) = codes ", definitely no"
definitely_words (Definitely.Unknown level) = codes ", definitely unknown " ++ decimal level

-- the picture of a predicate of this name
abbrev pub title_text : (name : List ℕ) → Possibly → Definitely → List ℕ
title_text name possibly definitely = (name ++ possibly_words possibly) ++ definitely_words definitely

-- the picture of a run alone
abbrev pub run_title : List ℕ
run_title = codes "The run"
