-- What is enough.
use Rattle.std.proofs.Common.{◌≡◌, ℕ, false, List, sym, ◌∙◌}
use Rattle.std.specs.Prelude.{Contains}
use Rattle.std.proofs.lemmas.Bool.{false≢true}
use Rattle.def_model.specs.Cuts.{IsConsistent}
use Rattle.def_model.specs.Events.{Place}
use Rattle.def_model.specs.Observations.{Possibly}
use Rattle.def_model.specs.Predicates.{Predicate, Recorded, test_of}
use Rattle.judge_causes.specs.Enough.{EnoughForAll, HasOrderingsOf, HasSettingsOf, IsEnough}
use Rattle.judge_causes.proofs.SameTests.{fits_same, same_test}

-- more receipts are enough too
pub enough_more : (r : Recorded) (predicate : Predicate) (IsKept IsMore : Place → Type 0)
    → ((e : Place) → IsKept e → IsMore e) → IsEnough r predicate IsKept → IsEnough r predicate IsMore
enough_more r predicate IsKept IsMore more enough counts fits have =
    enough counts fits (λ send receipt kept. have send receipt (more receipt kept))

-- a consistent cut of a run in which they are ordered has their sends
enough_for : (r other : Recorded) (predicate : Predicate) (IsKept : Place → Type 0) → IsEnough r predicate IsKept
    → other.initial ≡ r.initial → HasSettingsOf r.events other.events
    → HasOrderingsOf r.events IsKept other.events → ¬ Possibly other.events (test_of other predicate)
enough_for r other predicate IsKept enough initial same ordered possibly =
    let counts : List ℕ = possibly.0 in
    let consistent : IsConsistent other.events counts = possibly.1 in
    let none : test_of r predicate counts ≡ false =
    enough counts (fits_same r.events other.events same counts consistent.fits)
    (λ send receipt kept message. consistent.closed send receipt (ordered send receipt kept message)) in
    false≢true (sym none ∙ sym (same_test r other predicate initial same counts) ∙ possibly.2)

pub enough_for_all : EnoughForAll
enough_for_all r other predicate receipts = enough_for r other predicate (Contains receipts)
