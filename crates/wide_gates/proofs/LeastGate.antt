-- The least level of a flagged spot is that of the least gate.
use Rattle.std.proofs.Common.{◌≡◌, ℕ, ◌<◌, ◌≤◌, Bool, true, false, List, length, get_or, sum, sym, subst, arith}
use Rattle.std.proofs.lemmas.Bool.{both_ways}
use Rattle.std.specs.Prelude.{Contains, MatchOption, Option, None, Some}
use Rattle.def_model.specs.Events.{Place, IsEvent}
use Rattle.def_model.specs.Predicates.{Predicate, Recorded}
use Rattle.def_wide.specs.Gates.{IsGate, IsLeastGate, IsMostOf, IsSurely}
use Rattle.def_wide.specs.Gates as gates
use Rattle.def_wide.specs.Sums.{NamesNoOther}
use Rattle.wide_gates.specs.Least.{IsLeastFlagged, NoneFlagged}
use Rattle.wide_gates.specs.Levels.{AreLevels}
use Rattle.wide_gates.specs.Spots.{AreSpots, IsAt, IsBeside, event_of}
use Rattle.wide_gates.specs.Sure.{AreWhere}
use Rattle.wide_gates.specs.declared.spot.Spot.{Spot}

gate_beside : (r : Recorded) (predicate : Predicate) (level : ℕ) (after : Bool) (e : Place) → IsEvent r.events e
    → IsSurely true (IsBeside after r.events e) r predicate → IsMostOf (IsBeside after r.events e) level
    → IsGate r predicate level
gate_beside r predicate level true e event surely most = gates.after e event surely most
gate_beside r predicate level false e event surely most = gates.before e event surely most

most_least : (InSet : List ℕ → Type 0) (a b : ℕ) → IsMostOf InSet a → IsMostOf InSet b → a ≤ b
most_least InSet a b one two =
    let le : sum one.counts ≤ b = two.none_more one.counts one.inside in omega (arith, le, one.reached)

module _ (r : Recorded) (predicate : Predicate) (spots : List Spot) (flags : List Bool) (levels : List ℕ)
    (all : AreSpots r.events spots) (are : AreWhere true r spots predicate flags)
    (have : AreLevels r.events spots levels) where
  -- a gate has a flagged spot
  spot_of : (after : Bool) (e : Place) (other : ℕ) → IsEvent r.events e
      → IsSurely true (IsBeside after r.events e) r predicate → IsMostOf (IsBeside after r.events e) other
      → (k : ℕ) × (k < length spots) × (get_or flags k false ≡ true) × (get_or levels k 0 ≤ other)
  spot_of after e other event surely most =
      let spot : Spot = record { place = record { process = e.process; number = e.number }; after = after } in
      let found : Contains spots spot =
      all.all (record { process = e.process; number = e.number }) after event in (
        found.0,
        found.1,
        (are.each found.0 spot found.1).1
            (subst (λ (s : Spot). IsSurely true (IsAt r.events s) r predicate) (sym found.2) surely),
        most_least (IsAt r.events spot) (get_or levels found.0 0) other
            (subst (λ (s : Spot). IsMostOf (IsAt r.events s) (get_or levels found.0 0)) found.2
            (have.each found.0 spot found.1)) most,
      )

  spot_of_gate : (other : ℕ) → IsGate r predicate other
      → (k : ℕ) × (k < length spots) × (get_or flags k false ≡ true) × (get_or levels k 0 ≤ other)
  spot_of_gate other (gates.before e event surely most) = spot_of false e other event surely most
  spot_of_gate other (gates.after e event surely most) = spot_of true e other event surely most

  -- a flagged spot is a gate
  gate_of_spot : (k : ℕ) (d : Spot) → k < length spots → get_or flags k false ≡ true
      → IsGate r predicate (get_or levels k 0)
  gate_of_spot k d lt flagged =
      gate_beside r predicate (get_or levels k 0) (get_or spots k d).after (event_of (get_or spots k d))
      (all.there k d lt) ((are.each k d lt).0 flagged) (have.each k d lt)

  pub none_least : NoneFlagged flags (length flags) → (level : ℕ) → ¬ IsLeastGate r predicate level
  none_least none level least =
      let at = spot_of_gate level least.gate in
      both_ways (get_or flags at.0 false) (none at.0 (omega (arith, at.1, are.one_each))) at.2

  pub is_least : (no_spot : Spot) (level : ℕ) → NamesNoOther (length r.events) predicate
      → IsLeastFlagged levels flags (length flags) level → IsLeastGate r predicate level
  is_least no_spot level there least = record {
    there = there;
    gate =
        subst (IsGate r predicate) least.is
        (gate_of_spot least.place no_spot (omega (arith, least.there, are.one_each)) least.flagged);
    least = λ other gate.
        let at = spot_of_gate other gate in
        let le : level ≤ get_or levels at.0 0 =
        least.none_less at.0 (omega (arith, at.1, are.one_each)) at.2 in
        omega (arith, le, at.3);
  }

  pub found_least : (no_spot : Spot) → NamesNoOther (length r.events) predicate → (found : Option ℕ)
      → MatchOption found (NoneFlagged flags (length flags)) (IsLeastFlagged levels flags (length flags))
      → MatchOption found ((level : ℕ) → ¬ IsLeastGate r predicate level) (IsLeastGate r predicate)
  found_least no_spot there None none = none_least none
  found_least no_spot there (Some level) least = is_least no_spot level there least
