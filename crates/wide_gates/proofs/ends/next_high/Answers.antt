-- The spot before, and the spot.
use Rattle.std.proofs.Common.{false, ℕ, get_or, sym, subst}
use Rattle.std.proofs.lemmas.List.{get_or_default}
use Rattle.wide_gates.specs.Highs.{HasNoneAfter, IsHigh}
use Rattle.wide_gates.specs.Spots.{event_of}
use Rattle.wide_gates.specs.declared.spot.Spot.{Spot}
use Rattle.wide_gates.proofs.ends.next_high.Goals as goal

none : Spot
none = record { place = record { process = 0; number = 0 }; after = false }

pub start_of-start-requires-clause-none : goal.start_of-start-requires-clause-none
unfolding none
start_of-start-requires-clause-none c =
    subst
    (λ (k : ℕ). HasNoneAfter c.args.computation.now.events (event_of (get_or c.args.spots.now k none)) c.args.q
    c.args.high) (sym c.saturating_sub.ensures) (c.requires.none none)

pub returns : goal.returns
unfolding none
returns c = λ d.
    subst (λ (s : Spot). IsHigh c.args.computation.now.events (event_of s) c.args.q c.high_from.result)
    (get_or_default c.args.spots.now c.args.k none d c.requires.there) c.high_from.ensures
