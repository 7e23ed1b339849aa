-- A predicate by the counts of its two processes is one that these decide.
use Rattle.std.proofs.Common.{◌≡◌, ℕ, sym, subst}
use Rattle.std.specs.Prelude.{Bool}
use Rattle.wide_pairs.specs.Pairs.{IsOfPair}
use Rattle.def_model.specs.Events.{Computation}
use Rattle.def_model.specs.Predicates.{Predicate, Recorded, test_of}
use Rattle.wide_pairs.specs.Tests.{IsByCounts}
use Rattle.def_model.specs.Decided.{IsOfTwo, NamesOnly}
use Rattle.wide_pairs.specs.Twos.{IsPairFor}
use Rattle.wide_pairs.specs.declared.pair.Pair.{Pair}

pub of_pair : (r : Recorded) (p q : ℕ) (tree predicate : Predicate) (holds : ℕ → ℕ → Bool) → tree ≡ predicate
    → IsByCounts r p q tree holds → IsOfPair r.events (test_of r predicate) holds p q
of_pair r p q tree predicate holds same by_counts cut consistent =
    sym (subst (λ (t : Predicate). IsByCounts r p q t holds) same by_counts cut consistent.fits)

pub is_of_two : (c : Computation) (tree predicate : Predicate) (pair : Pair) → tree ≡ predicate → IsPairFor c tree pair
    → IsOfTwo c predicate
is_of_two c tree predicate pair same found = (
  pair.first,
  pair.second,
  found.order,
  found.there,
  subst (λ (t : Predicate). NamesOnly pair.first pair.second t) same found.only,
)
