-- Which processes messages order.
use Rattle.std.specs.Prelude.{◌≡◌, ◌≢◌, ℕ, IsTrue}
use Rattle.def_model.specs.Events.{Computation, Place}
use Rattle.def_model.specs.Order.{HappenedBefore}
use Rattle.def_model.specs.Predicates.{Predicate}
use Rattle.judge_facts.specs.Named.{names_process}

-- some event of p happened before some event of q
pub record LeadsTo (c : Computation) (p q : ℕ) : Type 0 where
  pub cause : Place
  pub effect : Place
  pub of_first : cause.process ≡ p
  pub of_second : effect.process ≡ q
  pub before : HappenedBefore c cause effect

-- the predicate names two processes, and messages lead from the first to the second
pub record Links (c : Computation) (predicate : Predicate) (p q : ℕ) : Type 0 where
  pub differ : p ≢ q
  pub names_first : IsTrue (names_process p predicate)
  pub names_second : IsTrue (names_process q predicate)
  pub leads : LeadsTo c p q

abbrev pub IsLedTo : Computation → Predicate → ℕ → Type 0
IsLedTo c predicate q = (p : ℕ) × Links c predicate p q

abbrev pub HasLinks : Computation → Predicate → Type 0
HasLinks c predicate = (q : ℕ) × IsLedTo c predicate q
