-- A predicate under other names, as a reduction has it, and what it sees of a process in two recordings.
use Rattle.std.specs.Prelude.{⊤, ◌≡◌, ◌⊎◌, ◌↔◌, ℕ, ◌≤◌, Bool, List, [], ◌∷◌, slice_index}
use Rattle.def_model.specs.Events.{Place, place}
use Rattle.def_model.specs.Decided.{NameAlone}
use Rattle.def_model.specs.Predicates.{Sign, Term, Number, Variable, Times, Comparison, Predicate, Always, Never, Compare, Not, And, Or, Recorded, sum_value, compares}
use Rattle.def_long.specs.Windows.{Window}
use Rattle.def_long.specs.Kept.{IsKept}
use Rattle.def_long.specs.Views.{value_after}

-- the numbers that processes and their variables have in a reduction
pub record Names : Type 0 where
  pub process : ℕ → ℕ
  pub variable : ℕ → ℕ → ℕ

abbrev pub renamed_term : Names → Term → Term
renamed_term names (Number k) = Number k
renamed_term names (Variable p v) = Variable (names.process p) (names.variable p v)
renamed_term names (Times k p v) = Times k (names.process p) (names.variable p v)

abbrev pub renamed_sum : Names → List (Sign × Term) → List (Sign × Term)
renamed_sum names [] = []
renamed_sum names ((sign, term) ∷ rest) = (sign, renamed_term names term) ∷ renamed_sum names rest

-- the predicate of the reduction
abbrev pub renamed : Names → Predicate → Predicate
renamed names Always = Always
renamed names Never = Never
renamed names (Compare left comparison right) = Compare (renamed_sum names left) comparison (renamed_sum names right)
renamed names (Not inner) = Not (renamed names inner)
renamed names (And left right) = And (renamed names left) (renamed names right)
renamed names (Or left right) = Or (renamed names left) (renamed names right)

-- ---- after m events in one recording, and n in the other

-- the variable of a term has the same value in both, if it is one of process p
abbrev pub HasValueOf : Recorded → ℕ → Recorded → ℕ → Names → ℕ → Term → Type 0
HasValueOf r m r' n names p (Number k) = ⊤
HasValueOf r m r' n names p (Variable q v) =
    q ≡ p → value_after r m q v ≡ value_after r' n (names.process q) (names.variable q v)
HasValueOf r m r' n names p (Times k q v) =
    q ≡ p → value_after r m q v ≡ value_after r' n (names.process q) (names.variable q v)

abbrev pub HaveValuesOf : Recorded → ℕ → Recorded → ℕ → Names → ℕ → List (Sign × Term) → Type 0
HaveValuesOf r m r' n names p [] = ⊤
HaveValuesOf r m r' n names p ((sign, term) ∷ rest) =
    HasValueOf r m r' n names p term × HaveValuesOf r m r' n names p rest

-- The comparison names process p alone, and has the same truth in both.
pub record HasTruthOf (r : Recorded) (m : ℕ) (r' : Recorded) (n : ℕ) (names : Names) (p : ℕ)
    (left : List (Sign × Term)) (comparison : Comparison) (right : List (Sign × Term)) : Type 0 where
  pub left_alone : NameAlone p left
  pub right_alone : NameAlone p right
  pub same : compares comparison (sum_value (value_after r m) left) (sum_value (value_after r m) right)
      ≡ compares comparison (sum_value (value_after r' n) (renamed_sum names left))
      (sum_value (value_after r' n) (renamed_sum names right))

-- A predicate sees the same of process p after its first m events as the renamed one after the first n of the process
-- that has its place.
abbrev pub SeesTheSameIn : Recorded → ℕ → Recorded → ℕ → Names → ℕ → Predicate → Type 0
SeesTheSameIn r m r' n names p Always = ⊤
SeesTheSameIn r m r' n names p Never = ⊤
SeesTheSameIn r m r' n names p (Compare left comparison right) =
    HasTruthOf r m r' n names p left comparison right
    ⊎ (HaveValuesOf r m r' n names p left × HaveValuesOf r m r' n names p right)
SeesTheSameIn r m r' n names p (Not inner) = SeesTheSameIn r m r' n names p inner
SeesTheSameIn r m r' n names p (And left right) =
    SeesTheSameIn r m r' n names p left × SeesTheSameIn r m r' n names p right
SeesTheSameIn r m r' n names p (Or left right) =
    SeesTheSameIn r m r' n names p left × SeesTheSameIn r m r' n names p right

-- ---- of a reduction, of which `image` gives the image of each kept event

-- the image of an event is one of the process that has the place of its process
abbrev pub KeepProcesses : Window → (Place → Bool) → Names → (Place → Place) → Type 0
KeepProcesses w kept names image =
    (e : Place) → IsKept w kept e → (image e).process ≡ names.process e.process

-- The window has come equally far after m events of process p as the other after n: a kept event is among the first m
-- exactly if its image is among the first n.
pub record AreEquallyFar (w : Window) (kept : Place → Bool) (w' : Window) (names : Names) (image : Place → Place)
    (p m n : ℕ) : Type 0 where
  pub low : slice_index w.from p ≤ m
  pub high : m ≤ slice_index w.to p
  pub low' : slice_index w'.from (names.process p) ≤ n
  pub high' : n ≤ slice_index w'.to (names.process p)
  pub same : (k : ℕ) → IsKept w kept (place p k) → (k ≤ m) ↔ ((image (place p k)).number ≤ n)
