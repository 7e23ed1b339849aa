-- What a predicate sees of a process: an event is seen if it changes the truth of a comparison that names its process
-- alone, or the value of one of its variables in another comparison.
use Rattle.std.specs.Prelude.{⊤, ◌≡◌, ◌⊎◌, ◌↔◌, ℕ, ◌+◌, ◌<◌, Bool, List, [], ◌∷◌, take, ℤ, slice_get, slice_index_or, false, IsTrue}
use Rattle.def_model.specs.Events.{Place, place, event_count, events_of}
use Rattle.def_model.specs.Decided.{NameAlone}
use Rattle.def_model.specs.Predicates.{Sign, Term, Number, Variable, Times, Comparison, Predicate, Always, Never, Compare, Not, And, Or, Recorded, last_set_if_there, sum_value, compares}

-- the value of a variable after the first k events of its process
abbrev pub value_after : Recorded → ℕ → ℕ → ℕ → ℤ
value_after r k p v =
    last_set_if_there v (slice_get (slice_index_or r.initial p []) v) (take k (events_of r.events p))

-- the variable of a term has the same value after m and after n events of process p, if it is one of that process
abbrev pub HasSameValue : Recorded → ℕ → ℕ → ℕ → Term → Type 0
HasSameValue r p m n (Number k) = ⊤
HasSameValue r p m n (Variable q v) = q ≡ p → value_after r m q v ≡ value_after r n q v
HasSameValue r p m n (Times k q v) = q ≡ p → value_after r m q v ≡ value_after r n q v

-- so have all variables of a sum
abbrev pub HaveSameValues : Recorded → ℕ → ℕ → ℕ → List (Sign × Term) → Type 0
HaveSameValues r p m n [] = ⊤
HaveSameValues r p m n ((sign, term) ∷ rest) = HasSameValue r p m n term × HaveSameValues r p m n rest

-- The comparison names process p alone, and has the same truth after m and after n events of it.
pub record HasSameTruth (r : Recorded) (p m n : ℕ) (left : List (Sign × Term)) (comparison : Comparison)
    (right : List (Sign × Term)) : Type 0 where
  pub left_alone : NameAlone p left
  pub right_alone : NameAlone p right
  pub same : compares comparison (sum_value (value_after r m) left) (sum_value (value_after r m) right)
      ≡ compares comparison (sum_value (value_after r n) left) (sum_value (value_after r n) right)

-- a predicate sees the same of process p after m and after n of its events
abbrev pub SeesTheSame : Recorded → ℕ → ℕ → ℕ → Predicate → Type 0
SeesTheSame r p m n Always = ⊤
SeesTheSame r p m n Never = ⊤
SeesTheSame r p m n (Compare left comparison right) =
    HasSameTruth r p m n left comparison right ⊎ (HaveSameValues r p m n left × HaveSameValues r p m n right)
SeesTheSame r p m n (Not inner) = SeesTheSame r p m n inner
SeesTheSame r p m n (And left right) = SeesTheSame r p m n left × SeesTheSame r p m n right
SeesTheSame r p m n (Or left right) = SeesTheSame r p m n left × SeesTheSame r p m n right

-- Each event that isn't kept is unseen: the predicate sees the same of its process before it and after it.
abbrev pub OthersAreUnseen : Recorded → Predicate → (Place → Bool) → Type 0
OthersAreUnseen r predicate kept =
    (p n : ℕ) → n < event_count r.events p → kept (place p (n + 1)) ≡ false → SeesTheSame r p n (n + 1) predicate

-- The set of the seen events: before and after each of them the predicate sees something else.
abbrev pub AreSeen : Recorded → Predicate → (Place → Bool) → Type 0
AreSeen r predicate kept =
    (p n : ℕ) → n < event_count r.events p → IsTrue (kept (place p (n + 1))) ↔ ¬ SeesTheSame r p n (n + 1) predicate
