-- A search from the full cut back to the empty one, and the dead ends that it comes to.
use Rattle.std.specs.Prelude.{⊤, ◌≡◌, ℕ, suc, ◌<◌, Bool, false, ◌||◌, cond, nat_eq, All, Contains, List, [], ◌∷◌, length, reverse, slice_index, sum}
use Rattle.def_model.specs.Answers.{IsPrintedPath, LexBelow}
use Rattle.def_model.specs.Cuts.{IsConsistent, full_cut, one_less}
use Rattle.def_model.specs.Events.{Computation}
use Rattle.def_model.specs.Observations.{Definitely, IsAvoiding}
use Rattle.def_model.specs.Predicates.{Sign, Term, Number, Variable, Times, Predicate, Always, Never, Compare, Not, And, Or, Recorded, test_of}

-- ---- the counts that a predicate sees

-- whether the term names process p
abbrev pub term_names : ℕ → Term → Bool
term_names p (Number k) = false
term_names p (Variable q v) = nat_eq p q
term_names p (Times k q v) = nat_eq p q

-- some term of a sum does
abbrev pub sum_names : ℕ → List (Sign × Term) → Bool
sum_names p [] = false
sum_names p ((sign, term) ∷ rest) = term_names p term || sum_names p rest

-- some comparison of a predicate does
abbrev pub predicate_names : ℕ → Predicate → Bool
predicate_names p Always = false
predicate_names p Never = false
predicate_names p (Compare left comparison right) = sum_names p left || sum_names p right
predicate_names p (Not inner) = predicate_names p inner
predicate_names p (And left right) = predicate_names p left || predicate_names p right
predicate_names p (Or left right) = predicate_names p left || predicate_names p right

-- the counts of process p and of those after it, with 0 in the place of each that the predicate doesn't name
abbrev pub named_from : ℕ → Predicate → List ℕ → List ℕ
named_from p predicate [] = []
named_from p predicate (count ∷ rest) = cond (predicate_names p predicate) count 0 ∷ named_from (suc p) predicate rest

-- the counts of a cut, with 0 in the place of each process that the predicate doesn't name
abbrev pub named_counts : Predicate → List ℕ → List ℕ
named_counts predicate cut = named_from 0 predicate cut

-- ---- dead ends

-- a consistent cut that doesn't satisfy
abbrev pub IsOpen : Computation → (List ℕ → Bool) → List ℕ → Type 0
IsOpen c test cut = IsConsistent c cut × (test cut ≡ false)

-- From one cut back to another each step undoes an event, and all cuts on the way are open, with both ends. The list
-- has the processes in the order in which their events are undone.
abbrev pub LeadsBack : Computation → (List ℕ → Bool) → List ℕ → List ℕ → List ℕ → Type 0
LeadsBack c test from [] to = IsOpen c test from × (from ≡ to)
LeadsBack c test from (p ∷ undone) to =
    IsOpen c test from × (0 < slice_index from p) × LeadsBack c test (one_less from p) undone to

-- A dead end of the search: what was undone leads back from the full cut to one that doesn't avoid, so from there the
-- search can't go on to the empty cut. The predicate sees these counts of it.
pub record IsDeadEnd (r : Recorded) (predicate : Predicate) (undone counts : List ℕ) : Type 0 where
  pub cut : List ℕ
  pub reached : LeadsBack r.events (test_of r predicate) (full_cut r.events) undone cut
  pub dead : ¬ IsAvoiding r.events (test_of r predicate) (sum cut) cut
  pub seen : counts ≡ named_counts predicate cut

-- the counts of a dead end
abbrev pub AreDead : Recorded → Predicate → List ℕ → Type 0
AreDead r predicate counts = (undone : List ℕ) × IsDeadEnd r predicate undone counts

-- The same of one to which a search that undoes the least process first comes before it has found the path.
abbrev pub AreDeadBefore : Recorded → Predicate → (path : List ℕ) → List ℕ → Type 0
AreDeadBefore r predicate path counts =
    (undone : List ℕ) × IsDeadEnd r predicate undone counts × LexBelow undone (reverse path)

-- ---- how many there are

-- no list of counts stands twice
abbrev pub AreApart : List (List ℕ) → Type 0
AreApart [] = ⊤
AreApart (counts ∷ rest) = (¬ Contains rest counts) × AreApart rest

-- there are more than w lists of counts of which P holds
pub record AreOver (w : ℕ) (P : List ℕ → Type 0) : Type 0 where
  pub each : List (List ℕ)
  pub apart : AreApart each
  pub just : All P each
  pub over : w < length each

-- ---- what the search finds

-- The path of the avoiding observation that is printed, and no more than w dead ends come before it.
pub record IsFoundBack (r : Recorded) (predicate : Predicate) (w : ℕ) (path : List ℕ) : Type 0 where
  pub printed : IsPrintedPath r.events (test_of r predicate) path
  pub few : ¬ AreOver w (AreDeadBefore r predicate path)

-- There are no more than w dead ends.
abbrev pub HasFewDeadEnds : Recorded → Predicate → ℕ → Type 0
HasFewDeadEnds r predicate w = ¬ AreOver w (AreDead r predicate)

-- No observation avoids, and the search comes to no more than w dead ends before it has looked at all.
pub record EndsBack (r : Recorded) (predicate : Predicate) (w : ℕ) : Type 0 where
  pub passed : Definitely r.events (test_of r predicate)
  pub few : HasFewDeadEnds r predicate w
