-- The answers under a width, and the choices of what is printed. `test` says whether a cut satisfies.
use Rattle.std.specs.Prelude.{◌≡◌, ℕ, ◌<◌, ◌⊎◌, Bool, true, false, ◌↔◌, List, [], ◌∷◌, length, reverse, sum, Contains, slice_index}
use Rattle.def_model.specs.Events.{Computation, Linked}
use Rattle.def_model.specs.Cuts.{IsConsistent, IsOfLevel, empty_cut, full_cut, total, one_more, one_less}
use Rattle.def_model.specs.Observations.{IsObservation, HasNoSatisfying, Possibly, Definitely, IsAvoiding, HasNoAvoiding}

-- strictly before, in the lexicographic order of lists of one length
abbrev pub LexBelow : List ℕ → List ℕ → Type 0
LexBelow [] ys = ⊥
LexBelow (x ∷ xs) [] = ⊥
LexBelow (x ∷ xs) (y ∷ ys) = (x < y) ⊎ ((x ≡ y) × LexBelow xs ys)

-- the cuts of which P holds, each once, in lexicographic order
pub record IsListOf (P : List ℕ → Type 0) (cuts : List (List ℕ)) : Type 0 where
  pub ascending : Linked LexBelow cuts
  pub just : (cut : List ℕ) → Contains cuts cut ↔ P cut

-- more than w cuts have P
abbrev pub MoreThan : ℕ → (List ℕ → Type 0) → Type 0
MoreThan w P = (cuts : List (List ℕ)) × IsListOf P cuts × (w < length cuts)

-- a satisfying cut; none; or a level with too many cuts
pub data PossiblyAnswer : Type 0 where
  PossiblyYes : List ℕ → PossiblyAnswer
  PossiblyNo : PossiblyAnswer
  PossiblyUnknown : ℕ → PossiblyAnswer

-- a level with no avoiding cut; the path of an avoiding observation; or a level with too many avoiding cuts
pub data DefinitelyAnswer : Type 0 where
  DefinitelyYes : ℕ → DefinitelyAnswer
  DefinitelyNo : List ℕ → DefinitelyAnswer
  DefinitelyUnknown : ℕ → DefinitelyAnswer

-- k is the least level of more than w cuts, and no cut of a level below k satisfies
pub record IsPossiblyUnknown (c : Computation) (test : List ℕ → Bool) (w k : ℕ) : Type 0 where
  pub wide : MoreThan w (IsOfLevel c k)
  pub least : (j : ℕ) → j < k → ¬ MoreThan w (IsOfLevel c j)
  pub none_below : (j : ℕ) (cut : List ℕ) → j < k → IsOfLevel c j cut → test cut ≡ false

-- The cut printed: it satisfies, and each other satisfying cut is of a higher level, or of its level and
-- lexicographically after it.
pub record IsFirstSatisfying (c : Computation) (test : List ℕ → Bool) (cut : List ℕ) : Type 0 where
  pub consistent : IsConsistent c cut
  pub satisfies : test cut ≡ true
  pub first : (other : List ℕ) → IsConsistent c other → test other ≡ true → ¬ (other ≡ cut) → (sum cut < sum other)
      ⊎ ((sum cut ≡ sum other) × LexBelow cut other)

-- Possibly's answer under width w
abbrev pub IsPossiblyAnswer : Computation → (List ℕ → Bool) → ℕ → PossiblyAnswer → Type 0
IsPossiblyAnswer c test w (PossiblyUnknown k) = IsPossiblyUnknown c test w k
IsPossiblyAnswer c test w (PossiblyYes cut) =
    ((k : ℕ) → ¬ IsPossiblyUnknown c test w k) × IsFirstSatisfying c test cut
IsPossiblyAnswer c test w PossiblyNo =
    ((k : ℕ) → ¬ IsPossiblyUnknown c test w k) × (¬ Possibly c test)

-- k is the least level of more than w avoiding cuts
pub record IsDefinitelyUnknown (c : Computation) (test : List ℕ → Bool) (w k : ℕ) : Type 0 where
  pub wide : MoreThan w (IsAvoiding c test k)
  pub least : (j : ℕ) → j < k → ¬ MoreThan w (IsAvoiding c test j)

-- the level printed: the least with no avoiding cut
pub record IsLeastFree (c : Computation) (test : List ℕ → Bool) (level : ℕ) : Type 0 where
  pub none : HasNoAvoiding c test level
  pub below : (j : ℕ) → j < level → (cut : List ℕ) × IsAvoiding c test j cut

-- to undo the last event of process p leaves an avoiding cut
abbrev pub LeavesAvoiding : Computation → (List ℕ → Bool) → List ℕ → ℕ → Type 0
LeavesAvoiding c test cut p =
    (0 < slice_index cut p) × IsAvoiding c test (sum (one_less cut p)) (one_less cut p)

-- From the cut back to the empty one, each step undoes the event of the least process that leaves an avoiding cut. The
-- list has the processes in the order in which their events are undone.
abbrev pub IsUndoing : Computation → (List ℕ → Bool) → List ℕ → List ℕ → Type 0
IsUndoing c test cut [] = cut ≡ empty_cut c
IsUndoing c test cut (p ∷ rest) =
    LeavesAvoiding c test cut p × ((q : ℕ) → q < p → ¬ LeavesAvoiding c test cut q)
    × IsUndoing c test (one_less cut p) rest

-- The avoiding observation printed: the processes in the order in which their events happen, found from the full cut
-- backward.
abbrev pub IsPrintedPath : Computation → (List ℕ → Bool) → List ℕ → Type 0
IsPrintedPath c test path =
    IsAvoiding c test (total c) (full_cut c) × IsUndoing c test (full_cut c) (reverse path)

-- the cuts from this one on, along a path of process numbers
abbrev pub cuts_along : List ℕ → List ℕ → List (List ℕ)
cuts_along cut [] = cut ∷ []
cuts_along cut (p ∷ path) = cut ∷ cuts_along (one_more cut p) path

-- the path is that of an observation with no satisfying cut
abbrev pub IsAvoidingObservation : Computation → (List ℕ → Bool) → List ℕ → Type 0
IsAvoidingObservation c test path =
    IsObservation c (cuts_along (empty_cut c) path) × HasNoSatisfying test (cuts_along (empty_cut c) path)

-- Definitely's answer under width w
abbrev pub IsDefinitelyAnswer : Computation → (List ℕ → Bool) → ℕ → DefinitelyAnswer → Type 0
IsDefinitelyAnswer c test w (DefinitelyUnknown k) = IsDefinitelyUnknown c test w k
IsDefinitelyAnswer c test w (DefinitelyYes level) =
    ((k : ℕ) → ¬ IsDefinitelyUnknown c test w k) × Definitely c test × IsLeastFree c test level
IsDefinitelyAnswer c test w (DefinitelyNo path) =
    ((k : ℕ) → ¬ IsDefinitelyUnknown c test w k) × (¬ Definitely c test) × IsPrintedPath c test path

-- ---- whatever the width

-- Possibly's answer whatever the width
abbrev pub IsExactPossibly : Computation → (List ℕ → Bool) → PossiblyAnswer → Type 0
IsExactPossibly c test (PossiblyYes cut) = IsFirstSatisfying c test cut
IsExactPossibly c test PossiblyNo = ¬ Possibly c test
IsExactPossibly c test (PossiblyUnknown k) = ⊥

-- Definitely's answer whatever the width
abbrev pub IsExactDefinitely : Computation → (List ℕ → Bool) → DefinitelyAnswer → Type 0
IsExactDefinitely c test (DefinitelyYes level) = Definitely c test × IsLeastFree c test level
IsExactDefinitely c test (DefinitelyNo path) = (¬ Definitely c test) × IsPrintedPath c test path
IsExactDefinitely c test (DefinitelyUnknown k) = ⊥
