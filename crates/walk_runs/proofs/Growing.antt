-- The cuts that are added to a list of births, one process after another.
use Rattle.std.proofs.Common.{◌≡◌, ◌≢◌, ℕ, ◌+◌, ◌<◌, ◌≤◌, List, Contains, get_or, length, refl, sym, ◌∙◌, inl, inr, ◌⊎◌, subst, arith}
use Rattle.std.specs.Prelude.{◌&&◌, ◌||◌, Bool, false, IsTrue, None, not, Option, Some, true}
use Rattle.std.proofs.lemmas.Bool.{cases_eq, cases_lt, false≢true}
use Rattle.walk_keys.specs.Words.{has_bit}
use Rattle.def_model.specs.Events.{Computation, place}
use Rattle.def_model.specs.Messages.{IsMessage}
use Rattle.def_model.specs.Cuts.{IsConsistent, one_more}
use Rattle.walk_runs.specs.Births.{HasOneSend, IsMadeLater, IsMetAt, IsUndoable, next_of}
use Rattle.walk_runs.specs.Collected.{HasOneMore}
use Rattle.walk_runs.specs.Kept.{KeyedBirth}
use Rattle.walk_runs.specs.Points.{IsFound, IsWanted, GrowsBy, GrowsIf, birth_of}
use Rattle.walk_runs.proofs.Born.{met_by_last}
use Rattle.walk_runs.proofs.UndoneEvents.{add_met, still_undoable}

-- an event that is wanted can be added
wanted_added : (c : Computation) → HasOneSend c → (cut : List ℕ) (by : Option ℕ) (p : ℕ) → IsConsistent c cut
    → p < length c → IsWanted c cut by p → IsConsistent c (one_more cut p)
wanted_added c single cut None p ok lt wanted = wanted
wanted_added c single cut (Some q) p ok lt wanted =
    let size : length cut ≡ length c = ok.fits.one_each in
    let met : IsMetAt c cut (next_of cut p) =
    met_by_last c single cut q (get_or cut q 0) (next_of cut p) refl wanted in
    add_met c cut p ok (omega arith) met.0 met.1

-- what an event makes that doesn't follow the last one of a later process is made by that one too
pub made_or_later : (c : Computation) → HasOneSend c → (cut : List ℕ) (by : Option ℕ) (latest p : ℕ)
    → IsConsistent c cut → p < length c → p < latest → IsUndoable c cut latest → (made : Bool)
    → (IsMessage c (place latest (get_or cut latest 0)) (next_of cut p) → IsTrue made) → IsWanted c cut by p
    → IsTrue made ⊎ IsMadeLater c (one_more cut p) p
made_or_later c single cut by latest p ok lt above undo true follows wanted = inl refl
made_or_later c single cut by latest p ok lt above undo false follows wanted =
    let size : length cut ≡ length c = ok.fits.one_each in
    inr (
      latest,
      above,
      still_undoable c cut p latest (λ same. omega arith) (omega arith) undo
          (wanted_added c single cut by p ok lt wanted) (λ message. false≢true (follows message)),
    )

-- The bit of a process in the word of those that are sought, from its bits in three other words: it is one of all that
-- may be wanted and isn't lesser, or it is lesser and follows.
abbrev pub sought_bit : Bool → Bool → Bool → Bool
sought_bit all lesser followers = (all && not lesser) || (followers && lesser)

pub sought_lesser : (all lesser followers : Bool) → lesser ≡ true → IsTrue followers
    → IsTrue (sought_bit all lesser followers)
sought_lesser true true true is follows = refl
sought_lesser false true true is follows = refl
sought_lesser all true false is follows = absurd (false≢true follows)
sought_lesser all false followers is follows = absurd (false≢true is)

pub sought_other : (all lesser followers : Bool) → lesser ≡ false → IsTrue all
    → IsTrue (sought_bit all lesser followers)
sought_other true false true is wanted = refl
sought_other true false false is wanted = refl
sought_other false false followers is wanted = absurd (false≢true wanted)
sought_other all true followers is wanted = absurd (false≢true (sym is))

pub sought_from : (all lesser followers : Bool) → IsTrue (sought_bit all lesser followers)
    → IsTrue all ⊎ IsTrue followers
sought_from true lesser followers set = inl refl
sought_from false lesser true set = inr refl
sought_from false lesser false set = absurd (false≢true set)

-- what is wanted and not made is made later
pub left_out : {A : Type 0} (made : Bool) → made ≡ false → IsTrue made ⊎ A → A
left_out made none (inl is) = absurd (false≢true (sym none ∙ is))
left_out made none (inr later) = later

-- what is found stays found in a list that has grown
pub found_more : (c : Computation) (old new : List KeyedBirth) (cut : List ℕ) (p : ℕ)
    → ((z : KeyedBirth) → Contains old z → Contains new z) → IsFound c old cut p → IsFound c new cut p
found_more c old new cut p kept (inl has) = inl (kept (birth_of cut p) has)
found_more c old new cut p kept (inr later) = inr later

-- a birth that one of the first n processes makes
abbrev Added : Computation → List ℕ → ℕ → KeyedBirth → Type 0
Added c cut n z =
    (p : ℕ) × (p < n) × IsConsistent c (one_more cut p) × IsUndoable c (one_more cut p) p
    × (z ≡ birth_of (one_more cut p) p)

-- So far: each wanted one of the first n processes is found, but for those that are sought from this number on.
pub record GrowsYet (c : Computation) (cut : List ℕ) (by : Option ℕ) (n sought from : ℕ) (old new : List KeyedBirth)
    : Type 0 where
  pub kept : (z : KeyedBirth) → Contains old z → Contains new z
  pub just : (z : KeyedBirth) → Contains new z → Contains old z ⊎ Added c cut n z
  pub all : (p : ℕ) → p < n → IsWanted c cut by p
      → ((from ≤ p) × IsTrue (has_bit sought p)) ⊎ IsFound c new (one_more cut p) p

pub yet_none : (c : Computation) (cut : List ℕ) (by : Option ℕ) (n sought : ℕ) (old : List KeyedBirth)
    → ((p : ℕ) → p < n → IsWanted c cut by p → IsTrue (has_bit sought p) ⊎ IsMadeLater c (one_more cut p) p)
    → GrowsYet c cut by n sought 0 old old
yet_none c cut by n sought old all = record {
  kept = λ z has. has;
  just = λ z has. inl has;
  all = λ p lt wanted. first p (all p lt wanted);
}
  where
    first : (p : ℕ) → IsTrue (has_bit sought p) ⊎ IsMadeLater c (one_more cut p) p
        → ((0 ≤ p) × IsTrue (has_bit sought p)) ⊎ IsFound c old (one_more cut p) p
    first p (inl set) = inl (omega arith, set)
    first p (inr later) = inr (inr later)

-- none is sought any more
pub yet_all : (c : Computation) (cut : List ℕ) (by : Option ℕ) (n sought from : ℕ) (old new : List KeyedBirth)
    → GrowsYet c cut by n sought from old new → ((p : ℕ) → from ≤ p → has_bit sought p ≡ false)
    → GrowsBy c cut by n old new
yet_all c cut by n sought from old new g none = record {
  kept = g.kept;
  just = g.just;
  all = λ p lt wanted. last p (g.all p lt wanted);
}
  where
    last : (p : ℕ) → ((from ≤ p) × IsTrue (has_bit sought p)) ⊎ IsFound c new (one_more cut p) p
        → IsFound c new (one_more cut p) p
    last p (inl (le, set)) = absurd (false≢true (sym (none p le) ∙ set))
    last p (inr found) = found

-- the next process that is sought is q
module _ (c : Computation) (cut : List ℕ) (by : Option ℕ) (n sought from q : ℕ) (old new : List KeyedBirth)
    (g : GrowsYet c cut by n sought from old new) (after : from ≤ q)
    (between : (p : ℕ) → from ≤ p → p < q → has_bit sought p ≡ false)
  where
    further : (more : List KeyedBirth) → ((z : KeyedBirth) → Contains new z → Contains more z)
        → (IsWanted c cut by q → IsFound c more (one_more cut q) q) → (p : ℕ) → IsWanted c cut by p
        → ((from ≤ p) × IsTrue (has_bit sought p)) ⊎ IsFound c new (one_more cut p) p
        → ((q + 1 ≤ p) × IsTrue (has_bit sought p)) ⊎ IsFound c more (one_more cut p) p
    further more kept here p wanted (inr found) = inr (found_more c new more (one_more cut p) p kept found)
    further more kept here p wanted (inl (le, set)) = at (cases_lt p q) (cases_eq p q)
      where
        at : (p < q) ⊎ (q ≤ p) → (p ≡ q) ⊎ (p ≢ q)
            → ((q + 1 ≤ p) × IsTrue (has_bit sought p)) ⊎ IsFound c more (one_more cut p) p
        at (inl lt) e = absurd (false≢true (sym (between p le lt) ∙ set))
        at (inr ge) (inl e) =
            inr (subst (λ (i : ℕ). IsFound c more (one_more cut i) i) (sym e)
            (here (subst (λ (i : ℕ). IsWanted c cut by i) e wanted)))
        at (inr ge) (inr ne) = inl (omega (arith, ne), set)

    pub yet_no : (IsWanted c cut by q → IsMadeLater c (one_more cut q) q)
        → GrowsYet c cut by n sought (q + 1) old new
    yet_no later = record {
      kept = g.kept;
      just = g.just;
      all = λ p lt wanted. further new (λ z has. has) (λ w. inr (later w)) p wanted (g.all p lt wanted);
    }

    pub yet_yes : q < n → IsConsistent c (one_more cut q) → IsUndoable c (one_more cut q) q
        → (more : List KeyedBirth) → HasOneMore new (birth_of (one_more cut q) q) more
        → GrowsYet c cut by n sought (q + 1) old more
    yet_yes less ok undo more pushed = record {
      kept = λ z has. pushed.kept z (g.kept z has);
      just = λ z has. is_just z (pushed.just z has);
      all = λ p lt wanted. further more pushed.kept (λ w. inl pushed.here) p wanted (g.all p lt wanted);
    }
      where
        is_just : (z : KeyedBirth) → Contains new z ⊎ (birth_of (one_more cut q) q ≡ z)
            → Contains old z ⊎ Added c cut n z
        is_just z (inl has) = g.just z has
        is_just z (inr e) = inr (q, less, ok, undo, sym e)

pub grow_not_wanted : (c : Computation) (cut : List ℕ) (wanted : Bool) (q n : ℕ) (old : List KeyedBirth)
    → wanted ≡ false → GrowsIf c cut wanted q n old old
grow_not_wanted c cut wanted q n old e = record {
  kept = λ z has. has;
  just = λ z has. inl has;
  all = λ is p lt w. absurd (false≢true (sym e ∙ is));
}

pub grow_wanted : (c : Computation) (cut : List ℕ) (wanted : Bool) (q n : ℕ) (old new : List KeyedBirth)
    → GrowsBy c cut (Some q) n old new → GrowsIf c cut wanted q n old new
grow_wanted c cut wanted q n old new g =
    record { kept = g.kept; just = g.just; all = λ is p lt w. g.all p lt w }
