-- The countwise least and greatest of two consistent cuts are consistent.
use Rattle.std.proofs.Common.{◌≡◌, ℕ, zero, suc, ◌<◌, ◌≤◌, min, max, List, [], ◌∷◌, length, get_or, sum, refl, sym, ap, ◌∙◌, inl, inr, ◌⊎◌, arith}
use Rattle.std.proofs.lemmas.Bool.{cases_lt}
use Rattle.def_model.specs.Events.{Computation, Place, event_count}
use Rattle.def_model.specs.Order.{HappenedBefore}
use Rattle.def_model.specs.Cuts.{Includes, FitsProcesses, IsConsistent}
use Rattle.def_model.proofs.Counts.{sum_le}
use Rattle.def_model.specs.Lattice.{IsWithin, meet, join}

pub meet_at : (a b : List ℕ) (p : ℕ) → get_or (meet a b) p 0 ≡ min (get_or a p 0) (get_or b p 0)
meet_at [] b p = omega arith
meet_at (x ∷ a) [] p = omega arith
meet_at (x ∷ a) (y ∷ b) zero = refl
meet_at (x ∷ a) (y ∷ b) (suc p) = meet_at a b p

pub join_at : (a b : List ℕ) (p : ℕ) → get_or (join a b) p 0 ≡ max (get_or a p 0) (get_or b p 0)
join_at [] b p = omega arith
join_at (x ∷ a) [] p = omega arith
join_at (x ∷ a) (y ∷ b) zero = refl
join_at (x ∷ a) (y ∷ b) (suc p) = join_at a b p

pub length_meet : (a b : List ℕ) → length a ≡ length b → length (meet a b) ≡ length a
length_meet [] b l = refl
length_meet (x ∷ a) [] l = absurd (omega arith)
length_meet (x ∷ a) (y ∷ b) l = ap suc (length_meet a b (omega arith))

pub length_join : (a b : List ℕ) → length a ≡ length b → length (join a b) ≡ length a
length_join [] b l = sym l
length_join (x ∷ a) [] l = refl
length_join (x ∷ a) (y ∷ b) l = ap suc (length_join a b (omega arith))

-- the meet is within both cuts, and both are within the join
pub meet_within_left : (a b : List ℕ) → IsWithin (meet a b) a
meet_within_left a b p = rw meet_at (omega arith)

pub meet_within_right : (a b : List ℕ) → IsWithin (meet a b) b
meet_within_right a b p = rw meet_at (omega arith)

pub join_above_left : (a b : List ℕ) → IsWithin a (join a b)
join_above_left a b p = rw join_at (omega arith)

pub join_above_right : (a b : List ℕ) → IsWithin b (join a b)
join_above_right a b p = rw join_at (omega arith)

-- what is within both is within the meet
pub within_meet : (a b x : List ℕ) → IsWithin x a → IsWithin x b → IsWithin x (meet a b)
within_meet a b x below_a below_b p =
    let i : get_or x p 0 ≤ get_or a p 0 = below_a p in let j : get_or x p 0 ≤ get_or b p 0 = below_b p in
    rw meet_at (omega arith)

pub meet_consistent : (c : Computation) (a b : List ℕ) → IsConsistent c a → IsConsistent c b → IsConsistent c (meet a b)
meet_consistent c a b oka okb = record { fits = fits; closed = closed }
  where
    fits : FitsProcesses c (meet a b)
    fits =
        record {
          one_each = length_meet a b (oka.fits.one_each ∙ sym okb.fits.one_each) ∙ oka.fits.one_each;
          within = λ p. let i : get_or a p 0 ≤ event_count c p = oka.fits.within p in rw meet_at (omega arith);
        }

    closed : (e f : Place) → HappenedBefore c e f → Includes (meet a b) f → Includes (meet a b) e
    closed e f h (low, high) =
        let left : get_or (meet a b) f.process 0 ≤ get_or a f.process 0 = meet_within_left a b f.process in
        let right : get_or (meet a b) f.process 0 ≤ get_or b f.process 0 = meet_within_right a b f.process in
        let in_a : Includes a e = oka.closed e f h (low, omega arith) in
        let in_b : Includes b e = okb.closed e f h (low, omega arith) in
        let i : e.number ≤ get_or a e.process 0 = in_a.1 in
        let j : e.number ≤ get_or b e.process 0 = in_b.1 in
        (in_a.0, rw meet_at (omega arith))

pub join_consistent : (c : Computation) (a b : List ℕ) → IsConsistent c a → IsConsistent c b → IsConsistent c (join a b)
join_consistent c a b oka okb = record { fits = fits; closed = closed }
  where
    fits : FitsProcesses c (join a b)
    fits =
        record {
          one_each = length_join a b (oka.fits.one_each ∙ sym okb.fits.one_each) ∙ oka.fits.one_each;
          within = λ p. let i : get_or a p 0 ≤ event_count c p = oka.fits.within p in
              let j : get_or b p 0 ≤ event_count c p = okb.fits.within p in rw join_at (omega arith);
        }

    closed : (e f : Place) → HappenedBefore c e f → Includes (join a b) f → Includes (join a b) e
    closed e f h (low, high) = go (cases_lt (get_or a f.process 0) f.number)
      where
        go : (get_or a f.process 0 < f.number) ⊎ (f.number ≤ get_or a f.process 0) → Includes (join a b) e
        go (inr in_a) =
            let i : Includes a e = oka.closed e f h (low, in_a) in
            let j : get_or a e.process 0 ≤ get_or (join a b) e.process 0 = join_above_left a b e.process in
            let k : e.number ≤ get_or a e.process 0 = i.1 in
            (i.0, omega arith)
        go (inl out) =
            let is : get_or (join a b) f.process 0 ≡ max (get_or a f.process 0) (get_or b f.process 0) =
            join_at a b f.process in
            let i : Includes b e = okb.closed e f h (low, omega arith) in
            let j : get_or b e.process 0 ≤ get_or (join a b) e.process 0 = join_above_right a b e.process in
            let k : e.number ≤ get_or b e.process 0 = i.1 in
            (i.0, omega arith)

-- the meet of consistent cuts has no more events than either, and the two sums are those of the meet and the join
pub sum_meet_left : (c : Computation) (a b : List ℕ) → IsConsistent c a → IsConsistent c b → sum (meet a b) ≤ sum a
sum_meet_left c a b oka okb =
    sum_le (meet a b) a (meet_within_left a b) (length_meet a b (oka.fits.one_each ∙ sym okb.fits.one_each))
