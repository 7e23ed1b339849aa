-- Two runs of which the same is seen keep the same events, each with the one of the same rank in its process.
use Rattle.std.proofs.Common.{◌≡◌, ℕ, ◌<◌, ◌≤◌, Bool, List, [], length, get_or, nat_eq, refl, sym, ap, ◌∙◌, subst, inl, inr, arith}
use Rattle.std.proofs.lemmas.Bool.{eqb-true, eq-eqb}
use Rattle.def_model.specs.Events.{Place, place, IsEvent}
use Rattle.def_model.specs.Order.{HappenedBefore, IsUpTo}
use Rattle.def_model.specs.Cuts.{empty_cut}
use Rattle.def_model.specs.Predicates.{Recorded}
use Rattle.def_model.proofs.Chains.{same_place}
use Rattle.def_model.proofs.Counts.{empty_at, full_at}
use Rattle.def_long.specs.Kept.{IsKept}
use Rattle.def_long.specs.Reductions.{HaveSameEvents}
use Rattle.def_long.specs.Windows.{whole}
use Rattle.def_orders.specs.Orders.{AreKept, count_up_to}
use Rattle.def_orders.proofs.Alike.{AreAlike, swapped}
use Rattle.def_orders.proofs.Ranks.{contained_of_last, count_at, last_at, last_up_to, ranked}

-- whether the event's number is one of its process's numbers
abbrev pub is_listed : List (List ℕ) → Place → Bool
is_listed numbers e = nat_eq (last_up_to (get_or numbers e.process []) e.number) e.number

-- the event of the same rank
abbrev pub image_at : (to : ℕ → ℕ) (numbers numbers' : List (List ℕ)) → Place → Place
image_at to numbers numbers' e =
    place (to e.process)
    (ranked (get_or numbers' (to e.process) []) (count_up_to (get_or numbers e.process []) e.number))

-- the same if each process has its own number
abbrev pub image_in : (numbers numbers' : List (List ℕ)) → Place → Place
image_in numbers numbers' = image_at (λ p. p) numbers numbers'

-- the event of this process with this rank, from 0
abbrev pub listed : List (List ℕ) → ℕ → ℕ → Place
listed numbers p i = place p (get_or (get_or numbers p []) i 0)

module _ (r r' : Recorded) (to from : ℕ → ℕ) (named named' numbers numbers' : List (List ℕ))
    (alike : AreAlike r r' to from named named' numbers numbers') where
  abbrev IsKeptHere : Place → Type 0
  IsKeptHere e = IsKept (whole r.events) (is_listed numbers) e

  event_of_listed : (p i : ℕ) → i < length (get_or numbers p []) → IsEvent r.events (listed numbers p i)
  event_of_listed p i within = let kept : AreKept r p (get_or named p []) (get_or numbers p []) = alike.kept p in
      kept.events i 0 within

  pub listed_is_kept : (p i : ℕ) → i < length (get_or numbers p []) → IsKeptHere (listed numbers p i)
  listed_is_kept p i within = record {
    is_kept = eq-eqb (last_up_to (get_or numbers p []) (get_or (get_or numbers p []) i 0))
        (get_or (get_or numbers p []) i 0)
        (let kept : AreKept r p (get_or named p []) (get_or numbers p []) = alike.kept p in
        last_at (get_or numbers p []) kept.ascend i within);
    after = λ there. let low : 1 ≤ get_or (get_or numbers p []) i 0 = there.0 in
        let high : get_or (get_or numbers p []) i 0 ≤ get_or (empty_cut r.events) p 0 = there.1 in
        let none : get_or (empty_cut r.events) p 0 ≡ 0 = empty_at r.events p in omega arith;
    before = let is : IsEvent r.events (listed numbers p i) = event_of_listed p i within in
        (is.0, rw full_at is.1);
  }

  -- what holds of the listed events holds of all that are kept
  pub of_listed : (P : Place → Type 0) → ((p i : ℕ) → i < length (get_or numbers p []) → P (listed numbers p i))
      → (e : Place) → IsKeptHere e → P e
  of_listed P all e is = go (contained_of_last (get_or numbers e.process []) e.number is.before.0 last)
    where
      last : last_up_to (get_or numbers e.process []) e.number ≡ e.number
      last = eqb-true (last_up_to (get_or numbers e.process []) e.number) e.number is.is_kept

      go : (i : ℕ) × (i < length (get_or numbers e.process [])) × (get_or (get_or numbers e.process []) i 0 ≡ e.number)
          → P e
      go (i, within, at) = subst P (same_place (listed numbers e.process i) e refl at) (all e.process i within)

  pub image_of_listed : (p i : ℕ) → i < length (get_or numbers p [])
      → image_at to numbers numbers' (listed numbers p i) ≡ listed numbers' (to p) i
  image_of_listed p i within = let kept : AreKept r p (get_or named p []) (get_or numbers p []) = alike.kept p in
      ap (λ (k : ℕ). place (to p) (ranked (get_or numbers' (to p) []) k))
      (count_at (get_or numbers p []) kept.ascend i within)

  within_other : (p i : ℕ) → i < length (get_or numbers p []) → i < length (get_or numbers' (to p) [])
  within_other p i within = subst (λ (n : ℕ). i < n) (alike.as_many p) within

-- ---- the images are kept, and no others

module _ (r r' : Recorded) (to from : ℕ → ℕ) (named named' numbers numbers' : List (List ℕ))
    (alike : AreAlike r r' to from named named' numbers numbers') where
  back : AreAlike r' r from to named' named numbers' numbers
  back = swapped r r' to from named named' numbers numbers' alike

  pub image_is_kept : (e : Place) → IsKept (whole r.events) (is_listed numbers) e
      → IsKept (whole r'.events) (is_listed numbers') (image_at to numbers numbers' e)
  image_is_kept = of_listed r r' to from named named' numbers numbers' alike
      (λ e. IsKept (whole r'.events) (is_listed numbers') (image_at to numbers numbers' e))
      (λ p i within. subst (IsKept (whole r'.events) (is_listed numbers'))
      (sym (image_of_listed r r' to from named named' numbers numbers' alike p i within))
      (listed_is_kept r' r from to named' named numbers' numbers back (to p) i
      (within_other r r' to from named named' numbers numbers' alike p i within)))

  origin_of_listed : (p i : ℕ) → i < length (get_or numbers p [])
      → image_at from numbers' numbers (listed numbers' (to p) i) ≡ listed numbers p i
  origin_of_listed p i within =
      image_of_listed r' r from to named' named numbers' numbers back (to p) i
      (within_other r r' to from named named' numbers numbers' alike p i within)
      ∙ ap (λ (q : ℕ). listed numbers q i) (alike.returns p i within)

  pub origin_is_event : (e : Place) → IsKept (whole r.events) (is_listed numbers) e
      → image_at from numbers' numbers (image_at to numbers numbers' e) ≡ e
  origin_is_event = of_listed r r' to from named named' numbers numbers' alike
      (λ e. image_at from numbers' numbers (image_at to numbers numbers' e) ≡ e)
      (λ p i within. ap (image_at from numbers' numbers)
      (image_of_listed r r' to from named named' numbers numbers' alike p i within) ∙ origin_of_listed p i within)

  -- ---- their order

  order_of_listed : (p i q j : ℕ) → i < length (get_or numbers p []) → j < length (get_or numbers q [])
      → HappenedBefore r.events (listed numbers p i) (listed numbers q j)
      → HappenedBefore r'.events (listed numbers' (to p) i) (listed numbers' (to q) j)
  order_of_listed p i q j in_p in_q h = go ((alike.same_order p i q j in_p in_q).0 (inr h))
    where
      go : IsUpTo r'.events (listed numbers' (to p) i) (listed numbers' (to q) j)
          → HappenedBefore r'.events (listed numbers' (to p) i) (listed numbers' (to q) j)
      go (inr before) = before
      go (inl same) =
          absurd (alike.no_cycle (listed numbers q j)
          (subst (λ (x : Place). HappenedBefore r.events x (listed numbers q j))
          (sym (origin_of_listed p i in_p) ∙ (ap (image_at from numbers' numbers) same ∙ origin_of_listed q j in_q))
          h))

  pub order_of_images : (e f : Place) → IsKept (whole r.events) (is_listed numbers) e
      → IsKept (whole r.events) (is_listed numbers) f → HappenedBefore r.events e f
      → HappenedBefore r'.events (image_at to numbers numbers' e) (image_at to numbers numbers' f)
  order_of_images e f is_e is_f =
      of_listed r r' to from named named' numbers numbers' alike
      (λ x. HappenedBefore r.events x f
      → HappenedBefore r'.events (image_at to numbers numbers' x) (image_at to numbers numbers' f))
      (λ p i in_p. of_listed r r' to from named named' numbers numbers' alike
      (λ y. HappenedBefore r.events (listed numbers p i) y
      → HappenedBefore r'.events (image_at to numbers numbers' (listed numbers p i)) (image_at to numbers numbers' y))
      (λ q j in_q h. subst
      (λ (x : Place). HappenedBefore r'.events x (image_at to numbers numbers' (listed numbers q j)))
      (sym (image_of_listed r r' to from named named' numbers numbers' alike p i in_p))
      (subst (HappenedBefore r'.events (listed numbers' (to p) i))
      (sym (image_of_listed r r' to from named named' numbers numbers' alike q j in_q))
      (order_of_listed p i q j in_p in_q h)))
      f is_f) e is_e

unfoldable pub have_same_events : (r r' : Recorded) (to from : ℕ → ℕ) (named named' numbers numbers' : List (List ℕ))
    → AreAlike r r' to from named named' numbers numbers'
    → HaveSameEvents (whole r.events) (is_listed numbers) (whole r'.events) (is_listed numbers')
have_same_events r r' to from named named' numbers numbers' alike = record {
  image = image_at to numbers numbers';
  origin = image_at from numbers' numbers;
  image_kept = image_is_kept r r' to from named named' numbers numbers' alike;
  origin_kept = image_is_kept r' r from to named' named numbers' numbers back_again;
  origin_of_image = origin_is_event r r' to from named named' numbers numbers' alike;
  image_of_origin = origin_is_event r' r from to named' named numbers' numbers back_again;
  same_order = λ e f is_e is_f. (
    order_of_images r r' to from named named' numbers numbers' alike e f is_e is_f,
    before_again e f is_e is_f,
  );
}
  where
    back_again : AreAlike r' r from to named' named numbers' numbers
    back_again = swapped r r' to from named named' numbers numbers' alike

    before_again : (e f : Place) → IsKept (whole r.events) (is_listed numbers) e
        → IsKept (whole r.events) (is_listed numbers) f
        → HappenedBefore r'.events (image_at to numbers numbers' e) (image_at to numbers numbers' f)
        → HappenedBefore r.events e f
    before_again e f is_e is_f h =
        subst (λ (x : Place). HappenedBefore r.events x f)
        (origin_is_event r r' to from named named' numbers numbers' alike e is_e)
        (subst (HappenedBefore r.events (image_at from numbers' numbers (image_at to numbers numbers' e)))
        (origin_is_event r r' to from named named' numbers numbers' alike f is_f)
        (order_of_images r' r from to named' named numbers' numbers back_again (image_at to numbers numbers' e)
        (image_at to numbers numbers' f) (image_is_kept r r' to from named named' numbers numbers' alike e is_e)
        (image_is_kept r r' to from named named' numbers numbers' alike f is_f) h))
