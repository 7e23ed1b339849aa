-- Each down-set has a least cut, and that has no other kept events.
use Rattle.std.proofs.Common.{◌≡◌, ℕ, zero, suc, ◌+◌, ◌<◌, ◌≤◌, Bool, true, false, IsTrue, List, length, get_or, sum, refl, sym, ap, ◌∙◌, subst, inl, inr, ◌⊎◌, arith}
use Rattle.std.proofs.lemmas.Bool.{cases_Bool, cases_eq, cases_lt, false≢true}
use Rattle.def_model.specs.Events.{Place, place, event_count}
use Rattle.def_model.specs.Order.{HappenedBefore, IsUpTo}
use Rattle.def_model.specs.Cuts.{Includes, IsConsistent, one_less}
use Rattle.def_model.specs.Lattice.{IsWithin}
use Rattle.def_model.proofs.Chains.{same_place, step_happens, happens_transitive}
use Rattle.def_model.proofs.Consistency.{dec_consistent}
use Rattle.def_model.proofs.Counts.{in_range, sum_less}
use Rattle.def_model.proofs.Decisions.{dec_both, dec_false, dec_less, dec_some, extreme}
use Rattle.def_model.proofs.Undoing.{undo_at}
use Rattle.def_long.specs.Windows.{Window, IsCutIn, IsWindow}
use Rattle.def_long.specs.Kept.{IsKeptIn, IsKept, AreKeptIn, IsDownSet, IsLeastWith}
use Rattle.def_long.proofs.WindowCuts.{includes_less, includes_more, less_in}

pub cut_has_down_set : (w : Window) (kept : Place → Bool) (cut : List ℕ) (part : Place → Bool) → IsCutIn w cut
    → AreKeptIn w kept cut part → IsDownSet w kept part
cut_has_down_set w kept cut part in_w are = record { kept_alone = kept_alone; closed = closed }
  where
    kept_alone : (e : Place) → IsTrue (part e) → IsKept w kept e
    kept_alone e t =
        let i : IsKeptIn w kept cut e = (are e).0 t in
        record { is_kept = i.is_kept; after = i.after; before = includes_more cut w.to in_w.below e i.before }

    closed : (e f : Place) → IsKept w kept e → HappenedBefore w.run e f → IsTrue (part f) → IsTrue (part e)
    closed e f k h t =
        let i : IsKeptIn w kept cut f = (are f).0 t in
        (are e).1
        (record { is_kept = k.is_kept; after = k.after; before = in_w.consistent.closed e f h i.before })

-- what is an event or before it is before what it happened before
pub up_to_before : (w : Window) (e f g : Place) → IsUpTo w.run e f → HappenedBefore w.run f g
    → HappenedBefore w.run e g
up_to_before w e f g (inl same) h = subst (λ (d : Place). HappenedBefore w.run d g) (sym same) h
up_to_before w e f g (inr before) h = happens_transitive w.run e f g before h

-- a cut has the events up to one that it has
pub closed_up_to : (w : Window) (cut : List ℕ) (e f : Place) → IsConsistent w.run cut → IsUpTo w.run e f
    → Includes cut f → Includes cut e
closed_up_to w cut e f ok (inl same) i = subst (λ (d : Place). Includes cut d) (sym same) i
closed_up_to w cut e f ok (inr before) i = ok.closed e f before i

module _ (w : Window) (is : IsWindow w) (part : Place → Bool) where
  -- the cut has all events of the set
  abbrev Has : List ℕ → Type 0
  Has cut = (e : Place) → IsTrue (part e) → Includes cut e

  -- no event can be undone in the window but those of the set
  abbrev IsTight : List ℕ → Type 0
  IsTight cut = (p : ℕ) → get_or w.from p 0 < get_or cut p 0 → IsConsistent w.run (one_less cut p)
      → IsTrue (part (place p (get_or cut p 0)))

  abbrev CanGo : List ℕ → ℕ → Type 0
  CanGo cut p = (get_or w.from p 0 < get_or cut p 0)
      × ((part (place p (get_or cut p 0)) ≡ false) × IsConsistent w.run (one_less cut p))

  can_go : (cut : List ℕ) → Dec ((p : ℕ) × (p < length cut) × CanGo cut p)
  can_go cut =
      dec_some (CanGo cut) (λ p. dec_both (dec_less (get_or w.from p 0) (get_or cut p 0))
      (dec_both (dec_false (part (place p (get_or cut p 0)))) (dec_consistent w.run (one_less cut p)))) (length cut)

  is_tight : (cut : List ℕ) → ((p : ℕ) × (p < length cut) × CanGo cut p → ⊥) → IsTight cut
  is_tight cut none p more ok = go (cases_Bool (part (place p (get_or cut p 0))))
    where
      go : (part (place p (get_or cut p 0)) ≡ true) ⊎ (part (place p (get_or cut p 0)) ≡ false)
          → IsTrue (part (place p (get_or cut p 0)))
      go (inl yes') = yes'
      go (inr no') = absurd (none (p, in_range cut p (omega arith), (more, (no', ok))))

  has_less : (cut : List ℕ) (p : ℕ) → Has cut → 0 < get_or cut p 0 → part (place p (get_or cut p 0)) ≡ false
      → Has (one_less cut p)
  has_less cut p has some out e t =
      includes_less cut p e some (has e t) (λ same. false≢true (sym out ∙ (ap part (sym same) ∙ t)))

  tighten : (n : ℕ) (cut : List ℕ) → IsCutIn w cut → Has cut → sum cut ≤ n → (x : List ℕ) × IsCutIn w x × Has x
      × IsTight x
  tighten zero cut in_w has small = (
    cut,
    in_w,
    has,
    λ p more ok. let t : sum (one_less cut p) + 1 ≡ sum cut = sum_less cut p (omega arith) in absurd (omega arith),
  )
  tighten (suc n) cut in_w has small = go (can_go cut) (tighten n)
    where
      go : Dec ((p : ℕ) × (p < length cut) × CanGo cut p)
          → ((cut : List ℕ) → IsCutIn w cut → Has cut → sum cut ≤ n → (x : List ℕ) × IsCutIn w x × Has x × IsTight x)
          → (x : List ℕ) × IsCutIn w x × Has x × IsTight x
      go (no none) rest = (cut, in_w, has, is_tight cut none)
      go (yes (p, lt, (more, (out, ok)))) rest =
          let t : sum (one_less cut p) + 1 ≡ sum cut = sum_less cut p (omega arith) in
          rest (one_less cut p) (less_in w cut p in_w more ok) (has_less cut p has (omega arith) out) (omega arith)

  module _ (cut : List ℕ) (in_w : IsCutIn w cut) (has : Has cut) (tight : IsTight cut) where
    -- an event of the cut that isn't in the first one is one of the set, or happened before one
    abbrev Below : Place → ℕ → Type 0
    Below e p = (get_or w.from p 0 < get_or cut p 0) × IsUpTo w.run e (place p (get_or cut p 0))

    below_own : (e : Place) → Includes cut e → (Includes w.from e → ⊥) → Below e e.process
    below_own e (low, high) out = (
      outside (cases_lt (get_or w.from e.process 0) e.number),
      up_to (cases_eq e.number (get_or cut e.process 0)),
    )
      where
        outside : (get_or w.from e.process 0 < e.number) ⊎ (e.number ≤ get_or w.from e.process 0)
            → get_or w.from e.process 0 < get_or cut e.process 0
        outside (inl lt) = omega arith
        outside (inr le) = absurd (out (low, le))

        within : get_or cut e.process 0 ≤ event_count w.run e.process
        within = in_w.consistent.fits.within e.process

        up_to : (e.number ≡ get_or cut e.process 0) ⊎ (e.number ≡ get_or cut e.process 0 → ⊥)
            → IsUpTo w.run e (place e.process (get_or cut e.process 0))
        up_to (inl at) = inl (same_place e (place e.process (get_or cut e.process 0)) refl at)
        up_to (inr off) =
            let top : get_or cut e.process 0 ≤ event_count w.run e.process = within in
            inr (step_happens w.run e (place e.process (get_or cut e.process 0))
            (inl ((low, omega arith), (omega arith, top), refl, omega arith)))

    below_set : (e : Place) → Includes cut e → (Includes w.from e → ⊥)
        → ((m : Place) → IsUpTo w.run e m → IsTrue (part m) → ⊥) → ⊥
    below_set e i out none =
        extreme (λ p q. HappenedBefore w.run (place p (get_or cut p 0)) (place q (get_or cut q 0))) (Below e)
        (λ p. is.no_cycle (place p (get_or cut p 0)))
        (λ p q r. happens_transitive w.run (place p (get_or cut p 0)) (place q (get_or cut q 0))
        (place r (get_or cut r 0))) (length cut) e.process (below_own e i out) found
      where
        found : (m : ℕ) × Below e m × ((q : ℕ) → q < length cut → Below e q
            → HappenedBefore w.run (place m (get_or cut m 0)) (place q (get_or cut q 0)) → ⊥) → ⊥
        found (m, (more, up), last) =
            none (place m (get_or cut m 0)) up (tight m more (undo_at w.run w.from cut m is.first.consistent
            in_w.consistent more after))
          where
            after : (q : ℕ) → get_or w.from q 0 < get_or cut q 0
                → HappenedBefore w.run (place m (get_or cut m 0)) (place q (get_or cut q 0)) → ⊥
            after q above h =
                last q (in_range cut q (omega arith))
                (above, inr (up_to_before w e (place m (get_or cut m 0)) (place q (get_or cut q 0)) up h)) h

    tight_is_least : IsLeastWith w part cut
    tight_is_least = record { in_window = in_w; has = has; least = least }
      where
        least : (other : List ℕ) → IsCutIn w other → Has other → IsWithin cut other
        least other in_other has_other p = go (cases_lt (get_or other p 0) (get_or cut p 0))
          where
            clash : get_or other p 0 < get_or cut p 0 → ⊥
            clash lt =
                below_set (place p (get_or cut p 0)) (omega arith, omega arith) out (λ m up t.
                let j : Includes other (place p (get_or cut p 0)) =
                closed_up_to w other (place p (get_or cut p 0)) m in_other.consistent up (has_other m t) in
                let k : get_or cut p 0 ≤ get_or other p 0 = j.1 in omega arith)
              where
                out : Includes w.from (place p (get_or cut p 0)) → ⊥
                out i =
                    let j : get_or cut p 0 ≤ get_or w.from p 0 = i.1 in
                    let k : get_or w.from p 0 ≤ get_or other p 0 = in_other.above p in
                    omega arith

            go : (get_or other p 0 < get_or cut p 0) ⊎ (get_or cut p 0 ≤ get_or other p 0)
                → get_or cut p 0 ≤ get_or other p 0
            go (inl lt) = absurd (clash lt)
            go (inr le) = le

    tight_has_no_other : (kept : Place → Bool) → IsDownSet w kept part → AreKeptIn w kept cut part
    tight_has_no_other kept down e = (to, λ i. from i (cases_Bool (part e)))
      where
        to : IsTrue (part e) → IsKeptIn w kept cut e
        to t =
            let k : IsKept w kept e = down.kept_alone e t in
            record { is_kept = k.is_kept; after = k.after; before = has e t }

        in_set : IsKeptIn w kept cut e → (m : Place) → IsUpTo w.run e m → IsTrue (part m) → IsTrue (part e)
        in_set i m (inl same) t = subst (λ (d : Place). IsTrue (part d)) (sym same) t
        in_set i m (inr before) t =
            down.closed e m
            (record {
              is_kept = i.is_kept;
              after = i.after;
              before = includes_more cut w.to in_w.below e i.before;
            }) before t

        from : IsKeptIn w kept cut e → (part e ≡ true) ⊎ (part e ≡ false) → IsTrue (part e)
        from i (inl yes') = yes'
        from i (inr no') =
            absurd (below_set e i.before i.after (λ m up t. false≢true (sym no' ∙ in_set i m up t)))

pub down_set_has_cut : (w : Window) → IsWindow w → (kept part : Place → Bool) → IsDownSet w kept part
    → (cut : List ℕ) × IsLeastWith w part cut × AreKeptIn w kept cut part
down_set_has_cut w is kept part down =
    go (tighten w is part (sum w.to) w.to is.last (λ e t. let k : IsKept w kept e = down.kept_alone e t in k.before)
    (omega arith))
  where
    go : (x : List ℕ) × IsCutIn w x × ((e : Place) → IsTrue (part e) → Includes x e)
        × ((p : ℕ) → get_or w.from p 0 < get_or x p 0 → IsConsistent w.run (one_less x p)
        → IsTrue (part (place p (get_or x p 0)))) → (cut : List ℕ) × IsLeastWith w part cut
        × AreKeptIn w kept cut part
    go (x, in_w, has, tight) =
        (x, tight_is_least w is part x in_w has tight, tight_has_no_other w is part x in_w has tight kept down)

-- each least cut of a down-set has no other kept events
pub least_has_no_other : (w : Window) → IsWindow w → (kept part : Place → Bool) → IsDownSet w kept part
    → (cut : List ℕ) → IsLeastWith w part cut → AreKeptIn w kept cut part
least_has_no_other w is kept part down cut least e = (to, from)
  where
    to : IsTrue (part e) → IsKeptIn w kept cut e
    to t =
        let k : IsKept w kept e = down.kept_alone e t in
        record { is_kept = k.is_kept; after = k.after; before = least.has e t }

    from : IsKeptIn w kept cut e → IsTrue (part e)
    from i = go (down_set_has_cut w is kept part down)
      where
        go : (x : List ℕ) × IsLeastWith w part x × AreKeptIn w kept x part → IsTrue (part e)
        go (x, other, are) =
            (are e).1 (record {
              is_kept = i.is_kept;
              after = i.after;
              before = includes_more cut x (least.least x other.in_window other.has) e i.before;
            })
