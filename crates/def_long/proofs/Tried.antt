-- The example of the definitions.
use Rattle.std.proofs.Common.{◌≡◌, ℕ, zero, suc, ◌<◌, ◌≤◌, true, IsTrue, cond, nat_eq, List, [], ◌∷◌, length, get_or, Some, Contains, refl, sym, ap, ◌∙◌, subst, inl, inr, ◌⊎◌, ◌↔◌, arith, lit≤}
use Rattle.std.proofs.lemmas.Bool.{false≢true}
use Rattle.def_model.specs.Events.{Send, Receive, Place, place, IsBefore, IsEvent, kind_at, event_count}
use Rattle.def_model.specs.Order.{LeadsTo, HappenedBefore}
use Rattle.def_model.specs.Cuts.{Includes, IsConsistent}
use Rattle.def_model.specs.Examples.{one_message, skew, zeros}
use Rattle.def_model.specs.Predicates.{satisfies, test_of}
use Rattle.def_model.proofs.Chains.{events_of_happens, happens_least, step_happens}
use Rattle.def_long.specs.Windows.{whole}
use Rattle.def_long.specs.Kept.{IsKept}
use Rattle.def_long.specs.Examples.{relayed, relay, early, setting, SettingIsSeen, OrderIsKept, FirstIsBoundary, RelayIsReduced}
use Rattle.def_long.proofs.WalkExtensions.{among_contains}
use Rattle.def_long.proofs.WindowCuts.{in_whole}

-- ---- which events there are

-- one of the two events that set a variable
pub setting_is : (e : Place) → IsTrue (setting e) → (e ≡ place 0 1) ⊎ (e ≡ place 2 2)
setting_is e t = go (among_contains (place 0 1 ∷ place 2 2 ∷ []) e t)
  where
    go : Contains (place 0 1 ∷ place 2 2 ∷ []) e → (e ≡ place 0 1) ⊎ (e ≡ place 2 2)
    go (zero, lt, at) = inl (sym at)
    go (suc zero, lt, at) = inr (sym at)
    go (suc (suc k), lt, at) = absurd (omega arith)

-- the sends and the receipts
relayed_sends : (p n : ℕ) (id : List ℕ) → kind_at relayed (place p n) ≡ Some (Send id)
    → ((p ≡ 0) × (id ≡ 109 ∷ [])) ⊎ ((p ≡ 1) × (id ≡ 110 ∷ []))
relayed_sends zero zero id e = cc
relayed_sends zero (suc zero) id e = inl (refl, cc)
relayed_sends zero (suc (suc n)) id e = cc
relayed_sends (suc zero) zero id e = cc
relayed_sends (suc zero) (suc zero) id e = cc
relayed_sends (suc zero) (suc (suc zero)) id e = inr (refl, cc)
relayed_sends (suc zero) (suc (suc (suc n))) id e = cc
relayed_sends (suc (suc zero)) zero id e = cc
relayed_sends (suc (suc zero)) (suc zero) id e = cc
relayed_sends (suc (suc zero)) (suc (suc zero)) id e = cc
relayed_sends (suc (suc zero)) (suc (suc (suc n))) id e = cc
relayed_sends (suc (suc (suc p))) zero id e = cc
relayed_sends (suc (suc (suc p))) (suc n) id e = cc

relayed_receives : (p n : ℕ) (id : List ℕ) → kind_at relayed (place p n) ≡ Some (Receive id)
    → ((p ≡ 1) × (id ≡ 109 ∷ [])) ⊎ ((p ≡ 2) × (id ≡ 110 ∷ []))
relayed_receives zero zero id e = cc
relayed_receives zero (suc zero) id e = cc
relayed_receives zero (suc (suc n)) id e = cc
relayed_receives (suc zero) zero id e = cc
relayed_receives (suc zero) (suc zero) id e = inl (refl, cc)
relayed_receives (suc zero) (suc (suc zero)) id e = cc
relayed_receives (suc zero) (suc (suc (suc n))) id e = cc
relayed_receives (suc (suc zero)) zero id e = cc
relayed_receives (suc (suc zero)) (suc zero) id e = inr (refl, cc)
relayed_receives (suc (suc zero)) (suc (suc zero)) id e = cc
relayed_receives (suc (suc zero)) (suc (suc (suc n))) id e = cc
relayed_receives (suc (suc (suc p))) zero id e = cc
relayed_receives (suc (suc (suc p))) (suc n) id e = cc

pub one_sends : (p n : ℕ) (id : List ℕ) → kind_at one_message (place p n) ≡ Some (Send id) → p ≡ 0
one_sends zero n id e = refl
one_sends (suc zero) zero id e = cc
one_sends (suc zero) (suc zero) id e = cc
one_sends (suc zero) (suc (suc n)) id e = cc
one_sends (suc (suc p)) zero id e = cc
one_sends (suc (suc p)) (suc n) id e = cc

pub one_receives : (p n : ℕ) (id : List ℕ) → kind_at one_message (place p n) ≡ Some (Receive id) → p ≡ 1
one_receives zero zero id e = cc
one_receives zero (suc zero) id e = cc
one_receives zero (suc (suc n)) id e = cc
one_receives (suc zero) n id e = refl
one_receives (suc (suc p)) zero id e = cc
one_receives (suc (suc p)) (suc n) id e = cc

-- ---- messages go to later processes, so what happened before is at an earlier place

before_onward : (d e f : Place) → IsBefore d e → IsBefore e f → IsBefore d f
before_onward d e f (inl a) (inl b) = inl (omega arith)
before_onward d e f (inl a) (inr b) = let same : e.process ≡ f.process = b.0 in inl (omega arith)
before_onward d e f (inr a) (inl b) = let same : d.process ≡ e.process = a.0 in inl (omega arith)
before_onward d e f (inr a) (inr b) =
    let low : d.number < e.number = a.1 in let high : e.number < f.number = b.1 in inr (a.0 ∙ b.0, omega arith)

pub relayed_before : (e f : Place) → HappenedBefore relayed e f → IsBefore e f
relayed_before = happens_least relayed IsBefore step before_onward
  where
    message : (e f : Place) (id : List ℕ) → ((e.process ≡ 0) × (id ≡ 109 ∷ []))
        ⊎ ((e.process ≡ 1) × (id ≡ 110 ∷ [])) → ((f.process ≡ 1) × (id ≡ 109 ∷ []))
        ⊎ ((f.process ≡ 2) × (id ≡ 110 ∷ [])) → e.process < f.process
    message e f id (inl a) (inl b) = omega (arith, a.0, b.0)
    message e f id (inl a) (inr b) = omega (arith, a.0, b.0)
    message e f id (inr a) (inr b) = omega (arith, a.0, b.0)
    message e f id (inr a) (inl b) =
        absurd (let m : id ≡ 110 ∷ [] = a.1 in let n : id ≡ 109 ∷ [] = b.1 in
        let k : 110 ≡ 109 = ap (λ (l : List ℕ). get_or l 0 0) (sym m ∙ n) in omega arith)

    step : (e f : Place) → LeadsTo relayed e f → IsBefore e f
    step e f (inl later) = inr (later.2, later.3)
    step e f (inr (id, sends, receives, apart)) =
        inl (message e f id (relayed_sends e.process e.number id sends)
        (relayed_receives f.process f.number id receives))

one_before : (e f : Place) → HappenedBefore one_message e f → IsBefore e f
one_before = happens_least one_message IsBefore step before_onward
  where
    step : (e f : Place) → LeadsTo one_message e f → IsBefore e f
    step e f (inl later) = inr (later.2, later.3)
    step e f (inr (id, sends, receives, apart)) =
        inl (omega (arith, one_sends e.process e.number id sends, one_receives f.process f.number id receives))

not_before_itself : (e : Place) → IsBefore e e → ⊥
not_before_itself e (inl lt) = omega arith
not_before_itself e (inr (same, lt)) = omega arith

-- ---- the order through the second process

pub by_second : HappenedBefore relayed (place 0 1) (place 2 2)
by_second = (
  place 1 1 ∷ place 1 2 ∷ place 2 1 ∷ [],
  (received, (goes_on, (relayed_on, (last, tt)))),
)
  where
    received : LeadsTo relayed (place 0 1) (place 1 1)
    received = inr (109 ∷ [], refl, refl, λ e. omega arith)

    goes_on : LeadsTo relayed (place 1 1) (place 1 2)
    goes_on = inl ((lit≤ tt, lit≤ tt), (lit≤ tt, lit≤ tt), refl, lit≤ tt)

    relayed_on : LeadsTo relayed (place 1 2) (place 2 1)
    relayed_on = inr (110 ∷ [], refl, refl, λ e. omega arith)

    last : LeadsTo relayed (place 2 1) (place 2 2)
    last = inl ((lit≤ tt, lit≤ tt), (lit≤ tt, lit≤ tt), refl, lit≤ tt)

by_message : HappenedBefore one_message (place 0 1) (place 1 1)
by_message =
    step_happens one_message (place 0 1) (place 1 1) (inr (109 ∷ [], refl, refl, λ e. omega arith))

pub order_is_kept : OrderIsKept
order_is_kept down =
    false≢true (down.closed (place 0 1) (place 2 2)
    (record { is_kept = refl; after = λ i. let h : 1 ≤ 0 = i.1 in omega arith; before = (lit≤ tt, lit≤ tt) }) by_second
    refl)

-- ---- what the predicate sees

pub setting_is_seen : SettingIsSeen
setting_is_seen zero zero lt out = absurd (false≢true (sym out))
setting_is_seen zero (suc n) lt out = absurd (omega arith)
setting_is_seen (suc zero) n lt out = (
  inr ((λ e. absurd (omega arith), tt), (tt, tt)),
  inr ((λ e. absurd (omega arith), tt), (tt, tt)),
)
setting_is_seen (suc (suc zero)) zero lt out = (
  inr ((λ e. absurd (omega arith), tt), (tt, tt)),
  inr ((λ e. refl, tt), (tt, tt)),
)
setting_is_seen (suc (suc zero)) (suc zero) lt out = absurd (false≢true (sym out))
setting_is_seen (suc (suc zero)) (suc (suc n)) lt out = absurd (omega arith)
setting_is_seen (suc (suc (suc p))) n lt out = absurd (omega arith)

-- ---- a boundary

first_consistent : IsConsistent relayed (1 ∷ 0 ∷ 0 ∷ [])
first_consistent = record {
  fits = record { one_each = refl; within = within };
  closed = λ e f h i. absurd (none e f (events_of_happens relayed e f h).0 (relayed_before e f h) f.process refl i.0
      i.1);
}
  where
    within : (p : ℕ) → get_or (1 ∷ 0 ∷ 0 ∷ []) p 0 ≤ event_count relayed p
    within zero = lit≤ tt
    within (suc zero) = lit≤ tt
    within (suc (suc zero)) = lit≤ tt
    within (suc (suc (suc p))) = omega arith

    none : (e f : Place) → IsEvent relayed e → IsBefore e f → (p : ℕ) → f.process ≡ p → 1 ≤ f.number
        → f.number ≤ get_or (1 ∷ 0 ∷ 0 ∷ []) p 0 → ⊥
    none e f is (inl lt) zero at low high = omega arith
    none e f is (inr lt) zero at low high = omega (arith, is.0, lt.1)
    none e f is before (suc zero) at low high = omega arith
    none e f is before (suc (suc zero)) at low high = omega arith
    none e f is before (suc (suc (suc p))) at low high = omega arith

pub first_is_boundary : FirstIsBoundary
first_is_boundary = record {
  in_window = in_whole relayed (1 ∷ 0 ∷ 0 ∷ []) first_consistent;
  order = λ e f i k out. go e f (setting_is e i.is_kept) (setting_is f k.is_kept) i.before out;
}
  where
    go : (e f : Place) → (e ≡ place 0 1) ⊎ (e ≡ place 2 2) → (f ≡ place 0 1) ⊎ (f ≡ place 2 2)
        → Includes (1 ∷ 0 ∷ 0 ∷ []) e → (Includes (1 ∷ 0 ∷ 0 ∷ []) f → ⊥) → HappenedBefore relayed e f
    go e f (inl a) (inr b) i out =
        subst (λ (x : Place). HappenedBefore relayed x f) (sym a)
        (subst (HappenedBefore relayed (place 0 1)) (sym b) by_second)
    go e f (inl a) (inl b) i out = absurd (out (subst (Includes (1 ∷ 0 ∷ 0 ∷ [])) (sym b) (lit≤ tt, lit≤ tt)))
    go e f (inr a) b i out =
        absurd (let j : Includes (1 ∷ 0 ∷ 0 ∷ []) (place 2 2) = subst (Includes (1 ∷ 0 ∷ 0 ∷ [])) a i in
        let h : 2 ≤ 0 = j.1 in omega arith)

-- ---- the reduction

-- the event of the same setting
abbrev pub image : Place → Place
image e = place (cond (nat_eq e.process 0) 0 1) 1

abbrev pub origin : Place → Place
origin e = cond (nat_eq e.process 0) (place 0 1) (place 2 2)

first_kept : IsKept (whole relayed) setting (place 0 1)
first_kept = record {
  is_kept = refl;
  after = λ i. let h : 1 ≤ 0 = i.1 in omega arith;
  before = (lit≤ tt, lit≤ tt);
}

second_kept : IsKept (whole relayed) setting (place 2 2)
second_kept = record {
  is_kept = refl;
  after = λ i. let h : 2 ≤ 0 = i.1 in omega arith;
  before = (lit≤ tt, lit≤ tt);
}

pub send_kept : IsKept (whole one_message) (λ e. true) (place 0 1)
send_kept = record {
  is_kept = refl;
  after = λ i. let h : 1 ≤ 0 = i.1 in omega arith;
  before = (lit≤ tt, lit≤ tt);
}

receipt_kept : IsKept (whole one_message) (λ e. true) (place 1 1)
receipt_kept = record {
  is_kept = refl;
  after = λ i. let h : 1 ≤ 0 = i.1 in omega arith;
  before = (lit≤ tt, lit≤ tt);
}

send_or_receipt : (p n : ℕ) → 1 ≤ n → n ≤ get_or (1 ∷ 1 ∷ []) p 0 → (place p n ≡ place 0 1) ⊎ (place p n ≡ place 1 1)
send_or_receipt p zero low high = absurd (omega arith)
send_or_receipt zero (suc zero) low high = inl refl
send_or_receipt (suc zero) (suc zero) low high = inr refl
send_or_receipt zero (suc (suc n)) low high = absurd (omega arith)
send_or_receipt (suc zero) (suc (suc n)) low high = absurd (omega arith)
send_or_receipt (suc (suc p)) (suc n) low high = absurd (omega arith)

pub one_event : (e : Place) → IsKept (whole one_message) (λ e. true) e → (e ≡ place 0 1) ⊎ (e ≡ place 1 1)
one_event e k = send_or_receipt e.process e.number k.before.0 k.before.1

-- the truths at counts with the same settings
same_at : (a b d a' b' : ℕ) → a ≤ 1 → d ≤ 2 → a' ≤ 1 → b' ≤ 1 → (1 ≤ a) ↔ (1 ≤ a') → (2 ≤ d) ↔ (1 ≤ b')
    → test_of relay early (a ∷ b ∷ d ∷ []) ≡ satisfies zeros one_message skew (a' ∷ b' ∷ [])
same_at zero b d (suc a') b' ha hd ha' hb' f g = absurd (let h : 1 ≤ 0 = f.1 (omega arith) in omega arith)
same_at (suc a) b d zero b' ha hd ha' hb' f g = absurd (let h : 1 ≤ 0 = f.0 (omega arith) in omega arith)
same_at (suc zero) b d (suc zero) b' ha hd ha' hb' f g = refl
same_at (suc zero) b d (suc (suc a')) b' ha hd ha' hb' f g = absurd (omega arith)
same_at (suc (suc a)) b d (suc a') b' ha hd ha' hb' f g = absurd (omega arith)
same_at zero b zero zero zero ha hd ha' hb' f g = refl
same_at zero b zero zero (suc b') ha hd ha' hb' f g =
    absurd (let h : 2 ≤ 0 = g.1 (omega arith) in omega arith)
same_at zero b (suc zero) zero zero ha hd ha' hb' f g = refl
same_at zero b (suc zero) zero (suc b') ha hd ha' hb' f g =
    absurd (let h : 2 ≤ 1 = g.1 (omega arith) in omega arith)
same_at zero b (suc (suc zero)) zero zero ha hd ha' hb' f g =
    absurd (let h : 1 ≤ 0 = g.0 (omega arith) in omega arith)
same_at zero b (suc (suc zero)) zero (suc zero) ha hd ha' hb' f g = refl
same_at zero b (suc (suc zero)) zero (suc (suc b')) ha hd ha' hb' f g = absurd (omega arith)
same_at zero b (suc (suc (suc d))) zero b' ha hd ha' hb' f g = absurd (omega arith)

same_truths : (cut cut' : List ℕ) → IsConsistent relayed cut → IsConsistent one_message cut'
    → (Includes cut (place 0 1) ↔ Includes cut' (place 0 1)) → (Includes cut (place 2 2) ↔ Includes cut' (place 1 1))
    → test_of relay early cut ≡ satisfies zeros one_message skew cut'
same_truths (a ∷ b ∷ d ∷ []) (a' ∷ b' ∷ []) ok ok' f g =
    same_at a b d a' b' (ok.fits.within 0) (ok.fits.within 2) (ok'.fits.within 0) (ok'.fits.within 1)
    (λ h. (f.0 (lit≤ tt, h)).1, λ h. (f.1 (lit≤ tt, h)).1)
    (λ h. (g.0 (lit≤ tt, h)).1, λ h. (g.1 (lit≤ tt, h)).1)
same_truths [] cut' ok ok' f g = absurd (let l : 0 ≡ 3 = ok.fits.one_each in omega arith)
same_truths (a ∷ []) cut' ok ok' f g = absurd (let l : 1 ≡ 3 = ok.fits.one_each in omega arith)
same_truths (a ∷ b ∷ []) cut' ok ok' f g = absurd (let l : 2 ≡ 3 = ok.fits.one_each in omega arith)
same_truths (a ∷ b ∷ d ∷ x ∷ more) cut' ok ok' f g =
    absurd (let l : length (a ∷ b ∷ d ∷ x ∷ more) ≡ 3 = ok.fits.one_each in omega arith)
same_truths (a ∷ b ∷ d ∷ []) [] ok ok' f g = absurd (let l : 0 ≡ 2 = ok'.fits.one_each in omega arith)
same_truths (a ∷ b ∷ d ∷ []) (a' ∷ []) ok ok' f g =
    absurd (let l : 1 ≡ 2 = ok'.fits.one_each in omega arith)
same_truths (a ∷ b ∷ d ∷ []) (a' ∷ b' ∷ x ∷ more) ok ok' f g =
    absurd (let l : length (a' ∷ b' ∷ x ∷ more) ≡ 2 = ok'.fits.one_each in omega arith)

same_order : (e f : Place) → (e ≡ place 0 1) ⊎ (e ≡ place 2 2) → (f ≡ place 0 1) ⊎ (f ≡ place 2 2)
    → HappenedBefore relayed e f ↔ HappenedBefore one_message (image e) (image f)
same_order e f is_e is_f = go is_e is_f
  where
    at : (d g : Place) → HappenedBefore relayed d g ↔ HappenedBefore one_message (image d) (image g) → e ≡ d → f ≡ g
        → HappenedBefore relayed e f ↔ HappenedBefore one_message (image e) (image f)
    at d g same is_d is_g =
        subst (λ (x : Place). HappenedBefore relayed x f ↔ HappenedBefore one_message (image x) (image f)) (sym is_d)
        (subst (λ (x : Place). HappenedBefore relayed d x ↔ HappenedBefore one_message (image d) (image x)) (sym is_g)
        same)

    back : IsBefore (place 2 2) (place 0 1) → ⊥
    back (inl lt) = omega arith
    back (inr lt) = omega (arith, lt.0)

    back_message : IsBefore (place 1 1) (place 0 1) → ⊥
    back_message (inl lt) = omega arith
    back_message (inr lt) = omega (arith, lt.0)

    go : (e ≡ place 0 1) ⊎ (e ≡ place 2 2) → (f ≡ place 0 1) ⊎ (f ≡ place 2 2)
        → HappenedBefore relayed e f ↔ HappenedBefore one_message (image e) (image f)
    go (inl a) (inl b) =
        at (place 0 1) (place 0 1) (
          λ h. absurd (not_before_itself (place 0 1) (relayed_before (place 0 1) (place 0 1) h)),
          λ h. absurd (not_before_itself (place 0 1) (one_before (place 0 1) (place 0 1) h)),
        ) a b
    go (inl a) (inr b) = at (place 0 1) (place 2 2) (λ h. by_message, λ h. by_second) a b
    go (inr a) (inl b) =
        at (place 2 2) (place 0 1) (
          λ h. absurd (back (relayed_before (place 2 2) (place 0 1) h)),
          λ h. absurd (back_message (one_before (place 1 1) (place 0 1) h)),
        ) a b
    go (inr a) (inr b) =
        at (place 2 2) (place 2 2) (
          λ h. absurd (not_before_itself (place 2 2) (relayed_before (place 2 2) (place 2 2) h)),
          λ h. absurd (not_before_itself (place 1 1) (one_before (place 1 1) (place 1 1) h)),
        ) a b

pub image_kept : (e : Place) → (e ≡ place 0 1) ⊎ (e ≡ place 2 2)
    → IsKept (whole one_message) (λ e. true) (image e)
image_kept e (inl a) =
    subst (λ (x : Place). IsKept (whole one_message) (λ e. true) (image x)) (sym a) send_kept
image_kept e (inr a) =
    subst (λ (x : Place). IsKept (whole one_message) (λ e. true) (image x)) (sym a) receipt_kept

pub origin_kept : (e : Place) → (e ≡ place 0 1) ⊎ (e ≡ place 1 1) → IsKept (whole relayed) setting (origin e)
origin_kept e (inl a) = subst (λ (x : Place). IsKept (whole relayed) setting (origin x)) (sym a) first_kept
origin_kept e (inr a) = subst (λ (x : Place). IsKept (whole relayed) setting (origin x)) (sym a) second_kept

pub origin_of_image : (e : Place) → (e ≡ place 0 1) ⊎ (e ≡ place 2 2) → origin (image e) ≡ e
origin_of_image e (inl a) = ap (λ (x : Place). origin (image x)) a ∙ sym a
origin_of_image e (inr a) = ap (λ (x : Place). origin (image x)) a ∙ sym a

pub image_of_origin : (e : Place) → (e ≡ place 0 1) ⊎ (e ≡ place 1 1) → image (origin e) ≡ e
image_of_origin e (inl a) = ap (λ (x : Place). image (origin x)) a ∙ sym a
image_of_origin e (inr a) = ap (λ (x : Place). image (origin x)) a ∙ sym a

pub relay_is_reduced : RelayIsReduced
relay_is_reduced = record {
  events = record {
    image = image;
    origin = origin;
    image_kept = λ e k. image_kept e (setting_is e k.is_kept);
    origin_kept = λ e k. origin_kept e (one_event e k);
    origin_of_image = λ e k. origin_of_image e (setting_is e k.is_kept);
    image_of_origin = λ e k. image_of_origin e (one_event e k);
    same_order = λ e f k l. same_order e f (setting_is e k.is_kept) (setting_is f l.is_kept);
  };
  same_truth = λ cut cut' in_w in' agree. same_truths cut cut' in_w.consistent in'.consistent
      (agree (place 0 1) first_kept) (agree (place 2 2) second_kept);
}
