-- Whether a list has a place.
use Rattle.std.proofs.Common.{◌≡◌, ◌<◌, ℕ, zero, suc, Bool, true, false, List, [], ◌∷◌, length, get_or, refl, eqb-true, eq-eqb, arith}
use Rattle.std.specs.Prelude.{Contains, nat_eq, ◌&&◌, ◌||◌}
use Rattle.std.proofs.lemmas.Map.Views.{Contains-from_any}
use Rattle.def_model.proofs.Chains.{same_place}
use Rattle.def_model.specs.Events.{Place}
use Rattle.judge_causes.specs.Reduced.{is_listed, is_place}

both_true : (a b : Bool) → (a && b) ≡ true → (a ≡ true) × (b ≡ true)
both_true true b h = (refl, h)
both_true false b h = absurd (cc)

pub same_if_place : (e f : Place) → is_place e f ≡ true → e ≡ f
same_if_place e f h =
    let each = both_true (nat_eq e.process f.process) (nat_eq e.number f.number) h in
    same_place e f (eqb-true e.process f.process each.0) (eqb-true e.number f.number each.1)

place_is_itself : (e : Place) → is_place e e ≡ true
place_is_itself e = rw (eq-eqb e.process e.process refl, eq-eqb e.number e.number refl) refl

pub contains_if_listed : (receipts : List Place) (e : Place) → is_listed receipts e ≡ true → Contains receipts e
contains_if_listed receipts e h = Contains-from_any same_if_place e receipts h

-- the place is found at each index where it stands
found_at : (receipts : List Place) (e : Place) (k : ℕ) → k < length receipts → get_or receipts k e ≡ e
    → is_listed receipts e ≡ true
found_at [] e k lt is = absurd (omega arith)
found_at (f ∷ rest) e zero lt is = rw (is, place_is_itself e) refl
found_at (f ∷ rest) e (suc k) lt is = rw (found_at rest e k (omega arith) is) (or_true (is_place e f))
  where
    or_true : (b : Bool) → (b || true) ≡ true
    or_true true = refl
    or_true false = refl

pub listed_if_contains : (receipts : List Place) (e : Place) → Contains receipts e → is_listed receipts e ≡ true
listed_if_contains receipts e h = found_at receipts e h.0 h.1 h.2
