-- A look-up in the table of senders.
use Rattle.std.proofs.Common.{◌≡◌, ℕ, zero, suc, ◌-◌, ◌<◌, ◌≤◌, List, [], length, get_or, Option, Some, None, Contains, refl, ◌∙◌, ap, subst, ◌↔◌, arith}
use Rattle.std.specs.Prelude.{slice_get, Vec}
use Rattle.std.specs.Global.{Global}
use Rattle.std.proofs.lemmas.Option.{slice_get_past, slice_get_read}
use Rattle.def_model.specs.Events.{numbered}
use Rattle.def_model.specs.Events as events
use Rattle.pd_match.specs.declared.sender.Sender.{Sender}
use Rattle.pd_match.specs.Noted.{items_in, sender_at, sender_view}

pub sender_past : (rows : List (Vec Sender Global)) (e : events.Place) → length rows ≤ e.process
    → sender_at rows e ≡ None
sender_past rows e past =
    ap (λ o. sender_view (numbered (items_in o) e.number)) (slice_get_past rows e.process past)
    ∙ ap sender_view (none e.number)
  where
    none : (n : ℕ) → numbered {A = Sender} [] n ≡ None
    none zero = refl
    none (suc n) = slice_get_past [] n (omega arith)

pub sender_of_none : (rows : List (Vec Sender Global)) (e : events.Place) → ¬ (1 ≤ e.number)
    → sender_at rows e ≡ None
sender_of_none rows e not = go e.number not
  where
    go : (n : ℕ) → ¬ (1 ≤ n) → sender_view (numbered (items_in (slice_get rows e.process)) n) ≡ None
    go zero low = refl
    go (suc n) low = absurd (low (omega arith))

pub sender_in_row : (rows : List (Vec Sender Global)) (row : Vec Sender Global) (e : events.Place)
    (i : ℕ) → e.process < length rows → row ≡ get_or rows e.process row → 1 ≤ e.number → i ≡ e.number - 1
    → sender_at rows e ≡ sender_view (slice_get row.items i)
sender_in_row rows row e i there is some index =
    ap (λ o. sender_view (numbered (items_in o) e.number))
    (slice_get_read rows (length rows) e.process row refl there is) ∙ go e.number some index
  where
    go : (n : ℕ) → 1 ≤ n → i ≡ n - 1 → sender_view (numbered row.items n) ≡ sender_view (slice_get row.items i)
    go zero low at = absurd (omega arith)
    go (suc n) low at =
        let same : n ≡ i = omega arith in
        ap (λ k. sender_view (slice_get row.items k)) same

-- what the table has for a receipt is what the pairs have
pub sender_agrees : (pairs self : List (events.Place × events.Place)) (rows : List (Vec Sender Global))
    (e : events.Place) (answer : Option events.Place) → pairs ≡ self
    → ((send receipt : events.Place) → Contains pairs (send, receipt) ↔ (sender_at rows receipt ≡ Some send))
    → sender_at rows e ≡ answer → (send : events.Place) → Contains self (send, e) ↔ (answer ≡ Some send)
sender_agrees pairs self rows e answer same agrees is send =
    subst (λ o. Contains self (send, e)
    ↔ (o ≡ Some send)) is (subst (λ ps. Contains ps (send, e) ↔ (sender_at rows e ≡ Some send)) same
    (agrees send e))
