-- Consistent cuts as numbers.
use Rattle.std.proofs.Common.{◌≡◌, ℕ, ◌+◌, ◌-◌, ◌^◌, ◌<◌, ◌≤◌, List, length, get_or, ap, ◌∙◌, subst, arith}
use Rattle.std.proofs.lemmas.List.{get_or-set_same, length-set}
use Rattle.def_format.specs.Limits.{event_limit}
use Rattle.walk_keys.specs.Keys.{count_base, key_of, digits, AreDigits}
use Rattle.walk_keys.proofs.Keys.{get_or_same, key_below, digits-key, key_one_more}
use Rattle.def_model.specs.Events.{Computation, event_count}
use Rattle.def_model.specs.Cuts.{IsConsistent, one_more}

pub cut_digits : (c : Computation) (cut : List ℕ) → ((q : ℕ) → event_count c q ≤ event_limit) → IsConsistent c cut
    → AreDigits cut
cut_digits c cut small ok k d lt =
    let same : get_or cut k d ≡ get_or cut k 0 = get_or_same cut k d 0 lt in
    let within : get_or cut k 0 ≤ event_count c k = ok.fits.within k in
    let few : event_count c k ≤ event_limit = small k in
    omega arith

pub cut_below : (c : Computation) (cut : List ℕ) → ((q : ℕ) → event_count c q ≤ event_limit) → IsConsistent c cut
    → key_of cut < count_base ^ length c
cut_below c cut small ok =
    subst (λ (n : ℕ). key_of cut < count_base ^ n) ok.fits.one_each (key_below cut (cut_digits c cut small ok))

pub cut_back : (c : Computation) (cut : List ℕ) → ((q : ℕ) → event_count c q ≤ event_limit) → IsConsistent c cut
    → digits (length c) (key_of cut) ≡ cut
cut_back c cut small ok =
    subst (λ (m : ℕ). digits m (key_of cut) ≡ cut) ok.fits.one_each (digits-key cut (cut_digits c cut small ok))

pub added_key : (c : Computation) (cut : List ℕ) (p : ℕ) → IsConsistent c cut → p < length c
    → key_of (one_more cut p) ≡ key_of cut + count_base ^ (length c - 1 - p)
added_key c cut p ok lt =
    let many : length cut ≡ length c = ok.fits.one_each in
    key_one_more cut p (omega arith) ∙ ap (λ (m : ℕ). key_of cut + count_base ^ (m - 1 - p)) many

-- a process that has one event more has room for it in its digit
pub room_for_one : (c : Computation) (cut : List ℕ) (p : ℕ) → ((q : ℕ) → event_count c q ≤ event_limit)
    → IsConsistent c (one_more cut p) → p < length cut → get_or cut p 0 + 1 < count_base
room_for_one c cut p small ok lt =
    let size : length (one_more cut p) ≡ length cut = length-set cut p (get_or cut p 0 + 1) in
    let at : get_or (one_more cut p) p 0 ≡ get_or cut p 0 + 1 = get_or-set_same cut p (get_or cut p 0 + 1) 0 lt in
    let below : get_or (one_more cut p) p 0 < count_base = cut_digits c (one_more cut p) small ok p 0 (omega arith) in
    omega arith
