-- Seats that threads leave are still all seats of the register, and what they have seen grows.
use mathlib.Core.List.{IsPrefix}
use Rattle.std.proofs.Common.{◌≡◌, ℕ, zero, suc, List, [], ◌∷◌, ◌++◌, length, take, append-nil, append_assoc, refl, sym, ◌∙◌, ap, arith}
use Rattle.def_model.specs.Cuts.{indices_from}
use Rattle.def_format.specs.Histories.{Post}
use Rattle.pd_register.specs.Seats.{AreSeats}
use Rattle.pd_register.specs.declared.register.Register.{Register}
use Rattle.pd_register.specs.declared.seat.Seat.{Seat}
use Rattle.pd_gather.specs.Gathering.{AreSameSeats}

same_indices : (first : ℕ) (old new : List Seat) → length new ≡ length old
    → indices_from first old ≡ indices_from first new
same_indices first [] [] e = refl
same_indices first [] (y ∷ ys) e = absurd (omega (arith, e))
same_indices first (x ∷ xs) [] e = absurd (omega (arith, e))
same_indices first (x ∷ xs) (y ∷ ys) e =
    ap (λ (l : List ℕ). first ∷ l) (same_indices _ xs ys (omega (arith, e)))

pub still_seats : (register : Register) (old new : List Seat) → AreSeats register old
    → AreSameSeats register old new → AreSeats register new
still_seats register old new all same =
    (same.len ∙ all.0, same.same ∙ (all.1 ∙ same_indices 0 old new same.len), same.own)

pub all_of_front : (n : ℕ) (new others : List Seat) → length new ≡ n → take n (new ++ others) ≡ new
all_of_front zero [] others e = refl
all_of_front zero (x ∷ xs) others e = absurd (omega (arith, e))
all_of_front (suc n) [] others e = absurd (omega (arith, e))
all_of_front (suc n) (x ∷ xs) others e =
    ap (λ (l : List Seat). x ∷ l) (all_of_front n xs others (omega (arith, e)))

-- ---- what was seen

pub seen_still : (seen : List Post) → IsPrefix seen seen
seen_still seen = ([], append-nil seen)

pub seen_longer : (first next last : List Post) → IsPrefix first next → IsPrefix next last → IsPrefix first last
seen_longer first next last p q =
    (p.0 ++ q.0, sym (append_assoc first p.0 q.0) ∙ (ap (λ (l : List Post). l ++ q.0) p.1 ∙ q.1))
