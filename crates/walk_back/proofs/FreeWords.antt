-- The word of the free processes, after an event is undone.
use Rattle.std.proofs.Common.{◌≡◌, ◌≢◌, ℕ, ◌+◌, ◌<◌, ◌≤◌, Bool, false, List, length, get_or, sym, ◌∙◌, subst, inl, inr, ◌⊎◌, ◌↔◌, arith}
use Rattle.std.specs.Prelude.{IsTrue}
use Rattle.std.proofs.lemmas.Bool.{cases_eq, cases_lt, true≢false}
use Rattle.def_model.specs.Cuts.{IsConsistent, one_less}
use Rattle.def_model.specs.Events.{Computation, Place, place}
use Rattle.def_model.specs.Messages.{IsMessage}
use Rattle.def_model.proofs.Counts.{in_range}
use Rattle.walk_keys.specs.Words.{has_bit}
use Rattle.walk_back.specs.Ways.{AreFree, LeavesConsistent}
use Rattle.walk_back.proofs.FreeProcesses.{others_stay}

-- The last event of process p is undone, and the bit of p is that of the cut without it.
module _ (c : Computation) (cut : List ℕ) (p free rest : ℕ) (ok : IsConsistent c cut)
    (leaves : LeavesConsistent c cut p) (are : AreFree c cut free)
    (bit : IsTrue (has_bit rest p) ↔ LeavesConsistent c (one_less cut p) p)
    (others : (i : ℕ) → i ≢ p → has_bit rest i ≡ has_bit free i) where
  -- so is that of each other process whose last event isn't the send of the undone one
  other_bit : (i : ℕ) → i ≢ p → ¬ IsMessage c (place i (get_or cut i 0)) (place p (get_or cut p 0))
      → IsTrue (has_bit rest i) ↔ LeavesConsistent c (one_less cut p) i
  other_bit i apart no_send =
      let stays : LeavesConsistent c (one_less cut p) i ↔ LeavesConsistent c cut i =
      others_stay c cut p i ok leaves apart no_send in
      let same : has_bit rest i ≡ has_bit free i = others i apart in
      (λ set. stays.1 ((are i).0 (sym same ∙ set)), λ left. same ∙ (are i).1 (stays.0 left))

  -- no last event is the send of the undone one
  pub free_without_send : ((i : ℕ) → i ≢ p → ¬ IsMessage c (place i (get_or cut i 0)) (place p (get_or cut p 0)))
      → AreFree c (one_less cut p) rest
  free_without_send none i = go (cases_eq i p)
    where
      go : (i ≡ p) ⊎ (i ≡ p → ⊥) → IsTrue (has_bit rest i) ↔ LeavesConsistent c (one_less cut p) i
      go (inl same) = rw same bit
      go (inr apart) = other_bit i apart (none i apart)

  -- one may be, and the bit of its process is right too
  pub free_with_send : (q now : ℕ) → ((send : Place) → IsMessage c send (place p (get_or cut p 0)) → send.process ≡ q)
      → (IsTrue (has_bit now q) ↔ LeavesConsistent c (one_less cut p) q)
      → ((i : ℕ) → i ≢ q → has_bit now i ≡ has_bit rest i) → AreFree c (one_less cut p) now
  free_with_send q now of_send there same i = go (cases_eq i q)
    where
      before : i ≢ q → (i ≡ p) ⊎ (i ≡ p → ⊥) → IsTrue (has_bit rest i) ↔ LeavesConsistent c (one_less cut p) i
      before apart (inl is) = rw is bit
      before apart (inr other) = other_bit i other (λ message. apart (of_send (place i (get_or cut i 0)) message))

      go : (i ≡ q) ⊎ (i ≡ q → ⊥) → IsTrue (has_bit now i) ↔ LeavesConsistent c (one_less cut p) i
      go (inl is) = rw is there
      go (inr apart) =
          subst (λ (b : Bool). IsTrue b ↔ LeavesConsistent c (one_less cut p) i) (sym (same i apart))
          (before apart (cases_eq i p))

-- The processes are looked at one after another: those below p are.
module _ (c : Computation) (cut : List ℕ) (p free : ℕ)
    (so_far : (q : ℕ) → q < p → IsTrue (has_bit free q) ↔ LeavesConsistent c cut q) where
  -- and p
  pub one_more_free : (new : ℕ) → (IsTrue (has_bit new p) ↔ LeavesConsistent c cut p)
      → ((i : ℕ) → i ≢ p → has_bit new i ≡ has_bit free i) → (q : ℕ) → q < p + 1
      → IsTrue (has_bit new q) ↔ LeavesConsistent c cut q
  one_more_free new bit others q lt = go (cases_eq q p)
    where
      go : (q ≡ p) ⊎ (q ≡ p → ⊥) → IsTrue (has_bit new q) ↔ LeavesConsistent c cut q
      go (inl same) = rw same bit
      go (inr other) =
          subst (λ (b : Bool). IsTrue b ↔ LeavesConsistent c cut q) (sym (others q other)) (so_far q (omega arith))

  -- and there is no other one
  pub all_free : IsConsistent c cut → length c ≤ p → ((q : ℕ) → p ≤ q → has_bit free q ≡ false) → AreFree c cut free
  all_free ok all beyond q = go (cases_lt q p)
    where
      go : (q < p) ⊎ (p ≤ q) → IsTrue (has_bit free q) ↔ LeavesConsistent c cut q
      go (inl lt) = so_far q lt
      go (inr le) = (
        λ set. absurd (true≢false (sym set ∙ beyond q le)),
        λ left. let within : q < length cut = in_range cut q left.0 in absurd (omega (arith, ok.fits.one_each)),
      )
