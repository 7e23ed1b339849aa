-- Which last events of a consistent cut can be undone, by the clocks of all events.
use Rattle.std.proofs.Common.{◌≡◌, ℕ, ◌+◌, ◌-◌, ◌*◌, ◌<◌, ◌≤◌, List, length, get_or, sym, inl, inr, ◌⊎◌, ◌↔◌, arith}
use Rattle.std.specs.Prelude.{Vec}
use Rattle.std.specs.Global.{Global}
use Rattle.std.proofs.lemmas.Bool.{cases_eq}
use Rattle.def_model.specs.Events.{Computation, place, IsEvent, event_count}
use Rattle.def_model.specs.Order.{HappenedBefore, HasNoCycle, IsClock}
use Rattle.def_model.specs.Cuts.{IsConsistent, empty_cut, full_cut, one_less}
use Rattle.def_model.proofs.Counts.{empty_at, in_range, length_less, less_other, less_same}
use Rattle.def_model.proofs.Steps.{empty_consistent}
use Rattle.def_model.proofs.Undoing.{undo_at}
use Rattle.pd_clock.specs.Orders.{HasClocks, clock_at, clocks_of}
use Rattle.pd_clock.specs.Pasts.{HasPasts, IsInNoPast}
use Rattle.pd_clock.proofs.PastFacts.{consistent_exactly, is_clock}

module _ (c : Computation) (clocks : List (Vec ℕ Global)) (acyclic : HasNoCycle c)
    (has : HasClocks c (full_cut c) clocks) where
  -- the last event that counts include of a process
  last_is : (counts : List ℕ) (q : ℕ) → IsConsistent c counts → 0 < get_or counts q 0
      → IsEvent c (place q (get_or counts q 0))
  last_is counts q ok some = let w : get_or counts q 0 ≤ event_count c q = ok.fits.within q in (omega arith, w)

  -- an event that is in no other one's clock happened before none of them
  not_before : (counts : List ℕ) (p : ℕ) → IsConsistent c counts → 0 < get_or counts p 0
      → IsInNoPast clocks counts p → (q : ℕ) → 0 < get_or counts q 0
      → ¬ HappenedBefore c (place p (get_or counts p 0)) (place q (get_or counts q 0))
  not_before counts p ok some none q has_q before = go (cases_eq q p)
    where
      go : (q ≡ p) ⊎ (q ≡ p → ⊥) → ⊥
      go (inl same) =
          let back : HappenedBefore c (place p (get_or counts p 0)) (place p (get_or counts p 0)) =
          rw same at before in
          acyclic (place p (get_or counts p 0)) back
      go (inr apart) =
          let inside : p < length c = let l : p < length counts = in_range counts p some in
          omega (arith, ok.fits.one_each) in
          let clock : IsClock c (place q (get_or counts q 0)) p (clock_at (length c) clocks
          (place q (get_or counts q 0)) p) =
          is_clock c clocks acyclic has (place q (get_or counts q 0)) p (last_is counts q ok has_q) inside in
          let known : get_or counts p 0 ≤ clock_at (length c) clocks (place q (get_or counts q 0)) p =
          (clock.past (get_or counts p 0) (omega arith) (ok.fits.within p)).1 (inr before) in
          let below : get_or (clocks_of clocks q) ((get_or counts q 0 - 1) * length c + p) 0 < get_or counts p 0 =
          rw ok.fits.one_each at (none q apart has_q) in
          absurd (omega arith)

  pub undone_exactly : (counts : List ℕ) (p : ℕ) → IsConsistent c counts → 0 < get_or counts p 0
      → IsInNoPast clocks counts p ↔ IsConsistent c (one_less counts p)
  undone_exactly counts p ok some = (to, from)
    where
      to : IsInNoPast clocks counts p → IsConsistent c (one_less counts p)
      to none =
          let zero_p : get_or (empty_cut c) p 0 ≡ 0 = empty_at c p in
          undo_at c (empty_cut c) counts p (empty_consistent c) ok (omega arith) (λ q above.
          not_before counts p ok some none q (let z : get_or (empty_cut c) q 0 ≡ 0 = empty_at c q in omega arith))

      from : IsConsistent c (one_less counts p) → IsInNoPast clocks counts p
      from left q apart has_q =
          let same : get_or (one_less counts p) q 0 ≡ get_or counts q 0 = less_other counts p q apart in
          let fewer : get_or (one_less counts p) p 0 + 1 ≡ get_or counts p 0 = less_same counts p some in
          let count : length (one_less counts p) ≡ length counts = length_less counts p in
          let there : p < length counts = in_range counts p some in
          let pasts : HasPasts clocks (one_less counts p) =
          (consistent_exactly c clocks acyclic has (one_less counts p) left.fits).1 left in
          let past : get_or (clocks_of clocks q) ((get_or counts q 0 - 1) * length counts + p) 0
          ≤ get_or (one_less counts p) p 0 =
          rw (same, count) at (pasts q (omega arith) p (omega arith) (λ e. apart (sym e))) in
          omega arith
