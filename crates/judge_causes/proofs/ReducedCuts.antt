-- The consistent cuts of a reduced computation are those that have the send of each receipt that is kept.
use Rattle.std.proofs.Common.{◌≡◌, ◌≤◌, ℕ, Bool, true, false, List, inl, inr, refl, sym, subst, ◌∙◌}
use Rattle.std.proofs.lemmas.Bool.{false≢true}
use Rattle.def_model.specs.Cuts.{FitsProcesses, IsConsistent}
use Rattle.def_model.specs.Events.{Computation, IsEvent, Place}
use Rattle.def_model.specs.Messages.{IsBadReceipt, IsSentAgain, Receives, Version, orphan, received_again, self_message}
use Rattle.def_model.specs.Observations.{Possibly}
use Rattle.def_model.specs.Order.{HappenedBefore, IsWellFormed, LeadsTo}
use Rattle.def_model.specs.Predicates.{Predicate, Recorded, test_of}
use Rattle.def_model.proofs.Chains.{happens_least, happens_transitive, step_happens}
use Rattle.def_model.proofs.Consistency.{closed_from_messages}
use Rattle.judge_causes.specs.Enough.{HaveSends, IsEnough}
use Rattle.judge_causes.specs.Reduced.{reduced, reduced_run}
use Rattle.judge_causes.proofs.ReducedKinds.{count_reduced, message_back, message_on, receives_back, same_settings, sends_back, sends_on}
use Rattle.judge_causes.proofs.SameTests.{fits_other, fits_same, same_test}

module _ (is_kept : Place → Bool) where
  -- ---- cuts

  consistent_if : (c : Computation) (counts : List ℕ) → FitsProcesses c counts
      → HaveSends c (λ e. is_kept e ≡ true) counts → IsConsistent (reduced is_kept c) counts
  consistent_if c counts fits have = record {
    fits = fits_other c (reduced is_kept c) (same_settings is_kept c) counts fits;
    closed = closed_from_messages (reduced is_kept c) counts (λ s r m i.
        have s r (message_back is_kept c s r m).1 (message_back is_kept c s r m).0 i);
  }

  have_sends : (c : Computation) (counts : List ℕ) → IsConsistent (reduced is_kept c) counts
      → HaveSends c (λ e. is_kept e ≡ true) counts
  have_sends c counts consistent s r kept m i =
      consistent.closed s r (step_happens (reduced is_kept c) s r (inr (message_on is_kept c s r m kept))) i

  -- so receipts are enough exactly if no consistent cut satisfies where they alone are kept
  pub none_if_enough : (r : Recorded) (predicate : Predicate) → IsEnough r predicate (λ e. is_kept e ≡ true)
      → ¬ Possibly (reduced is_kept r.events) (test_of (reduced_run is_kept r) predicate)
  none_if_enough r predicate enough possibly =
      let counts : List ℕ = possibly.0 in
      let none : test_of r predicate counts ≡ false =
      enough counts (fits_same r.events (reduced is_kept r.events) (same_settings is_kept r.events) counts
      possibly.1.fits) (have_sends r.events counts possibly.1) in
      false≢true (sym none
      ∙ sym (same_test r (reduced_run is_kept r) predicate refl (same_settings is_kept r.events) counts)
      ∙ possibly.2)

  pub enough_if_none : (r : Recorded) (predicate : Predicate)
      → (¬ Possibly (reduced is_kept r.events) (test_of (reduced_run is_kept r) predicate))
      → IsEnough r predicate (λ e. is_kept e ≡ true)
  enough_if_none r predicate none counts fits have = go (test_of r predicate counts) refl
    where
      go : (b : Bool) → test_of r predicate counts ≡ b → b ≡ false
      go false is = refl
      go true is =
          absurd (none (
            counts,
            consistent_if r.events counts fits have,
            same_test r (reduced_run is_kept r) predicate refl (same_settings is_kept r.events) counts ∙ is,
          ))

  -- ---- a well-formed computation stays one

  is_event_back : (c : Computation) (e : Place) → IsEvent (reduced is_kept c) e → IsEvent c e
  is_event_back c e is = (is.0, subst (λ n. e.number ≤ n) (count_reduced is_kept e.process c) is.1)

  step_back : (c : Computation) (e f : Place) → LeadsTo (reduced is_kept c) e f → LeadsTo c e f
  step_back c e f (inl later) = inl (is_event_back c e later.0, is_event_back c f later.1, later.2, later.3)
  step_back c e f (inr m) = inr (message_back is_kept c e f m).0

  happened_back : (c : Computation) (e f : Place) → HappenedBefore (reduced is_kept c) e f → HappenedBefore c e f
  happened_back c =
      happens_least (reduced is_kept c) (λ e f. HappenedBefore c e f)
      (λ e f s. step_happens c e f (step_back c e f s)) (happens_transitive c)

  sent_back : (c : Computation) (e : Place) → IsSentAgain (reduced is_kept c) e → IsSentAgain c e
  sent_back c e (id, d, first, second, before) =
      (id, d, sends_back is_kept c e id first, sends_back is_kept c d id second, before)

  bad_back : (version : Version) (c : Computation) (e : Place) → IsBadReceipt version (reduced is_kept c) e
      → IsBadReceipt version c e
  bad_back version c e (orphan (id, receives, none)) =
      orphan (id, (receives_back is_kept c e id receives).0, λ d sends. none d (sends_on is_kept c d id sends))
  bad_back version c e (self_message (id, d, receives, sends, same)) =
      self_message (id, d, (receives_back is_kept c e id receives).0, sends_back is_kept c d id sends, same)
  bad_back version c e (received_again (id, d, first, second, before, same)) =
      received_again
      (id, d, (receives_back is_kept c e id first).0, (receives_back is_kept c d id second).0, before, same)

  pub well_formed : (version : Version) (c : Computation) → IsWellFormed version c
      → IsWellFormed version (reduced is_kept c)
  well_formed version c formed = record {
    messages = record {
      sent_once = λ e again. formed.messages.sent_once e (sent_back c e again);
      received_well = λ e bad. formed.messages.received_well e (bad_back version c e bad);
    };
    no_cycle = λ e h. formed.no_cycle e (happened_back c e e h);
  }

-- where no consistent cut of the run satisfies, all of its receipts are enough
pub all_enough : (r : Recorded) (predicate : Predicate) (IsKept : Place → Type 0)
    → ((e : Place) (id : List ℕ) → Receives r.events e id → IsKept e)
    → (¬ Possibly r.events (test_of r predicate)) → IsEnough r predicate IsKept
all_enough r predicate IsKept all none counts fits have = go (test_of r predicate counts) refl
  where
    consistent : IsConsistent r.events counts
    consistent = record {
      fits = fits;
      closed = closed_from_messages r.events counts (λ s e m i. have s e (all e m.0 m.2) m i);
    }

    go : (b : Bool) → test_of r predicate counts ≡ b → b ≡ false
    go false is = refl
    go true is = absurd (none (counts, consistent, is))
