-- One more event of a process leaves a cut if it is no receipt, or its send is in the cut.
use Rattle.std.proofs.Common.{◌≡◌, ℕ, ◌+◌, ◌<◌, ◌≤◌, List, length, get_or, ap, subst, inl, inr, ◌⊎◌, ◌↔◌, arith}
use Rattle.std.proofs.lemmas.Bool.{cases_eq, cases_lt}
use Rattle.def_model.specs.Events.{Send, Computation, Place, place, IsEvent, event_count}
use Rattle.def_model.specs.Messages.{IsMessage}
use Rattle.def_model.specs.Cuts.{Includes, IsConsistent, one_more}
use Rattle.def_model.proofs.Chains.{same_place, event_from_kind, step_happens}
use Rattle.def_model.proofs.Consistency.{closed_from_messages}
use Rattle.def_model.proofs.Counts.{more_same, more_other}
use Rattle.def_model.proofs.Steps.{fits_more}

-- the event that comes next to the counted ones of process p
abbrev pub added : List ℕ → ℕ → Place
added counts p = place p (get_or counts p 0 + 1)

-- the counts have the send of each message that this event receives
abbrev pub HasSend : Computation → List ℕ → Place → Type 0
HasSend c counts e = (send : Place) → IsMessage c send e → send.number ≤ get_or counts send.process 0

module _ (c : Computation) (counts : List ℕ) (p : ℕ) (ok : IsConsistent c counts) (within : p < length c)
    (room : get_or counts p 0 < event_count c p) where
  there : p < length counts
  there = let l : length counts ≡ length c = ok.fits.one_each in omega arith

  same_p : get_or (one_more counts p) p 0 ≡ get_or counts p 0 + 1
  same_p = more_same counts p there

  up : (q : ℕ) → get_or counts q 0 ≤ get_or (one_more counts p) q 0
  up q = pick (cases_eq q p)
    where
      pick : (q ≡ p) ⊎ (q ≡ p → ⊥) → get_or counts q 0 ≤ get_or (one_more counts p) q 0
      pick (inl e) = rw e (let s : get_or (one_more counts p) p 0 ≡ get_or counts p 0 + 1 = same_p in omega arith)
      pick (inr apart) = let o : get_or (one_more counts p) q 0 ≡ get_or counts q 0 = more_other counts p q apart in
          omega arith

  kept : (e : Place) → Includes counts e → Includes (one_more counts p) e
  kept e i = let a : e.number ≤ get_or counts e.process 0 =
      i.1 in let b : get_or counts e.process 0 ≤ get_or (one_more counts p) e.process 0 =
      up e.process in (i.0, omega arith)

  -- what the counts have with one event more they had before, or it is that event
  old_or_added : (e : Place) → Includes (one_more counts p) e → Includes counts e ⊎ (e ≡ added counts p)
  old_or_added e i = go (cases_lt (get_or counts e.process 0) e.number) (cases_eq e.process p)
    where
      go : (get_or counts e.process 0 < e.number) ⊎ (e.number ≤ get_or counts e.process 0) → (e.process ≡ p)
          ⊎ (e.process ≡ p → ⊥) → Includes counts e ⊎ (e ≡ added counts p)
      go (inr le) other = inl (i.0, le)
      go (inl lt) (inr apart) =
          let o : get_or (one_more counts p) e.process 0 ≡ get_or counts e.process 0 =
          more_other counts p e.process apart in
          let u : e.number ≤ get_or (one_more counts p) e.process 0 = i.1 in
          absurd (omega arith)
      go (inl lt) (inl here) =
          let now : get_or (one_more counts p) e.process 0 ≡ get_or (one_more counts p) p 0 =
          ap (λ (q : ℕ). get_or (one_more counts p) q 0) here in
          let was : get_or counts e.process 0 ≡ get_or counts p 0 = ap (λ (q : ℕ). get_or counts q 0) here in
          let more : get_or (one_more counts p) p 0 ≡ get_or counts p 0 + 1 = same_p in
          let u : e.number ≤ get_or (one_more counts p) e.process 0 = i.1 in
          inr (same_place e (added counts p) here (omega arith))

  pub one_more_exactly : HasSend c counts (added counts p) ↔ IsConsistent c (one_more counts p)
  one_more_exactly = (to, from)
    where
      to : HasSend c counts (added counts p) → IsConsistent c (one_more counts p)
      to sent =
          record {
            fits = fits_more c counts p ok.fits room there;
            closed =
                closed_from_messages c (one_more counts p) keeps;
          }
        where
          keeps : (s r : Place) → IsMessage c s r → Includes (one_more counts p) r → Includes (one_more counts p) s
          keeps s r message i = go (old_or_added r i)
            where
              go : Includes counts r ⊎ (r ≡ added counts p) → Includes (one_more counts p) s
              go (inl old) = kept s (ok.closed s r (step_happens c s r (inr message)) old)
              go (inr same) =
                  let is : IsEvent c s = event_from_kind c s (Send message.0) message.1 in
                  kept s (is.0, sent s (subst (λ (e : Place). IsMessage c s e) same message))

      from : IsConsistent c (one_more counts p) → HasSend c counts (added counts p)
      from more send message =
          let now : get_or (one_more counts p) p 0 ≡ get_or counts p 0 + 1 = same_p in
          let i : Includes (one_more counts p) send =
          more.closed send (added counts p) (step_happens c send (added counts p) (inr message)) (
            omega arith,
            omega arith,
          ) in
          let in_ : send.number ≤ get_or (one_more counts p) send.process 0 = i.1 in
          let other : get_or (one_more counts p) send.process 0 ≡ get_or counts send.process 0 =
          more_other counts p send.process message.3 in
          omega arith
