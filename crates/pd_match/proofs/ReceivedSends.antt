-- How many sends are received, step by step.
use Rattle.std.proofs.Common.{◌≡◌, ℕ, zero, suc, ◌+◌, ◌<◌, List, [], ◌∷◌, length, cond, Some, Contains, refl, sym, ◌∙◌, ap, subst, inl, inr, ◌⊎◌, ◌↔◌, arith}
use Rattle.std.specs.Prelude.{nat_eq}
use Rattle.std.proofs.Math.Dec.{eqb-suc-zero}
use Rattle.std.proofs.lemmas.Bool.{cases_order}
use Rattle.std.proofs.lemmas.Option.{same_Some}
use Rattle.def_model.specs.Events.{Send, Receive, Computation, Place, IsBefore, Linked, kind_at, event_count}
use Rattle.def_model.specs.Messages.{Version, IsMessage, IsMessageList, AreReceived, HasMessages, self_message}
use Rattle.def_model.proofs.Chains.{event_from_kind, same_place}
use Rattle.pd_match.specs.Noted.{CountsSends, HasReceived, NoneBadBefore, event_place}
use Rattle.pd_match.specs.Progress.{SendsBefore}
use Rattle.pd_match.proofs.Places.{before_more, before_next, before_next_process, before_process_end, before_transitive, each_before_end, here_before_next, none_before_first}
use Rattle.pd_match.proofs.Reports.{same_receive, same_send}

-- ---- a place in an ascending list

contains_cases : (x z : Place) (xs : List Place) → Contains (x ∷ xs) z → (x ≡ z) ⊎ Contains xs z
contains_cases x z xs (zero, lt, at) = inl at
contains_cases x z xs (suc k, lt, at) = inr (k, omega arith, at)

contains_later : (x z : Place) (xs : List Place) → Contains xs z → Contains (x ∷ xs) z
contains_later x z xs (k, lt, at) = (suc k, omega arith, at)

-- the first of an ascending list stands before each later one
before_rest : (x z : Place) (xs : List Place) → Linked IsBefore (x ∷ xs) → Contains xs z → IsBefore x z
before_rest x z [] links (k, lt, at) = absurd (omega arith)
before_rest x z (y ∷ xs) links has = go (contains_cases y z xs has) (before_rest y z xs links.1)
  where
    go : (y ≡ z) ⊎ Contains xs z → (Contains xs z → IsBefore y z) → IsBefore x z
    go (inl e) rest = subst (λ (w : Place). IsBefore x w) e links.0
    go (inr later) rest = before_transitive x y z links.0 (rest later)

ascending_rest : (x : Place) (xs : List Place) → Linked IsBefore (x ∷ xs) → Linked IsBefore xs
ascending_rest x [] links = tt
ascending_rest x (y ∷ xs) links = links.1

linked_first : (x : Place) (xs : List Place) → ((z : Place) → Contains xs z → IsBefore x z) → Linked IsBefore xs
    → Linked IsBefore (x ∷ xs)
linked_first x [] first links = tt
linked_first x (y ∷ xs) first links = (first y (0, omega arith, refl), links)

order : (d e : Place) → (d ≡ e) ⊎ (IsBefore d e ⊎ IsBefore e d)
order d e = go (cases_order d.process e.process) (cases_order d.number e.number)
  where
    go : (d.process ≡ e.process) ⊎ ((d.process < e.process) ⊎ (e.process < d.process))
        → (d.number ≡ e.number) ⊎ ((d.number < e.number) ⊎ (e.number < d.number))
        → (d ≡ e) ⊎ (IsBefore d e ⊎ IsBefore e d)
    go (inr (inl h)) n = inr (inl (inl h))
    go (inr (inr h)) n = inr (inr (inl h))
    go (inl p) (inl n) = inl (same_place d e p n)
    go (inl p) (inr (inl h)) = inr (inl (inr (p, h)))
    go (inl p) (inr (inr h)) = inr (inr (inr (sym p, h)))

-- an ascending list with one place more
record Inserted (xs : List Place) (place : Place) : Type 0 where
  longer : List Place
  ascending : Linked IsBefore longer
  just : (z : Place) → Contains longer z ↔ ((place ≡ z) ⊎ Contains xs z)
  counted : length longer ≡ suc (length xs)

insert_first : (xs : List Place) (place : Place) → Linked IsBefore xs
    → ((z : Place) → Contains xs z → IsBefore place z) → Inserted xs place
insert_first xs place links first = record {
  longer = place ∷ xs;
  ascending = linked_first place xs first links;
  just = λ z. (contains_cases place z xs, to z);
  counted = refl;
}
  where
    to : (z : Place) → (place ≡ z) ⊎ Contains xs z → Contains (place ∷ xs) z
    to z (inl e) = (0, omega arith, e)
    to z (inr has) = contains_later place z xs has

insert_place : (xs : List Place) (place : Place) → Linked IsBefore xs → ¬ Contains xs place → Inserted xs place
insert_place [] place links new = insert_first [] place tt (λ z has. absurd (let lt : has.0 < 0 = has.1 in omega arith))
insert_place (x ∷ xs) place links new =
    go (order place x) (insert_place xs place (ascending_rest x xs links))
  where
    after : IsBefore x place → Inserted xs place → Inserted (x ∷ xs) place
    after before inner = record {
      longer = x ∷ inner.longer;
      ascending = linked_first x inner.longer (λ z has. first z ((inner.just z).0 has)) inner.ascending;
      just = λ z. ((λ has. to z (contains_cases x z inner.longer has)), from z);
      counted = ap suc inner.counted;
    }
      where
        first : (z : Place) → (place ≡ z) ⊎ Contains xs z → IsBefore x z
        first z (inl e) = subst (λ (w : Place). IsBefore x w) e before
        first z (inr has) = before_rest x z xs links has

        to : (z : Place) → (x ≡ z) ⊎ Contains inner.longer z → (place ≡ z) ⊎ Contains (x ∷ xs) z
        to z (inl e) = inr (0, omega arith, e)
        to z (inr has) = pick ((inner.just z).0 has)
          where
            pick : (place ≡ z) ⊎ Contains xs z → (place ≡ z) ⊎ Contains (x ∷ xs) z
            pick (inl e) = inl e
            pick (inr later) = inr (contains_later x z xs later)

        from : (z : Place) → (place ≡ z) ⊎ Contains (x ∷ xs) z → Contains (x ∷ inner.longer) z
        from z (inl e) = contains_later x z inner.longer ((inner.just z).1 (inl e))
        from z (inr has) = pick (contains_cases x z xs has)
          where
            pick : (x ≡ z) ⊎ Contains xs z → Contains (x ∷ inner.longer) z
            pick (inl e) = (0, omega arith, e)
            pick (inr later) = contains_later x z inner.longer ((inner.just z).1 (inr later))

    go : (place ≡ x) ⊎ (IsBefore place x ⊎ IsBefore x place) → (¬ Contains xs place → Inserted xs place)
        → Inserted (x ∷ xs) place
    go (inl e) inner = absurd (new (0, omega arith, sym e))
    go (inr (inl before)) inner = insert_first (x ∷ xs) place links (λ z has. first z (contains_cases x z xs has))
      where
        first : (z : Place) → (x ≡ z) ⊎ Contains xs z → IsBefore place z
        first z (inl e) = subst (λ (w : Place). IsBefore place w) e before
        first z (inr has) = before_transitive place x z before (before_rest x z xs links has)
    go (inr (inr before)) inner = after before (inner (λ has. new (contains_later x place xs has)))

-- ---- the sends that are received before a place

pub sends_first : (c : Computation) → SendsBefore c (event_place 0 0) 0
sends_first c = record {
  sends = [];
  ascending = tt;
  just = λ send. (
    λ has. absurd (let lt : has.0 < 0 = has.1 in omega arith),
    λ w. absurd (none_before_first c w.0 (event_from_kind c w.0 (Receive w.1.0) w.1.2) w.2),
  );
  counted = refl;
}

pub sends_process : (c : Computation) (p n : ℕ) → SendsBefore c (event_place p (event_count c p)) n
    → SendsBefore c (event_place (suc p) 0) n
sends_process c p n so_far = record {
  sends = so_far.sends;
  ascending = so_far.ascending;
  just = λ send. (
    λ has. let w = (so_far.just send).0 has in (w.0, w.1, before_next_process c w.0 p w.2),
    λ w. (so_far.just send).1
        (w.0, w.1, before_process_end c w.0 p (event_from_kind c w.0 (Receive w.1.0) w.1.2) w.2),
  );
  counted = so_far.counted;
}

module _ (c : Computation) (p n k : ℕ) (so_far : SendsBefore c (event_place p n) k) where
  -- an event that receives nothing, or what was received before, changes nothing
  pub sends_kept : ((send : Place) → IsMessage c send (event_place p n)
      → (receipt : Place) × IsMessage c send receipt × IsBefore receipt (event_place p n))
      → SendsBefore c (event_place p (suc n)) k
  sends_kept earlier = record {
    sends = so_far.sends;
    ascending = so_far.ascending;
    just = λ send. (
      λ has. let w = (so_far.just send).0 has in (w.0, w.1, before_more w.0 p n w.2),
      λ w. (so_far.just send).1 (back send w.0 w.1 (before_next w.0 p n w.2)),
    );
    counted = so_far.counted;
  }
    where
      back : (send receipt : Place) → IsMessage c send receipt
          → IsBefore receipt (event_place p n) ⊎ (receipt ≡ event_place p n)
          → (receipt : Place) × IsMessage c send receipt × IsBefore receipt (event_place p n)
      back send receipt m (inl b) = (receipt, m, b)
      back send receipt m (inr at) = earlier send (subst (λ (r : Place). IsMessage c send r) at m)

  -- the receipt of what wasn't received before is one more
  pub sends_more : (send : Place) → IsMessage c send (event_place p n)
      → ((other : Place) → IsMessage c other (event_place p n) → send ≡ other)
      → ((receipt : Place) → IsMessage c send receipt → ¬ IsBefore receipt (event_place p n))
      → SendsBefore c (event_place p (suc n)) (k + 1)
  sends_more send message single new = record {
    sends = inserted.longer;
    ascending = inserted.ascending;
    just = λ other. ((λ has. to other ((inserted.just other).0 has)), λ w. (inserted.just other).1 (from other w));
    counted = let m : length inserted.longer ≡ suc (length so_far.sends) = inserted.counted in
        let l : k ≡ length so_far.sends = so_far.counted in omega arith;
  }
    where
      inserted : Inserted so_far.sends send
      inserted = insert_place so_far.sends send so_far.ascending (λ has. let w = (so_far.just send).0 has in
          new w.0 w.1 w.2)

      to : (other : Place) → (send ≡ other) ⊎ Contains so_far.sends other
          → (receipt : Place) × IsMessage c other receipt × IsBefore receipt (event_place p (suc n))
      to other (inl e) = (
        event_place p n,
        subst (λ (d : Place). IsMessage c d (event_place p n)) e message,
        here_before_next p n,
      )
      to other (inr has) = let w = (so_far.just other).0 has in (w.0, w.1, before_more w.0 p n w.2)

      from : (other : Place) → (receipt : Place) × IsMessage c other receipt
          × IsBefore receipt (event_place p (suc n)) → (send ≡ other) ⊎ Contains so_far.sends other
      from other (receipt, m, b) = pick (before_next receipt p n b)
        where
          pick : IsBefore receipt (event_place p n) ⊎ (receipt ≡ event_place p n)
              → (send ≡ other) ⊎ Contains so_far.sends other
          pick (inl before) = inr ((so_far.just other).1 (receipt, m, before))
          pick (inr at) = inl (single other (subst (λ (r : Place). IsMessage c other r) at m))

-- a receipt: its send is one more if its id wasn't marked
pub sends_of_receipt : (version : Version) (c : Computation) (p n k : ℕ) (id : List ℕ) (send : Place)
    (last : List ℕ → ℕ) → SendsBefore c (event_place p n) k → HasReceived c (event_place p n) last
    → NoneBadBefore version c (event_place p n) → kind_at c (event_place p n) ≡ Some (Receive id)
    → kind_at c send ≡ Some (Send id) → ((d : Place) → (Some send ≡ Some d) ↔ IsMessage c d (event_place p n))
    → SendsBefore c (event_place p (suc n)) (k + cond (nat_eq (last id) 0) 1 0)
sends_of_receipt version c p n k id send last so_far has good receives sends is = go (last id) refl
  where
    go : (l : ℕ) → last id ≡ l → SendsBefore c (event_place p (suc n)) (k + cond (nat_eq l 0) 1 0)
    go zero e =
        sends_more c p n k so_far send ((is send).0 refl) (λ other m. same_Some _ _ ((is other).1 m))
        (λ receipt m before.
        let same : m.0 ≡ id = same_send m.0 id (same_Some _ _ (sym m.1 ∙ sends)) in
        let w = has.latest id receipt (m.2 ∙ ap (λ x. Some (Receive x)) same, before) in
        let no : 0 ≡ suc w.0 = sym e ∙ w.1 in
        omega arith)
    go (suc q) e =
        let w = has.found id q e in
        let earlier : (d : Place) → IsMessage c d (event_place p n)
        → (receipt : Place) × IsMessage c d receipt × IsBefore receipt (event_place p n) =
        λ d m.
        let same : m.0 ≡ id = same_receive m.0 id (same_Some _ _ (sym m.2 ∙ receives)) in
        let from : kind_at c d ≡ Some (Send id) = m.1 ∙ ap (λ x. Some (Send x)) same in
        (w.0, (id, from, w.1.0, λ e. good w.0 w.1.1 (self_message (id, d, w.1.0, from, e))), w.1.1) in
        let kept : SendsBefore c (event_place p (suc n)) k = sends_kept c p n k so_far earlier in
        let none : cond {A = ℕ} (nat_eq (suc q) 0) 1 0 ≡ 0 = ap (λ b. cond {A = ℕ} b 1 0) (eqb-suc-zero q) in
        let same : k ≡ k + cond {A = ℕ} (nat_eq (suc q) 0) 1 0 = omega (arith, none) in
        subst (SendsBefore c (event_place p (suc n))) same kept

-- at the end they are all that are received
pub sends_all : (c : Computation) (n : ℕ) (pairs : List (Place × Place))
    → SendsBefore c (event_place (length c) 0) n → IsMessageList c pairs → CountsSends pairs n
sends_all c n pairs so_far list = (so_far.sends, record { ascending = so_far.ascending; just = just }, so_far.counted)
  where
    just : (send : Place) → Contains so_far.sends send ↔ ((receipt : Place) × Contains pairs (send, receipt))
    just send = (
      λ has. let w = (so_far.just send).0 has in (w.0, (list.just send w.0).1 w.1),
      λ w. let m = (list.just send w.0).0 w.1 in
          (so_far.just send).1 (w.0, m, each_before_end c w.0 (event_from_kind c w.0 (Receive m.0) m.2)),
    )

-- the sends of a computation's messages are those that are received
pub counts_messages : (c : Computation) (pairs : List (Place × Place)) (n : ℕ) → IsMessageList c pairs
    → CountsSends pairs n → HasMessages c n
counts_messages c pairs n list (sends, are, counted) = (sends, received, counted)
  where
    received : AreReceived c sends
    received = record {
      ascending = are.ascending;
      just = λ send. (
        λ has. let w = (are.just send).0 has in (w.0, (list.just send w.0).0 w.1),
        λ w. (are.just send).1 (w.0, (list.just send w.0).1 w.1),
      );
    }
