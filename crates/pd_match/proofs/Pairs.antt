-- The pairs and the table of senders, step by step.
use Rattle.std.proofs.Common.{◌≡◌, ℕ, zero, suc, ◌<◌, ◌≤◌, List, [], ◌∷◌, ◌++◌, ◌+◌, length, append_assoc, Option, Some, None, Contains, refl, sym, ◌∙◌, ap, subst, inl, inr, ◌⊎◌, ◌↔◌, arith, length-append, add-one}
use Rattle.std.specs.Prelude.{slice_get, Vec}
use Rattle.std.specs.Global.{Global}
use Rattle.std.proofs.lemmas.Bool.{cases_lt}
use Rattle.std.proofs.lemmas.List.Elements.{Contains-append_left, Contains-append_right, Contains-get_or, Contains-push, Contains-push_cases}
use Rattle.std.proofs.lemmas.Option.{slice_get_past, same_Some}
use Rattle.def_model.specs.Events.{Computation, Receive, IsBefore, IsEvent, Linked, event_count, place}
use Rattle.def_model.specs.Events as events
use Rattle.def_model.specs.Messages.{IsMessage, IsMessageList}
use Rattle.def_model.proofs.Chains.{event_from_kind}
use Rattle.def_model.proofs.Consistency.{process_in_range}
use Rattle.def_model.proofs.ListPrefixes.{get_push_before, get_push_last}
use Rattle.pd_match.specs.declared.sender.Sender.{Sender}
use Rattle.pd_match.specs.Noted.{event_place, items_in, kept, pairs_from, pairs_in, row_at, send_in, sender_at, sender_view}
use Rattle.pd_match.specs.Progress.{PairsBefore, RowTells, RowsTell}
use Rattle.pd_match.proofs.Places.{before_more, before_next, before_next_process, before_process_end, here_before_next, none_before_first, each_before_end}

-- a receipt is that of an event
receipt_event : (c : Computation) (d e : events.Place) → IsMessage c d e → IsEvent c e
receipt_event c d e m = event_from_kind c e (Receive m.0) m.2

linked_push : {A : Type 0} (R : A → A → Type 0) (xs : List A) (y : A) → Linked R xs → ((x : A) → Contains xs x → R x y)
    → Linked R (xs ++ y ∷ [])
linked_push R [] y l h = tt
linked_push R (x ∷ []) y l h = (h x (Contains-get_or (x ∷ []) 0 x (omega arith)), tt)
linked_push R (x ∷ z ∷ rest) y l h =
    (l.0, linked_push R (z ∷ rest) y l.1 (λ w k. h w (Contains-append_right (x ∷ []) (z ∷ rest) w k)))

append_none : {A : Type 0} (xs : List A) → xs ++ [] ≡ xs
append_none [] = refl
append_none (x ∷ xs) = ap (λ ys. x ∷ ys) (append_none xs)

pub pairs_first : (c : Computation) → PairsBefore c (event_place 0 0) []
pairs_first c = record {
  ascending = tt;
  just = λ d e. (
    λ w. absurd (let lt : w.0 < 0 = w.1 in omega arith),
    λ m. absurd (none_before_first c e (receipt_event c d e m.0) m.1),
  );
}

pub pairs_process : (c : Computation) (p : ℕ) (pairs : List (events.Place × events.Place))
    → PairsBefore c (event_place p (event_count c p)) pairs → PairsBefore c (event_place (suc p) 0) pairs
pairs_process c p pairs so_far = record {
  ascending = so_far.ascending;
  just = λ d e. (
    λ w. let m = (so_far.just d e).0 w in (m.0, before_next_process c e p m.1),
    λ m. (so_far.just d e).1 (m.0, before_process_end c e p (receipt_event c d e m.0) m.1),
  );
}

pub pairs_all : (c : Computation) (pairs : List (events.Place × events.Place))
    → PairsBefore c (event_place (length c) 0) pairs → IsMessageList c pairs
pairs_all c pairs so_far = record {
  ascending = so_far.ascending;
  just = λ d e. (
    λ w. ((so_far.just d e).0 w).0,
    λ m. (so_far.just d e).1 (m, each_before_end c e (receipt_event c d e m)),
  );
}

module _ (c : Computation) (p n : ℕ) (pairs : List (events.Place × events.Place))
    (so_far : PairsBefore c (event_place p n) pairs) where
  after_none : ((d : events.Place) → ¬ IsMessage c d (event_place p n)) → PairsBefore c (event_place p (suc n)) pairs
  after_none none = record {
    ascending = so_far.ascending;
    just = λ d e. (
      λ w. let m = (so_far.just d e).0 w in (m.0, before_more e p n m.1),
      λ m. (so_far.just d e).1 (m.0, go d e m.0 (before_next e p n m.1)),
    );
  }
    where
      go : (d e : events.Place) → IsMessage c d e → IsBefore e (event_place p n) ⊎ (e ≡ event_place p n)
          → IsBefore e (event_place p n)
      go d e m (inl b) = b
      go d e m (inr at) = absurd (none d (subst (λ f. IsMessage c d f) at m))

  after_some : (send : events.Place) → ((d : events.Place) → (Some send ≡ Some d) ↔ IsMessage c d (event_place p n))
      → PairsBefore c (event_place p (suc n)) (pairs ++ (send, event_place p n) ∷ [])
  after_some send is = record {
    ascending = linked_push (λ (earlier later : events.Place × events.Place). IsBefore earlier.1 later.1) pairs (
      send,
      event_place p n,
    ) so_far.ascending (λ x w. ((so_far.just x.0 x.1).0 w).1);
    just = λ d e. (
      λ w. from d e (Contains-push_cases pairs (send, event_place p n) (d, e) w),
      λ m. to d e m.0 (before_next e p n m.1),
    );
  }
    where
      from : (d e : events.Place) → Contains pairs (d, e)
          ⊎ (◌≡◌ {A = events.Place × events.Place} (send, event_place p n) (d, e)) → IsMessage c d e
          × IsBefore e (event_place p (suc n))
      from d e (inl w) = let m = (so_far.just d e).0 w in (m.0, before_more e p n m.1)
      from d e (inr at) =
          let first : send ≡ d = ap (λ (x : events.Place × events.Place). x.0) at in
          let second : event_place p n ≡ e = ap (λ (x : events.Place × events.Place). x.1) at in (
            subst (λ f. IsMessage c d f) second ((is d).0 (ap Some first)),
            subst (λ f. IsBefore f (event_place p (suc n))) second (here_before_next p n),
          )

      to : (d e : events.Place) → IsMessage c d e → IsBefore e (event_place p n) ⊎ (e ≡ event_place p n)
          → Contains (pairs ++ (send, event_place p n) ∷ []) (d, e)
      to d e m (inl b) =
          Contains-append_left pairs ((send, event_place p n) ∷ []) (d, e) ((so_far.just d e).1 (m, b))
      to d e m (inr at) =
          let one : send ≡ d = same_Some _ _ ((is d).1 (subst (λ f. IsMessage c d f) at m)) in
          subst (λ x. Contains (pairs ++ (send, event_place p n) ∷ []) x)
          (let both : ◌≡◌ {A = events.Place × events.Place} (send, event_place p n) (d, e) =
          cc in both) (Contains-push pairs (send, event_place p n))

  pub pairs_next : (sender : Option events.Place)
      → ((d : events.Place) → (sender ≡ Some d) ↔ IsMessage c d (event_place p n))
      → PairsBefore c (event_place p (suc n)) (pairs ++ kept sender (event_place p n))
  pairs_next None is =
      subst (PairsBefore c (event_place p (suc n))) (sym (append_none pairs))
      (after_none (λ d m. let w : None ≡ Some d = (is d).1 m in cc))
  pairs_next (Some send) is = after_some send is

length_push : {A : Type 0} (xs : List A) (x : A) (n : ℕ) → length xs ≡ n → length (xs ++ x ∷ []) ≡ suc n
length_push xs x n e = length-append xs (x ∷ []) ∙ (add-one (length xs) ∙ ap suc e)

-- a sender at the end of a row
pub pairs_from_push : (p k n : ℕ) (row : List Sender) (sender : Sender) → length row + k ≡ n
    → pairs_from p k (row ++ sender ∷ []) ≡ pairs_from p k row ++ kept (send_in sender) (event_place p n)
pairs_from_push p k n [] sender e =
    append_none (kept (send_in sender) (event_place p k))
    ∙ ap (λ j. kept (send_in sender) (event_place p j)) (let same : k ≡ n = omega (arith, e) in same)
pairs_from_push p k n (first ∷ rest) sender e =
    ap (λ pairs. kept (send_in first) (event_place p k) ++ pairs)
    (pairs_from_push p (suc k) n rest sender (omega (arith, e)))
    ∙ sym (append_assoc (kept (send_in first) (event_place p k)) (pairs_from p (suc k) rest)
    (kept (send_in sender) (event_place p n)))

-- a row at the end of a table
pub pairs_in_push : (p q : ℕ) (rows : List (Vec Sender Global)) (row : Vec Sender Global) → length rows + p ≡ q
    → pairs_in p (rows ++ row ∷ []) ≡ pairs_in p rows ++ pairs_from q 0 row.items
pairs_in_push p q [] row e =
    append_none (pairs_from p 0 row.items)
    ∙ ap (λ j. pairs_from j 0 row.items) (let same : p ≡ q = omega (arith, e) in same)
pairs_in_push p q (first ∷ rest) row e =
    ap (λ pairs. pairs_from p 0 first.items ++ pairs) (pairs_in_push (suc p) q rest row (omega (arith, e)))
    ∙ sym (append_assoc (pairs_from p 0 first.items) (pairs_in (suc p) rest) (pairs_from q 0 row.items))

pub row_first : (c : Computation) (p : ℕ) → RowTells c p [] 0
row_first c p = record {
  same = refl;
  tells = λ k send lt. absurd (omega arith);
  adds = λ pairs so_far. subst (PairsBefore c (event_place p 0)) (sym (append_none pairs)) so_far;
}

pub row_next : (c : Computation) (p n : ℕ) (row : List Sender) (sender : Sender) → RowTells c p row n
    → ((d : events.Place) → (send_in sender ≡ Some d) ↔ IsMessage c d (event_place p n))
    → RowTells c p (row ++ sender ∷ []) (suc n)
row_next c p n row sender so_far is = record {
  same = length_push row sender n so_far.same;
  tells = λ k send lt. go k send (cases_lt k n) lt;
  adds = λ pairs first.
      subst (PairsBefore c (event_place p (suc n))) (pairs_grown pairs)
      (pairs_next c p n (pairs ++ pairs_from p 0 row) (so_far.adds pairs first) (send_in sender) is);
}
  where
    pairs_grown : (pairs : List (events.Place × events.Place))
        → (pairs ++ pairs_from p 0 row) ++ kept (send_in sender) (event_place p n)
        ≡ pairs ++ pairs_from p 0 (row ++ sender ∷ [])
    pairs_grown pairs =
        append_assoc pairs (pairs_from p 0 row) (kept (send_in sender) (event_place p n))
        ∙ ap (λ rest. pairs ++ rest) (sym (pairs_from_push p 0 n row sender (let same : length row ≡ n = so_far.same in
        omega arith)))

    go : (k : ℕ) (send : events.Place) → (k < n) ⊎ (n ≤ k) → k < suc n
        → (sender_view (slice_get (row ++ sender ∷ []) k) ≡ Some send) ↔ IsMessage c send (event_place p k)
    go k send (inl lt) top =
        let within : k < length row = let same : length row ≡ n = so_far.same in omega arith in
        subst (λ o. (sender_view o ≡ Some send) ↔ IsMessage c send (event_place p k))
        (sym (get_push_before row sender k within)) (so_far.tells k send lt)
    go k send (inr le) top =
        let here : k ≡ n = omega arith in
        let last : k ≡ length row = here ∙ sym so_far.same in
        subst (λ o. (sender_view o ≡ Some send) ↔ IsMessage c send (event_place p k))
        (sym (get_push_last row sender k last)) (subst (λ j. (send_in sender ≡ Some send)
        ↔ IsMessage c send (event_place p j)) (sym here) (is send))

pub rows_first : (c : Computation) → RowsTell c [] 0
rows_first c = record { same = refl; tell = λ q lt. absurd (omega arith); pairs = pairs_first c }

pub rows_next : (c : Computation) (p : ℕ) (rows : List (Vec Sender Global)) (row : Vec Sender Global)
    → RowsTell c rows p → RowTells c p row.items (event_count c p) → RowsTell c (rows ++ row ∷ []) (suc p)
rows_next c p rows row so_far is = record {
  same = length_push rows row p so_far.same;
  tell = λ q lt. go q (cases_lt q p) lt;
  pairs =
      subst (PairsBefore c (event_place (suc p) 0)) (sym (pairs_in_push 0 p rows row
      (let same : length rows ≡ p = so_far.same in omega arith)))
      (pairs_process c p (pairs_in 0 rows ++ pairs_from p 0 row.items) (is.adds (pairs_in 0 rows) so_far.pairs));
}
  where
    go : (q : ℕ) → (q < p) ⊎ (p ≤ q) → q < suc p → RowTells c q (row_at (rows ++ row ∷ []) q) (event_count c q)
    go q (inl lt) top =
        let within : q < length rows = let same : length rows ≡ p = so_far.same in omega arith in
        subst (λ o. RowTells c q (items_in o) (event_count c q)) (sym (get_push_before rows row q within))
        (so_far.tell q lt)
    go q (inr le) top =
        let here : q ≡ p = omega arith in
        let last : q ≡ length rows = here ∙ sym so_far.same in
        subst (λ o. RowTells c q (items_in o) (event_count c q)) (sym (get_push_last rows row q last))
        (subst (λ j. RowTells c j row.items (event_count c j)) (sym here) is)

-- the whole table has the sender of each receipt, and none elsewhere
module _ (c : Computation) (rows : List (Vec Sender Global)) (whole : RowsTell c rows (length c)) where
  reported_none : (q n : ℕ) (send : events.Place) → sender_at rows (place q n) ≡ None → ¬ IsEvent c (place q n)
      → (sender_at rows (place q n) ≡ Some send) ↔ IsMessage c send (place q n)
  reported_none q n send none not =
      (λ e. let w : None ≡ Some send = sym none ∙ e in cc, λ m. absurd (not (receipt_event c send (place q n) m)))

  pub table_tells : (q n : ℕ) (send : events.Place) → (sender_at rows (place q n) ≡ Some send)
      ↔ IsMessage c send (place q n)
  table_tells q zero send = reported_none q zero send refl (λ is. let w : 1 ≤ 0 = is.0 in omega arith)
  table_tells q (suc k) send = in_row (cases_lt q (length c))
    where
      at_index : q < length c → (k < event_count c q) ⊎ (event_count c q ≤ k)
          → (sender_at rows (place q (suc k)) ≡ Some send) ↔ IsMessage c send (place q (suc k))
      at_index there (inl lt) = (whole.tell q there).tells k send lt
      at_index there (inr le) =
          let few : length (row_at rows q) ≡ event_count c q = (whole.tell q there).same in
          reported_none q (suc k) send (ap sender_view
          (slice_get_past (row_at rows q) k (let past : length (row_at rows q) ≤ k = omega arith in past)))
          (λ is. let w : suc k ≤ event_count c q = is.1 in omega arith)

      in_row : (q < length c) ⊎ (length c ≤ q) → (sender_at rows (place q (suc k)) ≡ Some send)
          ↔ IsMessage c send (place q (suc k))
      in_row (inl there) = at_index there (cases_lt k (event_count c q))
      in_row (inr past) =
          let none : slice_get rows q ≡ None =
          slice_get_past rows q (let same : length rows ≡ length c = whole.same in omega arith) in
          reported_none q (suc k) send (ap (λ o. sender_view (slice_get (items_in o) k)) none
          ∙ ap sender_view (slice_get_past [] k (omega arith))) (λ is. let w : q < length c =
          process_in_range c (place q (suc k)) is in omega arith)

  pub table_agrees : (pairs : List (events.Place × events.Place)) → IsMessageList c pairs
      → (send receipt : events.Place) → Contains pairs (send, receipt) ↔ (sender_at rows receipt ≡ Some send)
  table_agrees pairs all send receipt =
      let reported = table_tells receipt.process receipt.number send in
      (λ w. reported.1 ((all.just send receipt).0 w), λ e. (all.just send receipt).1 (reported.0 e))
