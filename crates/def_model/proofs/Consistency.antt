-- Whether counts are consistent can be decided: each message is looked at.
use Rattle.std.proofs.Common.{◌≡◌, ℕ, suc, ◌<◌, ◌≤◌, List, [], length, get_or, Option, Some, None, refl, sym, ap, inl, inr, ◌⊎◌, arith}
use Rattle.std.proofs.lemmas.List.{get_or_past}
use Rattle.std.proofs.lemmas.Bool.{cases_lt}
use Rattle.def_model.specs.Events.{Kind, Local, Send, Receive, Computation, Place, place, IsEvent, kind_at, event_count}
use Rattle.def_model.specs.Messages.{IsMessage}
use Rattle.def_model.specs.Order.{LeadsTo, HappenedBefore}
use Rattle.def_model.specs.Cuts.{Includes, FitsProcesses, IsConsistent}
use Rattle.def_model.proofs.Decisions.{dec_map, dec_both, dec_eq, dec_less, dec_list, dec_each}
use Rattle.def_model.proofs.Chains.{closed_from_steps, event_from_kind, step_happens}

-- a process with an event is there
pub process_in_range : (c : Computation) (e : Place) → IsEvent c e → e.process < length c
process_in_range c e is = go (cases_lt e.process (length c))
  where
    go : (e.process < length c) ⊎ (length c ≤ e.process) → e.process < length c
    go (inl h) = h
    go (inr h) = let t : event_count c e.process ≡ 0 = ap length (get_or_past c e.process [] h) in
        let u : 1 ≤ e.number = is.0 in let v : e.number ≤ event_count c e.process = is.1 in absurd (omega arith)

dec_at_most : (a b : ℕ) → Dec (a ≤ b)
dec_at_most a b = dec_map (λ (h : a < suc b). let t : a ≤ b = omega arith in t) (λ (h : a ≤ b). let t : a < suc b =
    omega arith in t) (dec_less a (suc b))

dec_includes : (counts : List ℕ) (e : Place) → Dec (Includes counts e)
dec_includes counts e = dec_both (dec_at_most 1 e.number) (dec_at_most e.number (get_or counts e.process 0))

-- kinds of a send and a receipt with one id
HaveOneId : Option Kind → Option Kind → Type 0
HaveOneId a b = (id : List ℕ) × (a ≡ Some (Send id)) × (b ≡ Some (Receive id))

dec_one_id : (a b : Option Kind) → Dec (HaveOneId a b)
unfolding HaveOneId
dec_one_id (Some (Send id)) (Some (Receive other)) =
    dec_map (λ (e : id ≡ other). (id, refl, ap (λ (x : List ℕ). Some (Receive x)) (sym e)))
    (λ (w : HaveOneId (Some (Send id)) (Some (Receive other))). let s : Some (Send id) ≡ Some (Send w.0) =
    w.1 in let r : Some (Receive other) ≡ Some (Receive w.0) = w.2 in cc) (dec_list id other)
dec_one_id (Some (Send id)) (Some (Send other)) = no (λ w. let r : Some (Send other) ≡ Some (Receive w.0) = w.2 in cc)
dec_one_id (Some (Send id)) (Some Local) = no (λ w. let r : Some Local ≡ Some (Receive w.0) = w.2 in cc)
dec_one_id (Some (Send id)) None = no (λ w. let r : None ≡ Some (Receive w.0) = w.2 in cc)
dec_one_id (Some (Receive id)) b = no (λ w. let r : Some (Receive id) ≡ Some (Send w.0) = w.1 in cc)
dec_one_id (Some Local) b = no (λ w. let r : Some Local ≡ Some (Send w.0) = w.1 in cc)
dec_one_id None b = no (λ w. let r : None ≡ Some (Send w.0) = w.1 in cc)

pub dec_message : (c : Computation) (s r : Place) → Dec (IsMessage c s r)
unfolding HaveOneId
dec_message c s r =
    go (dec_one_id (kind_at c s) (kind_at c r)) (dec_eq s.process r.process)
  where
    go : Dec (HaveOneId (kind_at c s) (kind_at c r)) → Dec (s.process ≡ r.process) → Dec (IsMessage c s r)
    go (no h) d = no (λ m. h (m.0, m.1, m.2))
    go (yes w) (yes same) = no (λ m. m.3 same)
    go (yes w) (no apart) = yes (w.0, w.1, w.2, apart)

-- with the receipt the counts include the send
KeepsMessage : Computation → List ℕ → Place → Place → Type 0
KeepsMessage c counts s r = IsMessage c s r → Includes counts r → Includes counts s

dec_keeps : (c : Computation) (counts : List ℕ) (s r : Place) → Dec (KeepsMessage c counts s r)
unfolding KeepsMessage
dec_keeps c counts s r = go (dec_message c s r) (dec_includes counts r) (dec_includes counts s)
  where
    go : Dec (IsMessage c s r) → Dec (Includes counts r) → Dec (Includes counts s)
        → Dec (IsMessage c s r → Includes counts r → Includes counts s)
    go (no h) b a = yes (λ m i. absurd (h m))
    go (yes m) (no h) a = yes (λ n i. absurd (h i))
    go (yes m) (yes i) (yes j) = yes (λ n k. j)
    go (yes m) (yes i) (no h) = no (λ f. h (f m i))

-- the same for each send and receipt that is there
KeepsMessages : Computation → List ℕ → Type 0
KeepsMessages c counts =
    (p : ℕ) → p < length c → (m : ℕ) → m < suc (event_count c p) → (q : ℕ) → q < length c → (n : ℕ)
    → n < suc (event_count c q) → KeepsMessage c counts (place p m) (place q n)

dec_keeps_all : (c : Computation) (counts : List ℕ) → Dec (KeepsMessages c counts)
unfolding KeepsMessages
dec_keeps_all c counts =
    dec_each (λ p. (m : ℕ) → m < suc (event_count c p) → (q : ℕ) → q < length c → (n : ℕ) → n < suc (event_count c q)
    → KeepsMessage c counts (place p m) (place q n)) (λ p. dec_each (λ m. (q : ℕ) → q < length c → (n : ℕ)
    → n < suc (event_count c q) → KeepsMessage c counts (place p m) (place q n))
    (λ m. dec_each (λ q. (n : ℕ) → n < suc (event_count c q) → KeepsMessage c counts (place p m) (place q n))
    (λ q. dec_each (λ n. KeepsMessage c counts (place p m) (place q n))
    (λ n. dec_keeps c counts (place p m) (place q n)) (suc (event_count c q))) (length c)) (suc (event_count c p)))
    (length c)

-- counts that keep messages are closed
pub closed_from_messages : (c : Computation) (counts : List ℕ)
    → ((s r : Place) → IsMessage c s r → Includes counts r → Includes counts s) → (e f : Place) → HappenedBefore c e f
    → Includes counts f → Includes counts e
closed_from_messages c counts keeps = closed_from_steps c (Includes counts) step
  where
    step : (e f : Place) → LeadsTo c e f → Includes counts f → Includes counts e
    step e f (inl (is, at, same, less)) i =
        let a : 1 ≤ e.number = is.0 in
        let b : f.number ≤ get_or counts f.process 0 = i.1 in
        let g : get_or counts e.process 0 ≡ get_or counts f.process 0 = ap (λ (p : ℕ). get_or counts p 0) same in
        (a, omega arith)
    step e f (inr m) i = keeps e f m i

keeps_each : (c : Computation) (counts : List ℕ) → KeepsMessages c counts → (s r : Place) → IsMessage c s r
    → Includes counts r → Includes counts s
unfolding KeepsMessages KeepsMessage
keeps_each c counts all s r m =
    let is : IsEvent c s = event_from_kind c s (Send m.0) m.1 in
    let at : IsEvent c r = event_from_kind c r (Receive m.0) m.2 in
    let a : s.number ≤ event_count c s.process = is.1 in
    let b : r.number ≤ event_count c r.process = at.1 in
    all s.process (process_in_range c s is) s.number (omega arith) r.process (process_in_range c r at) r.number
    (omega arith) m

dec_fits : (c : Computation) (counts : List ℕ) → Dec (FitsProcesses c counts)
dec_fits c counts =
    go (dec_eq (length counts) (length c))
    (dec_each (λ p. get_or counts p 0 ≤ event_count c p) (λ p. dec_at_most (get_or counts p 0) (event_count c p))
    (length c))
  where
    go : Dec (length counts ≡ length c) → Dec ((p : ℕ) → p < length c → get_or counts p 0 ≤ event_count c p)
        → Dec (FitsProcesses c counts)
    go (no h) d = no (λ w. h w.one_each)
    go (yes l) (no h) = no (λ w. h (λ p lt. w.within p))
    go (yes l) (yes each) = yes (record { one_each = l; within = λ p. pick p (cases_lt p (length c)) })
      where
        pick : (p : ℕ) → (p < length c) ⊎ (length c ≤ p) → get_or counts p 0 ≤ event_count c p
        pick p (inl lt) = each p lt
        pick p (inr le) = let t : get_or counts p 0 ≡ 0 = get_or_past counts p 0 (omega arith) in omega arith

pub dec_consistent : (c : Computation) (counts : List ℕ) → Dec (IsConsistent c counts)
unfolding KeepsMessages KeepsMessage
dec_consistent c counts = go (dec_fits c counts) (dec_keeps_all c counts)
  where
    go : Dec (FitsProcesses c counts) → Dec (KeepsMessages c counts) → Dec (IsConsistent c counts)
    go (no h) d = no (λ w. h w.fits)
    go (yes f) (yes all) = yes (record { fits = f; closed = closed_from_messages c counts (keeps_each c counts all) })
    go (yes f) (no h) =
        no (λ w. h (λ p lp m lm q lq n ln msg i.
        w.closed (place p m) (place q n) (step_happens c (place p m) (place q n) (inr msg)) i))
