-- Messages between neighbors show the order of the kept events.
use Rattle.std.proofs.Common.{◌≡◌, ℕ, zero, suc, ◌+◌, ◌<◌, ◌≤◌, Bool, true, false, IsTrue, List, length, get_or, refl, sym, ap, ◌∙◌, subst, inl, inr, ◌⊎◌, arith}
use Rattle.std.proofs.lemmas.Bool.{cases_eq, cases_lt, false≢true}
use Rattle.def_model.specs.Events.{Computation, Place, place, IsEvent, event_count}
use Rattle.def_model.specs.Messages.{IsMessage}
use Rattle.def_model.specs.Order.{HappenedBefore, HasNoCycle, IsUpTo, LeadsTo}
use Rattle.def_model.specs.Cuts.{Includes, IsConsistent, empty_cut}
use Rattle.def_model.proofs.Chains.{events_of_happens, events_of_step, happens_after, happens_before_later, happens_elim, happens_transitive, same_place, step_happens}
use Rattle.def_model.proofs.Counts.{empty_at, full_at}
use Rattle.def_model.proofs.Decisions.{dec_both, dec_some}
use Rattle.def_model.proofs.Steps.{empty_consistent}
use Rattle.def_long.specs.Windows.{Window, whole}
use Rattle.def_long.specs.Kept.{IsKept}
use Rattle.def_long.specs.Laws.{MessagesKeepOrder, MessagesMakeNoCycle}
use Rattle.def_long.specs.MadeMessages.{AreNeighbors, KeepsOrderByMessages, SendsTo}
use Rattle.def_long.proofs.EventOrders.{AllInOrder, all_in_order, dec_happens, earlier_first, listed, number_of}
use Rattle.def_long.proofs.Truths.{kept_part, kept_part_is}
use Rattle.def_long.proofs.WindowCuts.{full_consistent}

-- a kept event is an event of the run
pub event_of_kept : (w : Window) (kept : Place → Bool) (e : Place) → IsConsistent w.run w.to → IsKept w kept e
    → IsEvent w.run e
event_of_kept w kept e ok is =
    let low : 1 ≤ e.number = is.before.0 in
    let high : e.number ≤ get_or w.to e.process 0 = is.before.1 in
    let most : get_or w.to e.process 0 ≤ event_count w.run e.process = ok.fits.within e.process in
    (low, omega arith)

dec_true : (b : Bool) → Dec (IsTrue b)
dec_true true = yes refl
dec_true false = no (λ t. false≢true t)

module _ (w w' : Window) (kept kept' : Place → Bool) (made : KeepsOrderByMessages w kept w' kept')
    (ok : IsConsistent w.run w.to) (first' : IsConsistent w'.run w'.from) (last' : IsConsistent w'.run w'.to) where
  -- ---- from the order of the images to that of the events

  -- At or after d, in its process, comes the image of a kept event that happened before f, or d comes before the image
  -- of f in that process.
  abbrev ComesTo : Place → Place → Type 0
  ComesTo f d =
      (Includes w'.from d → ⊥) → (x : Place) × IsKept w kept x × ((made.image x).process ≡ d.process)
      × (d.number ≤ (made.image x).number)
      × (HappenedBefore w.run x f ⊎ ((x ≡ f) × (d.number < (made.image f).number)))

  -- what an event happened before that isn't in the window's first cut isn't there either
  goes_on : (d m : Place) → LeadsTo w'.run d m → (Includes w'.from d → ⊥) → Includes w'.from m → ⊥
  goes_on d m s out i = out (first'.closed d m (step_happens w'.run d m s) i)

  -- a send is the image of its origin, which happened before each kept event that the message comes to
  of_message : (f d m x : Place) → IsMessage w'.run d m → IsKept w' kept' d → IsKept w kept x
      → ((made.image x).process ≡ m.process) → m.number ≤ (made.image x).number
      → HappenedBefore w.run (made.origin d) x
  of_message f d m x msg is_d is_x same le =
      made.message_in_order (made.origin d) x (made.origin_kept d is_d) is_x (
        m,
        subst (λ (y : Place). IsMessage w'.run y m) (sym (made.image_of_origin d is_d)) msg,
        sym same,
        le,
      )

  last_comes : (f : Place) → IsKept w kept f → (d : Place) → LeadsTo w'.run d (made.image f) → ComesTo f d
  last_comes f is_f d (inl later) out =
      let lt : d.number < (made.image f).number = later.3 in
      (f, is_f, sym later.2, omega arith, inr (refl, lt))
  last_comes f is_f d (inr msg) out =
      let is_d : IsKept w' kept' d = made.sender_is_kept d (made.image f) msg out (made.image_kept f is_f).before in
      let at : made.image (made.origin d) ≡ d = made.image_of_origin d is_d in
      let n : (made.image (made.origin d)).number ≡ d.number = ap (λ (y : Place). y.number) at in (
        made.origin d,
        made.origin_kept d is_d,
        ap (λ (y : Place). y.process) at,
        omega arith,
        inl (of_message f d (made.image f) f msg is_d is_f refl (omega arith)),
      )

  more_comes : (f : Place) → IsKept w kept f → (d m : Place) → LeadsTo w'.run d m
      → HappenedBefore w'.run m (made.image f) → ComesTo f m → ComesTo f d
  more_comes f is_f d m s h rest out = go s (rest (goes_on d m s out))
    where
      go : LeadsTo w'.run d m → (x : Place) × IsKept w kept x × ((made.image x).process ≡ m.process)
          × (m.number ≤ (made.image x).number)
          × (HappenedBefore w.run x f ⊎ ((x ≡ f) × (m.number < (made.image f).number)))
          → (x : Place) × IsKept w kept x × ((made.image x).process ≡ d.process)
          × (d.number ≤ (made.image x).number)
          × (HappenedBefore w.run x f ⊎ ((x ≡ f) × (d.number < (made.image f).number)))
      go (inl later) (x, is_x, same, le, order) =
          let lt : d.number < m.number = later.3 in
          (x, is_x, same ∙ sym later.2, omega arith, still order)
        where
          still : HappenedBefore w.run x f ⊎ ((x ≡ f) × (m.number < (made.image f).number))
              → HappenedBefore w.run x f ⊎ ((x ≡ f) × (d.number < (made.image f).number))
          still (inl b) = inl b
          still (inr (is, less)) = let lt : d.number < m.number = later.3 in inr (is, omega arith)
      go (inr msg) (x, is_x, same, le, order) =
          let at : made.image (made.origin d) ≡ d = made.image_of_origin d is_d in
          let n : (made.image (made.origin d)).number ≡ d.number = ap (λ (y : Place). y.number) at in (
            made.origin d,
            made.origin_kept d is_d,
            ap (λ (y : Place). y.process) at,
            omega arith,
            inl (on order),
          )
        where
          is_d : IsKept w' kept' d
          is_d =
              made.sender_is_kept d m msg out
              (last'.closed m (made.image f) h (made.image_kept f is_f).before)

          on : HappenedBefore w.run x f ⊎ ((x ≡ f) × (m.number < (made.image f).number))
              → HappenedBefore w.run (made.origin d) f
          on (inl b) =
              happens_transitive w.run (made.origin d) x f (of_message f d m x msg is_d is_x same le) b
          on (inr (is, less)) =
              subst (HappenedBefore w.run (made.origin d)) is (of_message f d m x msg is_d is_x same le)

  pub order_back : (e f : Place) → IsKept w kept e → IsKept w kept f
      → HappenedBefore w'.run (made.image e) (made.image f) → HappenedBefore w.run e f
  order_back e f is_e is_f h =
      go (happens_elim w'.run (made.image f) (ComesTo f) (last_comes f is_f) (more_comes f is_f) (made.image e) h
      (made.image_kept e is_e).after)
    where
      go : (x : Place) × IsKept w kept x × ((made.image x).process ≡ (made.image e).process)
          × ((made.image e).number ≤ (made.image x).number)
          × (HappenedBefore w.run x f ⊎ ((x ≡ f) × ((made.image e).number < (made.image f).number)))
          → HappenedBefore w.run e f
      go (x, is_x, same, le, order) = by (cases_lt e.number x.number) (cases_eq e.number x.number)
        where
          together : e.process ≡ x.process
          together = (made.same_process e x is_e is_x).1 (sym same)

          later : e.number < x.number → HappenedBefore w.run e x
          later lt =
              step_happens w.run e x
              (inl (event_of_kept w kept e ok is_e, event_of_kept w kept x ok is_x, together, lt))

          from_later : HappenedBefore w.run e x
              → HappenedBefore w.run x f ⊎ ((x ≡ f) × ((made.image e).number < (made.image f).number))
              → HappenedBefore w.run e f
          from_later b (inl c) = happens_transitive w.run e x f b c
          from_later b (inr (is, less)) = subst (HappenedBefore w.run e) is b

          from_same : e ≡ x
              → HappenedBefore w.run x f ⊎ ((x ≡ f) × ((made.image e).number < (made.image f).number))
              → HappenedBefore w.run e f
          from_same at (inl c) = subst (λ (y : Place). HappenedBefore w.run y f) (sym at) c
          from_same at (inr (is, less)) =
              absurd (let n : (made.image e).number ≡ (made.image f).number =
              ap (λ (y : Place). (made.image y).number) (at ∙ is) in omega arith)

          by : (e.number < x.number) ⊎ (x.number ≤ e.number) → (e.number ≡ x.number) ⊎ (e.number ≡ x.number → ⊥)
              → HappenedBefore w.run e f
          by (inl lt) d = from_later (later lt) order
          by (inr ge) (inl at) = from_same (same_place e x together at) order
          by (inr ge) (inr off) =
              absurd (let less : (made.image x).number < (made.image e).number =
              made.same_turn x e is_x is_e (sym together) (omega arith) in omega arith)

  -- ---- from the order of the events to that of the images

  module _ (acyclic : HasNoCycle w.run) (order : List Place) (all : AllInOrder w.run order) where
    at : ℕ → Place
    at = listed w.run acyclic order all

    from_message : (e f : Place) → IsKept w kept f → SendsTo w'.run (made.image e) (made.image f)
        → HappenedBefore w'.run (made.image e) (made.image f)
    from_message e f is_f (receipt, msg, same, le) =
        subst (HappenedBefore w'.run (made.image e))
        (same_place (place receipt.process (made.image f).number) (made.image f) same refl)
        (happens_before_later w'.run (made.image e) receipt (made.image f).number
        (step_happens w'.run (made.image e) receipt (inr msg)) le
        (subst (λ (p : ℕ). IsEvent w'.run (place p (made.image f).number)) (sym same)
        (event_of_kept w' kept' (made.image f) last' (made.image_kept f is_f))))

    -- in one process numbers say what happened before
    less_from_before : (e f : Place) → e.process ≡ f.process → HappenedBefore w.run e f → e.number < f.number
    less_from_before e f same h = go (cases_lt e.number f.number)
      where
        go : (e.number < f.number) ⊎ (f.number ≤ e.number) → e.number < f.number
        go (inl lt) = lt
        go (inr le) =
            absurd (let is : IsEvent w.run e × IsEvent w.run f = events_of_happens w.run e f h in
            acyclic e
            (subst (HappenedBefore w.run e) (same_place (place f.process e.number) e (sym same) refl)
            (happens_before_later w.run e f e.number h le
            (subst (λ (p : ℕ). IsEvent w.run (place p e.number)) same is.0))))

    from_neighbors : (e f : Place) → IsKept w kept e → IsKept w kept f → AreNeighbors w kept e f
        → HappenedBefore w'.run (made.image e) (made.image f)
    from_neighbors e f is_e is_f near = go (cases_eq e.process f.process)
      where
        go : (e.process ≡ f.process) ⊎ (e.process ≡ f.process → ⊥)
            → HappenedBefore w'.run (made.image e) (made.image f)
        go (inl same) =
            step_happens w'.run (made.image e) (made.image f) (inl (
              event_of_kept w' kept' (made.image e) last' (made.image_kept e is_e),
              event_of_kept w' kept' (made.image f) last' (made.image_kept f is_f),
              (made.same_process e f is_e is_f).0 same,
              made.same_turn e f is_e is_f same (less_from_before e f same near.before),
            ))
        go (inr apart) = from_message e f is_f (made.message_to_neighbor e f is_e is_f near apart)

    abbrev Lies : Place → Place → ℕ → Type 0
    Lies e f k = IsTrue (kept_part w kept w.to (at k))
        × (HappenedBefore w.run e (at k) × HappenedBefore w.run (at k) f)

    some_lies : (e f : Place) → Dec ((k : ℕ) × (k < length order) × Lies e f k)
    unfolding at
    some_lies e f =
        dec_some (Lies e f) (λ k. dec_both (dec_true (kept_part w kept w.to (at k)))
        (dec_both (dec_happens w.run acyclic order all e (at k)) (dec_happens w.run acyclic order all (at k) f)))
        (length order)

    onward : (n i j : ℕ) → i < length order → j < length order → j ≤ i + n → IsKept w kept (at i)
        → IsKept w kept (at j) → HappenedBefore w.run (at i) (at j)
        → HappenedBefore w'.run (made.image (at i)) (made.image (at j))
    unfolding at
    onward zero i j in_i in_j few is_i is_j h =
        absurd (let lt : i < j = earlier_first w.run acyclic order all i j in_i in_j h in omega arith)
    onward (suc n) i j in_i in_j few is_i is_j h = go (some_lies (at i) (at j)) (onward n)
      where
        none_lies : ((k : ℕ) × (k < length order) × Lies (at i) (at j) k → ⊥) → (d : Place) → IsKept w kept d
            → HappenedBefore w.run (at i) d → HappenedBefore w.run d (at j) → ⊥
        none_lies none d is_d b c = of (number_of w.run acyclic order all d (events_of_happens w.run (at i) d b).1)
          where
            of : (k : ℕ) × (k < length order) × (at k ≡ d) → ⊥
            of (k, lt, same) =
                none (
                  k,
                  lt,
                  (
                    subst (λ (x : Place). IsTrue (kept_part w kept w.to x)) (sym same)
                        ((kept_part_is w kept w.to d).1 is_d),
                    (
                      subst (HappenedBefore w.run (at i)) (sym same) b,
                      subst (λ (x : Place). HappenedBefore w.run x (at j)) (sym same) c,
                    ),
                  ),
                )

        go : Dec ((k : ℕ) × (k < length order) × Lies (at i) (at j) k)
            → ((i j : ℕ) → i < length order → j < length order → j ≤ i + n → IsKept w kept (at i)
            → IsKept w kept (at j) → HappenedBefore w.run (at i) (at j)
            → HappenedBefore w'.run (made.image (at i)) (made.image (at j)))
            → HappenedBefore w'.run (made.image (at i)) (made.image (at j))
        go (no none) rest =
            from_neighbors (at i) (at j) is_i is_j (record { before = h; none_between = none_lies none })
        go (yes (k, in_k, (t, (b, c)))) rest =
            let low : i < k = earlier_first w.run acyclic order all i k in_i in_k b in
            let high : k < j = earlier_first w.run acyclic order all k j in_k in_j c in
            let is_k : IsKept w kept (at k) = (kept_part_is w kept w.to (at k)).0 t in
            happens_transitive w'.run (made.image (at i)) (made.image (at k)) (made.image (at j))
            (rest i k in_i in_k (omega arith) is_i is_k b) (rest k j in_k in_j (omega arith) is_k is_j c)

    pub order_onward : (e f : Place) → IsKept w kept e → IsKept w kept f → HappenedBefore w.run e f
        → HappenedBefore w'.run (made.image e) (made.image f)
    unfolding at
    order_onward e f is_e is_f h =
        go (number_of w.run acyclic order all e (event_of_kept w kept e ok is_e))
        (number_of w.run acyclic order all f (event_of_kept w kept f ok is_f))
      where
        go : (i : ℕ) × (i < length order) × (at i ≡ e) → (j : ℕ) × (j < length order) × (at j ≡ f)
            → HappenedBefore w'.run (made.image e) (made.image f)
        go (i, in_i, is_i) (j, in_j, is_j) =
            subst (λ (x : Place). HappenedBefore w'.run (made.image x) (made.image f)) is_i
            (subst (λ (x : Place). HappenedBefore w'.run (made.image (at i)) (made.image x)) is_j
            (onward j i j in_i in_j (omega arith) (subst (IsKept w kept) (sym is_i) is_e)
            (subst (IsKept w kept) (sym is_j) is_f)
            (subst (λ (x : Place). HappenedBefore w.run x (at j)) (sym is_i)
            (subst (HappenedBefore w.run e) (sym is_j) h))))

pub messages_keep_order : MessagesKeepOrder
messages_keep_order w w' kept kept' is is' made = (
  record {
    image = made.image;
    origin = made.origin;
    image_kept = made.image_kept;
    origin_kept = made.origin_kept;
    origin_of_image = made.origin_of_image;
    image_of_origin = made.image_of_origin;
    same_order = λ e f is_e is_f. (onward_in e f is_e is_f, back e f is_e is_f);
  },
  refl,
  refl,
)
  where
    onward_in : (e f : Place) → IsKept w kept e → IsKept w kept f → HappenedBefore w.run e f
        → HappenedBefore w'.run (made.image e) (made.image f)
    onward_in e f is_e is_f h =
        let all : (order : List Place) × AllInOrder w.run order = all_in_order w.run is.no_cycle in
        order_onward w w' kept kept' made is.last.consistent is'.first.consistent is'.last.consistent is.no_cycle
        all.0 all.1 e f is_e is_f h

    back : (e f : Place) → IsKept w kept e → IsKept w kept f → HappenedBefore w'.run (made.image e) (made.image f)
        → HappenedBefore w.run e f
    back e f is_e is_f h =
        order_back w w' kept kept' made is.last.consistent is'.first.consistent is'.last.consistent e f is_e is_f h

-- ---- no cycle

-- What happened before an event is an earlier one of its process, or comes at or before the send of a message that is
-- received at or before the event.
abbrev ByNumbersOrMessage : Computation → Place → Place → Type 0
ByNumbersOrMessage c e f = ((e.process ≡ f.process) × (e.number < f.number))
    ⊎ ((send : Place) × (receipt : Place) × IsMessage c send receipt × IsUpTo c e send × IsUpTo c receipt f)

numbers_or_message : (c : Computation) (e f : Place) → HappenedBefore c e f → ByNumbersOrMessage c e f
numbers_or_message c e f h = happens_elim c f (λ d. ByNumbersOrMessage c d f) last more e h
  where
    last : (d : Place) → LeadsTo c d f → ByNumbersOrMessage c d f
    last d (inl later) = inl (later.2, later.3)
    last d (inr msg) = inr (d, f, msg, inl refl, inl refl)

    more : (d m : Place) → LeadsTo c d m → HappenedBefore c m f → ByNumbersOrMessage c m f
        → ByNumbersOrMessage c d f
    more d m (inr msg) h rest = inr (d, m, msg, inl refl, inr h)
    more d m (inl later) h (inl (same, less)) =
        let lt : d.number < m.number = later.3 in inl (later.2 ∙ same, omega arith)
    more d m (inl later) h (inr (send, receipt, msg, up, down)) = inr (send, receipt, msg, inr (by up), down)
      where
        by : IsUpTo c m send → HappenedBefore c d send
        by (inl same) = subst (HappenedBefore c d) same (step_happens c d m (inl later))
        by (inr b) = happens_after c d m send (inl later) b

pub messages_make_no_cycle : MessagesMakeNoCycle
messages_make_no_cycle w c kept kept' is made e h = go (numbers_or_message c e e h)
  where
    round : (send receipt : Place) → IsMessage c send receipt → IsUpTo c e send → IsUpTo c receipt e
        → HappenedBefore c send send
    round send receipt msg up down = on up (from down)
      where
        from : IsUpTo c receipt e → HappenedBefore c send e
        from (inl same) = subst (HappenedBefore c send) same (step_happens c send receipt (inr msg))
        from (inr b) = happens_after c send receipt e (inr msg) b

        on : IsUpTo c e send → HappenedBefore c send e → HappenedBefore c send send
        on (inl same) b = subst (HappenedBefore c send) same b
        on (inr a) b = happens_transitive c send e send b a

    go : ByNumbersOrMessage c e e → ⊥
    go (inl (same, less)) = omega arith
    go (inr (send, receipt, msg, up, down)) = by (made.image_of_origin send is_kept)
      where
        cycle : HappenedBefore c send send
        cycle = round send receipt msg up down

        out : Includes (empty_cut c) send → ⊥
        out i =
            let low : 1 ≤ send.number = i.0 in
            let none : get_or (empty_cut c) send.process 0 ≡ 0 = empty_at c send.process in
            let high : send.number ≤ get_or (empty_cut c) send.process 0 = i.1 in omega arith

        is_receipt : IsEvent c receipt
        is_receipt = (events_of_step c send receipt (inr msg)).1

        is_kept : IsKept (whole c) kept' send
        is_kept = made.sender_is_kept send receipt msg out (is_receipt.0, rw full_at is_receipt.1)

        by : made.image (made.origin send) ≡ send → ⊥
        by at =
            is.no_cycle (made.origin send)
            (order_back w (whole c) kept kept' made is.last.consistent (empty_consistent c) (full_consistent c)
            (made.origin send) (made.origin send) (made.origin_kept send is_kept) (made.origin_kept send is_kept)
            (subst (λ (x : Place). HappenedBefore c x x) (sym at) cycle))
