-- Stuck events: a set in which each event has one that leads to it, and the one cycle that is reported.
use Rattle.std.proofs.Common.{◌≡◌, ℕ, zero, suc, ◌+◌, ◌-◌, ◌*◌, ◌<◌, ◌≤◌, Bool, true, false, IsTrue, List, [], ◌∷◌, ◌++◌, length, get_or, drop, Some, refl, sym, ap, ◌∙◌, subst, inl, inr, ◌⊎◌, ◌↔◌, arith, length-append, drop_at}
use Rattle.std.proofs.lemmas.Bool.{cases_order}
use Rattle.std.proofs.lemmas.List.{get_or-append-add, get_or_append_left, get_or_at, length_push, same_from_push, nil_from_length, append-nil}
use Rattle.std.proofs.lemmas.List.Sums.{get_or-le-sum_by}
use Rattle.std.proofs.lemmas.Nat.{mul-add-lt, same_from_place}
use Rattle.std.proofs.lemmas.Option.{same_Some}
use Rattle.def_model.specs.Events.{Send, Receive, Computation, Place, place, IsEvent, Linked, first_of, event_count, kind_at}
use Rattle.def_model.specs.Messages.{IsMessage, HasOneSender}
use Rattle.def_model.specs.Order.{LeadsTo, HappenedBefore, HasNoCycle, IsStuck, IsFirstStuck, IsLeastStuck, GoesBackTo, IsReportedCycle}
use Rattle.def_model.specs.Cuts.{full_cut, total}
use Rattle.def_model.proofs.Lists.{at_first}
use Rattle.def_model.proofs.Counts.{full_at, length_full}
use Rattle.def_model.proofs.Chains.{same_place, step_happens, happens_elim, happens_transitive, events_of_step}
use Rattle.def_model.proofs.Consistency.{process_in_range}
use Rattle.def_model.proofs.Pigeonhole.{two_equal}

-- the last step of a chain
pub last_step : (c : Computation) (e f : Place) → HappenedBefore c e f → (d : Place) × LeadsTo c d f
    × ((d ≡ e) ⊎ HappenedBefore c e d)
last_step c e f h =
    happens_elim c f (λ x. (d : Place) × LeadsTo c d f × ((d ≡ x) ⊎ HappenedBefore c x d)) (λ x s. (x, s, inl refl))
    more e h
  where
    more : (x m : Place) → LeadsTo c x m → HappenedBefore c m f → (d : Place) × LeadsTo c d f
        × ((d ≡ m) ⊎ HappenedBefore c m d) → (d : Place) × LeadsTo c d f × ((d ≡ x) ⊎ HappenedBefore c x d)
    more x m s r (d, leads, inl same) =
        (d, leads, inr (subst (λ (y : Place). HappenedBefore c x y) (sym same) (step_happens c x m s)))
    more x m s r (d, leads, inr after) = (d, leads, inr (happens_transitive c x m d (step_happens c x m s) after))

-- an event is stuck exactly if a stuck one leads to it
pub stuck_step : (c : Computation) (e : Place) → IsStuck c e ↔ ((d : Place) × LeadsTo c d e × IsStuck c d)
stuck_step c e = (to, from)
  where
    to : IsStuck c e → (d : Place) × LeadsTo c d e × IsStuck c d
    to (f, cycle, h) = go (last_step c f e h)
      where
        go : (d : Place) × LeadsTo c d e × ((d ≡ f) ⊎ HappenedBefore c f d) → (d : Place) × LeadsTo c d e × IsStuck c d
        go (d, s, inl same) = (d, s, (f, cycle, subst (λ (x : Place). HappenedBefore c f x) (sym same) cycle))
        go (d, s, inr after) = (d, s, (f, cycle, after))

    from : (d : Place) × LeadsTo c d e × IsStuck c d → IsStuck c e
    from (d, s, (f, cycle, h)) = (f, cycle, happens_transitive c f d e h (step_happens c d e s))

module _ (c : Computation) (S : Place → Bool) (back : (e : Place) → IsTrue (S e) → (d : Place) × LeadsTo c d e
    × IsTrue (S d)) where
  -- the places from which one goes back again and again
  chain : (e : Place) → IsTrue (S e) → ℕ → (d : Place) × IsTrue (S d)
  chain e t zero = (e, t)
  chain e t (suc n) = let b : (d : Place) × LeadsTo c d (chain e t n).0 × IsTrue (S d) =
      back (chain e t n).0 (chain e t n).1 in (b.0, b.2)

  chain_step : (e : Place) (t : IsTrue (S e)) (n : ℕ) → LeadsTo c (chain e t (suc n)).0 (chain e t n).0
  unfolding chain
  chain_step e t n = (back (chain e t n).0 (chain e t n).1).1

  chain_happens : (e : Place) (t : IsTrue (S e)) (i k : ℕ) → HappenedBefore c (chain e t (suc k + i)).0 (chain e t i).0
  chain_happens e t i zero =
      let n : suc zero + i ≡ suc i = omega arith in
      subst (λ (m : ℕ). HappenedBefore c (chain e t m).0 (chain e t i).0) (sym n)
      (step_happens c (chain e t (suc i)).0 (chain e t i).0 (chain_step e t i))
  chain_happens e t i (suc k) =
      let n : suc (suc k) + i ≡ suc (suc k + i) = omega arith in
      subst (λ (m : ℕ). HappenedBefore c (chain e t m).0 (chain e t i).0) (sym n)
      (happens_transitive c (chain e t (suc (suc k + i))).0 (chain e t (suc k + i)).0 (chain e t i).0
      (step_happens c (chain e t (suc (suc k + i))).0 (chain e t (suc k + i)).0 (chain_step e t (suc k + i)))
      (chain_happens e t i k))

  chain_later : (e : Place) (t : IsTrue (S e)) (i j : ℕ) → i < j → HappenedBefore c (chain e t j).0 (chain e t i).0
  chain_later e t i j lt =
      let n : suc (j - suc i) + i ≡ j = omega arith in
      subst (λ (m : ℕ). HappenedBefore c (chain e t m).0 (chain e t i).0) n (chain_happens e t i (j - suc i))

  -- a number for each event
  code : Place → ℕ
  code e = e.process * suc (total c) + e.number

  number_below : (e : Place) → IsEvent c e → e.number < suc (total c)
  number_below e is =
      let a : get_or (full_cut c) e.process 0 ≤ total c =
      get_or-le-sum_by (λ (x : ℕ). x) (full_cut c) e.process 0 (let l : length (full_cut c) ≡ length c =
      length_full c in let p : e.process < length c = process_in_range c e is in omega arith) in
      let b : get_or (full_cut c) e.process 0 ≡ event_count c e.process = full_at c e.process in
      let h : e.number ≤ event_count c e.process = is.1 in
      omega arith

  code_below : (e : Place) → IsEvent c e → code e < suc (total c) * length c
  unfolding code
  code_below e is =
      mul-add-lt e.process (suc (total c)) e.number (length c) (process_in_range c e is) (number_below e is)

  code_same : (e f : Place) → IsEvent c e → IsEvent c f → code e ≡ code f → e ≡ f
  unfolding code
  code_same e f is at same =
      let w : (e.process ≡ f.process) × (e.number ≡ f.number) =
      same_from_place e.process e.number f.process f.number (suc (total c)) (number_below e is) (number_below f at)
      same in
      same_place e f w.0 w.1

  pub stuck_from_set : (e : Place) → IsTrue (S e) → IsStuck c e
  unfolding chain
  stuck_from_set e t =
      go (two_equal (suc (total c) * length c) (λ i. code (chain e t i).0) (λ i le. code_below (chain e t i).0 (is i)))
    where
      is : (i : ℕ) → IsEvent c (chain e t i).0
      is i = (events_of_step c (chain e t (suc i)).0 (chain e t i).0 (chain_step e t i)).1

      at_start : (i : ℕ) → (chain e t i).0 ≡ (chain e t i).0
      at_start i = refl

      go : (i : ℕ) × (j : ℕ) × (i < j) × (j ≤ suc (total c) * length c) × (code (chain e t i).0 ≡ code (chain e t j).0)
          → IsStuck c e
      go (i, j, lt, le, same) =
          let x : (chain e t i).0 ≡ (chain e t j).0 = code_same (chain e t i).0 (chain e t j).0 (is i) (is j) same in
          let cycle : HappenedBefore c (chain e t j).0 (chain e t j).0 =
          subst (λ (y : Place). HappenedBefore c (chain e t j).0 y) x (chain_later e t i j lt) in
          ((chain e t j).0, cycle, chain_later e t 0 j (omega arith))

-- Each event that is left has one left that leads to it, and the others stand in an order: then those left are the
-- stuck ones.
pub stuck_exactly : (c : Computation) (S : Place → Bool) (rank : Place → ℕ)
    → ((e : Place) → IsTrue (S e) → (d : Place) × LeadsTo c d e × IsTrue (S d))
    → ((d e : Place) → LeadsTo c d e → S e ≡ false → (S d ≡ false) × (rank d < rank e)) → (e : Place) → IsTrue (S e)
    ↔ IsStuck c e
stuck_exactly c S rank back order e = (stuck_from_set c S back e, λ s. go (S e) refl s)
  where
    never : (n : ℕ) (x : Place) → rank x < n → S x ≡ false → ¬ IsStuck c x
    never zero x lt out s = omega arith
    never (suc n) x lt out s =
        let b : (d : Place) × LeadsTo c d x × IsStuck c d = (stuck_step c x).0 s in
        let o : (S b.0 ≡ false) × (rank b.0 < rank x) = order b.0 x b.1 out in
        let r : rank b.0 < rank x = o.1 in
        never n b.0 (omega arith) o.0 b.2

    go : (b : Bool) → S e ≡ b → IsStuck c e → IsTrue (S e)
    go true t s = t
    go false out s = absurd (never (suc (rank e)) e (omega arith) out s)

-- one send for a receipt
one_send : (c : Computation) (s t r : Place) → HasOneSender c → IsMessage c s r → IsMessage c t r → s ≡ t
one_send c s t r single (id, sends, receives, apart) (other, sends', receives', apart') =
    let same : id ≡ other = let e : Some (Receive id) ≡ Some (Receive other) = sym receives ∙ receives' in cc in
    let again : kind_at c t ≡ Some (Send id) = sends' ∙ ap (λ (x : List ℕ). Some (Send x)) (sym same) in
    order again (cases_order s.process t.process) (cases_order s.number t.number)
  where
    order : kind_at c t ≡ Some (Send id) → (s.process ≡ t.process) ⊎ ((s.process < t.process) ⊎ (t.process < s.process))
        → (s.number ≡ t.number) ⊎ ((s.number < t.number) ⊎ (t.number < s.number)) → s ≡ t
    order again (inl p) (inl n) = same_place s t p n
    order again (inl p) (inr (inl n)) = absurd (single t (id, s, again, sends, inr (p, n)))
    order again (inl p) (inr (inr n)) = absurd (single s (id, t, sends, again, inr (sym p, n)))
    order again (inr (inl p)) n = absurd (single t (id, s, again, sends, inl p))
    order again (inr (inr p)) n = absurd (single s (id, t, sends, again, inl p))

pub one_first_stuck : (c : Computation) (e f : Place) → e.process ≡ f.process → IsFirstStuck c e → IsFirstStuck c f
    → e ≡ f
one_first_stuck c e f same (se, le) (sf, lf) = go (cases_order e.number f.number)
  where
    go : (e.number ≡ f.number) ⊎ ((e.number < f.number) ⊎ (f.number < e.number)) → e ≡ f
    go (inl n) = same_place e f same n
    go (inr (inl h)) = absurd (lf e.number h (subst (λ (p : ℕ). IsStuck c (place p e.number)) same se))
    go (inr (inr h)) = absurd (le f.number h (subst (λ (p : ℕ). IsStuck c (place p f.number)) (sym same) sf))

one_back : (c : Computation) → HasOneSender c → (e f g : Place) → GoesBackTo c e f → GoesBackTo c e g → f ≡ g
one_back c single e f g (sf, (s, ms, ps)) (sg, (t, mt, pt)) =
    let same : s ≡ t = one_send c s t e single ms mt in
    one_first_stuck c f g (sym ps ∙ (ap (λ (x : Place). x.process) same ∙ pt)) sf sg

one_least : (c : Computation) (e f : Place) → IsLeastStuck c e → IsLeastStuck c f → e ≡ f
one_least c e f (fe, le) (ff, lf) = go (cases_order e.process f.process)
  where
    go : (e.process ≡ f.process) ⊎ ((e.process < f.process) ⊎ (f.process < e.process)) → e ≡ f
    go (inl p) = one_first_stuck c e f p fe ff
    go (inr (inl h)) = absurd (lf e h fe.0)
    go (inr (inr h)) = absurd (le f h ff.0)

-- of two lists that a relation with one successor links from one start, the shorter begins the longer
begins_longer : (R : Place → Place → Type 0) → ((e f g : Place) → R e f → R e g → f ≡ g)
    → (x : Place) (xs ys : List Place) → Linked R (x ∷ xs) → Linked R (x ∷ ys) → length xs ≤ length ys
    → (rest : List Place) × (ys ≡ xs ++ rest)
begins_longer R one x [] ys a b le = (ys, refl)
begins_longer R one x (y ∷ xs) [] a b le = absurd (omega arith)
begins_longer R one x (y ∷ xs) (z ∷ ys) a b le =
    let e : y ≡ z = one x y z a.0 b.0 in
    let r : (rest : List Place) × (ys ≡ xs ++ rest) =
    begins_longer R one y xs ys a.1 (subst (λ (w : Place). Linked R (w ∷ ys)) (sym e) b.1) (omega arith) in
    (r.0, let f : ys ≡ xs ++ r.0 = r.1 in cc)

-- the place at which the cycle begins is in the list of places taken
start_at : (before cycle : List Place) (s d : Place) → first_of cycle ≡ Some s
    → (get_or (before ++ cycle) (length before) d ≡ s) × (length before < length (before ++ cycle))
start_at before cycle s d e =
    let w : (get_or cycle 0 d ≡ s) × (0 < length cycle) = at_first cycle s d e in
    let z : length before + 0 ≡ length before = omega arith in
    let a : get_or (before ++ cycle) (length before + 0) d ≡ get_or cycle 0 d = get_or-append-add before cycle 0 d in
    let l : length (before ++ cycle) ≡ length before + length cycle = length-append before cycle in
    let p : 0 < length cycle = w.1 in
    (ap (λ (n : ℕ). get_or (before ++ cycle) n d) (sym z) ∙ (a ∙ w.0), omega arith)

taken_longer : (c : Computation) → HasOneSender c → (xs ys : List Place) (s t x : Place) → first_of xs ≡ Some x
    → first_of ys ≡ Some x → Linked (GoesBackTo c) (xs ++ s ∷ []) → Linked (GoesBackTo c) (ys ++ t ∷ [])
    → length xs ≤ length ys → (rest : List Place) × (ys ++ t ∷ [] ≡ xs ++ s ∷ [] ++ rest)
taken_longer c single [] ys s t x e f a b le = absurd (cc)
taken_longer c single (u ∷ xs) [] s t x e f a b le = absurd (cc)
taken_longer c single (u ∷ xs) (v ∷ ys) s t x e f a b le =
    let same : v ≡ u = same_Some v x f ∙ sym (same_Some u x e) in
    let l : length (xs ++ s ∷ []) ≡ length xs + 1 = length_push xs s in
    let m : length (ys ++ t ∷ []) ≡ length ys + 1 = length_push ys t in
    let r : (rest : List Place) × (ys ++ t ∷ [] ≡ xs ++ s ∷ [] ++ rest) =
    begins_longer (GoesBackTo c) (one_back c single) u (xs ++ s ∷ []) (ys ++ t ∷ []) a
    (subst (λ (w : Place). Linked (GoesBackTo c) (w ∷ (ys ++ t ∷ []))) same b) (omega arith) in
    (r.0, let g : ys ++ t ∷ [] ≡ xs ++ s ∷ [] ++ r.0 = r.1 in cc)

-- the shorter list of places taken has no process twice only if it is no shorter
not_shorter : (c : Computation) → HasOneSender c → (a b : List Place)
    → (x : IsReportedCycle c a) (y : IsReportedCycle c b) → length (x.before ++ a) < length (y.before ++ b) → ⊥
not_shorter c single a b x y lt =
    let same : y.first ≡ x.first = one_least c y.first x.first y.least x.least in
    let f : first_of (y.before ++ b) ≡ Some x.first = y.begins ∙ ap (λ (e : Place). Some e) same in
    let r : (rest : List Place) × (y.before ++ b ++ y.start ∷ [] ≡ x.before ++ a ++ x.start ∷ [] ++ rest) =
    taken_longer c single (x.before ++ a) (y.before ++ b) x.start y.start x.first x.begins f x.steps y.steps
    (omega arith) in
    let at : (get_or (x.before ++ a) (length x.before) x.start ≡ x.start) × (length x.before < length (x.before ++ a)) =
    start_at x.before a x.start x.start x.starts in
    let early : length x.before < length (x.before ++ a) = at.1 in
    let longer : length (x.before ++ a ++ x.start ∷ []) ≡ length (x.before ++ a) + 1 =
    length_push (x.before ++ a) x.start in
    let first_in : get_or (y.before ++ b) (length x.before) x.start ≡ x.start =
    sym (get_or_append_left (y.before ++ b) (y.start ∷ []) x.start (length x.before) (omega arith))
    ∙ (ap (λ (l : List Place). get_or l (length x.before) x.start) r.1
    ∙ (get_or_append_left (x.before ++ a ++ x.start ∷ []) r.0 x.start (length x.before) (omega arith)
    ∙ (get_or_append_left (x.before ++ a) (x.start ∷ []) x.start (length x.before) early ∙ at.0))) in
    let second_in : get_or (y.before ++ b) (length (x.before ++ a)) x.start ≡ x.start =
    sym (get_or_append_left (y.before ++ b) (y.start ∷ []) x.start (length (x.before ++ a)) lt)
    ∙ (ap (λ (l : List Place). get_or l (length (x.before ++ a)) x.start) r.1
    ∙ (get_or_append_left (x.before ++ a ++ x.start ∷ []) r.0 x.start (length (x.before ++ a)) (omega arith)
    ∙ get_or_at (x.before ++ a) x.start [] x.start (length (x.before ++ a)) refl)) in
    y.once (length x.before) (length (x.before ++ a)) x.start early lt
    (ap (λ (e : Place). e.process) (first_in ∙ sym second_in))

pub one_cycle : (c : Computation) (a b : List Place) → HasOneSender c → IsReportedCycle c a → IsReportedCycle c b
    → a ≡ b
one_cycle c a b single x y = go (cases_order (length (x.before ++ a)) (length (y.before ++ b)))
  where
    go : (length (x.before ++ a) ≡ length (y.before ++ b))
        ⊎ ((length (x.before ++ a) < length (y.before ++ b)) ⊎ (length (y.before ++ b) < length (x.before ++ a)))
        → a ≡ b
    go (inr (inl lt)) = absurd (not_shorter c single a b x y lt)
    go (inr (inr lt)) = absurd (not_shorter c single b a y x lt)
    go (inl l) = here (same_from_push (y.before ++ b) (x.before ++ a) y.start x.start whole)
      where
        whole : y.before ++ b ++ y.start ∷ [] ≡ x.before ++ a ++ x.start ∷ []
        whole =
            let same : y.first ≡ x.first = one_least c y.first x.first y.least x.least in
            let f : first_of (y.before ++ b) ≡ Some x.first = y.begins ∙ ap (λ (e : Place). Some e) same in
            let r : (rest : List Place) × (y.before ++ b ++ y.start ∷ [] ≡ x.before ++ a ++ x.start ∷ [] ++ rest) =
            taken_longer c single (x.before ++ a) (y.before ++ b) x.start y.start x.first x.begins f x.steps y.steps
            (omega arith) in
            let m : length (y.before ++ b ++ y.start ∷ []) ≡ length (y.before ++ b) + 1 =
            length_push (y.before ++ b) y.start in
            let n : length (x.before ++ a ++ x.start ∷ []) ≡ length (x.before ++ a) + 1 =
            length_push (x.before ++ a) x.start in
            let k : length (x.before ++ a ++ x.start ∷ [] ++ r.0) ≡ length (x.before ++ a ++ x.start ∷ [])
            + length r.0 = length-append (x.before ++ a ++ x.start ∷ []) r.0 in
            let j : length (y.before ++ b ++ y.start ∷ []) ≡ length (x.before ++ a ++ x.start ∷ [] ++ r.0) =
            ap length r.1 in
            let none : r.0 ≡ [] = nil_from_length r.0 (omega arith) in
            r.1 ∙ (ap (λ (rest : List Place). x.before ++ a ++ x.start ∷ [] ++ rest) none
            ∙ append-nil (x.before ++ a ++ x.start ∷ []))

        here : (y.before ++ b ≡ x.before ++ a) × (y.start ≡ x.start) → a ≡ b
        here (all, start) = place_of (cases_order (length x.before) (length y.before))
          where
            x_at : (get_or (x.before ++ a) (length x.before) x.start ≡ x.start)
                × (length x.before < length (x.before ++ a))
            x_at = start_at x.before a x.start x.start x.starts

            y_at : (get_or (y.before ++ b) (length y.before) x.start ≡ y.start)
                × (length y.before < length (y.before ++ b))
            y_at = start_at y.before b y.start x.start y.starts

            y_in : get_or (x.before ++ a) (length y.before) x.start ≡ x.start
            y_in = ap (λ (l : List Place). get_or l (length y.before) x.start) (sym all) ∙ (y_at.0 ∙ start)

            place_of : (length x.before ≡ length y.before)
                ⊎ ((length x.before < length y.before) ⊎ (length y.before < length x.before)) → a ≡ b
            place_of (inl n) =
                sym (drop_at x.before a (length x.before) refl)
                ∙ (ap (λ (l : List Place). drop (length x.before) l) (sym all)
                ∙ drop_at y.before b (length x.before) (sym n))
            place_of (inr (inl lt)) =
                let end : length y.before < length (y.before ++ b) = y_at.1 in
                let same_length : length (x.before ++ a) ≡ length (y.before ++ b) = l in
                absurd (x.once (length x.before) (length y.before) x.start lt (omega arith)
                (ap (λ (e : Place). e.process) (x_at.0 ∙ sym y_in)))
            place_of (inr (inr lt)) =
                let end : length x.before < length (x.before ++ a) = x_at.1 in
                absurd (x.once (length y.before) (length x.before) x.start lt end
                (ap (λ (e : Place). e.process) (y_in ∙ sym x_at.0)))

-- the first stuck event of a process is a receipt whose send is stuck
pub stuck_receipt : (c : Computation) (e : Place) → IsFirstStuck c e → (send : Place) × IsMessage c send e
    × IsStuck c send
stuck_receipt c e (stuck, first) = go ((stuck_step c e).0 stuck)
  where
    go : (d : Place) × LeadsTo c d e × IsStuck c d → (send : Place) × IsMessage c send e × IsStuck c send
    go (d, inr message, s) = (d, message, s)
    go (d, inl (is, at, same, less), s) =
        absurd (first d.number less (subst (λ (p : ℕ). IsStuck c (place p d.number)) same s))

pub none_stuck : (c : Computation) → HasNoCycle c ↔ ((e : Place) → ¬ IsStuck c e)
none_stuck c = (λ acyclic e s. acyclic s.0 s.1, λ none e h. none e (e, h, h))
