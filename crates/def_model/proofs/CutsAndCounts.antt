-- A cut and its counts determine each other.
use Rattle.std.proofs.Common.{◌≡◌, ◌≢◌, ℕ, zero, suc, ◌+◌, ◌<◌, ◌≤◌, Bool, true, false, cond, IsTrue, ◌&&◌, nat_le, List, [], ◌∷◌, length, get_or, map, refl, sym, ap, ◌∙◌, subst, inl, inr, ◌⊎◌, ◌↔◌, arith, add-zero}
use Rattle.std.proofs.lemmas.Bool.{cases_eq, cases_lt, cases_Bool, and_parts, and_from, leb-true, le-leb, false≢true, false_from_ne_true}
use Rattle.std.proofs.lemmas.List.{get_or_past}
use Rattle.std.proofs.lemmas.Grind.{same_number_lists}
use Rattle.def_model.specs.Events.{Computation, Place, place, IsEvent, event_count}
use Rattle.def_model.specs.Order.{HappenedBefore}
use Rattle.def_model.specs.Cuts.{IsCut, count_to, count_in, indices_from, counts_of, Includes, cut_of, FitsProcesses, IsConsistent, AddsEvent, AddsPlace, one_more}
use Rattle.def_model.proofs.Counts.{in_range, length_more, more_same, more_other}
use Rattle.def_model.proofs.Chains.{step_happens, same_place}

pub includes_from_test : (counts : List ℕ) (e : Place) → cut_of counts e ≡ true → Includes counts e
includes_from_test counts e h =
    let w : (nat_le 1 e.number ≡ true) × (nat_le e.number (get_or counts e.process 0) ≡ true) =
    and_parts (nat_le 1 e.number) (nat_le e.number (get_or counts e.process 0)) h in
    (leb-true 1 e.number w.0, leb-true e.number (get_or counts e.process 0) w.1)

pub test_from_includes : (counts : List ℕ) (e : Place) → Includes counts e → cut_of counts e ≡ true
test_from_includes counts e (low, high) =
    and_from (nat_le 1 e.number) (nat_le e.number (get_or counts e.process 0)) (le-leb 1 e.number low)
    (le-leb e.number (get_or counts e.process 0) high)

-- two tests that say yes of the same are one
same_tests : (a b : Bool) → (a ≡ true → b ≡ true) → (b ≡ true → a ≡ true) → a ≡ b
same_tests true b f g = sym (f refl)
same_tests false true f g = absurd (false≢true (g refl))
same_tests false false f g = refl

count_le : (test : ℕ → Bool) (n : ℕ) → count_to test n ≤ n
count_le test zero = omega arith
count_le test (suc n) = go (test (suc n)) (count_le test n)
  where
    go : (b : Bool) → count_to test n ≤ n → count_to test n + cond b 1 0 ≤ suc n
    go true h = omega arith
    go false h = omega arith

count_all : (test : ℕ → Bool) (n : ℕ) → ((m : ℕ) → 1 ≤ m → m ≤ n → test m ≡ true) → count_to test n ≡ n
count_all test zero all = refl
count_all test (suc n) all =
    let e : test (suc n) ≡ true = all (suc n) (omega arith) (omega arith) in
    let r : count_to test n ≡ n = count_all test n (λ m low high. all m low (omega arith)) in
    rw e (omega arith)

-- the count of a test that passes below each number at which it passes
count_is : (test : ℕ → Bool) (n : ℕ) → ((a b : ℕ) → 1 ≤ a → a < b → b ≤ n → test b ≡ true → test a ≡ true) → (m : ℕ)
    → 1 ≤ m → m ≤ n → (test m ≡ true) ↔ (m ≤ count_to test n)
count_is test zero closed m low high = absurd (omega arith)
count_is test (suc n) closed m low high =
    go (λ le. count_is test n (λ a b l lt h. closed a b l lt (omega arith)) m low le) (cases_Bool (test (suc n)))
  where
    last_or_not : (a : ℕ) → a ≤ suc n → (a ≡ suc n) ⊎ (a ≤ n)
    last_or_not a h = pick (cases_lt n a)
      where
        pick : (n < a) ⊎ (a ≤ n) → (a ≡ suc n) ⊎ (a ≤ n)
        pick (inl lt) = inl (omega arith)
        pick (inr le) = inr le

    go : (m ≤ n → (test m ≡ true) ↔ (m ≤ count_to test n)) → (test (suc n) ≡ true) ⊎ (test (suc n) ≡ false)
        → (test m ≡ true) ↔ (m ≤ count_to test n + cond (test (suc n)) 1 0)
    go rest (inl yes') =
        let every : (a : ℕ) → 1 ≤ a → a ≤ suc n → test a ≡ true = λ a l h. at a l (last_or_not a h) in
        let all : count_to test (suc n) ≡ suc n = count_all test (suc n) every in
        (λ t. rw all high, λ h. every m low high)
      where
        at : (a : ℕ) → 1 ≤ a → (a ≡ suc n) ⊎ (a ≤ n) → test a ≡ true
        at a l (inl e) = subst (λ (k : ℕ). test k ≡ true) (sym e) yes'
        at a l (inr le) = closed a (suc n) l (omega arith) (omega arith) yes'
    go rest (inr no') = at (last_or_not m high)
      where
        same : count_to test n + cond (test (suc n)) 1 0 ≡ count_to test n
        same = rw no' (omega arith)

        at : (m ≡ suc n) ⊎ (m ≤ n) → (test m ≡ true) ↔ (m ≤ count_to test n + cond (test (suc n)) 1 0)
        at (inl e) = (
          λ t. absurd (false≢true (sym no' ∙ subst (λ (k : ℕ). test k ≡ true) e t)),
          λ h. let b : count_to test n ≤ n = count_le test n in let s : count_to test n + cond (test (suc n)) 1 0
              ≡ count_to test n = same in absurd (omega arith),
        )
        at (inr le) =
            let r : (test m ≡ true) ↔ (m ≤ count_to test n) = rest le in
            (λ t. rw same (r.0 t), λ h. r.1 (rw same at h))

-- numbers that are not below the same ones are equal
pub same_bound : (x y n : ℕ) → x ≤ n → y ≤ n → ((k : ℕ) → 1 ≤ k → k ≤ n → k ≤ x → k ≤ y)
    → ((k : ℕ) → 1 ≤ k → k ≤ n → k ≤ y → k ≤ x) → x ≡ y
same_bound x y n hx hy f g = go (cases_lt x y) (cases_lt y x)
  where
    go : (x < y) ⊎ (y ≤ x) → (y < x) ⊎ (x ≤ y) → x ≡ y
    go (inl lt) r = let t : y ≤ x = g y (omega arith) hy (omega arith) in absurd (omega arith)
    go (inr le) (inl lt) = let t : x ≤ y = f x (omega arith) hx (omega arith) in absurd (omega arith)
    go (inr le) (inr ge) = omega arith

indices_length : {A : Type 0} (s : ℕ) (xs : List A) (f : ℕ → ℕ) → length (map f (indices_from s xs)) ≡ length xs
indices_length s [] f = refl
indices_length s (x ∷ xs) f = ap suc (indices_length (suc s) xs f)

indices_at : {A : Type 0} (s : ℕ) (xs : List A) (f : ℕ → ℕ) (p : ℕ) → p < length xs
    → get_or (map f (indices_from s xs)) p 0 ≡ f (s + p)
indices_at s [] f p lt = absurd (omega arith)
indices_at s (x ∷ xs) f zero lt = ap f (sym (add-zero s))
indices_at s (x ∷ xs) f (suc p) lt =
    let same : suc s + p ≡ s + suc p = omega arith in
    indices_at (suc s) xs f p (omega arith) ∙ ap f same

pub counts_length : (c : Computation) (cut : Place → Bool) → length (counts_of c cut) ≡ length c
counts_length c cut = indices_length 0 c (count_in c cut)

pub counts_at : (c : Computation) (cut : Place → Bool) (p : ℕ) → get_or (counts_of c cut) p 0 ≡ count_in c cut p
counts_at c cut p = go (cases_lt p (length c))
  where
    go : (p < length c) ⊎ (length c ≤ p) → get_or (counts_of c cut) p 0 ≡ count_in c cut p
    go (inl lt) = let z : 0 + p ≡ p = omega arith in indices_at 0 c (count_in c cut) p lt ∙ ap (count_in c cut) z
    go (inr le) =
        let l : length (counts_of c cut) ≡ length c = counts_length c cut in
        let past : get_or (counts_of c cut) p 0 ≡ 0 = get_or_past (counts_of c cut) p 0 (omega arith) in
        let none : event_count c p ≡ 0 = ap length (get_or_past c p [] le) in
        past ∙ sym (ap (λ (n : ℕ). count_to (λ k. cut (place p k)) n) none)

-- the counts of a cut include its events and no other place
pub counts_include : (c : Computation) (cut : Place → Bool) → IsCut c cut → (e : Place) → (cut e ≡ true)
    ↔ Includes (counts_of c cut) e
counts_include c cut is e = (to, from)
  where
    closed : (a b : ℕ) → 1 ≤ a → a < b → b ≤ event_count c e.process → cut (place e.process b) ≡ true
        → cut (place e.process a) ≡ true
    closed a b low lt high t =
        let l : 1 ≤ b = omega arith in
        let h : a ≤ event_count c e.process = omega arith in
        is.closed (place e.process a) (place e.process b)
        (step_happens c (place e.process a) (place e.process b) (inl ((low, h), (l, high), refl, lt))) t

    at : (m : ℕ) → 1 ≤ m → m ≤ event_count c e.process → (cut (place e.process m) ≡ true)
        ↔ (m ≤ count_in c cut e.process)
    at = count_is (λ n. cut (place e.process n)) (event_count c e.process) closed

    to : cut e ≡ true → Includes (counts_of c cut) e
    to t =
        let there : IsEvent c e = is.events e t in
        (there.0, rw counts_at ((at e.number there.0 there.1).0 t))

    from : Includes (counts_of c cut) e → cut e ≡ true
    from (low, high) =
        let high' : e.number ≤ count_in c cut e.process = rw (← counts_at c cut e.process) high in
        let b : count_in c cut e.process ≤ event_count c e.process =
        count_le (λ n. cut (place e.process n)) (event_count c e.process) in
        (at e.number low (omega arith)).1 high'

pub counts_of_cut : (c : Computation) (cut : Place → Bool) → IsCut c cut → IsConsistent c (counts_of c cut)
    × ((e : Place) → cut_of (counts_of c cut) e ≡ cut e)
counts_of_cut c cut is = (consistent, same)
  where
    consistent : IsConsistent c (counts_of c cut)
    consistent =
        record {
          fits = record {
            one_each = counts_length c cut;
            within =
                λ p. rw counts_at (count_le (λ n. cut (place p n)) (event_count c p));
          };
          closed = λ e f h i. (counts_include c cut is e).0 (is.closed e f h ((counts_include c cut is f).1 i));
        }

    same : (e : Place) → cut_of (counts_of c cut) e ≡ cut e
    same e =
        same_tests (cut_of (counts_of c cut) e) (cut e)
        (λ t. (counts_include c cut is e).1 (includes_from_test (counts_of c cut) e t))
        (λ t. test_from_includes (counts_of c cut) e ((counts_include c cut is e).0 t))

pub cut_of_consistent : (c : Computation) (counts : List ℕ) → IsConsistent c counts → IsCut c (cut_of counts)
cut_of_consistent c counts ok = record { events = events; closed = closed }
  where
    events : (e : Place) → IsTrue (cut_of counts e) → IsEvent c e
    events e t =
        let i : Includes counts e = includes_from_test counts e t in
        let h : e.number ≤ get_or counts e.process 0 = i.1 in
        let w : get_or counts e.process 0 ≤ event_count c e.process = ok.fits.within e.process in
        (i.0, omega arith)

    closed : (e f : Place) → HappenedBefore c e f → IsTrue (cut_of counts f) → IsTrue (cut_of counts e)
    closed e f h t = test_from_includes counts e (ok.closed e f h (includes_from_test counts f t))

-- consistent counts that include the same places are equal
pub same_from_includes : (c : Computation) (xs ys : List ℕ) → FitsProcesses c xs → FitsProcesses c ys
    → ((e : Place) → Includes xs e → Includes ys e) → ((e : Place) → Includes ys e → Includes xs e) → xs ≡ ys
same_from_includes c xs ys fx fy f g =
    same_number_lists xs ys (fx.one_each ∙ sym fy.one_each) (λ p lt.
    same_bound (get_or xs p 0) (get_or ys p 0) (event_count c p) (fx.within p) (fy.within p) (λ k low high h.
    (f (place p k) (low, h)).1) (λ k low high h. (g (place p k) (low, h)).1))

pub cut_of_counts : (c : Computation) (counts : List ℕ) → IsConsistent c counts → IsCut c (cut_of counts)
    × (counts_of c (cut_of counts) ≡ counts)
cut_of_counts c counts ok =
    let is : IsCut c (cut_of counts) = cut_of_consistent c counts ok in
    let back : IsConsistent c (counts_of c (cut_of counts))
    × ((e : Place) → cut_of (counts_of c (cut_of counts)) e ≡ cut_of counts e) =
    counts_of_cut c (cut_of counts) is in (
      is,
      same_from_includes c (counts_of c (cut_of counts)) counts back.0.fits ok.fits
          (λ e i. includes_from_test counts e ((counts_include c (cut_of counts) is e).1 i))
          (λ e i. (counts_include c (cut_of counts) is e).0 (test_from_includes counts e i)),
    )

pub adds_place : (old new : List ℕ) → AddsEvent old new → AddsPlace (cut_of old) (cut_of new)
adds_place old new (p, lt, is) = (
  place p (suc (get_or old p 0)),
  false_from_ne_true (cut_of old (place p (suc (get_or old p 0)))) out,
  test_from_includes new (place p (suc (get_or old p 0))) inside,
  others,
)
  where
    new_p : get_or new p 0 ≡ get_or old p 0 + 1
    new_p = ap (λ (xs : List ℕ). get_or xs p 0) is ∙ more_same old p lt

    new_q : (q : ℕ) → q ≢ p → get_or new q 0 ≡ get_or old q 0
    new_q q h = ap (λ (xs : List ℕ). get_or xs q 0) is ∙ more_other old p q h

    out : cut_of old (place p (suc (get_or old p 0))) ≡ true → ⊥
    out t =
        let i : Includes old (place p (suc (get_or old p 0))) =
        includes_from_test old (place p (suc (get_or old p 0))) t in
        let h : suc (get_or old p 0) ≤ get_or old p 0 = i.1 in
        omega arith

    inside : Includes new (place p (suc (get_or old p 0)))
    inside = let t : get_or new p 0 ≡ get_or old p 0 + 1 = new_p in let a : suc (get_or old p 0) ≤ get_or new p 0 =
        omega arith in (omega arith, a)

    others : (f : Place) → ¬ (f ≡ place p (suc (get_or old p 0))) → cut_of new f ≡ cut_of old f
    others f apart = go (cases_eq f.process p)
      where
        go : (f.process ≡ p) ⊎ (f.process ≡ p → ⊥) → cut_of new f ≡ cut_of old f
        go (inr h) = ap (λ (n : ℕ). nat_le 1 f.number && nat_le f.number n) (new_q f.process h)
        go (inl same) =
            let a : get_or new f.process 0 ≡ get_or new p 0 = ap (λ (q : ℕ). get_or new q 0) same in
            let b : get_or old f.process 0 ≡ get_or old p 0 = ap (λ (q : ℕ). get_or old q 0) same in
            let t : get_or new p 0 ≡ get_or old p 0 + 1 = new_p in
            same_tests (cut_of new f) (cut_of old f)
            (λ yes'.
            let i : Includes new f = includes_from_test new f yes' in
            let high : f.number ≤ get_or new f.process 0 = i.1 in
            let n : f.number ≢ suc (get_or old p 0) =
            λ e. apart (same_place f (place p (suc (get_or old p 0))) same e) in
            let top : f.number ≤ get_or old f.process 0 = omega arith in
            test_from_includes old f (i.0, top))
            (λ yes'.
            let i : Includes old f = includes_from_test old f yes' in
            let high : f.number ≤ get_or old f.process 0 = i.1 in
            let top : f.number ≤ get_or new f.process 0 = omega arith in
            test_from_includes new f (i.0, top))

pub adds_event : (c : Computation) (old new : List ℕ) → IsConsistent c old → IsConsistent c new
    → AddsPlace (cut_of old) (cut_of new) → AddsEvent old new
adds_event c old new ok_old ok_new (e, out, inside, others) =
    let i : Includes new e = includes_from_test new e inside in
    let low : 1 ≤ e.number = i.0 in
    let high : e.number ≤ get_or new e.process 0 = i.1 in
    let l : length new ≡ length c = ok_new.fits.one_each in
    let m : length old ≡ length c = ok_old.fits.one_each in
    let there : e.process < length new = in_range new e.process (omega arith) in
    let here : e.process < length old = omega arith in (
      e.process,
      here,
      same_number_lists new (one_more old e.process) (l ∙ sym (length_more old e.process ∙ m)) (λ q lt.
          go q here (cases_eq q e.process)),
    )
  where
    -- a place in new is in old, or is e
    was : (f : Place) → ¬ (f ≡ e) → Includes new f → Includes old f
    was f apart i = includes_from_test old f (sym (others f apart) ∙ test_from_includes new f i)

    is_still : (f : Place) → ¬ (f ≡ e) → Includes old f → Includes new f
    is_still f apart i = includes_from_test new f (others f apart ∙ test_from_includes old f i)

    not_old : get_or old e.process 0 < e.number
    not_old = pick (cases_lt (get_or old e.process 0) e.number)
      where
        pick : (get_or old e.process 0 < e.number) ⊎ (e.number ≤ get_or old e.process 0)
            → get_or old e.process 0 < e.number
        pick (inl lt) = lt
        pick (inr le) =
            absurd (false≢true (sym out ∙ test_from_includes old e ((includes_from_test new e inside).0, le)))

    go : (q : ℕ) → e.process < length old → (q ≡ e.process) ⊎ (q ≡ e.process → ⊥)
        → get_or new q 0 ≡ get_or (one_more old e.process) q 0
    go q here (inr apart) =
        same_bound (get_or new q 0) (get_or old q 0) (event_count c q) (ok_new.fits.within q) (ok_old.fits.within q)
        (λ k low h i. (was (place q k) (λ same. apart (ap (λ (f : Place). f.process) same)) (low, i)).1)
        (λ k low h i. (is_still (place q k) (λ same. apart (ap (λ (f : Place). f.process) same)) (low, i)).1)
        ∙ sym (more_other old e.process q apart)
    go q here (inl same) =
        ap (λ (r : ℕ). get_or new r 0) same ∙ (one ∙ sym (more_same old e.process here))
        ∙ sym (ap (λ (r : ℕ). get_or (one_more old e.process) r 0) same)
      where
        one : get_or new e.process 0 ≡ get_or old e.process 0 + 1
        one = pick (cases_lt (get_or old e.process 0 + 1) (get_or new e.process 0))
          where
            pick : (get_or old e.process 0 + 1 < get_or new e.process 0)
                ⊎ (get_or new e.process 0 ≤ get_or old e.process 0 + 1)
                → get_or new e.process 0 ≡ get_or old e.process 0 + 1
            pick (inr le) =
                let n : get_or old e.process 0 < e.number = not_old in
                let h : e.number ≤ get_or new e.process 0 = (includes_from_test new e inside).1 in
                omega arith
            pick (inl lt) = two (cases_eq e.number (get_or old e.process 0 + 1))
              where
                two : (e.number ≡ get_or old e.process 0 + 1) ⊎ (e.number ≡ get_or old e.process 0 + 1 → ⊥)
                    → get_or new e.process 0 ≡ get_or old e.process 0 + 1
                two (inl at) =
                    let apart : ¬ (place e.process (get_or old e.process 0 + 2) ≡ e) =
                    λ s. let t : get_or old e.process 0 + 2 ≡ e.number = ap (λ (f : Place). f.number) s in
                    omega arith in
                    let w : get_or old e.process 0 + 2 ≤ get_or old e.process 0 =
                    (was (place e.process (get_or old e.process 0 + 2)) apart (omega arith, omega arith)).1 in
                    absurd (omega arith)
                two (inr off) =
                    let apart : ¬ (place e.process (get_or old e.process 0 + 1) ≡ e) =
                    λ s. off (sym (ap (λ (f : Place). f.number) s)) in
                    let w : get_or old e.process 0 + 1 ≤ get_or old e.process 0 =
                    (was (place e.process (get_or old e.process 0 + 1)) apart (omega arith, omega arith)).1 in
                    absurd (omega arith)
