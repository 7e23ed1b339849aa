-- Cuts with the same kept events have the same truth, if these events decide.
use Rattle.std.proofs.Common.{◌≡◌, ℕ, zero, suc, ◌+◌, ◌-◌, ◌<◌, ◌≤◌, Bool, true, false, not, ◌&&◌, IsTrue, List, length, get_or, sum, sym, ap, ◌∙◌, subst, ◌↔◌, arith}
use Rattle.std.proofs.lemmas.Bool.{and_from, and_parts, false_from_ne_true, false≢true, not-true, not_from_false}
use Rattle.def_model.specs.Events.{Place, place}
use Rattle.def_model.specs.Cuts.{Includes, IsConsistent, cut_of, one_less, one_more}
use Rattle.def_model.specs.Lattice.{IsWithin, meet}
use Rattle.def_model.proofs.Counts.{less_le, less_same, length_less, more_less, same_from_sum, sum_le, sum_less}
use Rattle.def_model.proofs.CutsAndCounts.{includes_from_test, test_from_includes}
use Rattle.def_model.proofs.MeetAndJoin.{meet_within_left, meet_within_right}
use Rattle.def_model.proofs.Undoing.{step_down_from_sum, within_less}
use Rattle.def_long.specs.Windows.{Window, IsCutIn, IsWindow, PossiblyIn}
use Rattle.def_long.specs.Kept.{IsKeptIn, KeptDecide, AreKeptIn, IsDownSet, IsLeastWith, DownSetSatisfies}
use Rattle.def_long.proofs.WindowCuts.{includes_meet, includes_more, less_in, meet_in}
use Rattle.def_long.proofs.LeastCuts.{cut_has_down_set, down_set_has_cut}

-- the kept events of a cut, as a test
pub kept_part : Window → (Place → Bool) → List ℕ → Place → Bool
kept_part w kept cut e = kept e && (not (cut_of w.from e) && cut_of cut e)

pub kept_part_is : (w : Window) (kept : Place → Bool) (cut : List ℕ) → AreKeptIn w kept cut (kept_part w kept cut)
unfolding kept_part
kept_part_is w kept cut e = (to, from)
  where
    to : IsTrue (kept e && (not (cut_of w.from e) && cut_of cut e)) → IsKeptIn w kept cut e
    to t =
        let a : (kept e ≡ true) × ((not (cut_of w.from e) && cut_of cut e) ≡ true) =
        and_parts (kept e) (not (cut_of w.from e) && cut_of cut e) t in
        let b : (not (cut_of w.from e) ≡ true) × (cut_of cut e ≡ true) =
        and_parts (not (cut_of w.from e)) (cut_of cut e) a.1 in
        record {
          is_kept = a.0;
          after = λ i. false≢true (sym (not-true (cut_of w.from e) b.0) ∙ test_from_includes w.from e i);
          before = includes_from_test cut e b.1;
        }

    from : IsKeptIn w kept cut e → IsTrue (kept e && (not (cut_of w.from e) && cut_of cut e))
    from i =
        and_from (kept e) (not (cut_of w.from e) && cut_of cut e) i.is_kept
        (and_from (not (cut_of w.from e)) (cut_of cut e)
        (not_from_false (cut_of w.from e)
        (false_from_ne_true (cut_of w.from e) (λ t. i.after (includes_from_test w.from e t))))
        (test_from_includes cut e i.before))

module _ (w : Window) (is : IsWindow w) (kept : Place → Bool) (test : List ℕ → Bool) (decide : KeptDecide w kept test)
  where
    -- down to a cut that has the same kept events
    truth_down : (n : ℕ) (a m : List ℕ) → IsCutIn w a → IsCutIn w m → IsWithin m a
        → ((e : Place) → IsKeptIn w kept a e → Includes m e) → sum m + n ≡ sum a → test a ≡ test m
    truth_down zero a m in_a in_m within same s =
        ap test (sym (same_from_sum m a (in_m.consistent.fits.one_each ∙ sym in_a.consistent.fits.one_each) within
        (omega arith)))
    truth_down (suc n) a m in_a in_m within same s =
        go (step_down_from_sum w.run is.no_cycle m a in_m.consistent in_a.consistent within (omega arith))
        (truth_down n)
      where
        go : (p : ℕ) × (p < length a) × (get_or m p 0 < get_or a p 0) × IsConsistent w.run (one_less a p)
            → ((a m : List ℕ) → IsCutIn w a → IsCutIn w m → IsWithin m a
            → ((e : Place) → IsKeptIn w kept a e → Includes m e) → sum m + n ≡ sum a → test a ≡ test m)
            → test a ≡ test m
        go (p, lt, more, ok) rest = step ∙ rest (one_less a p) m in_less in_m (within_less m a p within more) same_less
            (omega (arith, fewer))
          where
            has : 0 < get_or a p 0
            has = omega arith

            first_less : get_or w.from p 0 < get_or a p 0
            first_less = let i : get_or w.from p 0 ≤ get_or m p 0 = in_m.above p in omega arith

            fewer : sum (one_less a p) + 1 ≡ sum a
            fewer = sum_less a p has

            in_less : IsCutIn w (one_less a p)
            in_less = less_in w a p in_a first_less ok

            back : one_more (one_less a p) p ≡ a
            back = more_less a p has

            same_less : (e : Place) → IsKeptIn w kept (one_less a p) e → Includes m e
            same_less e i =
                same e (record {
                  is_kept = i.is_kept;
                  after = i.after;
                  before = includes_more (one_less a p) a less_within e i.before;
                })
              where
                less_within : IsWithin (one_less a p) a
                less_within q = less_le a p q has

            count : get_or (one_less a p) p 0 + 1 ≡ get_or a p 0
            count = less_same a p has

            not_kept : kept (place p (get_or (one_less a p) p 0 + 1)) ≡ false
            not_kept = false_from_ne_true (kept (place p (get_or (one_less a p) p 0 + 1))) clash
              where
                clash : kept (place p (get_or (one_less a p) p 0 + 1)) ≡ true → ⊥
                clash k =
                    let i : Includes m (place p (get_or a p 0)) =
                    same (place p (get_or a p 0)) (record {
                      is_kept = subst (λ (n : ℕ). kept (place p n) ≡ true) count k;
                      after = λ i. let j : get_or a p 0 ≤ get_or w.from p 0 = i.1 in omega (arith, first_less);
                      before = (omega (arith, has), omega arith);
                    }) in
                    let j : get_or a p 0 ≤ get_or m p 0 = i.1 in
                    omega arith

            step : test a ≡ test (one_less a p)
            step =
                sym (ap test back)
                ∙ decide (one_less a p) p (omega (arith, length_less a p)) in_less
                (subst (λ (x : List ℕ). IsCutIn w x) (sym back) in_a) not_kept

    pub same_truth : (a b : List ℕ) → IsCutIn w a → IsCutIn w b → ((e : Place) → IsKeptIn w kept a e → Includes b e)
        → ((e : Place) → IsKeptIn w kept b e → Includes a e) → test a ≡ test b
    same_truth a b in_a in_b to from =
        down a in_a (meet_within_left a b) (λ e i. includes_meet a b e i.before (to e i))
        ∙ sym (down b in_b (meet_within_right a b) (λ e i. includes_meet a b e (from e i) i.before))
      where
        down : (x : List ℕ) → IsCutIn w x → IsWithin (meet a b) x
            → ((e : Place) → IsKeptIn w kept x e → Includes (meet a b) e) → test x ≡ test (meet a b)
        down x in_x within same =
            let less : sum (meet a b) ≤ sum x = sum_le (meet a b) x within
            ((meet_in w a b in_a in_b).consistent.fits.one_each ∙ sym in_x.consistent.fits.one_each) in
            truth_down (sum x - sum (meet a b)) x (meet a b) in_x (meet_in w a b in_a in_b) within same (omega arith)

    pub one_truth : (a b : List ℕ) (part : Place → Bool) → IsCutIn w a → IsCutIn w b → AreKeptIn w kept a part
        → AreKeptIn w kept b part → test a ≡ test b
    one_truth a b part in_a in_b are_a are_b =
        same_truth a b in_a in_b
        (λ e i. let j : IsKeptIn w kept b e = (are_b e).0 ((are_a e).1 i) in j.before)
        (λ e i. let j : IsKeptIn w kept a e = (are_a e).0 ((are_b e).1 i) in j.before)

    pub possibly_by_down_sets : PossiblyIn w test
        ↔ ((part : Place → Bool) × IsDownSet w kept part × DownSetSatisfies w test part)
    possibly_by_down_sets = (to, from)
      where
        to : PossiblyIn w test → (part : Place → Bool) × IsDownSet w kept part × DownSetSatisfies w test part
        to (cut, in_w, yes') =
            (kept_part w kept cut, down, go (down_set_has_cut w is kept (kept_part w kept cut) down))
          where
            down : IsDownSet w kept (kept_part w kept cut)
            down = cut_has_down_set w kept cut (kept_part w kept cut) in_w (kept_part_is w kept cut)

            go : (x : List ℕ) × IsLeastWith w (kept_part w kept cut) x × AreKeptIn w kept x (kept_part w kept cut)
                → DownSetSatisfies w test (kept_part w kept cut)
            go (x, least, are) = (
              x,
              least,
              one_truth x cut (kept_part w kept cut) least.in_window in_w are (kept_part_is w kept cut)
                  ∙ yes',
            )

        from : (part : Place → Bool) × IsDownSet w kept part × DownSetSatisfies w test part → PossiblyIn w test
        from (part, down, (x, least, yes')) = (x, least.in_window, yes')
