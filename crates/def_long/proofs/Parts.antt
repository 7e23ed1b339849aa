-- A window has an answer exactly if its part up to a boundary or its part from there on has it.
use Rattle.std.proofs.Common.{◌≡◌, ℕ, zero, suc, ◌+◌, ◌<◌, ◌≤◌, Bool, true, false, IsTrue, List, [], length, get_or, Contains, sym, ap, ◌∙◌, subst, inl, inr, ◌⊎◌, ◌↔◌, arith}
use Rattle.std.proofs.lemmas.Bool.{cases_Bool, false≢true}
use Rattle.std.proofs.lemmas.List.Elements.{All-contains, Contains-get_or}
use Rattle.def_model.specs.Events.{Place, place}
use Rattle.def_model.specs.Cuts.{AddsEvent, Includes}
use Rattle.def_model.specs.Lattice.{meet, join}
use Rattle.def_model.specs.Observations.{HasSatisfying, IsWalk}
use Rattle.def_model.proofs.Lists.{linked_at}
use Rattle.def_model.proofs.MeetAndJoin.{join_above_right, meet_within_right}
use Rattle.def_long.specs.Windows.{Window, window, IsCutIn, IsWindow, PossiblyIn, DefinitelyIn}
use Rattle.def_long.specs.Kept.{IsKeptIn, KeptDecide, AreKeptIn}
use Rattle.def_long.specs.Boundaries.{IsBoundary}
use Rattle.def_long.proofs.Avoided.{Avoids, definitely_or_avoids, joined}
use Rattle.def_long.proofs.Images.{images, join_is_left, join_is_right, join_step, meet_is_left, meet_is_right, meet_step}
use Rattle.def_long.proofs.Truths.{same_truth}
use Rattle.def_long.proofs.WindowCuts.{cases_includes, includes_meet, includes_more, join_cases, join_in, join_includes_left, join_includes_right, meet_in, meet_includes_left}
use Rattle.def_long.proofs.WindowWalks.{added_cases, cut_in, includes_added, not_empty, walk_first, walk_in, walk_last}

-- ---- the two parts

pub in_first : (w : Window) (b x : List ℕ) → IsCutIn w b → IsCutIn (window w.run w.from b) x → IsCutIn w x
in_first w b x in_b in_x = record {
  consistent = in_x.consistent;
  above = in_x.above;
  below = λ p. let i : get_or x p 0 ≤ get_or b p 0 = in_x.below p in
      let j : get_or b p 0 ≤ get_or w.to p 0 = in_b.below p in omega arith;
}

pub in_last : (w : Window) (b x : List ℕ) → IsCutIn w b → IsCutIn (window w.run b w.to) x → IsCutIn w x
in_last w b x in_b in_x = record {
  consistent = in_x.consistent;
  above = λ p. let i : get_or b p 0 ≤ get_or x p 0 = in_x.above p in
      let j : get_or w.from p 0 ≤ get_or b p 0 = in_b.above p in omega arith;
  below = in_x.below;
}

module _ (w : Window) (is : IsWindow w) (kept : Place → Bool) (b : List ℕ) (at : IsBoundary w kept b) where
  -- with a kept event outside the boundary a cut has all kept events in it
  all_of_boundary : (x : List ℕ) (f : Place) → IsCutIn w x → IsKeptIn w kept x f → (Includes b f → ⊥) → (e : Place)
      → IsKeptIn w kept b e → Includes x e
  all_of_boundary x f in_x k out e i =
      in_x.consistent.closed e f (at.order e f i (record {
        is_kept = k.is_kept;
        after = k.after;
        before = includes_more x w.to in_x.below f k.before;
      }) out) k.before

  -- ---- the boundary is passed

  module _ (cuts : List (List ℕ)) (walk : IsWalk w.run w.from cuts w.to) where
    -- a cut of the walk has the same kept events as the boundary
    abbrev IsPassed : Type 0
    IsPassed = (x : List ℕ) × Contains cuts x × ((e : Place) → IsKeptIn w kept x e → Includes b e)
        × ((e : Place) → IsKeptIn w kept b e → Includes x e)

    passed_to : (j : ℕ) → j < length cuts
        → ((e : Place) → IsKeptIn w kept (get_or cuts j []) e → Includes b e) ⊎ IsPassed
    passed_to zero lt =
        inl (λ e i. absurd (i.after
        (subst (λ (x : List ℕ). Includes x e) (walk_first w.run w.from w.to cuts walk) i.before)))
    passed_to (suc j) lt =
        go (passed_to j (omega arith)) (linked_at AddsEvent cuts walk.steps j [] lt)
      where
        go : ((e : Place) → IsKeptIn w kept (get_or cuts j []) e → Includes b e) ⊎ IsPassed
            → AddsEvent (get_or cuts j []) (get_or cuts (suc j) [])
            → ((e : Place) → IsKeptIn w kept (get_or cuts (suc j) []) e → Includes b e) ⊎ IsPassed
        go (inr passed) adds = inr passed
        go (inl within) (p, there, same) =
            pick (cases_Bool (kept (place p (get_or (get_or cuts j []) p 0 + 1))))
            (cases_includes b (place p (get_or (get_or cuts j []) p 0 + 1)))
          where
            was_or_comes : (e : Place) → Includes (get_or cuts (suc j) []) e
                → Includes (get_or cuts j []) e ⊎ (e ≡ place p (get_or (get_or cuts j []) p 0 + 1))
            was_or_comes e i =
                added_cases (get_or cuts j []) p e there (subst (λ (x : List ℕ). Includes x e) same i)

            later : IsCutIn w (get_or cuts (suc j) [])
            later = walk_in w cuts walk (suc j) lt

            stays : (kept (place p (get_or (get_or cuts j []) p 0 + 1)) ≡ false)
                ⊎ Includes b (place p (get_or (get_or cuts j []) p 0 + 1)) → (e : Place)
                → IsKeptIn w kept (get_or cuts (suc j) []) e → Includes b e
            stays new e i = old (was_or_comes e i.before) new
              where
                old : Includes (get_or cuts j []) e ⊎ (e ≡ place p (get_or (get_or cuts j []) p 0 + 1))
                    → (kept (place p (get_or (get_or cuts j []) p 0 + 1)) ≡ false)
                    ⊎ Includes b (place p (get_or (get_or cuts j []) p 0 + 1)) → Includes b e
                old (inl was) any =
                    within e (record { is_kept = i.is_kept; after = i.after; before = was })
                old (inr here) (inl out) = absurd (false≢true (sym out ∙ (ap kept (sym here) ∙ i.is_kept)))
                old (inr here) (inr inside) = subst (Includes b) (sym here) inside

            pick : (kept (place p (get_or (get_or cuts j []) p 0 + 1)) ≡ true)
                ⊎ (kept (place p (get_or (get_or cuts j []) p 0 + 1)) ≡ false)
                → Includes b (place p (get_or (get_or cuts j []) p 0 + 1))
                ⊎ (Includes b (place p (get_or (get_or cuts j []) p 0 + 1)) → ⊥)
                → ((e : Place) → IsKeptIn w kept (get_or cuts (suc j) []) e → Includes b e) ⊎ IsPassed
            pick (inr out) other = inl (stays (inl out))
            pick (inl yes') (inl inside) = inl (stays (inr inside))
            pick (inl yes') (inr outside) =
                inr (get_or cuts j [], Contains-get_or cuts j [] (omega arith), within, all)
              where
                comes : Includes (get_or cuts (suc j) []) (place p (get_or (get_or cuts j []) p 0 + 1))
                comes =
                    subst (λ (x : List ℕ). Includes x (place p (get_or (get_or cuts j []) p 0 + 1))) (sym same)
                    (includes_added (get_or cuts j []) p there)

                not_first : Includes w.from (place p (get_or (get_or cuts j []) p 0 + 1)) → ⊥
                not_first i =
                    let above : get_or w.from p 0 ≤ get_or (get_or cuts j []) p 0 =
                    (walk_in w cuts walk j (omega arith)).above p in
                    let low : get_or (get_or cuts j []) p 0 + 1 ≤ get_or w.from p 0 = i.1 in
                    omega arith

                all : (e : Place) → IsKeptIn w kept b e → Includes (get_or cuts j []) e
                all e i =
                    old (was_or_comes e
                    (all_of_boundary (get_or cuts (suc j) []) (place p (get_or (get_or cuts j []) p 0 + 1)) later
                    (record { is_kept = yes'; after = not_first; before = comes }) outside e i))
                  where
                    old : Includes (get_or cuts j []) e ⊎ (e ≡ place p (get_or (get_or cuts j []) p 0 + 1))
                        → Includes (get_or cuts j []) e
                    old (inl was) = was
                    old (inr here) = absurd (outside (subst (Includes b) here i.before))

    pub passed : IsPassed
    passed = go (not_empty w.run w.from w.to cuts walk)
      where
        go : (n : ℕ) × (length cuts ≡ suc n) → IsPassed
        go (n, l) = pick (passed_to n (omega arith))
          where
            last : get_or cuts n [] ≡ w.to
            last = walk_last w.run w.from w.to cuts walk n l

            pick : ((e : Place) → IsKeptIn w kept (get_or cuts n []) e → Includes b e) ⊎ IsPassed → IsPassed
            pick (inr found) = found
            pick (inl within) = (
              get_or cuts n [],
              Contains-get_or cuts n [] (omega arith),
              within,
              λ e i. subst (λ (x : List ℕ). Includes x e) (sym last)
                  (includes_more b w.to at.in_window.below e i.before),
            )

  pub boundary_is_passed : (cuts : List (List ℕ)) → IsWalk w.run w.from cuts w.to → (part : Place → Bool)
      → AreKeptIn w kept b part → (cut : List ℕ) × Contains cuts cut × AreKeptIn w kept cut part
  boundary_is_passed cuts walk part are = go (passed cuts walk)
    where
      go : (x : List ℕ) × Contains cuts x × ((e : Place) → IsKeptIn w kept x e → Includes b e)
          × ((e : Place) → IsKeptIn w kept b e → Includes x e)
          → (cut : List ℕ) × Contains cuts cut × AreKeptIn w kept cut part
      go (x, has, within, all) = (x, has, λ e. (to e, from e))
        where
          to : (e : Place) → IsTrue (part e) → IsKeptIn w kept x e
          to e t =
              let i : IsKeptIn w kept b e = (are e).0 t in
              record { is_kept = i.is_kept; after = i.after; before = all e i }

          from : (e : Place) → IsKeptIn w kept x e → IsTrue (part e)
          from e i =
              (are e).1 (record { is_kept = i.is_kept; after = i.after; before = within e i })

  -- ---- truths at the boundary

  module _ (test : List ℕ → Bool) (decide : KeptDecide w kept test) where
    in_b : IsCutIn w b
    in_b = at.in_window

    module _ (x : List ℕ) (in_x : IsCutIn w x) where
      -- the cut has all kept events of the boundary, or no others
      inside_or_all : (e : Place) → IsKeptIn w kept x e → ((f : Place) → IsKeptIn w kept b f → Includes x f)
          ⊎ Includes b e
      inside_or_all e i = go (cases_includes b e)
        where
          go : Includes b e ⊎ (Includes b e → ⊥) → ((f : Place) → IsKeptIn w kept b f → Includes x f) ⊎ Includes b e
          go (inl inside) = inr inside
          go (inr out) = inl (all_of_boundary x e in_x i out)

      meet_of_x : ((e : Place) → IsKeptIn w kept x e → Includes b e) → test x ≡ test (meet x b)
      meet_of_x within =
          same_truth w is kept test decide x (meet x b) in_x (meet_in w x b in_x in_b)
          (λ e i. includes_meet x b e i.before (within e i)) (λ e i. meet_includes_left x b e i.before)

      join_of_x : ((e : Place) → IsKeptIn w kept b e → Includes x e) → test x ≡ test (join x b)
      join_of_x all =
          same_truth w is kept test decide x (join x b) in_x (join_in w x b in_x in_b)
          (λ e i. join_includes_left x b e i.before) (λ e i. from e i (join_cases x b e i.before))
        where
          from : (e : Place) → IsKeptIn w kept (join x b) e → Includes x e ⊎ Includes b e → Includes x e
          from e i (inl has) = has
          from e i (inr inside) =
              all e (record { is_kept = i.is_kept; after = i.after; before = inside })

      meet_of_b : ((e : Place) → IsKeptIn w kept b e → Includes x e) → test (meet x b) ≡ test b
      meet_of_b all =
          same_truth w is kept test decide (meet x b) b (meet_in w x b in_x in_b) in_b
          (λ e i. includes_more (meet x b) b (meet_within_right x b) e i.before)
          (λ e i. includes_meet x b e (all e i) i.before)

      join_of_b : ((e : Place) → IsKeptIn w kept x e → Includes b e) → test (join x b) ≡ test b
      join_of_b within =
          same_truth w is kept test decide (join x b) b (join_in w x b in_x in_b) in_b
          (λ e i. to e i (join_cases x b e i.before)) (λ e i. join_includes_right x b e i.before)
        where
          to : (e : Place) → IsKeptIn w kept (join x b) e → Includes x e ⊎ Includes b e → Includes b e
          to e i (inl has) = within e (record { is_kept = i.is_kept; after = i.after; before = has })
          to e i (inr inside) = inside

      -- one of the two has the truth of the cut
      met_or_joined : test x ≡ true → (test (meet x b) ≡ true) ⊎ (test (join x b) ≡ true)
      met_or_joined yes' = go (cases_Bool (test (meet x b))) (cases_Bool (test (join x b)))
        where
          go : (test (meet x b) ≡ true) ⊎ (test (meet x b) ≡ false) → (test (join x b) ≡ true)
              ⊎ (test (join x b) ≡ false) → (test (meet x b) ≡ true) ⊎ (test (join x b) ≡ true)
          go (inl met) other = inl met
          go (inr no') (inl all) = inr all
          go (inr no_meet) (inr no_join) =
              absurd (false≢true (sym no_meet ∙ (sym (meet_of_x (λ e i. inside e (inside_or_all e i))) ∙ yes')))
            where
              inside : (e : Place) → ((f : Place) → IsKeptIn w kept b f → Includes x f) ⊎ Includes b e → Includes b e
              inside e (inr has) = has
              inside e (inl all) = absurd (false≢true (sym no_join ∙ (sym (join_of_x all) ∙ yes')))

      -- if the least with the boundary satisfies, the cut does, or the boundary
      met : test (meet x b) ≡ true → (test x ≡ true) ⊎ (test b ≡ true)
      met yes' = go (cases_Bool (test x))
        where
          go : (test x ≡ true) ⊎ (test x ≡ false) → (test x ≡ true) ⊎ (test b ≡ true)
          go (inl here) = inl here
          go (inr no') = inr (sym (meet_of_b all) ∙ yes')
            where
              all : (e : Place) → IsKeptIn w kept b e → Includes x e
              all e i = pick (cases_includes x e)
                where
                  within : (Includes x e → ⊥) → (f : Place) → IsKeptIn w kept x f
                      → ((g : Place) → IsKeptIn w kept b g → Includes x g) ⊎ Includes b f → Includes b f
                  within out f k (inl each) = absurd (out (each e i))
                  within out f k (inr inside) = inside

                  pick : Includes x e ⊎ (Includes x e → ⊥) → Includes x e
                  pick (inl has) = has
                  pick (inr out) =
                      absurd (false≢true (sym no'
                      ∙ (meet_of_x (λ f k. within out f k (inside_or_all f k)) ∙ yes')))

      -- the same of the greatest
      filled : test (join x b) ≡ true → (test x ≡ true) ⊎ (test b ≡ true)
      filled yes' = go (cases_Bool (test x))
        where
          go : (test x ≡ true) ⊎ (test x ≡ false) → (test x ≡ true) ⊎ (test b ≡ true)
          go (inl here) = inl here
          go (inr no') = inr (sym (join_of_b (λ e i. within e (inside_or_all e i))) ∙ yes')
            where
              within : (e : Place) → ((f : Place) → IsKeptIn w kept b f → Includes x f) ⊎ Includes b e → Includes b e
              within e (inr inside) = inside
              within e (inl all) = absurd (false≢true (sym no' ∙ (join_of_x all ∙ yes')))

    -- ---- Possibly

    pub possibly_by_parts : PossiblyIn w test
        ↔ (PossiblyIn (window w.run w.from b) test ⊎ PossiblyIn (window w.run b w.to) test)
    possibly_by_parts = (λ some. to some, from)
      where
        to : (cut : List ℕ) × IsCutIn w cut × (test cut ≡ true)
            → PossiblyIn (window w.run w.from b) test ⊎ PossiblyIn (window w.run b w.to) test
        to (x, in_x, yes') = go (met_or_joined x in_x yes')
          where
            m : IsCutIn w (meet x b)
            m = meet_in w x b in_x in_b

            j : IsCutIn w (join x b)
            j = join_in w x b in_x in_b

            go : (test (meet x b) ≡ true) ⊎ (test (join x b) ≡ true)
                → PossiblyIn (window w.run w.from b) test ⊎ PossiblyIn (window w.run b w.to) test
            go (inl low) =
                inl (
                  meet x b,
                  record {
                    consistent = m.consistent;
                    above = m.above;
                    below = meet_within_right x b;
                  },
                  low,
                )
            go (inr high) =
                inr (
                  join x b,
                  record {
                    consistent = j.consistent;
                    above = join_above_right x b;
                    below = j.below;
                  },
                  high,
                )

        from : PossiblyIn (window w.run w.from b) test ⊎ PossiblyIn (window w.run b w.to) test → PossiblyIn w test
        from (inl (x, in_x, yes')) = (x, in_first w b x in_b in_x, yes')
        from (inr (x, in_x, yes')) = (x, in_last w b x in_b in_x, yes')

    -- ---- Definitely

    same_length : (x : List ℕ) → IsCutIn w x → length x ≡ length b
    same_length x in_x = in_x.consistent.fits.one_each ∙ sym in_b.consistent.fits.one_each

    at_boundary : (cuts : List (List ℕ)) → IsWalk w.run w.from cuts w.to → test b ≡ true → HasSatisfying test cuts
    at_boundary cuts walk yes' = go (passed cuts walk)
      where
        go : (x : List ℕ) × Contains cuts x × ((e : Place) → IsKeptIn w kept x e → Includes b e)
            × ((e : Place) → IsKeptIn w kept b e → Includes x e) → HasSatisfying test cuts
        go (x, has, within, all) =
            (x, has, same_truth w is kept test decide x b (cut_in w cuts walk x has) in_b within all ∙ yes')

    found_in : (cuts : List (List ℕ)) → IsWalk w.run w.from cuts w.to → (x : List ℕ) → Contains cuts x
        → (test x ≡ true) ⊎ (test b ≡ true) → HasSatisfying test cuts
    found_in cuts walk x has (inl here) = (x, has, here)
    found_in cuts walk x has (inr there) = at_boundary cuts walk there

    by_first : DefinitelyIn (window w.run w.from b) test → DefinitelyIn w test
    by_first definitely cuts walk =
        go (images w (λ x. meet x b) (λ x in_x. (meet_in w x b in_x in_b).consistent)
        (λ x p in_x there. meet_step x b p there (same_length x in_x)) cuts walk)
      where
        first : meet w.from b ≡ w.from
        first = meet_is_left w.from b (same_length w.from is.first) in_b.above

        last : meet w.to b ≡ b
        last = meet_is_right w.to b (same_length w.to is.last) in_b.below

        go : (images : List (List ℕ)) × IsWalk w.run (meet w.from b) images (meet w.to b)
            × ((y : List ℕ) → Contains images y → (x : List ℕ) × Contains cuts x × (meet x b ≡ y))
            → HasSatisfying test cuts
        go (ys, so, back) =
            found (definitely ys (subst (IsWalk w.run w.from ys) last
            (subst (λ (x : List ℕ). IsWalk w.run x ys (meet w.to b)) first so)))
          where
            found : HasSatisfying test ys → HasSatisfying test cuts
            found (y, has, yes') = of (back y has)
              where
                of : (x : List ℕ) × Contains cuts x × (meet x b ≡ y) → HasSatisfying test cuts
                of (x, in_cuts, same) =
                    found_in cuts walk x in_cuts (met x (cut_in w cuts walk x in_cuts) (ap test same ∙ yes'))

    by_last : DefinitelyIn (window w.run b w.to) test → DefinitelyIn w test
    by_last definitely cuts walk =
        go (images w (λ x. join x b) (λ x in_x. (join_in w x b in_x in_b).consistent)
        (λ x p in_x there. join_step x b p there (same_length x in_x)) cuts walk)
      where
        first : join w.from b ≡ b
        first = join_is_right w.from b (same_length w.from is.first) in_b.above

        last : join w.to b ≡ w.to
        last = join_is_left w.to b (same_length w.to is.last) in_b.below

        go : (images : List (List ℕ)) × IsWalk w.run (join w.from b) images (join w.to b)
            × ((y : List ℕ) → Contains images y → (x : List ℕ) × Contains cuts x × (join x b ≡ y))
            → HasSatisfying test cuts
        go (ys, so, back) =
            found (definitely ys (subst (IsWalk w.run b ys) last
            (subst (λ (x : List ℕ). IsWalk w.run x ys (join w.to b)) first so)))
          where
            found : HasSatisfying test ys → HasSatisfying test cuts
            found (y, has, yes') = of (back y has)
              where
                of : (x : List ℕ) × Contains cuts x × (join x b ≡ y) → HasSatisfying test cuts
                of (x, in_cuts, same) =
                    found_in cuts walk x in_cuts (filled x (cut_in w cuts walk x in_cuts) (ap test same ∙ yes'))

    pub definitely_by_parts : DefinitelyIn w test
        ↔ (DefinitelyIn (window w.run w.from b) test ⊎ DefinitelyIn (window w.run b w.to) test)
    definitely_by_parts = (to, from)
      where
        to : DefinitelyIn w test
            → DefinitelyIn (window w.run w.from b) test ⊎ DefinitelyIn (window w.run b w.to) test
        to definitely = go (definitely_or_avoids (window w.run w.from b) test)
          where
            go : DefinitelyIn (window w.run w.from b) test ⊎ Avoids w.run test w.from b
                → DefinitelyIn (window w.run w.from b) test ⊎ DefinitelyIn (window w.run b w.to) test
            go (inl first) = inl first
            go (inr (before, walk, none)) = inr second
              where
                second : DefinitelyIn (window w.run b w.to) test
                second after walk_on = both (joined w.run w.from b w.to before after walk walk_on)
                  where
                    both : (cuts : List (List ℕ)) × IsWalk w.run w.from cuts w.to
                        × ((x : List ℕ) → Contains cuts x → Contains before x ⊎ Contains after x)
                        → HasSatisfying test after
                    both (cuts, whole, of) = found (definitely cuts whole)
                      where
                        found : HasSatisfying test cuts → HasSatisfying test after
                        found (x, has, yes') = pick (of x has)
                          where
                            pick : Contains before x ⊎ Contains after x → HasSatisfying test after
                            pick (inr in_after) = (x, in_after, yes')
                            pick (inl in_before) =
                                absurd (false≢true
                                (sym (All-contains (λ y. test y ≡ false) before x none in_before) ∙ yes'))

        from : DefinitelyIn (window w.run w.from b) test ⊎ DefinitelyIn (window w.run b w.to) test
            → DefinitelyIn w test
        from (inl first) = by_first first
        from (inr last) = by_last last
