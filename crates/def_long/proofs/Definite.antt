-- Every walk through a window has a satisfying cut exactly if every linear extension passes through a satisfying
-- down-set.
use Rattle.std.proofs.Common.{◌≡◌, ℕ, zero, suc, ◌<◌, ◌≤◌, Bool, IsTrue, List, [], ◌∷◌, length, get_or, take, All, Contains, refl, sym, ◌∙◌, subst, inl, inr, ◌⊎◌, ◌↔◌, arith}
use Rattle.std.proofs.lemmas.Bool.{cases_lt}
use Rattle.std.proofs.lemmas.List.{get_or_default, get_or-take, length-take-le, take_all}
use Rattle.std.proofs.lemmas.List.Elements.{All-cons, All-contains, All-nil}
use Rattle.def_model.specs.Events.{Place}
use Rattle.def_model.specs.Order.{HappenedBefore}
use Rattle.def_model.specs.Cuts.{Includes}
use Rattle.def_model.specs.Lattice.{IsWithin, join}
use Rattle.def_model.specs.Observations.{HasSatisfying, IsWalk}
use Rattle.def_model.proofs.Counts.{sum_le}
use Rattle.def_model.proofs.MeetAndJoin.{join_above_left}
use Rattle.def_model.proofs.Walks.{walk_start}
use Rattle.def_long.specs.Windows.{Window, IsCutIn, IsWindow, DefinitelyIn}
use Rattle.def_long.specs.Kept.{IsKeptIn, IsKept, KeptDecide, AreKeptIn, IsDownSet, IsLeastWith}
use Rattle.def_long.specs.Extensions.{is_among, IsExtension, Follows, PassesSatisfying}
use Rattle.def_long.proofs.WalkExtensions.{AreListed, among_contains, contains_among, listed_part, part_listed, walk_has_extension}
use Rattle.def_long.proofs.LeastCuts.{down_set_has_cut, least_has_no_other}
use Rattle.def_long.proofs.Truths.{one_truth}
use Rattle.def_long.proofs.WindowCuts.{cases_includes, includes_more, join_cases, join_in, join_includes_right}
use Rattle.def_long.proofs.WindowWalks.{cut_in, last_in_walk, walk_on}

-- ---- the first events of a linear extension

-- what is among the first k of a list has a number below k there
number_below : (places : List Place) (k : ℕ) (e : Place) → k ≤ length places → Contains (take k places) e
    → (i : ℕ) × (i < k) × (get_or places i e ≡ e)
number_below places k e le (i, lt, at) =
    let l : length (take k places) ≡ k = length-take-le k places le in
    let less : i < k = omega arith in
    (i, less, sym (get_or-take k places i e less) ∙ at)

among_first : (places : List Place) (k i : ℕ) (e : Place) → k ≤ length places → i < k → get_or places i e ≡ e
    → Contains (take k places) e
among_first places k i e le lt at =
    let l : length (take k places) ≡ k = length-take-le k places le in
    (i, omega arith, get_or-take k places i e lt ∙ at)

pub all_contain : (places : List Place) (k : ℕ) (e : Place) → k ≤ length places → Contains (take k places) e
    → Contains places e
all_contain places k e le has =
    let n : (i : ℕ) × (i < k) × (get_or places i e ≡ e) = number_below places k e le has in
    let lt : n.0 < k = n.1 in (n.0, omega arith, n.2)

module _ (w : Window) (kept : Place → Bool) (order : List Place) (so : IsExtension w kept order) where
  pub first_are_down_set : (k : ℕ) → k ≤ length order → IsDownSet w kept (is_among (take k order))
  first_are_down_set k le = record {
    kept_alone = λ e t. (so.just e).0 (all_contain order k e le (among_contains (take k order) e t));
    closed = closed;
  }
    where
      closed : (e f : Place) → IsKept w kept e → HappenedBefore w.run e f → IsTrue (is_among (take k order) f)
          → IsTrue (is_among (take k order) e)
      closed e f is h t =
          contains_among (take k order) e
          (at ((so.just e).1 is) (number_below order k f le (among_contains (take k order) f t)))
        where
          at : Contains order e → (j : ℕ) × (j < k) × (get_or order j f ≡ f) → Contains (take k order) e
          at (i, lt, here) (j, before, there) = go (cases_lt i k)
            where
              go : (i < k) ⊎ (k ≤ i) → Contains (take k order) e
              go (inl less) = among_first order k i e le less here
              go (inr more) =
                  absurd (so.ordered j i e (omega arith) lt
                  (inr (subst (λ (d : Place). HappenedBefore w.run d (get_or order j e)) (sym here)
                  (subst (HappenedBefore w.run e) (sym (get_or_default order j e f (omega arith) ∙ there)) h))))

  -- ---- a walk that follows the extension

  module _ (is : IsWindow w) where
    -- up to number k of the extension, the last cut of the walk being this one
    record IsMadeTo (k : ℕ) (cuts : List (List ℕ)) (cut : List ℕ) : Type 0 where
      walk : IsWalk w.run w.from cuts cut
      in_window : IsCutIn w cut
      now : AreListed w kept cut (take k order)
      each_cut : All (λ x. (i : ℕ) × (i ≤ k) × AreListed w kept x (take i order)) cuts
      each_number : (i : ℕ) → i ≤ k → (x : List ℕ) × Contains cuts x × AreListed w kept x (take i order)

    made_start : IsMadeTo 0 (w.from ∷ []) w.from
    made_start = record {
      walk = walk_start w.run w.from is.first.consistent;
      in_window = is.first;
      now = none;
      each_cut = All-cons (λ x. (i : ℕ) × (i ≤ 0) × AreListed w kept x (take i order)) w.from []
          (0, omega arith, none) (All-nil (λ x. (i : ℕ) × (i ≤ 0) × AreListed w kept x (take i order)));
      each_number = λ i le. let e : i ≡ 0 = omega arith in
          (w.from, (0, omega arith, refl), subst (λ (n : ℕ). AreListed w kept w.from (take n order)) (sym e) none);
    }
      where
        none : AreListed w kept w.from (take 0 order)
        none e = (
          λ has. let lt : has.0 < 0 = has.1 in absurd (omega arith),
          λ i. absurd (i.after i.before),
        )

    module _ (k : ℕ) (cuts : List (List ℕ)) (cut : List ℕ) (so_far : IsMadeTo k cuts cut) (lt : k < length order)
        (low : List ℕ) (low_in : IsCutIn w low) (low_has : AreListed w kept low (take (suc k) order)) where
      next : List ℕ
      next = join cut low

      more_first : (e : Place) → Contains (take (suc k) order) e → Contains (take k order) e
          ⊎ (get_or order k e ≡ e)
      more_first e has = go (number_below order (suc k) e (omega arith) has)
        where
          go : (i : ℕ) × (i < suc k) × (get_or order i e ≡ e) → Contains (take k order) e
              ⊎ (get_or order k e ≡ e)
          go (i, few, at) = pick (cases_lt i k)
            where
              pick : (i < k) ⊎ (k ≤ i) → Contains (take k order) e ⊎ (get_or order k e ≡ e)
              pick (inl less) = inl (among_first order k i e (omega arith) less at)
              pick (inr not_less) =
                  let same : i ≡ k = omega arith in
                  inr (subst (λ (n : ℕ). get_or order n e ≡ e) same at)

      first_more : (e : Place) → Contains (take k order) e → Contains (take (suc k) order) e
      first_more e has =
          let n : (i : ℕ) × (i < k) × (get_or order i e ≡ e) = number_below order k e (omega arith) has in
          let few : n.0 < k = n.1 in among_first order (suc k) n.0 e (omega arith) (omega arith) n.2

      next_in : IsCutIn w (join cut low)
      next_in = join_in w cut low so_far.in_window low_in

      next_has : AreListed w kept (join cut low) (take (suc k) order)
      next_has e = (to, from)
        where
          to : Contains (take (suc k) order) e → IsKeptIn w kept (join cut low) e
          to has =
              let i : IsKeptIn w kept low e = (low_has e).0 has in
              record { is_kept = i.is_kept; after = i.after; before = join_includes_right cut low e i.before }

          from : IsKeptIn w kept (join cut low) e → Contains (take (suc k) order) e
          from i = go (join_cases cut low e i.before)
            where
              go : Includes cut e ⊎ Includes low e → Contains (take (suc k) order) e
              go (inl was) =
                  first_more e
                  ((so_far.now e).1 (record { is_kept = i.is_kept; after = i.after; before = was }))
              go (inr new) = (low_has e).1 (record { is_kept = i.is_kept; after = i.after; before = new })

      -- the event that comes
      abbrev coming : Place
      coming = get_or order k (record { process = 0; number = 0 })

      at_coming : (e : Place) → get_or order k e ≡ e → e ≡ coming
      at_coming e at = sym at ∙ get_or_default order k e (record { process = 0; number = 0 }) lt

      coming_kept : IsKeptIn w kept (join cut low) coming
      coming_kept =
          (next_has coming).0
          (among_first order (suc k) k coming (omega arith) (omega arith)
          (get_or_default order k coming (record { process = 0; number = 0 }) lt))

      -- a cut between has the first k or one more
      between : (x : List ℕ) → IsCutIn w x → IsWithin cut x → IsWithin x (join cut low)
          → (i : ℕ) × (i ≤ suc k) × AreListed w kept x (take i order)
      between x in_x above below = go (cases_includes x coming)
        where
          up : (e : Place) → IsKeptIn w kept x e → IsKeptIn w kept (join cut low) e
          up e i = record {
            is_kept = i.is_kept;
            after = i.after;
            before = includes_more x (join cut low) below e i.before;
          }

          old : (e : Place) → Contains (take k order) e → IsKeptIn w kept x e
          old e has =
              let i : IsKeptIn w kept cut e = (so_far.now e).0 has in
              record { is_kept = i.is_kept; after = i.after; before = includes_more cut x above e i.before }

          go : Includes x coming ⊎ (Includes x coming → ⊥) → (i : ℕ) × (i ≤ suc k)
              × AreListed w kept x (take i order)
          go (inl has) = (suc k, omega arith, λ e. (λ c. to e (more_first e c), λ i. (next_has e).1 (up e i)))
            where
              to : (e : Place) → Contains (take k order) e ⊎ (get_or order k e ≡ e) → IsKeptIn w kept x e
              to e (inl first) = old e first
              to e (inr at) =
                  subst (IsKeptIn w kept x) (sym (at_coming e at))
                  (record { is_kept = coming_kept.is_kept; after = coming_kept.after; before = has })
          go (inr out) = (k, omega arith, λ e. (old e, λ i. from e i (more_first e ((next_has e).1 (up e i)))))
            where
              from : (e : Place) → IsKeptIn w kept x e → Contains (take k order) e ⊎ (get_or order k e ≡ e)
                  → Contains (take k order) e
              from e i (inl first) = first
              from e i (inr at) = absurd (out (subst (Includes x) (at_coming e at) i.before))

      made_more : (more : List (List ℕ)) × IsMadeTo (suc k) more (join cut low)
      made_more =
          go (walk_on w is (λ x. (i : ℕ) × (i ≤ suc k) × AreListed w kept x (take i order)) cuts cut (join cut low)
          so_far.walk so_far.in_window next_in (join_above_left cut low)
          (sum_le cut (join cut low) (join_above_left cut low)
          (so_far.in_window.consistent.fits.one_each ∙ sym next_in.consistent.fits.one_each)) was between)
        where
          was : All (λ x. (i : ℕ) × (i ≤ suc k) × AreListed w kept x (take i order)) cuts
          was n d few =
              let f : (i : ℕ) × (i ≤ k) × AreListed w kept (get_or cuts n d) (take i order) =
              so_far.each_cut n d few in
              let small : f.0 ≤ k = f.1 in (f.0, omega arith, f.2)

          go : (more : List (List ℕ)) × IsWalk w.run w.from more (join cut low)
              × All (λ x. (i : ℕ) × (i ≤ suc k) × AreListed w kept x (take i order)) more
              × ((x : List ℕ) → Contains cuts x → Contains more x)
              → (more : List (List ℕ)) × IsMadeTo (suc k) more (join cut low)
          go (more, walk, all, keeps) = (
            more,
            record {
              walk = walk;
              in_window = next_in;
              now = next_has;
              each_cut = all;
              each_number = λ i le. at i le (cases_lt k i);
            },
          )
            where
              at : (i : ℕ) → i ≤ suc k → (k < i) ⊎ (i ≤ k) → (x : List ℕ) × Contains more x
                  × AreListed w kept x (take i order)
              at i le (inr few) =
                  let f : (x : List ℕ) × Contains cuts x × AreListed w kept x (take i order) =
                  so_far.each_number i few in
                  (f.0, keeps f.0 f.1, f.2)
              at i le (inl many) =
                  let e : suc k ≡ i = omega arith in (
                    join cut low,
                    last_in_walk w.run w.from (join cut low) more walk,
                    subst (λ (n : ℕ). AreListed w kept (join cut low) (take n order)) e next_has,
                  )

    made_to : (k : ℕ) → k ≤ length order → (cuts : List (List ℕ)) × (cut : List ℕ) × IsMadeTo k cuts cut
    made_to zero le = (w.from ∷ [], w.from, made_start)
    made_to (suc k) le =
        go (made_to k (omega arith))
        (down_set_has_cut w is kept (is_among (take (suc k) order)) (first_are_down_set (suc k) le))
      where
        go : (cuts : List (List ℕ)) × (cut : List ℕ) × IsMadeTo k cuts cut
            → (low : List ℕ) × IsLeastWith w (is_among (take (suc k) order)) low
            × AreKeptIn w kept low (is_among (take (suc k) order))
            → (cuts : List (List ℕ)) × (cut : List ℕ) × IsMadeTo (suc k) cuts cut
        go (cuts, cut, so_far) (low, least, are) =
            let m : (more : List (List ℕ)) × IsMadeTo (suc k) more (join cut low) =
            made_more k cuts cut so_far (omega arith) low least.in_window
            (part_listed w kept low (take (suc k) order) are) in
            (m.0, join cut low, m.1)

    pub extension_has_walk : (cuts : List (List ℕ)) × IsWalk w.run w.from cuts w.to × Follows w kept cuts order
    extension_has_walk = go (made_to (length order) (omega arith))
      where
        go : (cuts : List (List ℕ)) × (cut : List ℕ) × IsMadeTo (length order) cuts cut
            → (cuts : List (List ℕ)) × IsWalk w.run w.from cuts w.to × Follows w kept cuts order
        go (cuts, cut, made) =
            last (walk_on w is (λ x. (i : ℕ) × (i ≤ length order) × AreListed w kept x (take i order)) cuts cut w.to
            made.walk made.in_window is.last made.in_window.below
            (sum_le cut w.to made.in_window.below
            (made.in_window.consistent.fits.one_each ∙ sym is.last.consistent.fits.one_each)) made.each_cut between)
          where
            between : (x : List ℕ) → IsCutIn w x → IsWithin cut x → IsWithin x w.to
                → (i : ℕ) × (i ≤ length order) × AreListed w kept x (take i order)
            between x in_x above below = (length order, omega arith, λ e. (to e, from e))
              where
                whole : take (length order) order ≡ order
                whole = take_all (length order) order (omega arith)

                to : (e : Place) → Contains (take (length order) order) e → IsKeptIn w kept x e
                to e has =
                    let i : IsKeptIn w kept cut e = (made.now e).0 has in
                    record { is_kept = i.is_kept; after = i.after; before = includes_more cut x above e i.before }

                from : (e : Place) → IsKeptIn w kept x e → Contains (take (length order) order) e
                from e i =
                    subst (λ (l : List Place). Contains l e) (sym whole)
                    ((so.just e).1 (record {
                      is_kept = i.is_kept;
                      after = i.after;
                      before = includes_more x w.to below e i.before;
                    }))

            last : (more : List (List ℕ)) × IsWalk w.run w.from more w.to
                × All (λ x. (i : ℕ) × (i ≤ length order) × AreListed w kept x (take i order)) more
                × ((x : List ℕ) → Contains cuts x → Contains more x)
                → (cuts : List (List ℕ)) × IsWalk w.run w.from cuts w.to × Follows w kept cuts order
            last (more, walk, all, keeps) =
                (more, walk, record { each_cut = each_cut; each_number = each_number })
              where
                each_cut : (x : List ℕ) → Contains more x → (k : ℕ) × (k ≤ length order)
                    × AreKeptIn w kept x (is_among (take k order))
                each_cut x has =
                    let f : (i : ℕ) × (i ≤ length order) × AreListed w kept x (take i order) =
                    All-contains (λ x. (i : ℕ) × (i ≤ length order) × AreListed w kept x (take i order)) more x all
                    has in
                    (f.0, f.1, listed_part w kept x (take f.0 order) f.2)

                each_number : (k : ℕ) → k ≤ length order → (x : List ℕ) × Contains more x
                    × AreKeptIn w kept x (is_among (take k order))
                each_number k le =
                    let f : (x : List ℕ) × Contains cuts x × AreListed w kept x (take k order) =
                    made.each_number k le in
                    (f.0, keeps f.0 f.1, listed_part w kept f.0 (take k order) f.2)

-- ---- Definitely

pub definitely_by_extensions : (w : Window) → IsWindow w → (kept : Place → Bool) (test : List ℕ → Bool)
    → KeptDecide w kept test → DefinitelyIn w test
    ↔ ((order : List Place) → IsExtension w kept order → PassesSatisfying w test order)
definitely_by_extensions w is kept test decide = (to, from)
  where
    to : DefinitelyIn w test → (order : List Place) → IsExtension w kept order → PassesSatisfying w test order
    to definitely order so = go (extension_has_walk w kept order so is)
      where
        go : (cuts : List (List ℕ)) × IsWalk w.run w.from cuts w.to × Follows w kept cuts order
            → PassesSatisfying w test order
        go (cuts, walk, follows) = found (definitely cuts walk)
          where
            found : HasSatisfying test cuts → PassesSatisfying w test order
            found (cut, has, yes') = at (follows.each_cut cut has)
              where
                at : (k : ℕ) × (k ≤ length order) × AreKeptIn w kept cut (is_among (take k order))
                    → PassesSatisfying w test order
                at (k, le, are) =
                    low (down_set_has_cut w is kept (is_among (take k order))
                    (first_are_down_set w kept order so k le))
                  where
                    low : (x : List ℕ) × IsLeastWith w (is_among (take k order)) x
                        × AreKeptIn w kept x (is_among (take k order)) → PassesSatisfying w test order
                    low (x, least, same) = (
                      k,
                      le,
                      (
                        x,
                        least,
                        one_truth w is kept test decide x cut (is_among (take k order)) least.in_window
                            (cut_in w cuts walk cut has) same are ∙ yes',
                      ),
                    )

    from : ((order : List Place) → IsExtension w kept order → PassesSatisfying w test order) → DefinitelyIn w test
    from each cuts walk = go (walk_has_extension w kept cuts walk)
      where
        go : (order : List Place) × IsExtension w kept order × Follows w kept cuts order → HasSatisfying test cuts
        go (order, so, follows) = found (each order so)
          where
            found : PassesSatisfying w test order → HasSatisfying test cuts
            found (k, le, (x, least, yes')) = at (follows.each_number k le)
              where
                at : (cut : List ℕ) × Contains cuts cut × AreKeptIn w kept cut (is_among (take k order))
                    → HasSatisfying test cuts
                at (cut, has, are) = (
                  cut,
                  has,
                  one_truth w is kept test decide cut x (is_among (take k order)) (cut_in w cuts walk cut has)
                      least.in_window are
                      (least_has_no_other w is kept (is_among (take k order))
                      (first_are_down_set w kept order so k le) x least) ∙ yes',
                )
