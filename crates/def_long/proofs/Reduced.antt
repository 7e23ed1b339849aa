-- A reduction has the answers of what is reduced.
use Rattle.std.proofs.Common.{◌≡◌, ℕ, zero, suc, ◌<◌, ◌≤◌, Bool, true, false, ◌&&◌, IsTrue, List, [], ◌∷◌, length, get_or, map, take, AllPairs, Contains, refl, sym, ap, ◌∙◌, subst, inl, inr, ◌↔◌, arith}
use Rattle.std.proofs.lemmas.Bool.{and_from, and_parts}
use Rattle.std.proofs.lemmas.List.{get_or-map, get_or_default, length-map, take-map}
use Rattle.std.proofs.lemmas.List.Elements.{All-contains, Contains-get_or}
use Rattle.def_model.specs.Events.{Place}
use Rattle.def_model.specs.Order.{HappenedBefore, IsUpTo}
use Rattle.def_model.specs.Cuts.{Includes, cut_of}
use Rattle.def_model.specs.Observations.{HasNoSatisfying, HasSatisfying, IsWalk}
use Rattle.def_model.proofs.CutsAndCounts.{includes_from_test, test_from_includes}
use Rattle.def_long.specs.Windows.{Window, IsCutIn, IsWindow, PossiblyIn, DefinitelyIn}
use Rattle.def_long.specs.Kept.{IsKeptIn, IsKept, AreKeptIn, IsDownSet, IsLeastWith}
use Rattle.def_long.specs.Extensions.{is_among, IsExtension, Follows}
use Rattle.def_long.specs.Laws.{AvoidingOfReduction, CutOfReduction}
use Rattle.def_long.specs.Reductions.{HaveSameEvents, IsReduction}
use Rattle.def_long.proofs.Definite.{all_contain, extension_has_walk}
use Rattle.def_long.proofs.WalkExtensions.{AreListed, part_listed, walk_has_extension}
use Rattle.def_long.proofs.LeastCuts.{down_set_has_cut}
use Rattle.def_long.proofs.Truths.{kept_part, kept_part_is}
use Rattle.def_long.proofs.WindowWalks.{cut_in}

-- ---- lists of images

contains_image : (f : Place → Place) (places : List Place) (e : Place) → Contains places e
    → Contains (map f places) (f e)
contains_image f [] e (k, lt, at) = absurd (omega arith)
contains_image f (d ∷ rest) e (zero, lt, at) = (0, omega arith, ap f at)
contains_image f (d ∷ rest) e (suc k, lt, at) =
    let r : Contains (map f rest) (f e) = contains_image f rest e (k, omega arith, at) in
    let less : r.0 < length (map f rest) = r.1 in
    (suc r.0, omega arith, r.2)

image_of : (f : Place → Place) (places : List Place) (e : Place) → Contains (map f places) e
    → (d : Place) × Contains places d × (f d ≡ e)
image_of f [] e (k, lt, at) = absurd (omega arith)
image_of f (d ∷ rest) e (zero, lt, at) = (d, (0, omega arith, refl), at)
image_of f (d ∷ rest) e (suc k, lt, at) =
    let r : (d : Place) × Contains rest d × (f d ≡ e) = image_of f rest e (k, omega arith, at) in
    let less : r.1.0 < length rest = r.1.1 in
    (r.0, (suc r.1.0, omega arith, r.1.2), r.2)

-- ---- a reduction the other way

origin_order : (w w' : Window) (kept kept' : Place → Bool) → (same : HaveSameEvents w kept w' kept') → (e f : Place)
    → IsKept w' kept' e → IsKept w' kept' f
    → HappenedBefore w'.run e f ↔ HappenedBefore w.run (same.origin e) (same.origin f)
origin_order w w' kept kept' same e f is_e is_f = (
  λ h. both.1 (subst (λ (x : Place). HappenedBefore w'.run x (same.image (same.origin f)))
      (sym (same.image_of_origin e is_e))
      (subst (HappenedBefore w'.run e) (sym (same.image_of_origin f is_f)) h)),
  λ h. subst (λ (x : Place). HappenedBefore w'.run x f) (same.image_of_origin e is_e)
      (subst (HappenedBefore w'.run (same.image (same.origin e))) (same.image_of_origin f is_f) (both.0 h)),
)
  where
    both : HappenedBefore w.run (same.origin e) (same.origin f)
        ↔ HappenedBefore w'.run (same.image (same.origin e)) (same.image (same.origin f))
    both = same.same_order (same.origin e) (same.origin f) (same.origin_kept e is_e) (same.origin_kept f is_f)

reversed_events : (w w' : Window) (kept kept' : Place → Bool) → HaveSameEvents w kept w' kept'
    → HaveSameEvents w' kept' w kept
reversed_events w w' kept kept' same = record {
  image = same.origin;
  origin = same.image;
  image_kept = same.origin_kept;
  origin_kept = same.image_kept;
  origin_of_image = same.image_of_origin;
  image_of_origin = same.origin_of_image;
  same_order = origin_order w w' kept kept' same;
}

reversed : (w w' : Window) (kept kept' : Place → Bool) (test test' : List ℕ → Bool)
    → IsReduction w kept test w' kept' test' → IsReduction w' kept' test' w kept test
unfolding reversed_events
reversed w w' kept kept' test test' same = record {
  events = reversed_events w w' kept kept' same.events;
  same_truth = truth;
}
  where
    truth : (cut' cut : List ℕ) → IsCutIn w' cut' → IsCutIn w cut
        → ((e : Place) → IsKept w' kept' e → Includes cut' e ↔ Includes cut (same.events.origin e))
        → test' cut' ≡ test cut
    truth cut' cut in' in_w agree = sym (same.same_truth cut cut' in_w in' back)
      where
        back : (e : Place) → IsKept w kept e → Includes cut e ↔ Includes cut' (same.events.image e)
        back e is_e = (
          λ i. at.1 (subst (Includes cut) (sym (same.events.origin_of_image e is_e)) i),
          λ i. subst (Includes cut) (same.events.origin_of_image e is_e) (at.0 i),
        )
          where
            at : Includes cut' (same.events.image e) ↔ Includes cut (same.events.origin (same.events.image e))
            at = agree (same.events.image e) (same.events.image_kept e is_e)

-- ---- from what is reduced

module _ (w w' : Window) (kept kept' : Place → Bool) (test test' : List ℕ → Bool) (is : IsWindow w)
    (is' : IsWindow w') (same : IsReduction w kept test w' kept' test') where
  -- the images of the kept events of a cut
  images : List ℕ → Place → Bool
  images cut e = kept_part w' kept' w'.to e && cut_of cut (same.events.origin e)

  images_are : (cut : List ℕ) (e : Place) → IsTrue (images cut e)
      ↔ (IsKept w' kept' e × Includes cut (same.events.origin e))
  unfolding images
  images_are cut e = (to, from)
    where
      to : IsTrue (kept_part w' kept' w'.to e && cut_of cut (same.events.origin e))
          → IsKept w' kept' e × Includes cut (same.events.origin e)
      to t =
          let a : (kept_part w' kept' w'.to e ≡ true) × (cut_of cut (same.events.origin e) ≡ true) =
          and_parts (kept_part w' kept' w'.to e) (cut_of cut (same.events.origin e)) t in
          ((kept_part_is w' kept' w'.to e).0 a.0, includes_from_test cut (same.events.origin e) a.1)

      from : IsKept w' kept' e × Includes cut (same.events.origin e)
          → IsTrue (kept_part w' kept' w'.to e && cut_of cut (same.events.origin e))
      from (is_e, i) =
          and_from (kept_part w' kept' w'.to e) (cut_of cut (same.events.origin e))
          ((kept_part_is w' kept' w'.to e).1 is_e) (test_from_includes cut (same.events.origin e) i)

  images_down : (cut : List ℕ) → IsCutIn w cut → IsDownSet w' kept' (images cut)
  images_down cut in_w = record { kept_alone = λ e t. ((images_are cut e).0 t).0; closed = closed }
    where
      closed : (e f : Place) → IsKept w' kept' e → HappenedBefore w'.run e f → IsTrue (images cut f)
          → IsTrue (images cut e)
      closed e f is_e h t =
          let i : IsKept w' kept' f × Includes cut (same.events.origin f) = (images_are cut f).0 t in
          (images_are cut e).1 (
            is_e,
            in_w.consistent.closed (same.events.origin e) (same.events.origin f)
                ((origin_order w w' kept kept' same.events e f is_e i.0).0 h) i.1,
          )

  pub cut_onward : (cut : List ℕ) → IsCutIn w cut → (x : List ℕ) × IsCutIn w' x
      × ((e : Place) → IsKept w kept e → Includes cut e ↔ Includes x (same.events.image e)) × (test' x ≡ test cut)
  cut_onward cut in_w = go (down_set_has_cut w' is' kept' (images cut) (images_down cut in_w))
    where
      go : (x : List ℕ) × IsLeastWith w' (images cut) x × AreKeptIn w' kept' x (images cut) → (x : List ℕ)
          × IsCutIn w' x × ((e : Place) → IsKept w kept e → Includes cut e ↔ Includes x (same.events.image e))
          × (test' x ≡ test cut)
      go (x, least, are) =
          (x, least.in_window, agree, sym (same.same_truth cut x in_w least.in_window agree))
        where
          agree : (e : Place) → IsKept w kept e → Includes cut e ↔ Includes x (same.events.image e)
          agree e is_e = (to, from)
            where
              to : Includes cut e → Includes x (same.events.image e)
              to i =
                  let k : IsKeptIn w' kept' x (same.events.image e) =
                  (are (same.events.image e)).0
                  ((images_are cut (same.events.image e)).1
                  (same.events.image_kept e is_e, subst (Includes cut) (sym (same.events.origin_of_image e is_e)) i)) in
                  k.before

              from : Includes x (same.events.image e) → Includes cut e
              from i =
                  let k : IsKept w' kept' (same.events.image e) = same.events.image_kept e is_e in
                  let both : IsKept w' kept' (same.events.image e)
                  × Includes cut (same.events.origin (same.events.image e)) =
                  (images_are cut (same.events.image e)).0
                  ((are (same.events.image e)).1 (record { is_kept = k.is_kept; after = k.after; before = i })) in
                  subst (Includes cut) (same.events.origin_of_image e is_e) both.1

  pub possibly_onward : PossiblyIn w test → PossiblyIn w' test'
  possibly_onward (cut, in_w, yes') =
      let x : (x : List ℕ) × IsCutIn w' x
      × ((e : Place) → IsKept w kept e → Includes cut e ↔ Includes x (same.events.image e)) × (test' x ≡ test cut) =
      cut_onward cut in_w in
      (x.0, x.1, x.3 ∙ yes')

  -- ---- the origins of an extension

  module _ (order' : List Place) (so' : IsExtension w' kept' order') where
    origins : IsExtension w kept (map same.events.origin order')
    origins = record { just = λ e. (to e, from e); ordered = ordered }
      where
        to : (e : Place) → Contains (map same.events.origin order') e → IsKept w kept e
        to e has =
            let d : (d : Place) × Contains order' d × (same.events.origin d ≡ e) =
            image_of same.events.origin order' e has in
            subst (IsKept w kept) d.2 (same.events.origin_kept d.0 ((so'.just d.0).0 d.1))

        from : (e : Place) → IsKept w kept e → Contains (map same.events.origin order') e
        from e is_e =
            subst (Contains (map same.events.origin order')) (same.events.origin_of_image e is_e)
            (contains_image same.events.origin order' (same.events.image e)
            ((so'.just (same.events.image e)).1 (same.events.image_kept e is_e)))

        ordered : AllPairs (λ (e f : Place). IsUpTo w.run f e → ⊥) (map same.events.origin order')
        ordered i j d lt within up =
            so'.ordered i j d lt few
            (back (get_or order' i d) (get_or order' j d)
            ((so'.just (get_or order' i d)).0 (i, omega (arith, few), at i d (omega (arith, few))))
            ((so'.just (get_or order' j d)).0 (j, few, at j d few))
            (subst (λ (x : Place). IsUpTo w.run x (same.events.origin (get_or order' i d)))
            (get_or-map same.events.origin order' j d d few)
            (subst (IsUpTo w.run (get_or (map same.events.origin order') j d))
            (get_or-map same.events.origin order' i d d (omega (arith, few))) up)))
          where
            few : j < length order'
            few = omega (arith, length-map order' same.events.origin, within)

            at : (k : ℕ) (d : Place) → k < length order' → get_or order' k (get_or order' k d) ≡ get_or order' k d
            at k d lt = get_or_default order' k (get_or order' k d) d lt

            back : (e f : Place) → IsKept w' kept' e → IsKept w' kept' f
                → IsUpTo w.run (same.events.origin f) (same.events.origin e) → IsUpTo w'.run f e
            back e f is_e is_f (inl equal) =
                inl (sym (same.events.image_of_origin f is_f)
                ∙ (ap same.events.image equal ∙ same.events.image_of_origin e is_e))
            back e f is_e is_f (inr h) =
                inr ((origin_order w w' kept kept' same.events f e is_f is_e).1 h)

    -- cuts with the first k of both have the same truth
    same_first : (k : ℕ) → k ≤ length order' → (x x' : List ℕ) → IsCutIn w x → IsCutIn w' x'
        → AreListed w kept x (take k (map same.events.origin order')) → AreListed w' kept' x' (take k order')
        → test x ≡ test' x'
    same_first k le x x' in_x in_x' are are' = same.same_truth x x' in_x in_x' (λ e is_e. (to e is_e, from e is_e))
      where
        firsts : take k (map same.events.origin order') ≡ map same.events.origin (take k order')
        firsts = take-map same.events.origin k order'

        to : (e : Place) → IsKept w kept e → Includes x e → Includes x' (same.events.image e)
        to e is_e i =
            go (image_of same.events.origin (take k order') e
            (subst (λ (l : List Place). Contains l e) firsts
            ((are e).1 (record { is_kept = is_e.is_kept; after = is_e.after; before = i }))))
          where
            go : (d : Place) × Contains (take k order') d × (same.events.origin d ≡ e)
                → Includes x' (same.events.image e)
            go (d, has, at) =
                let k' : IsKeptIn w' kept' x' d = (are' d).0 has in
                subst (Includes x')
                (sym (same.events.image_of_origin d ((so'.just d).0 (all_contain order' k d le has)))
                ∙ ap same.events.image at)
                k'.before

        from : (e : Place) → IsKept w kept e → Includes x' (same.events.image e) → Includes x e
        from e is_e i =
            let k' : IsKept w' kept' (same.events.image e) = same.events.image_kept e is_e in
            let has : Contains (take k order') (same.events.image e) =
            (are' (same.events.image e)).1 (record { is_kept = k'.is_kept; after = k'.after; before = i }) in
            let j : IsKeptIn w kept x e =
            (are e).0 (subst (λ (l : List Place). Contains l e) (sym firsts)
            (subst (Contains (map same.events.origin (take k order'))) (same.events.origin_of_image e is_e)
            (contains_image same.events.origin (take k order') (same.events.image e) has))) in
            j.before

  -- a walk through the reduction leads to one of which each cut has the truth of one of its cuts
  SameTruths : List (List ℕ) → List (List ℕ) → Type 0
  SameTruths cuts' cuts =
      (x : List ℕ) → Contains cuts x → (x' : List ℕ) × Contains cuts' x' × (test x ≡ test' x')

  walk_back : (cuts' : List (List ℕ)) → IsWalk w'.run w'.from cuts' w'.to → (cuts : List (List ℕ))
      × IsWalk w.run w.from cuts w.to × SameTruths cuts' cuts
  unfolding SameTruths
  walk_back cuts' walk' = go (walk_has_extension w' kept' cuts' walk')
    where
      go : (order' : List Place) × IsExtension w' kept' order' × Follows w' kept' cuts' order'
          → (cuts : List (List ℕ)) × IsWalk w.run w.from cuts w.to
          × ((x : List ℕ) → Contains cuts x → (x' : List ℕ) × Contains cuts' x' × (test x ≡ test' x'))
      go (order', so', follows') =
          run (extension_has_walk w kept (map same.events.origin order') (origins order' so') is)
        where
          run : (cuts : List (List ℕ)) × IsWalk w.run w.from cuts w.to
              × Follows w kept cuts (map same.events.origin order') → (cuts : List (List ℕ))
              × IsWalk w.run w.from cuts w.to
              × ((x : List ℕ) → Contains cuts x → (x' : List ℕ) × Contains cuts' x' × (test x ≡ test' x'))
          run (cuts, walk, follows) = (cuts, walk, λ x has. at x has (follows.each_cut x has))
            where
              at : (x : List ℕ) → Contains cuts x → (k : ℕ) × (k ≤ length (map same.events.origin order'))
                  × AreKeptIn w kept x (is_among (take k (map same.events.origin order')))
                  → (x' : List ℕ) × Contains cuts' x' × (test x ≡ test' x')
              at x has (k, le, are) = last (follows'.each_number k few)
                where
                  few : k ≤ length order'
                  few = omega (arith, length-map order' same.events.origin, le)

                  last : (x' : List ℕ) × Contains cuts' x' × AreKeptIn w' kept' x' (is_among (take k order'))
                      → (x' : List ℕ) × Contains cuts' x' × (test x ≡ test' x')
                  last (x', has', are') = (
                    x',
                    has',
                    same_first order' so' k few x x' (cut_in w cuts walk x has) (cut_in w' cuts' walk' x' has')
                        (part_listed w kept x (take k (map same.events.origin order')) are)
                        (part_listed w' kept' x' (take k order') are'),
                  )

  pub definitely_onward : DefinitelyIn w test → DefinitelyIn w' test'
  unfolding SameTruths
  definitely_onward definitely cuts' walk' = go (walk_back cuts' walk')
    where
      go : (cuts : List (List ℕ)) × IsWalk w.run w.from cuts w.to
          × ((x : List ℕ) → Contains cuts x → (x' : List ℕ) × Contains cuts' x' × (test x ≡ test' x'))
          → HasSatisfying test' cuts'
      go (cuts, walk, truths) = found (definitely cuts walk)
        where
          found : HasSatisfying test cuts → HasSatisfying test' cuts'
          found (x, has, yes') =
              let t : (x' : List ℕ) × Contains cuts' x' × (test x ≡ test' x') = truths x has in
              (t.0, t.1, sym t.2 ∙ yes')

  pub avoiding_back : (cuts' : List (List ℕ)) → IsWalk w'.run w'.from cuts' w'.to → HasNoSatisfying test' cuts'
      → (cuts : List (List ℕ)) × IsWalk w.run w.from cuts w.to × HasNoSatisfying test cuts
  unfolding SameTruths
  avoiding_back cuts' walk' none = go (walk_back cuts' walk')
    where
      go : (cuts : List (List ℕ)) × IsWalk w.run w.from cuts w.to
          × ((x : List ℕ) → Contains cuts x → (x' : List ℕ) × Contains cuts' x' × (test x ≡ test' x'))
          → (cuts : List (List ℕ)) × IsWalk w.run w.from cuts w.to × HasNoSatisfying test cuts
      go (cuts, walk, truths) = (
        cuts,
        walk,
        λ k d lt. at (get_or cuts k d) (truths (get_or cuts k d) (Contains-get_or cuts k d lt)),
      )
        where
          at : (x : List ℕ) → (x' : List ℕ) × Contains cuts' x' × (test x ≡ test' x') → test x ≡ false
          at x (x', has, is_same) = is_same ∙ All-contains (λ y. test' y ≡ false) cuts' x' none has

-- ---- both ways

pub possibly_of_reduction : (w w' : Window) (kept kept' : Place → Bool) (test test' : List ℕ → Bool) → IsWindow w
    → IsWindow w' → IsReduction w kept test w' kept' test' → PossiblyIn w test ↔ PossiblyIn w' test'
possibly_of_reduction w w' kept kept' test test' is is' same = (
  possibly_onward w w' kept kept' test test' is is' same,
  possibly_onward w' w kept' kept test' test is' is (reversed w w' kept kept' test test' same),
)

pub definitely_of_reduction : (w w' : Window) (kept kept' : Place → Bool) (test test' : List ℕ → Bool) → IsWindow w
    → IsWindow w' → IsReduction w kept test w' kept' test' → DefinitelyIn w test ↔ DefinitelyIn w' test'
definitely_of_reduction w w' kept kept' test test' is is' same = (
  definitely_onward w w' kept kept' test test' is is' same,
  definitely_onward w' w kept' kept test' test is' is (reversed w w' kept kept' test test' same),
)

-- ---- evidence

pub cut_of_reduction : CutOfReduction
unfolding reversed reversed_events
cut_of_reduction w w' kept kept' test test' is is' same cut' in' =
    cut_onward w' w kept' kept test' test is' is (reversed w w' kept kept' test test' same) cut' in'

pub avoiding_of_reduction : AvoidingOfReduction
avoiding_of_reduction w w' kept kept' test test' is is' same cuts' walk' none =
    avoiding_back w w' kept kept' test test' is is' same cuts' walk' none
