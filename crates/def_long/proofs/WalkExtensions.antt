-- Each walk through a window follows a linear extension of happened-before among the kept events, and each extension is
-- followed by a walk.
use Rattle.std.proofs.Common.{◌≡◌, ℕ, zero, suc, ◌+◌, ◌<◌, ◌≤◌, Bool, true, false, IsTrue, ◌&&◌, nat_eq, List, [], ◌∷◌, ◌++◌, length, get_or, take, AllPairs, Contains, sym, ap, ◌∙◌, subst, inl, inr, ◌⊎◌, ◌↔◌, arith, eq-eqb, eqb-true}
use Rattle.std.proofs.lemmas.Bool.{and_from, and_parts, cases_Bool, cases_lt, false≢true, or_cases, or_left, or_right}
use Rattle.std.proofs.lemmas.List.{length_push, take-append-le, take_all}
use Rattle.std.proofs.lemmas.List.Elements.{Contains-append_left, Contains-get_or, Contains-push, Contains-push_cases}
use Rattle.std.proofs.lemmas.List.Quantifiers.{all_pairs_push}
use Rattle.def_model.specs.Events.{Place, place}
use Rattle.def_model.specs.Order.{IsUpTo}
use Rattle.def_model.specs.Cuts.{AddsEvent, Includes, one_more}
use Rattle.def_model.specs.Observations.{IsWalk}
use Rattle.def_model.proofs.Chains.{same_place}
use Rattle.def_model.proofs.Lists.{linked_at}
use Rattle.def_long.specs.Windows.{Window, IsCutIn}
use Rattle.def_long.specs.Kept.{IsKeptIn, AreKeptIn}
use Rattle.def_long.specs.Extensions.{is_among, IsExtension, Follows}
use Rattle.def_long.proofs.LeastCuts.{closed_up_to}
use Rattle.def_long.proofs.WindowCuts.{includes_more}
use Rattle.def_long.proofs.WindowWalks.{added_cases, includes_added, more_within, not_empty, number_in, walk_first, walk_in, walk_last}

-- ---- the places of a list

same_from_test : (d e : Place) → (nat_eq d.process e.process && nat_eq d.number e.number) ≡ true → d ≡ e
same_from_test d e t =
    let a : (nat_eq d.process e.process ≡ true) × (nat_eq d.number e.number ≡ true) =
    and_parts (nat_eq d.process e.process) (nat_eq d.number e.number) t in
    same_place d e (eqb-true d.process e.process a.0) (eqb-true d.number e.number a.1)

test_from_same : (d e : Place) → d ≡ e → (nat_eq d.process e.process && nat_eq d.number e.number) ≡ true
test_from_same d e same =
    and_from (nat_eq d.process e.process) (nat_eq d.number e.number)
    (eq-eqb d.process e.process (ap (λ (x : Place). x.process) same))
    (eq-eqb d.number e.number (ap (λ (x : Place). x.number) same))

pub among_contains : (places : List Place) (e : Place) → IsTrue (is_among places e) → Contains places e
among_contains [] e t = absurd (false≢true t)
among_contains (d ∷ rest) e t =
    go (or_cases (nat_eq d.process e.process && nat_eq d.number e.number) (is_among rest e) t) (among_contains rest e)
  where
    go : ((nat_eq d.process e.process && nat_eq d.number e.number) ≡ true) ⊎ (is_among rest e ≡ true)
        → (IsTrue (is_among rest e) → Contains rest e) → Contains (d ∷ rest) e
    go (inl here) later = (0, omega arith, same_from_test d e here)
    go (inr there) later =
        let r : Contains rest e = later there in
        let lt : r.0 < length rest = r.1 in (suc r.0, omega arith, r.2)

pub contains_among : (places : List Place) (e : Place) → Contains places e → IsTrue (is_among places e)
contains_among [] e (k, lt, at) = absurd (omega arith)
contains_among (d ∷ rest) e (zero, lt, at) =
    or_left (nat_eq d.process e.process && nat_eq d.number e.number) (is_among rest e) (test_from_same d e at)
contains_among (d ∷ rest) e (suc k, lt, at) =
    or_right (nat_eq d.process e.process && nat_eq d.number e.number) (is_among rest e)
    (contains_among rest e (k, omega arith, at))

-- the kept events of a cut are those of a list
abbrev pub AreListed : Window → (Place → Bool) → List ℕ → List Place → Type 0
AreListed w kept cut places = (e : Place) → Contains places e ↔ IsKeptIn w kept cut e

pub listed_part : (w : Window) (kept : Place → Bool) (cut : List ℕ) (places : List Place)
    → AreListed w kept cut places → AreKeptIn w kept cut (is_among places)
listed_part w kept cut places are e =
    (λ t. (are e).0 (among_contains places e t), λ i. contains_among places e ((are e).1 i))

pub part_listed : (w : Window) (kept : Place → Bool) (cut : List ℕ) (places : List Place)
    → AreKeptIn w kept cut (is_among places) → AreListed w kept cut places
part_listed w kept cut places are e =
    (λ i. (are e).0 (contains_among places e i), λ i. among_contains places e ((are e).1 i))

-- ---- from a walk

-- The kept events of cut j of a walk, in an order that it follows up to there.
record IsFollowedTo (w : Window) (kept : Place → Bool) (cuts : List (List ℕ)) (j : ℕ) (order : List Place) :
    Type 0 where
  just : AreListed w kept (get_or cuts j []) order
  ordered : AllPairs (λ (e f : Place). IsUpTo w.run f e → ⊥) order
  each_cut : (i : ℕ) → i ≤ j → (k : ℕ) × (k ≤ length order) × AreListed w kept (get_or cuts i []) (take k order)
  each_number : (k : ℕ) → k ≤ length order → (i : ℕ) × (i ≤ j)
      × AreListed w kept (get_or cuts i []) (take k order)

module _ (w : Window) (kept : Place → Bool) (cuts : List (List ℕ)) (walk : IsWalk w.run w.from cuts w.to) where
  none_first : AreListed w kept (get_or cuts 0 []) []
  none_first e = (
    λ has. let lt : has.0 < 0 = has.1 in absurd (omega arith),
    λ i. absurd (i.after (subst (λ (x : List ℕ). Includes x e) (walk_first w.run w.from w.to cuts walk) i.before)),
  )

  followed_start : IsFollowedTo w kept cuts 0 []
  followed_start = record {
    just = none_first;
    ordered = λ i j d lt within. absurd (omega arith);
    each_cut = λ i le. let e : i ≡ 0 = omega arith in
        (0, omega arith, subst (λ (n : ℕ). AreListed w kept (get_or cuts n []) []) (sym e) none_first);
    each_number = λ k le. let e : k ≡ 0 = omega arith in
        (0, omega arith, subst (λ (n : ℕ). AreListed w kept (get_or cuts 0 []) (take n [])) (sym e) none_first);
  }

  module _ (j : ℕ) (order : List Place) (lt : suc j < length cuts) (so : IsFollowedTo w kept cuts j order)
      (p : ℕ) (there : p < length (get_or cuts j [])) (is : get_or cuts (suc j) [] ≡ one_more (get_or cuts j []) p)
    where
      old : List ℕ
      old = get_or cuts j []

      -- the event that comes
      abbrev new_event : Place
      new_event = place p (get_or (get_or cuts j []) p 0 + 1)

      old_in : IsCutIn w (get_or cuts j [])
      old_in = walk_in w cuts walk j (omega arith)

      not_old : Includes (get_or cuts j []) new_event → ⊥
      not_old i = let h : get_or (get_or cuts j []) p 0 + 1 ≤ get_or (get_or cuts j []) p 0 = i.1 in omega arith

      comes : Includes (get_or cuts (suc j) []) new_event
      comes = subst (λ (x : List ℕ). Includes x new_event) (sym is) (includes_added (get_or cuts j []) p there)

      stays : (e : Place) → Includes (get_or cuts j []) e → Includes (get_or cuts (suc j) []) e
      stays e i =
          subst (λ (x : List ℕ). Includes x e) (sym is)
          (includes_more (get_or cuts j []) (one_more (get_or cuts j []) p) (more_within (get_or cuts j []) p there) e
          i)

      was_or_comes : (e : Place) → Includes (get_or cuts (suc j) []) e → Includes (get_or cuts j []) e
          ⊎ (e ≡ new_event)
      was_or_comes e i = added_cases (get_or cuts j []) p e there (subst (λ (x : List ℕ). Includes x e) is i)

      not_first : Includes w.from new_event → ⊥
      not_first i = not_old (includes_more w.from (get_or cuts j []) old_in.above new_event i)

      -- an event that isn't kept
      passed_by : kept new_event ≡ false → IsFollowedTo w kept cuts (suc j) order
      passed_by out = record {
        just = same;
        ordered = so.ordered;
        each_cut = λ i le. cut_at i (cases_lt j i) le;
        each_number = λ k le. number_at k (so.each_number k le);
      }
        where
          same : AreListed w kept (get_or cuts (suc j) []) order
          same e = (to, from)
            where
              to : Contains order e → IsKeptIn w kept (get_or cuts (suc j) []) e
              to has =
                  let i : IsKeptIn w kept (get_or cuts j []) e = (so.just e).0 has in
                  record { is_kept = i.is_kept; after = i.after; before = stays e i.before }

              from : IsKeptIn w kept (get_or cuts (suc j) []) e → Contains order e
              from i = pick (was_or_comes e i.before)
                where
                  pick : Includes (get_or cuts j []) e ⊎ (e ≡ new_event) → Contains order e
                  pick (inl was) =
                      (so.just e).1 (record { is_kept = i.is_kept; after = i.after; before = was })
                  pick (inr at) =
                      absurd (false≢true (sym out ∙ (ap kept (sym at) ∙ i.is_kept)))

          cut_at : (i : ℕ) → (j < i) ⊎ (i ≤ j) → i ≤ suc j → (k : ℕ) × (k ≤ length order)
              × AreListed w kept (get_or cuts i []) (take k order)
          cut_at i (inr le) within = so.each_cut i le
          cut_at i (inl more) within =
              let e : suc j ≡ i = omega arith in (
                length order,
                omega arith,
                subst (AreListed w kept (get_or cuts i [])) (sym (take_all (length order) order (omega arith)))
                    (subst (λ (n : ℕ). AreListed w kept (get_or cuts n []) order) e same),
              )

          number_at : (k : ℕ) → (i : ℕ) × (i ≤ j) × AreListed w kept (get_or cuts i []) (take k order)
              → (i : ℕ) × (i ≤ suc j) × AreListed w kept (get_or cuts i []) (take k order)
          number_at k (i, le, are) = (i, omega arith, are)

      -- a kept event
      taken : kept new_event ≡ true → IsFollowedTo w kept cuts (suc j) (order ++ new_event ∷ [])
      taken yes' = record {
        just = now;
        ordered = all_pairs_push (λ (e f : Place). IsUpTo w.run f e → ⊥) order new_event so.ordered apart;
        each_cut = λ i le. cut_at i (cases_lt j i) le;
        each_number = λ k le. number_at k (cases_lt (length order) k) le;
      }
        where
          now : AreListed w kept (get_or cuts (suc j) []) (order ++ new_event ∷ [])
          now e = (λ has. to (Contains-push_cases order new_event e has), from)
            where
              to : Contains order e ⊎ (new_event ≡ e) → IsKeptIn w kept (get_or cuts (suc j) []) e
              to (inl has) =
                  let i : IsKeptIn w kept (get_or cuts j []) e = (so.just e).0 has in
                  record { is_kept = i.is_kept; after = i.after; before = stays e i.before }
              to (inr at) =
                  subst (IsKeptIn w kept (get_or cuts (suc j) [])) at
                  (record { is_kept = yes'; after = not_first; before = comes })

              from : IsKeptIn w kept (get_or cuts (suc j) []) e → Contains (order ++ new_event ∷ []) e
              from i = pick (was_or_comes e i.before)
                where
                  pick : Includes (get_or cuts j []) e ⊎ (e ≡ new_event) → Contains (order ++ new_event ∷ []) e
                  pick (inl was) =
                      Contains-append_left order (new_event ∷ []) e
                      ((so.just e).1 (record { is_kept = i.is_kept; after = i.after; before = was }))
                  pick (inr at) =
                      subst (Contains (order ++ new_event ∷ [])) (sym at) (Contains-push order new_event)

          apart : (k : ℕ) (d : Place) → k < length order → IsUpTo w.run new_event (get_or order k d) → ⊥
          apart k d within up =
              let i : IsKeptIn w kept (get_or cuts j []) (get_or order k d) =
              (so.just (get_or order k d)).0 (Contains-get_or order k d within) in
              not_old (closed_up_to w (get_or cuts j []) new_event (get_or order k d) old_in.consistent up i.before)

          longer : length (order ++ new_event ∷ []) ≡ length order + 1
          longer = length_push order new_event

          same_take : (k : ℕ) → k ≤ length order → take k order ≡ take k (order ++ new_event ∷ [])
          same_take k le = sym (take-append-le k order (new_event ∷ []) le)

          cut_at : (i : ℕ) → (j < i) ⊎ (i ≤ j) → i ≤ suc j → (k : ℕ) × (k ≤ length (order ++ new_event ∷ []))
              × AreListed w kept (get_or cuts i []) (take k (order ++ new_event ∷ []))
          cut_at i (inr le) within = was (so.each_cut i le)
            where
              was : (k : ℕ) × (k ≤ length order) × AreListed w kept (get_or cuts i []) (take k order)
                  → (k : ℕ) × (k ≤ length (order ++ new_event ∷ []))
                  × AreListed w kept (get_or cuts i []) (take k (order ++ new_event ∷ []))
              was (k, few, are) =
                  (k, omega (arith, longer), subst (AreListed w kept (get_or cuts i [])) (same_take k few) are)
          cut_at i (inl more) within =
              let e : suc j ≡ i = omega arith in (
                length (order ++ new_event ∷ []),
                omega arith,
                subst (AreListed w kept (get_or cuts i []))
                    (sym (take_all (length (order ++ new_event ∷ [])) (order ++ new_event ∷ []) (omega arith)))
                    (subst (λ (n : ℕ). AreListed w kept (get_or cuts n []) (order ++ new_event ∷ [])) e now),
              )

          number_at : (k : ℕ) → (length order < k) ⊎ (k ≤ length order) → k ≤ length (order ++ new_event ∷ [])
              → (i : ℕ) × (i ≤ suc j) × AreListed w kept (get_or cuts i []) (take k (order ++ new_event ∷ []))
          number_at k (inr few) le = was (so.each_number k few)
            where
              was : (i : ℕ) × (i ≤ j) × AreListed w kept (get_or cuts i []) (take k order) → (i : ℕ) × (i ≤ suc j)
                  × AreListed w kept (get_or cuts i []) (take k (order ++ new_event ∷ []))
              was (i, within, are) =
                  (i, omega arith, subst (AreListed w kept (get_or cuts i [])) (same_take k few) are)
          number_at k (inl many) le = (
            suc j,
            omega arith,
            subst (AreListed w kept (get_or cuts (suc j) []))
                (sym (take_all k (order ++ new_event ∷ []) (omega (arith, longer)))) now,
          )

      followed_more : (more : List Place) × IsFollowedTo w kept cuts (suc j) more
      followed_more = go (cases_Bool (kept new_event))
        where
          go : (kept new_event ≡ true) ⊎ (kept new_event ≡ false)
              → (more : List Place) × IsFollowedTo w kept cuts (suc j) more
          go (inl yes') = (order ++ new_event ∷ [], taken yes')
          go (inr no') = (order, passed_by no')

  followed_to : (j : ℕ) → j < length cuts → (order : List Place) × IsFollowedTo w kept cuts j order
  followed_to zero lt = ([], followed_start)
  followed_to (suc j) lt = go (followed_to j (omega arith)) (linked_at AddsEvent cuts walk.steps j [] lt)
    where
      go : (order : List Place) × IsFollowedTo w kept cuts j order
          → AddsEvent (get_or cuts j []) (get_or cuts (suc j) [])
          → (order : List Place) × IsFollowedTo w kept cuts (suc j) order
      go (order, so) (p, there, is) = followed_more j order lt so p there is

  pub walk_has_extension : (order : List Place) × IsExtension w kept order × Follows w kept cuts order
  walk_has_extension = go (not_empty w.run w.from w.to cuts walk)
    where
      go : (n : ℕ) × (length cuts ≡ suc n) → (order : List Place) × IsExtension w kept order
          × Follows w kept cuts order
      go (n, l) = last (followed_to n (omega arith))
        where
          last : (order : List Place) × IsFollowedTo w kept cuts n order → (order : List Place)
              × IsExtension w kept order × Follows w kept cuts order
          last (order, so) = (
            order,
            record {
              just = subst (λ (x : List ℕ). AreListed w kept x order)
                  (walk_last w.run w.from w.to cuts walk n l) so.just;
              ordered = so.ordered;
            },
            record { each_cut = each_cut; each_number = each_number },
          )
            where
              each_cut : (cut : List ℕ) → Contains cuts cut → (k : ℕ) × (k ≤ length order)
                  × AreKeptIn w kept cut (is_among (take k order))
              each_cut cut has = at (number_in cuts cut has)
                where
                  at : (i : ℕ) × (i < length cuts) × (get_or cuts i [] ≡ cut) → (k : ℕ) × (k ≤ length order)
                      × AreKeptIn w kept cut (is_among (take k order))
                  at (i, lt, is) =
                      let f : (k : ℕ) × (k ≤ length order) × AreListed w kept (get_or cuts i []) (take k order) =
                      so.each_cut i (omega arith) in (
                        f.0,
                        f.1,
                        listed_part w kept cut (take f.0 order)
                            (subst (λ (x : List ℕ). AreListed w kept x (take f.0 order)) is f.2),
                      )

              each_number : (k : ℕ) → k ≤ length order → (cut : List ℕ) × Contains cuts cut
                  × AreKeptIn w kept cut (is_among (take k order))
              each_number k le =
                  let f : (i : ℕ) × (i ≤ n) × AreListed w kept (get_or cuts i []) (take k order) =
                  so.each_number k le in
                  let small : f.0 ≤ n = f.1 in (
                    get_or cuts f.0 [],
                    Contains-get_or cuts f.0 [] (omega arith),
                    listed_part w kept (get_or cuts f.0 []) (take k order) f.2,
                  )
