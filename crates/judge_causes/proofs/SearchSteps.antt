-- What the search keeps, step by step.
use Rattle.std.proofs.Common.{◌≡◌, ◌≢◌, ◌<◌, ◌≤◌, ◌⊎◌, ℕ, ◌+◌, Bool, true, false, inl, inr, List, [], ◌∷◌, ◌++◌, take, drop, length, All, refl, ap, sym, subst, ◌∙◌, append_assoc, length-append, eqb-true, get_or, arith}
use Rattle.std.specs.Prelude.{AllPairs, Contains, IsTrue, ◌&&◌, ◌==◌}
use Rattle.std.proofs.lemmas.List.{append-nil, length-map, length-take-le, map-append, take-append-drop, take-map, take_all, take_at, take_more}
use Rattle.std.proofs.lemmas.List.Elements.{All-contains, All-nil, Contains-append_cases, Contains-append_left, Contains-append_right}
use Rattle.def_model.specs.Events.{Place, IsBefore}
use Rattle.def_model.specs.Predicates.{Predicate, Recorded}
use Rattle.pd_clock.specs.Orders.{places_view}
use Rattle.pd_match.specs.Views.{place_view}
use Rattle.pd_match.specs.declared.place.Place as kept
use Rattle.judge_causes.specs.Causes.{AreCauses, IsReceipt}
use Rattle.judge_causes.specs.Enough.{IsEnough, IsNeeded}
use Rattle.judge_causes.specs.Search.{IsRange, IsSearched, IsShort, IsTrial}
use Rattle.judge_causes.specs.declared.range.Range.{Range}
use Rattle.judge_causes.specs.declared.trial.Trial.{Trial}
use Rattle.judge_causes.specs.declared.trial.Trial.TheVariants.{NotEnough}
use Rattle.judge_causes.proofs.EnoughLaws.{enough_more}
use Rattle.judge_causes.proofs.Sublists.{all_from_contains, all_short, contains_first, contains_short, pairs_short}

-- ---- views

pub joined_view : (candidates others made : List kept.Place) (n : ℕ) → made ≡ take n candidates ++ others
    → places_view made ≡ take n (places_view candidates) ++ places_view others
joined_view candidates others made n is =
    ap places_view is ∙ map-append place_view (take n candidates) others
    ∙ ap (λ l. l ++ places_view others) (sym (take-map place_view n candidates))

pub split_view : (candidates rest : List kept.Place) (last : kept.Place) (n : ℕ)
    → take n candidates ≡ rest ++ last ∷ [] → take n (places_view candidates) ≡ places_view rest ++ place_view last ∷ []
split_view candidates rest last n is =
    take-map place_view n candidates ∙ ap places_view is ∙ map-append place_view rest (last ∷ [])

pub cut_view : (candidates rest : List kept.Place) (n : ℕ) → take n candidates ≡ rest
    → take n (places_view candidates) ≡ places_view rest
cut_view candidates rest n is = take-map place_view n candidates ∙ ap places_view is

-- ---- ranges

pub not_enough_after : (r : Recorded) (predicate : Predicate) (candidates others : List Place) (range : Range)
    (count : ℕ) (trial : Trial) → count < range.high → trial ≡ NotEnough → IsRange r predicate candidates others range
    → IsTrial r predicate (take count candidates ++ others) trial
    → IsRange r predicate candidates others (record { low = count + 1; high = range.high; is_sure = true })
not_enough_after r predicate candidates others range count trial below is known found = record {
  ordered = omega (arith, below);
  within = known.within;
  enough = known.enough;
  least = λ sure fewer one_less.
      let same : count ≡ fewer = omega (arith, one_less) in
      subst (λ (n : ℕ). ¬ IsEnough r predicate (Contains (take n candidates ++ others))) same
      (subst (IsTrial r predicate (take count candidates ++ others)) is found);
}

pub range_at_first : (r : Recorded) (predicate : Predicate) (candidates others : List Place) (n : ℕ)
    → n ≡ length candidates → IsEnough r predicate (Contains (candidates ++ others))
    → IsRange r predicate candidates others (record { low = 0; high = n; is_sure = true })
range_at_first r predicate candidates others n all enough = record {
  ordered = omega arith;
  within = omega (arith, all);
  enough = subst (λ (l : List Place). IsEnough r predicate (Contains (l ++ others)))
      (sym (take_all n candidates (omega (arith, all)))) enough;
  least = λ sure fewer none. absurd (omega (arith, none));
}

-- ---- the search

left_true : (a b : Bool) → IsTrue (a && b) → IsTrue a
left_true true b h = refl
left_true false b h = h

right_true : (a b : Bool) → IsTrue (a && b) → IsTrue b
right_true true b h = h
right_true false b h = absurd (cc)

module _ (r : Recorded) (predicate : Predicate) (xs others : List Place) (n : ℕ) (is_least needed : Bool)
    (searched : IsSearched r predicate xs others needed) (short : IsShort r predicate xs others n is_least) where
  -- a receipt that is needed among more is needed
  stays_needed : (e : Place) → IsNeeded r predicate (xs ++ others) e
      → IsNeeded r predicate (take n xs ++ others) e
  stays_needed e need enough =
      need (enough_more r predicate (λ o. Contains (take n xs ++ others) o × (o ≢ e))
      (λ o. Contains (xs ++ others) o × (o ≢ e)) (λ o w. (contains_short n xs others o w.0, w.1)) enough)

  old_needed : IsTrue needed → (e : Place) → Contains others e → IsNeeded r predicate (take n xs ++ others) e
  old_needed sure e h =
      stays_needed e (All-contains (IsNeeded r predicate (xs ++ others)) others e (searched.needed sure) h)

  pub narrowed_none : (ys : List Place) → take n xs ≡ ys → IsSearched r predicate ys others needed
  narrowed_none ys is =
      subst (λ (l : List Place). IsSearched r predicate l others needed) is (record {
        enough = short.enough;
        received = all_short (IsReceipt r.events) n xs others searched.received;
        ascending = pairs_short IsBefore n xs others searched.ascending;
        needed = λ sure.
            all_from_contains (IsNeeded r predicate (take n xs ++ others)) others (old_needed sure);
      })

  module _ (ys : List Place) (last : Place) (split : take n xs ≡ ys ++ last ∷ []) where
    lists : take n xs ++ others ≡ ys ++ last ∷ others
    lists = ap (λ l. l ++ others) split ∙ append_assoc ys (last ∷ []) others

    one_less : length ys + 1 ≡ n
    one_less =
        sym (length-append ys (last ∷ [])) ∙ ap (λ (l : List Place). length l) (sym split)
        ∙ length-take-le n xs short.within

    fewer : take (length ys) xs ≡ ys
    fewer =
        ap (λ (l : List Place). take (length ys) l)
        (sym (take-append-drop n xs) ∙ ap (λ l. l ++ drop n xs) split ∙ append_assoc ys (last ∷ []) (drop n xs))
        ∙ take_at ys (last ∷ drop n xs) (length ys) refl

    without_last : (e : Place) → e ≡ last → (o : Place) → Contains (ys ++ last ∷ others) o × (o ≢ e)
        → Contains (take (length ys) xs ++ others) o
    without_last e same o w =
        subst (λ (l : List Place). Contains (l ++ others) o) (sym fewer)
        (go (Contains-append_cases ys (last ∷ others) o w.0))
      where
        second : (o ≡ last) ⊎ Contains others o → Contains (ys ++ others) o
        second (inl is) = absurd (w.1 (is ∙ sym same))
        second (inr h) = Contains-append_right ys others o h

        go : Contains ys o ⊎ Contains (last ∷ others) o → Contains (ys ++ others) o
        go (inl h) = Contains-append_left ys others o h
        go (inr h) = second (contains_first last o others h)

    last_needed : IsTrue is_least → (e : Place) → e ≡ last → IsNeeded r predicate (ys ++ last ∷ others) e
    last_needed sure e same enough =
        short.least sure (length ys) one_less
        (enough_more r predicate (λ o. Contains (ys ++ last ∷ others) o × (o ≢ e))
        (Contains (take (length ys) xs ++ others)) (without_last e same) enough)

    pub narrowed_some : (both : Bool) → both ≡ (needed && is_least)
        → IsSearched r predicate ys (last ∷ others) both
    narrowed_some both is = record {
      enough = subst (λ (l : List Place). IsEnough r predicate (Contains l)) lists short.enough;
      received = subst (All (IsReceipt r.events)) lists
          (all_short (IsReceipt r.events) n xs others searched.received);
      ascending = subst (AllPairs IsBefore) lists (pairs_short IsBefore n xs others searched.ascending);
      needed = λ sure.
          let sure_of : IsTrue (needed && is_least) = subst IsTrue is sure in
          all_from_contains (IsNeeded r predicate (ys ++ last ∷ others)) (last ∷ others)
          (λ e h. each (left_true needed is_least sure_of) (right_true needed is_least sure_of) e
          (contains_first last e others h));
    }
      where
        each : IsTrue needed → IsTrue is_least → (e : Place) → (e ≡ last) ⊎ Contains others e
            → IsNeeded r predicate (ys ++ last ∷ others) e
        each sure least e (inl same) = last_needed least e same
        each sure least e (inr h) =
            subst (λ (l : List Place). IsNeeded r predicate l e) lists (old_needed sure e h)

-- ---- the beginning and the end

pub searched_at_first : (r : Recorded) (predicate : Predicate) (receipts none : List Place) (needed : Bool)
    → none ≡ [] → AreCauses r predicate receipts needed → IsSearched r predicate receipts none true
searched_at_first r predicate receipts none needed is causes =
    subst (λ (l : List Place). IsSearched r predicate receipts l true) (sym is) (record {
      enough = subst (λ (l : List Place). IsEnough r predicate (Contains l)) (sym (append-nil receipts)) causes.enough;
      received = subst (All (IsReceipt r.events)) (sym (append-nil receipts)) causes.received;
      ascending = subst (AllPairs IsBefore) (sym (append-nil receipts)) causes.ascending;
      needed = λ sure. All-nil (IsNeeded r predicate (receipts ++ []));
    })

pub causes_at_end : (r : Recorded) (predicate : Predicate) (xs others made : List Place) (n : ℕ)
    (needed is_empty both : Bool) → length xs ≤ n → made ≡ take n xs ++ others → both ≡ (needed && is_empty)
    → (IsTrue is_empty → xs ≡ []) → IsSearched r predicate xs others needed → AreCauses r predicate made both
causes_at_end r predicate xs others made n needed is_empty both all is sure_if empty searched =
    let same : xs ++ others ≡ made = ap (λ (l : List Place). l ++ others) (sym (take_all n xs all)) ∙ sym is in
    subst (λ (l : List Place). AreCauses r predicate l both) same (record {
      enough = searched.enough;
      received = searched.received;
      ascending = searched.ascending;
      needed = λ sure.
          let sure_of : IsTrue (needed && is_empty) = subst IsTrue sure_if sure in
          let alone : xs ++ others ≡ others =
          ap (λ (l : List Place). l ++ others) (empty (right_true needed is_empty sure_of)) in
          subst (λ (l : List Place). All (IsNeeded r predicate (xs ++ others)) l) (sym alone)
          (searched.needed (left_true needed is_empty sure_of));
    })

pub empty_view : (items : List kept.Place) → items ≡ [] → places_view items ≡ []
empty_view items is = ap places_view is

pub long_enough : (items : List kept.Place) (n : ℕ) → n ≡ length items → length (places_view items) ≤ n
long_enough items n is = let same : length (places_view items) ≡ length items = length-map items place_view in
    omega (arith, same, is)

pub empty_if : (items : List kept.Place) (is_empty : Bool) → is_empty ≡ (length items == 0) → IsTrue is_empty
    → places_view items ≡ []
empty_if [] is_empty is h = refl
empty_if (x ∷ xs) is_empty is h =
    let none : length (x ∷ xs) ≡ 0 = eqb-true (length (x ∷ xs)) 0 (sym is ∙ h) in absurd (omega (arith, none))

-- ---- one place more

pub view_more : (items : List kept.Place) (i : ℕ) (d : kept.Place) → i < length items
    → places_view (take (i + 1) items) ≡ places_view (take i items) ++ place_view (get_or items i d) ∷ []
view_more items i d lt =
    ap places_view (take_more items i d lt) ∙ map-append place_view (take i items) (get_or items i d ∷ [])
