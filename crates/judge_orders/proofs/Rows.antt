-- The rows of events are put after one another.
use Rattle.std.proofs.Common.{◌≡◌, ◌+◌, ◌<◌, ◌≤◌, ◌⊎◌, inl, inr, ℕ, zero, suc, List, [], ◌∷◌, ◌++◌, append-nil, append_assoc, get_or, length, length-append, take, refl, sym, ap, ◌∙◌, subst, arith}
use Rattle.std.specs.Prelude.{Vec, flat_map}
use Rattle.std.specs.List.{AllZip}
use Rattle.std.specs.Global.{Global}
use Rattle.std.proofs.lemmas.Bool.{cases_lt}
use Rattle.std.proofs.lemmas.Grind.{flat_map-append}
use Rattle.std.proofs.lemmas.List.{get_or_append_left, get_or_push, take_all, take_more}
use Rattle.def_model.specs.Events.{Computation, Place, place}
use Rattle.def_model.specs.Order.{IsClock}
use Rattle.def_model.specs.Predicates.{Recorded}
use Rattle.def_orders.specs.Orders.{IsKnownTo}
use Rattle.judge_orders.specs.Lists.{lists_view}
use Rattle.judge_orders.specs.Ranked.{AddsRow, AreRowsBy, HaveColumns, IsRowBy}
use Rattle.judge_orders.proofs.Places.{map_more}

-- ---- a row

-- what the row has of a process
abbrev HasRank : Computation → List (List ℕ) → Place → List ℕ → ℕ → Type 0
HasRank c columns e row q =
    (n : ℕ) × IsClock c e q n × (get_or row q 0 ≡ get_or (get_or columns q []) n 0)

pub row_none : (c : Computation) (e : Place) (old : List ℕ) → AddsRow c [] e old old
row_none c e old = record {
  row = [];
  is_row = record { one_each = refl; each = λ q lt. absurd (omega (arith, lt)) };
  is = sym (append-nil old);
}

-- one more process
is_row_more : (c : Computation) (columns : List (List ℕ)) (column : List ℕ) (e : Place) (row : List ℕ) (n rank : ℕ)
    → IsRowBy c columns e row → IsClock c e (length columns) n → rank ≡ get_or column n 0
    → IsRowBy c (columns ++ column ∷ []) e (row ++ rank ∷ [])
is_row_more c columns column e row n rank known clock is = record {
  one_each = length-append row (rank ∷ [])
      ∙ (ap (λ (k : ℕ). k + 1) known.one_each ∙ sym (length-append columns (column ∷ [])));
  each = λ q lt. go q (cases_lt q (length columns)) lt;
}
  where
    go : (q : ℕ) → (q < length columns) ⊎ (length columns ≤ q) → q < length (columns ++ column ∷ [])
        → HasRank c (columns ++ column ∷ []) e (row ++ rank ∷ []) q
    go q (inl less) lt =
        let old = known.each q less in (
          old.0,
          old.1,
          get_or_append_left row (rank ∷ []) 0 q (omega (arith, known.one_each, less))
              ∙ (old.2
              ∙ ap (λ (xs : List ℕ). get_or xs old.0 0) (sym (get_or_append_left columns (column ∷ []) [] q less))),
        )
    go q (inr ge) lt =
        let same : length columns ≡ q = omega (arith, ge, lt, length-append columns (column ∷ [])) in
        subst (HasRank c (columns ++ column ∷ []) e (row ++ rank ∷ [])) same (
          n,
          clock,
          get_or_push row rank 0 (length columns) known.one_each
              ∙ (is ∙ ap (λ (xs : List ℕ). get_or xs n 0) (sym (get_or_push columns column [] (length columns) refl))),
        )

pub row_more : (c : Computation) (columns : List (Vec ℕ Global)) (q : ℕ) (d : Vec ℕ Global) (e : Place)
    (old new : List ℕ) (n rank : ℕ) → q < length columns → AddsRow c (lists_view (take q columns)) e old new
    → IsClock c e q n → rank ≡ get_or (get_or columns q d).items n 0
    → AddsRow c (lists_view (take (q + 1) columns)) e old (new ++ rank ∷ [])
row_more c columns q d e old new n rank lt known clock is = record {
  row = known.row ++ rank ∷ [];
  is_row = subst (λ (all : List (List ℕ)). IsRowBy c all e (known.row ++ rank ∷ []))
      (sym (map_more (λ (list : Vec ℕ Global). list.items) columns q d lt))
      (is_row_more c (lists_view (take q columns)) (get_or columns q d).items e known.row n rank known.is_row
      (subst (λ (k : ℕ). IsClock c e k n) (sym (length_seen columns q lt)) clock) is);
  is = ap (λ (xs : List ℕ). xs ++ rank ∷ []) known.is ∙ append_assoc old known.row (rank ∷ []);
}
  where
    length_seen : (columns : List (Vec ℕ Global)) (q : ℕ) → q < length columns
        → length (lists_view (take q columns)) ≡ q
    length_seen columns zero lt = refl
    length_seen [] (suc q) lt = absurd (omega (arith, lt))
    length_seen (x ∷ columns) (suc q) lt = ap suc (length_seen columns q (omega (arith, lt)))

pub row_all : (c : Computation) (columns : List (Vec ℕ Global)) (q : ℕ) (e : Place) (old new : List ℕ)
    → length columns ≤ q → AddsRow c (lists_view (take q columns)) e old new
    → AddsRow c (lists_view columns) e old new
row_all c columns q e old new le known =
    subst (λ (all : List (Vec ℕ Global)). AddsRow c (lists_view all) e old new) (take_all q columns le) known

-- ---- rows

pub rows_none : (c : Computation) (columns : List (List ℕ)) (p : ℕ) → AreRowsBy c columns p [] []
rows_none c columns p = record { rows = []; are_rows = tt; is = refl }

zip_push : {A B : Type 0} (R : A → B → Type 0) (xs : List A) (ys : List B) (x : A) (y : B) → AllZip R xs ys → R x y
    → AllZip R (xs ++ x ∷ []) (ys ++ y ∷ [])
zip_push R [] [] x y all here = (here, tt)
zip_push R [] (z ∷ ys) x y all here = absurd all
zip_push R (z ∷ xs) [] x y all here = absurd all
zip_push R (w ∷ xs) (z ∷ ys) x y all here = (all.0, zip_push R xs ys x y all.1 here)

zip_weaker : {A B : Type 0} (R S : A → B → Type 0) (xs : List A) (ys : List B) → ((x : A) (y : B) → R x y → S x y)
    → AllZip R xs ys → AllZip S xs ys
zip_weaker R S [] [] weaker all = tt
zip_weaker R S [] (y ∷ ys) weaker all = absurd all
zip_weaker R S (x ∷ xs) [] weaker all = absurd all
zip_weaker R S (x ∷ xs) (y ∷ ys) weaker all = (weaker x y all.0, zip_weaker R S xs ys weaker all.1)

-- one more event
pub rows_more : (c : Computation) (columns : List (List ℕ)) (p : ℕ) (numbers : List ℕ) (i d : ℕ) (old new : List ℕ)
    → i < length numbers → AreRowsBy c columns p (take i numbers) old
    → AddsRow c columns (place p (get_or numbers i d)) old new
    → AreRowsBy c columns p (take (i + 1) numbers) new
rows_more c columns p numbers i d old new lt known adds = record {
  rows = known.rows ++ adds.row ∷ [];
  are_rows = subst
      (λ (seen : List ℕ). AllZip (λ (n : ℕ) (row : List ℕ). IsRowBy c columns (place p n) row) seen
      (known.rows ++ adds.row ∷ [])) (sym (take_more numbers i d lt))
      (zip_push (λ (n : ℕ) (row : List ℕ). IsRowBy c columns (place p n) row) (take i numbers) known.rows
      (get_or numbers i d) adds.row known.are_rows adds.is_row);
  is = adds.is
      ∙ (ap (λ (xs : List ℕ). xs ++ adds.row) known.is
      ∙ (ap (λ (xs : List ℕ). flat_map (λ (row : List ℕ). row) known.rows ++ xs) (sym (append-nil adds.row))
      ∙ sym (flat_map-append (λ (row : List ℕ). row) known.rows (adds.row ∷ []))));
}

pub rows_all : (c : Computation) (columns : List (List ℕ)) (p : ℕ) (numbers : List ℕ) (i : ℕ) (known : List ℕ)
    → length numbers ≤ i → AreRowsBy c columns p (take i numbers) known → AreRowsBy c columns p numbers known
rows_all c columns p numbers i known le are =
    subst (λ (seen : List ℕ). AreRowsBy c columns p seen known) (take_all i numbers le) are

-- ---- what is known

-- by columns of the counts a row is what is known to the event
known_by : (r : Recorded) (numbers columns : List (List ℕ)) (e : Place) (row : List ℕ)
    → length columns ≡ length numbers → HaveColumns r.events numbers columns (length numbers)
    → IsRowBy r.events columns e row → IsKnownTo r numbers e row
known_by r numbers columns e row same have is = record {
  one_each = is.one_each ∙ same;
  each = λ q lt.
      let here = is.each q (omega (arith, same, lt)) in
      (here.0, here.1, here.2 ∙ have q lt here.0 here.1.within);
}

pub all_known : (r : Recorded) (numbers columns : List (List ℕ)) (p : ℕ) (events : List ℕ) (rows : List (List ℕ))
    → length columns ≡ length numbers → HaveColumns r.events numbers columns (length numbers)
    → AllZip (λ (n : ℕ) (row : List ℕ). IsRowBy r.events columns (place p n) row) events rows
    → AllZip (λ (n : ℕ) (row : List ℕ). IsKnownTo r numbers (place p n) row) events rows
all_known r numbers columns p events rows same have all =
    zip_weaker (λ (n : ℕ) (row : List ℕ). IsRowBy r.events columns (place p n) row)
    (λ (n : ℕ) (row : List ℕ). IsKnownTo r numbers (place p n) row) events rows
    (λ n row is. known_by r numbers columns (place p n) row same have is) all
