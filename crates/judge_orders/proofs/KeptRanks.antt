-- The rows of the kept events are taken out of those of all events.
use Rattle.std.proofs.Common.{◌≡◌, ℕ, zero, suc, ◌+◌, ◌-◌, ◌*◌, ◌<◌, ◌≤◌, List, [], ◌∷◌, ◌++◌, All, drop, length, get_or, map, refl, sym, ap, ◌∙◌, subst, arith}
use Rattle.std.specs.Prelude.{Vec, flat_map}
use Rattle.std.specs.List.{AllZip}
use Rattle.std.specs.Global.{Global}
use Rattle.std.proofs.lemmas.List.{get_or-drop, get_or-take, length-drop, length-take}
use Rattle.std.proofs.Math.Nat.{mul-le-mul_right}
use Rattle.def_model.specs.Events.{Computation, IsEvent, event_count, place}
use Rattle.def_model.specs.Predicates.{Initial}
use Rattle.def_orders.specs.Orders.{IsKnownTo}
use Rattle.judge_orders.specs.KnownRows.{AreKnownRows}
use Rattle.judge_orders.specs.Lists.{lists_view}
use Rattle.judge_orders.specs.RankTables.{AreEventNumbers, HasRank, HasRanks, HasRowsAt, row_at, rows_of}

-- the rows of a process, as they are seen
pub rows_seen : (rows : List (Vec ℕ Global)) (p : ℕ) → get_or (lists_view rows) p [] ≡ rows_of rows p
rows_seen [] zero = refl
rows_seen [] (suc p) = refl
rows_seen (row ∷ rows) zero = refl
rows_seen (row ∷ rows) (suc p) = rows_seen rows p

zip_map : {A B : Type 0} (R : A → B → Type 0) (f : A → B) (xs : List A) → All (λ x. R x (f x)) xs
    → AllZip R xs (map f xs)
zip_map R f [] all = tt
zip_map R f (x ∷ xs) all =
    (all 0 x (omega arith), zip_map R f xs (λ i d lt. all (suc i) d (omega (arith, lt))))

flat_of_map : {A : Type 0} (f : A → List ℕ) (xs : List A)
    → flat_map f xs ≡ flat_map (λ (row : List ℕ). row) (map f xs)
flat_of_map f [] = refl
flat_of_map f (x ∷ xs) = ap (λ (rest : List ℕ). f x ++ rest) (flat_of_map f xs)

module _ (c : Computation) (numbers : List (List ℕ)) (done : List ℕ) (rows : List (Vec ℕ Global))
    (given : AreEventNumbers c numbers) (has : HasRanks c numbers done rows)
    (all : (p : ℕ) → get_or done p 0 ≡ event_count c p) where
  -- an event's row stands among those of its process
  row_there : (p n : ℕ) → p < length c → IsEvent c (place p n)
      → (n - 1) * length c + length c ≤ length (rows_of rows p)
  row_there p n lt is =
      let many : length (rows_of rows p) ≡ event_count c p * length c =
      has.long p lt ∙ ap (λ (k : ℕ). k * length c) (all p) in
      let le : n * length c ≤ event_count c p * length c = mul-le-mul_right (length c) is.1 in
      let one : n - 1 + 1 ≡ n = omega (arith, is.0) in
      let same : (n - 1) * length c + length c ≡ n * length c =
      subst (λ (k : ℕ). (n - 1) * length c + length c ≡ k * length c) one (omega arith) in
      omega arith

  pub rows_there : (p : ℕ) → p < length c → HasRowsAt (length c) (rows_of rows p) (get_or numbers p [])
  rows_there p lt = λ i d within.
      let is : IsEvent c (place p (get_or (get_or numbers p []) i d)) =
      given.there p (omega (arith, given.one_each, lt)) i d within in
      (is.0, row_there p (get_or (get_or numbers p []) i d) lt is)

  -- the row has what the event knows of
  is_known : (initial : Initial) (p n : ℕ) → p < length c → IsEvent c (place p n)
      → IsKnownTo (record { initial = initial; events = c }) numbers (place p n)
      (row_at (length c) (rows_of rows p) n)
  is_known initial p n lt is = record {
    one_each = let there : (n - 1) * length c + length c ≤ length (rows_of rows p) = row_there p n lt is in
        omega (
          arith,
          length-take (length c) (drop ((n - 1) * length c) (rows_of rows p)),
          length-drop ((n - 1) * length c) (rows_of rows p),
          given.one_each,
        );
    each = λ q less. rank q (omega (arith, given.one_each, less));
  }
    where
      rank : (q : ℕ) → q < length c
          → HasRank c numbers (place p n) q (get_or (row_at (length c) (rows_of rows p) n) q 0)
      rank q less =
          subst (HasRank c numbers (place p n) q)
          (sym (get_or-take (length c) (drop ((n - 1) * length c) (rows_of rows p)) q 0 less
          ∙ get_or-drop ((n - 1) * length c) (rows_of rows p) q 0))
          (has.right (place p n) q is (omega (arith, all p, is.1)) less)

  pub are_known : (initial : Initial) (p : ℕ) (known : List ℕ) → p < length c
      → known ≡ flat_map (row_at (length c) (rows_of rows p)) (get_or numbers p [])
      → AreKnownRows (record { initial = initial; events = c }) numbers p known
  are_known initial p known lt is = record {
    rows = map (row_at (length c) (rows_of rows p)) (get_or numbers p []);
    are_rows = zip_map
        (λ n row. IsKnownTo (record { initial = initial; events = c }) numbers (place p n) row)
        (row_at (length c) (rows_of rows p)) (get_or numbers p []) (λ i d within.
        is_known initial p (get_or (get_or numbers p []) i d) lt
        (given.there p (omega (arith, given.one_each, lt)) i d within));
    is = is ∙ flat_of_map (row_at (length c) (rows_of rows p)) (get_or numbers p []);
  }
