-- One row after another, of which the counts at some places are taken.
use Rattle.std.proofs.Common.{◌≡◌, ◌<◌, ℕ, suc, List, [], ◌∷◌, ◌++◌, All, append-nil, append_assoc, flat_map, get_or, length, length-append, sym, ap, ◌∙◌, subst, arith}
use Rattle.std.specs.List.{AllZip}
use Rattle.std.proofs.lemmas.Slice.Zip.{AllZip-long}
use Rattle.def_model.specs.Events.{place}
use Rattle.def_model.specs.Predicates.{Recorded}
use Rattle.def_orders.specs.Orders as orders
use Rattle.def_orders.specs.Orders.{IsKnownTo, IsOrderOf, IsSeenOf}
use Rattle.def_orders.specs.Selections.{AreParts, IsPartOf, at_places}
use Rattle.def_orders.proofs.Flat.{same_parts, zip_at}
use Rattle.judge_orders.specs.PartCounts.{AreCountsAt, ArePartsBy, IsPartBy}

-- ---- the counts

-- the numbers of these rows, one row after another
abbrev pub all_of : List (List ℕ) → List ℕ
all_of rows = flat_map (λ (row : List ℕ). row) rows

-- the numbers at these places of each row
abbrev pub taken : (places : List ℕ) → List (List ℕ) → List ℕ
taken places rows = flat_map (λ (row : List ℕ). at_places places row 0) rows

-- The counts of the first of these rows were taken, and those of the other ones, which are the rest, weren't yet.
pub record IsTakenUpTo (width : ℕ) (places : List ℕ) (rows : List (List ℕ)) (counts rest : List ℕ) : Type 0 where
  pub left : List (List ℕ)
  pub long : All (λ (row : List ℕ). length row ≡ width) left
  pub rest_is : rest ≡ all_of left
  pub adds_up : taken places rows ≡ counts ++ taken places left

-- the same, whatever the rows are
abbrev pub AreCountsSoFar : (width : ℕ) → (places known counts rest : List ℕ) → Type 0
AreCountsSoFar width places known counts rest =
    (rows : List (List ℕ)) → All (λ (row : List ℕ). length row ≡ width) rows → known ≡ all_of rows
    → IsTakenUpTo width places rows counts rest

-- the counts of the next row
pub counts_more : (width : ℕ) (places known counts rest row after : List ℕ) → 0 < width
    → AreCountsSoFar width places known counts rest → rest ≡ row ++ after → length row ≡ width
    → AreCountsSoFar width places known (counts ++ at_places places row 0) after
counts_more width places known counts rest row after some so_far next wide rows long is =
    let before : IsTakenUpTo width places rows counts rest = so_far rows long is in
    step before.left before.long (sym next ∙ before.rest_is) before.adds_up
  where
    step : (left : List (List ℕ)) → All (λ (r : List ℕ). length r ≡ width) left → row ++ after ≡ all_of left
        → taken places rows ≡ counts ++ taken places left
        → IsTakenUpTo width places rows (counts ++ at_places places row 0) after
    step [] wide_left same adds_up =
        absurd (let none : length (row ++ after) ≡ 0 = ap length same in
        omega (arith, length-append row after, wide, some))
    step (first ∷ left) wide_left same adds_up =
        let parts : (row ≡ first) × (after ≡ all_of left) =
        same_parts row first after (all_of left) (wide ∙ sym (wide_left 0 [] (omega arith))) same in
        record {
          left = left;
          long = λ i d lt. wide_left (suc i) d (omega (arith, lt));
          rest_is = parts.1;
          adds_up = adds_up
              ∙ (ap (λ (r : List ℕ). counts ++ (at_places places r 0 ++ taken places left)) (sym parts.0)
              ∙ sym (append_assoc counts (at_places places row 0) (taken places left)));
        }

-- no row is left
pub counts_all : (width : ℕ) (places known counts rest : List ℕ) → length rest < width
    → AreCountsSoFar width places known counts rest → AreCountsAt width places known counts
counts_all width places known counts rest short so_far rows long is =
    let end : IsTakenUpTo width places rows counts rest = so_far rows long is in
    step end.left end.long end.rest_is end.adds_up
  where
    step : (left : List (List ℕ)) → All (λ (r : List ℕ). length r ≡ width) left → rest ≡ all_of left
        → taken places rows ≡ counts ++ taken places left → counts ≡ taken places rows
    step [] wide_left same adds_up = sym (append-nil counts) ∙ sym adds_up
    step (first ∷ left) wide_left same adds_up =
        absurd (let many : length rest ≡ length (first ++ all_of left) = ap length same in
        omega (arith, many, length-append first (all_of left), wide_left 0 [] (omega arith), short))

-- ---- the processes

-- the rows of a process have a count for each process
rows_wide : (r : Recorded) (numbers : List (List ℕ)) (p : ℕ) (events : List ℕ) (rows : List (List ℕ))
    → AllZip (λ n row. IsKnownTo r numbers (place p n) row) events rows
    → All (λ (row : List ℕ). length row ≡ length numbers) rows
rows_wide r numbers p events rows known i d lt =
    let many : length rows ≡ length events =
    AllZip-long (λ n row. IsKnownTo r numbers (place p n) row) events rows known in
    let here : IsKnownTo r numbers (place p (get_or events i 0)) (get_or rows i d) =
    zip_at (λ n row. IsKnownTo r numbers (place p n) row) events rows known i 0 d (omega (arith, many, lt)) in
    here.one_each

-- what is left of a process of the run
is_part : (r : Recorded) (vars : List ℕ) (numbers : List (List ℕ)) (p : ℕ) (places : List ℕ) (width : ℕ)
    (whole part : orders.ProcessOrder) → length numbers ≡ width → IsSeenOf r vars numbers p whole
    → IsPartBy width places whole part → IsPartOf width places whole part
is_part r vars numbers p places width whole part wide seen by = record {
  values = by.values;
  rows = seen.rows;
  long = long;
  known = seen.known;
  part_known = by.counts seen.rows long seen.known;
}
  where
    long : All (λ (row : List ℕ). length row ≡ width) seen.rows
    long =
        subst (λ (n : ℕ). All (λ (row : List ℕ). length row ≡ n) seen.rows) wide
        (rows_wide r numbers p (get_or numbers p []) seen.rows seen.are_rows)

-- what is left of all processes at these places
pub are_parts : (r : Recorded) (named : List (List ℕ)) (places : List ℕ) (whole part : List orders.ProcessOrder)
    → IsOrderOf r named whole → All (λ p. p < length named) places → length part ≡ length places
    → ArePartsBy (length named) places whole part (length places) → AreParts places whole part
are_parts r named places whole part is there many by = record {
  one_each = many;
  each = λ i d lt.
      let p = get_or places i 0 in
      let in_named : p < length named = there i 0 lt in
      subst (λ (n : ℕ). IsPartOf n places (get_or whole p d) (get_or part i d)) (is.all_named ∙ sym is.all_seen)
      (is_part r (get_or named p []) is.numbers p places (length named) (get_or whole p d) (get_or part i d)
      (is.all_kept ∙ sym is.all_named) (is.each p d (omega (arith, is.all_named, in_named))) (by i d lt));
}
