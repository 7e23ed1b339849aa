-- The rows of needs, one event after another, and the sends that they name.
use Rattle.std.proofs.Common.{◌≡◌, ℕ, ◌+◌, ◌-◌, ◌<◌, ◌≤◌, List, [], ◌∷◌, ◌++◌, length, length-append, get_or, refl, sym, ap, ◌∙◌, subst, below_more, arith}
use Rattle.std.specs.Prelude.{Vec}
use Rattle.std.specs.Global.{Global}
use Rattle.std.proofs.lemmas.List.{get_or_append_left, get_or-append_right}
use Rattle.def_model.specs.Events.{Computation, Place, Receive, place, IsEvent, event_count}
use Rattle.def_model.specs.Messages.{IsMessage}
use Rattle.def_model.proofs.Chains.{same_place, event_from_kind}
use Rattle.def_model.proofs.Consistency.{process_in_range}
use Rattle.walk_runs.specs.Births.{HasOneSend}
use Rattle.walk_runs.specs.Needs.{IsNeed, HasNeeds, AreNeeds}
use Rattle.walk_runs.specs.declared.need.Need.{Need}

pub at_end : {A : Type 0} (xs : List A) (x d : A) (i : ℕ) → length xs ≡ i → get_or (xs ++ x ∷ []) i d ≡ x
at_end {A} xs x d i e =
    let none : i - i ≡ 0 = omega arith in
    get_or-append_right xs (x ∷ []) i i d e (omega arith) ∙ ap (λ (k : ℕ). get_or {A = A} (x ∷ []) k d) none

pub need_push : (c : Computation) (p n : ℕ) (row : List Need) (need : Need) → HasNeeds c p n row
    → IsNeed c p n need.process need.number → HasNeeds c p (n + 1) (row ++ need ∷ [])
need_push c p n row need has is = record {
  same = length-append row (need ∷ []) ∙ omega (arith, has.same);
  right = λ k none lt. below_more (λ (i : ℕ). IsNeed c p i (get_or (row ++ need ∷ []) i none).process
      (get_or (row ++ need ∷ []) i none).number) n
      (λ i less. rw (get_or_append_left row (need ∷ []) none i (omega (arith, has.same))) (has.right i none less))
      (rw (at_end row need none n has.same) is)
      k lt;
}

pub row_push : (c : Computation) (n : ℕ) (rows : List (Vec Need Global)) (row : Vec Need Global) → AreNeeds c n rows
    → HasNeeds c n (event_count c n + 1) row.items → AreNeeds c (n + 1) (rows ++ row ∷ [])
row_push c n rows row are has = record {
  same = length-append rows (row ∷ []) ∙ omega (arith, are.same);
  each = λ p none lt. below_more (λ (i : ℕ).
      HasNeeds c i (event_count c i + 1) (get_or (rows ++ row ∷ []) i none).items) n
      (λ i less. rw (get_or_append_left rows (row ∷ []) none i (omega (arith, are.same))) (are.each i none less))
      (rw (at_end rows row none n are.same) has)
      p lt;
}

-- what is read in the row of a process
pub need_read : (c : Computation) (rows : List (Vec Need Global)) (p k : ℕ) (row : Vec Need Global) (need : Need)
    → AreNeeds c (length c) rows → p < length c → k ≤ event_count c p → row ≡ get_or rows p row
    → need ≡ get_or row.items k need → IsNeed c p k need.process need.number
need_read c rows p k row need are lt le read at =
    let has : HasNeeds c p (event_count c p + 1) row.items =
    subst (λ (r : Vec Need Global). HasNeeds c p (event_count c p + 1) r.items) (sym read) (are.each p row lt) in
    subst (λ (d : Need). IsNeed c p k d.process d.number) (sym at) (has.right k need (omega arith))

pub some_of : {A : Type 0} (xs : List A) → 0 < length xs → A
some_of [] lt = absurd (omega arith)
some_of (x ∷ xs) lt = x

-- the need of an event of a computation
pub some_need : (c : Computation) (rows : List (Vec Need Global)) → AreNeeds c (length c) rows → (p k : ℕ)
    → p < length c → k ≤ event_count c p → (q m : ℕ) × IsNeed c p k q m
some_need c rows are p k lt le =
    let many : length rows ≡ length c = are.same in
    let row : Vec Need Global = some_of rows (omega arith) in
    let has : HasNeeds c p (event_count c p + 1) (get_or rows p row).items = are.each p row lt in
    let size : length (get_or rows p row).items ≡ event_count c p + 1 = has.same in
    let need : Need = some_of (get_or rows p row).items (omega arith) in (
      (get_or (get_or rows p row).items k need).process,
      (get_or (get_or rows p row).items k need).number,
      has.right k need (omega arith),
    )

pub one_send : (c : Computation) (rows : List (Vec Need Global)) → AreNeeds c (length c) rows → HasOneSend c
one_send c rows are send other receipt m n =
    let e : IsEvent c receipt = event_from_kind c receipt (Receive m.0) m.2 in
    let low : 1 ≤ receipt.number = e.0 in
    let high : receipt.number ≤ event_count c receipt.process = e.1 in
    let here : receipt ≡ place receipt.process (receipt.number - 1 + 1) =
    same_place receipt (place receipt.process (receipt.number - 1 + 1)) refl (omega arith) in
    let w : (q k : ℕ) × IsNeed c receipt.process (receipt.number - 1) q k =
    some_need c rows are receipt.process (receipt.number - 1) (process_in_range c receipt e) (omega arith) in
    w.2.sends send (subst (λ (r : Place). IsMessage c send r) here m)
    ∙ sym (w.2.sends other (subst (λ (r : Place). IsMessage c other r) here n))
