-- The last receipt before a send, and the pairs of both.
use Rattle.std.proofs.Common.{◌≡◌, ◌<◌, ◌≤◌, ◌⊎◌, ℕ, inl, inr, List, [], ◌∷◌, ◌++◌, Option, Some, None, ap₂, sym, subst, ◌∙◌, arith}
use Rattle.std.specs.Prelude.{Contains}
use Rattle.std.proofs.lemmas.List.Elements.{Contains-append_cases, Contains-append_left, Contains-append_right, Contains-push, Contains-push_cases}
use Rattle.def_model.specs.Events.{Computation, Place}
use Rattle.def_model.specs.Messages.{IsMessage}
use Rattle.def_model.proofs.Chains.{same_place}
use Rattle.judge_causes.specs.Own.{AreOwnOrders, FindsLastBefore, IsLastBefore, IsOwnOrder, pair_if}
use Rattle.judge_causes.proofs.Sublists.{contains_first}

-- ---- one receipt more

module _ (xs : List Place) (send receipt : Place) where
  others_more : (most : ℕ)
      → ((other : Place) → Contains xs other → other.process ≡ send.process → other.number < send.number
      → other.number ≤ most)
      → (receipt.process ≡ send.process → receipt.number < send.number → receipt.number ≤ most) → (other : Place)
      → Contains (xs ++ receipt ∷ []) other → other.process ≡ send.process → other.number < send.number
      → other.number ≤ most
  others_more most old new other h same less = go (Contains-push_cases xs receipt other h)
    where
      go : Contains xs other ⊎ (receipt ≡ other) → other.number ≤ most
      go (inl before) = old other before same less
      go (inr is) =
          subst (λ (e : Place). e.number ≤ most) is
          (new (subst (λ (e : Place). e.process ≡ send.process) (sym is) same)
          (subst (λ (e : Place). e.number < send.number) (sym is) less))

  -- it isn't before the send in its process
  pub not_before : (best : Option Place) → (receipt.process ≡ send.process → receipt.number < send.number → ⊥)
      → FindsLastBefore xs send best → FindsLastBefore (xs ++ receipt ∷ []) send best
  not_before None apart none = λ other h same less. go other same less (Contains-push_cases xs receipt other h)
    where
      go : (other : Place) → other.process ≡ send.process → other.number < send.number
          → Contains xs other ⊎ (receipt ≡ other) → ⊥
      go other same less (inl before) = none other before same less
      go other same less (inr is) =
          apart (subst (λ (e : Place). e.process ≡ send.process) (sym is) same)
          (subst (λ (e : Place). e.number < send.number) (sym is) less)
  not_before (Some last) apart found = record {
    listed = Contains-append_left xs (receipt ∷ []) last found.listed;
    same = found.same;
    before = found.before;
    last = others_more last.number found.last (λ same less. absurd (apart same less));
  }

  -- it is before the last one so far
  pub not_last : (last : Place) → receipt.number < last.number → IsLastBefore xs send last
      → IsLastBefore (xs ++ receipt ∷ []) send last
  not_last last less found = record {
    listed = Contains-append_left xs (receipt ∷ []) last found.listed;
    same = found.same;
    before = found.before;
    last = others_more last.number found.last (λ same before. omega (arith, less));
  }

  -- it is the last
  pub is_last : (last : Place) → last.number ≤ receipt.number → receipt.process ≡ send.process
      → receipt.number < send.number → IsLastBefore xs send last
      → IsLastBefore (xs ++ receipt ∷ []) send receipt
  is_last last le same before found = record {
    listed = Contains-push xs receipt;
    same = same;
    before = before;
    last = others_more receipt.number (λ other h is less. let at : other.number ≤ last.number =
        found.last other h is less in omega (arith, at, le)) (λ is less. omega arith);
  }

  -- it is the first
  pub is_first : receipt.process ≡ send.process → receipt.number < send.number → FindsLastBefore xs send None
      → IsLastBefore (xs ++ receipt ∷ []) send receipt
  is_first same before none = record {
    listed = Contains-push xs receipt;
    same = same;
    before = before;
    last = others_more receipt.number (λ other h is less. absurd (none other h is less)) (λ is less. omega arith);
  }

-- ---- pairs

abbrev pair : Place → Place → Place × Place
pair a b = (a, b)

abbrev IsSamePair : Place × Place → Place × Place → Type 0
IsSamePair a b = a ≡ b

one_last : (receipts : List Place) (send a b : Place) → IsLastBefore receipts send a → IsLastBefore receipts send b
    → a ≡ b
one_last receipts send a b first second =
    let le : a.number ≤ b.number = second.last a first.listed first.same first.before in
    let ge : b.number ≤ a.number = first.last b second.listed second.same second.before in
    same_place a b (first.same ∙ sym second.same) (omega (arith, le, ge))

module _ (c : Computation) (received receipts : List Place) (other : Place) (pairs : List (Place × Place))
    (are : AreOwnOrders c received receipts pairs) where
  more : (receipt send : Place) → IsOwnOrder c received receipts receipt send
      → IsOwnOrder c (received ++ other ∷ []) receipts receipt send
  more receipt send w = record {
    other = w.other;
    listed = Contains-append_left received (other ∷ []) w.other w.listed;
    message = w.message;
    last = w.last;
  }

  -- an event that is no receipt
  pub no_order : ((send : Place) → ¬ IsMessage c send other)
      → AreOwnOrders c (received ++ other ∷ []) receipts pairs
  no_order none receipt send = (λ h. more receipt send ((are receipt send).0 h), back)
    where
      back : IsOwnOrder c (received ++ other ∷ []) receipts receipt send → Contains pairs (receipt, send)
      back w = go (Contains-push_cases received other w.other w.listed)
        where
          go : Contains received w.other ⊎ (other ≡ w.other) → Contains pairs (receipt, send)
          go (inl before) = (are receipt send).1 (record {
            other = w.other;
            listed = before;
            message = w.message;
            last = w.last;
          })
          go (inr is) = absurd (none send (subst (IsMessage c send) (sym is) w.message))

  -- a receipt, and what is found before its send
  pub one_order : (sent : Place) (found : Option Place) → IsMessage c sent other
      → ((send : Place) → IsMessage c send other → sent ≡ send) → FindsLastBefore receipts sent found
      → AreOwnOrders c (received ++ other ∷ []) receipts (pairs ++ pair_if found sent)
  one_order sent found message single finds receipt send = (on, back)
    where
      from_pair : (found : Option Place) → FindsLastBefore receipts sent found
          → Contains (pair_if found sent) (receipt, send)
          → IsOwnOrder c (received ++ other ∷ []) receipts receipt send
      from_pair None none h = absurd (omega (arith, h.1))
      from_pair (Some last) at h = go (contains_first (pair last sent) (pair receipt send) [] h)
        where
          go : IsSamePair (receipt, send) (last, sent) ⊎ Contains [] (pair receipt send)
              → IsOwnOrder c (received ++ other ∷ []) receipts receipt send
          go (inl is) = record {
            other = other;
            listed = Contains-push received other;
            message = subst (λ (p : Place × Place). IsMessage c p.1 other) (sym is) message;
            last = subst (λ (p : Place × Place). IsLastBefore receipts p.1 p.0) (sym is) at;
          }
          go (inr h) = absurd (omega (arith, h.1))

      on : Contains (pairs ++ pair_if found sent) (receipt, send)
          → IsOwnOrder c (received ++ other ∷ []) receipts receipt send
      on h = go (Contains-append_cases pairs (pair_if found sent) (receipt, send) h)
        where
          go : Contains pairs (receipt, send) ⊎ Contains (pair_if found sent) (receipt, send)
              → IsOwnOrder c (received ++ other ∷ []) receipts receipt send
          go (inl old) = more receipt send ((are receipt send).0 old)
          go (inr new) = from_pair found finds new

      to_pair : (found : Option Place) → FindsLastBefore receipts sent found → IsLastBefore receipts sent receipt
          → sent ≡ send → Contains (pair_if found sent) (receipt, send)
      to_pair None none at is = absurd (none receipt at.listed at.same at.before)
      to_pair (Some last) first at is =
          (0, omega arith, ap₂ pair (one_last receipts sent last receipt first at) is)

      back : IsOwnOrder c (received ++ other ∷ []) receipts receipt send
          → Contains (pairs ++ pair_if found sent) (receipt, send)
      back w = go (Contains-push_cases received other w.other w.listed)
        where
          go : Contains received w.other ⊎ (other ≡ w.other) → Contains (pairs ++ pair_if found sent) (receipt, send)
          go (inl before) =
              Contains-append_left pairs (pair_if found sent) (receipt, send) ((are receipt send).1 (record {
                other = w.other;
                listed = before;
                message = w.message;
                last = w.last;
              }))
          go (inr is) =
              let same : sent ≡ send = single send (subst (IsMessage c send) (sym is) w.message) in
              Contains-append_right pairs (pair_if found sent) (receipt, send)
              (to_pair found finds (subst (λ (e : Place). IsLastBefore receipts e receipt) (sym same) w.last) same)

-- ---- as they are looked at

pub some_same : (a b : Place) → Some a ≡ Some b → a ≡ b
some_same a b is = cc

pub none_some : (b : Place) (found : Option Place) → found ≡ None → found ≡ Some b → ⊥
none_some b found is other = absurd (cc)
