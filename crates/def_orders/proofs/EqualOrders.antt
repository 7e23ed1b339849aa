-- Runs of one order have the same answers: each process of the one is that of the other with the same number.
use Rattle.std.proofs.Common.{◌≡◌, ℕ, ◌<◌, ◌≤◌, List, [], ◌∷◌, length, get_or, All, ℤ, refl, ap, ap₂, subst, inl, inr, ◌⊎◌, arith}
use Rattle.std.proofs.lemmas.Bool.{cases_lt}
use Rattle.std.proofs.lemmas.List.{get_or_past}
use Rattle.def_model.specs.Predicates.{Sign, Term, Number, Variable, Times, Predicate, Always, Never, Compare, Not, And, Or, Recorded}
use Rattle.def_long.specs.Renamed.{renamed, renamed_sum}
use Rattle.def_orders.specs.Laws.{DefinitelyOfOrder, HaveOneOrder, PossiblyOfOrder}
use Rattle.def_orders.specs.Orders.{ProcessOrder}
use Rattle.def_orders.proofs.MatchedAnswers.{definitely_of_matched, possibly_of_matched}
use Rattle.def_orders.proofs.OneOrder.{Rows, nothing_seen, rows_long, seen}
use Rattle.def_orders.proofs.OrdersAlike.{AreMatched, HaveSameRows, IsMatchedOrUnseen}
use Rattle.def_orders.proofs.SameValues.{named_at}

-- ---- a predicate keeps its names

-- the same number
abbrev own : ℕ → ℕ
own p = p

own_sum : (sum : List (Sign × Term)) → renamed_sum (named_at own) sum ≡ sum
own_sum [] = refl
own_sum ((sign, Number k) ∷ rest) = ap (λ (others : List (Sign × Term)). (sign, Number k) ∷ others) (own_sum rest)
own_sum ((sign, Variable p v) ∷ rest) =
    ap (λ (others : List (Sign × Term)). (sign, Variable p v) ∷ others) (own_sum rest)
own_sum ((sign, Times k p v) ∷ rest) =
    ap (λ (others : List (Sign × Term)). (sign, Times k p v) ∷ others) (own_sum rest)

own_predicate : (predicate : Predicate) → renamed (named_at own) predicate ≡ predicate
own_predicate Always = refl
own_predicate Never = refl
own_predicate (Compare left comparison right) =
    ap₂ (λ (l r : List (Sign × Term)). Compare l comparison r) (own_sum left) (own_sum right)
own_predicate (Not inner) = ap Not (own_predicate inner)
own_predicate (And left right) = ap₂ And (own_predicate left) (own_predicate right)
own_predicate (Or left right) = ap₂ Or (own_predicate left) (own_predicate right)

-- ---- the runs

of_one_order : (r r' : Recorded) (named : List (List ℕ)) (order : List ProcessOrder) → HaveOneOrder r r' named order
    → AreMatched r r' own own named named order order
of_one_order r r' named order one = record {
  no_cycle = one.no_cycle;
  no_cycle' = one.no_cycle';
  first = one.first;
  second = one.second;
  there = λ p there. subst (λ (n : ℕ). p < n) one.as_many there;
  past = λ p past. subst (λ (n : ℕ). n ≤ p) one.as_many past;
  returns = λ p there. refl;
  matched_or_unseen = λ q. all_matched q (cases_lt q (length r.events));
  same_names = λ p there. refl;
  same_values = λ p there. refl;
  same_rows = own_rows;
  same_initial = λ p past. ap (λ (initial : List (List ℤ)). get_or initial p []) one.same_initial;
}
  where
    all_matched : (q : ℕ) → (q < length r.events) ⊎ (length r.events ≤ q) → IsMatchedOrUnseen r own own named q
    all_matched q (inl there) = inl (there, refl)
    all_matched q (inr past) =
        let long : length named ≡ length r.events = one.first.all_named in
        inr (past, get_or_past named q [] (omega arith))

    own_rows : (p : ℕ) → p < length r.events
        → HaveSameRows (length r.events) (length r'.events) own (get_or order p nothing_seen).known
        (get_or order p nothing_seen).known
    own_rows p there = record {
      rows = Rows r named order one.first p there;
      rows' = Rows r named order one.first p there;
      long = rows_long r named order one.first p there;
      long' = subst (λ (k : ℕ). All (λ (row : List ℕ). length row ≡ k) (Rows r named order one.first p there))
          one.as_many (rows_long r named order one.first p there);
      known_is = (seen r named order one.first p there).known;
      known_is' = (seen r named order one.first p there).known;
      as_many = refl;
      same = λ i q within low. refl;
    }

pub possibly_of_order : PossiblyOfOrder
possibly_of_order r r' named order predicate one over =
    possibly_of_matched r r' own own named named order order predicate predicate
    (of_one_order r r' named order one) over (own_predicate predicate)

pub definitely_of_order : DefinitelyOfOrder
definitely_of_order r r' named order predicate one over =
    definitely_of_matched r r' own own named named order order predicate predicate
    (of_one_order r r' named order one) over (own_predicate predicate)
