-- The next cuts are at most as many as the cuts times the processes.
use Rattle.std.proofs.Common.{◌≡◌, ℕ, zero, suc, ◌+◌, ◌*◌, ◌/◌, ◌%◌, ◌<◌, ◌≤◌, List, [], ◌∷◌, length, get_or, All, sym, ap, ◌∙◌, subst, inl, inr, ◌⊎◌, mul_comm, arith}
use Rattle.std.proofs.Math.Arith.{digits_div, digits_mod}
use Rattle.std.proofs.Math.Nat.{mul-le-mul_right}
use Rattle.std.proofs.lemmas.Bool.{cases_lt}
use Rattle.std.proofs.lemmas.List.{get_or_default}
use Rattle.std.proofs.lemmas.Nat.{mul-add-lt}
use Rattle.def_model.specs.Answers.{LexBelow, IsListOf, MoreThan}
use Rattle.def_model.specs.Cuts.{IsConsistent, IsNextOf, one_more}
use Rattle.def_model.specs.Events.{Computation, Linked}
use Rattle.def_model.proofs.OneAnswer.{lex_irreflexive, below_rest, ascending_rest}
use Rattle.def_model.proofs.Pigeonhole.{two_equal}

-- a later cut of an ascending list is another one
apart : (cuts : List (List ℕ)) (i j : ℕ) → Linked LexBelow cuts → i < j → j < length cuts
    → ¬ (get_or cuts i [] ≡ get_or cuts j [])
apart [] i j links lt in_ same = absurd (omega arith)
apart (x ∷ cuts) i zero links lt in_ same = absurd (omega arith)
apart (x ∷ cuts) zero (suc j) links lt in_ same =
    lex_irreflexive x (subst (λ (y : List ℕ). LexBelow x y) (sym same)
    (below_rest x (get_or cuts j []) cuts links (
      j,
      omega arith,
      get_or_default cuts j (get_or cuts j []) [] (omega arith),
    )))
apart (x ∷ cuts) (suc i) (suc j) links lt in_ same =
    apart cuts i j (ascending_rest x cuts links) (omega arith) (omega arith) same

-- the cut and the process that make a next cut
record Made (c : Computation) (cuts : List (List ℕ)) (next : List ℕ) : Type 0 where
  old : ℕ
  within : old < length cuts
  process : ℕ
  of_them : process < length c
  is : next ≡ one_more (get_or cuts old []) process

made : (c : Computation) (cuts : List (List ℕ)) (next : List ℕ) → All (IsConsistent c) cuts → IsNextOf c cuts next
    → Made c cuts next
made c cuts next ok (fits, (old, (k, lt, at), (p, below, is))) =
    let read : get_or cuts k [] ≡ old = get_or_default cuts k [] old lt ∙ at in
    let cut : IsConsistent c old = subst (λ (x : List ℕ). IsConsistent c x) at (ok k old lt) in
    let many : length old ≡ length c = cut.fits.one_each in
    record {
      old = k;
      within = lt;
      process = p;
      of_them = omega arith;
      is = is ∙ ap (λ (x : List ℕ). one_more x p) (sym read);
    }

-- both as one number
abbrev number_of : (c : Computation) (cuts : List (List ℕ)) (next : List ℕ) → Made c cuts next → ℕ
number_of c cuts next m = m.old * length c + m.process

number_below : (c : Computation) (cuts : List (List ℕ)) (next : List ℕ) (m : Made c cuts next)
    → number_of c cuts next m < length cuts * length c
number_below c cuts next m =
    let lt : m.old * length c + m.process < length c * length cuts =
    mul-add-lt m.old (length c) m.process (length cuts) m.within m.of_them in
    subst (λ (n : ℕ). m.old * length c + m.process < n) (mul_comm (length c) (length cuts)) lt

same_number : (c : Computation) (cuts : List (List ℕ)) (x y : List ℕ) (m : Made c cuts x) (n : Made c cuts y)
    → number_of c cuts x m ≡ number_of c cuts y n → x ≡ y
same_number c cuts x y m n same =
    let old : m.old ≡ n.old =
    sym (digits_div m.old m.of_them) ∙ (ap (λ (z : ℕ). z / length c) same ∙ digits_div n.old n.of_them) in
    let process : m.process ≡ n.process =
    sym (digits_mod m.old m.of_them) ∙ (ap (λ (z : ℕ). z % length c) same ∙ digits_mod n.old n.of_them) in
    m.is ∙ (ap (λ (z : ℕ). one_more (get_or cuts z []) m.process) old
    ∙ (ap (λ (z : ℕ). one_more (get_or cuts n.old []) z) process ∙ sym n.is))

pub next_within : (c : Computation) (cuts next : List (List ℕ)) → All (IsConsistent c) cuts
    → IsListOf (IsNextOf c cuts) next → length next ≤ length cuts * length c
next_within c cuts next ok list = go (cases_lt (length cuts * length c) (length next))
  where
    at : (i : ℕ) → i < length next → Made c cuts (get_or next i [])
    at i lt =
        made c cuts (get_or next i []) ok ((list.just (get_or next i [])).0 (
          i,
          lt,
          get_or_default next i (get_or next i []) [] lt,
        ))

    number : (i : ℕ) → (i < length next) ⊎ (length next ≤ i) → ℕ
    number i (inl lt) = number_of c cuts (get_or next i []) (at i lt)
    number i (inr le) = 0

    below : (i : ℕ) (s : (i < length next) ⊎ (length next ≤ i)) → i < length next → number i s < length cuts * length c
    below i (inl lt) in_ = number_below c cuts (get_or next i []) (at i lt)
    below i (inr le) in_ = absurd (omega arith)

    same : (i j : ℕ) (s : (i < length next) ⊎ (length next ≤ i)) (t : (j < length next) ⊎ (length next ≤ j))
        → i < length next → j < length next → number i s ≡ number j t → get_or next i [] ≡ get_or next j []
    same i j (inl a) (inl b) in_i in_j e = same_number c cuts (get_or next i []) (get_or next j []) (at i a) (at j b) e
    same i j (inl a) (inr b) in_i in_j e = absurd (omega arith)
    same i j (inr a) t in_i in_j e = absurd (omega arith)

    go : (length cuts * length c < length next) ⊎ (length next ≤ length cuts * length c)
        → length next ≤ length cuts * length c
    go (inr le) = le
    go (inl more) =
        let w : (i : ℕ) × (j : ℕ) × (i < j) × (j ≤ length cuts * length c)
        × (number i (cases_lt i (length next)) ≡ number j (cases_lt j (length next))) =
        two_equal (length cuts * length c) (λ i. number i (cases_lt i (length next))) (λ i le.
        below i (cases_lt i (length next)) (omega arith)) in
        let lt : w.0 < w.1 = w.2 in
        let le : w.1 ≤ length cuts * length c = w.3 in
        absurd (apart next w.0 w.1 list.ascending lt (omega arith)
        (same w.0 w.1 (cases_lt w.0 (length next)) (cases_lt w.1 (length next)) (omega arith) (omega arith) w.4))

-- so not more than a bound on the cuts, times the processes
pub not_wide : (c : Computation) (cuts : List (List ℕ)) (width : ℕ) → All (IsConsistent c) cuts → length cuts ≤ width
    → ¬ MoreThan (width * length c) (IsNextOf c cuts)
not_wide c cuts width ok short (next, list, more) =
    let within : length next ≤ length cuts * length c = next_within c cuts next ok list in
    let most : length cuts * length c ≤ width * length c = mul-le-mul_right (length c) short in
    omega arith
