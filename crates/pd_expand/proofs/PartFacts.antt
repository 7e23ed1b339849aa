-- Blocks of a level, the parts that workers keep, and what all parts come to.
use Rattle.std.proofs.Common.{◌≡◌, ◌≢◌, ℕ, zero, suc, ◌+◌, ◌-◌, ◌*◌, ◌<◌, ◌≤◌, Bool, true, false, eqb, cond, List, [], ◌∷◌, ◌++◌, length, map, get_or, set, take, Contains, IfOk, refl, sym, ap, ◌∙◌, subst, inl, inr, ◌⊎◌, ◌↔◌, arith}
use Rattle.std.specs.Prelude.{All, IsOk, Result, Ok, Err, Vec, min, slice_index_or}
use Rattle.std.specs.Global.{Global}
use Rattle.std.specs.declared.alloc.AllocError.{AllocError}
use Rattle.std.proofs.lemmas.Bool.{cases_lt, cases_order}
use Rattle.std.proofs.lemmas.Bool.Decides.{eqb_tells, nat_tests}
use Rattle.std.proofs.lemmas.List.{map-append, take_more}
use Rattle.std.proofs.lemmas.List.Elements.{All-append, All-contains, All-nil, All-push, Contains-append_left, Contains-get_or, Contains-push, Contains-push_cases}
use Rattle.std.proofs.lemmas.List.Sums.{sum_by-append, sum_by-cons}
use Rattle.std.proofs.lemmas.List.Sorted.{All-permutation, IsPermutation-map, sum_by-IsPermutation}
use Rattle.std.specs.List.Sorted.{IsPermutation}
use Rattle.def_model.specs.Events.{Computation, Linked}
use Rattle.def_model.proofs.OneAnswer.{ascending_rest, below_rest, lex_transitive}
use Rattle.def_model.specs.Cuts.{IsConsistent, IsNextOf}
use Rattle.def_model.specs.Answers.{IsListOf, LexBelow}
use Rattle.pd_level.specs.Levels.{IsBetween, IsInEither, Levelled}
use Rattle.pd_expand.specs.ClaimRule.{times}
use Rattle.pd_expand.specs.Claims.{AreWhole, drawn, times_in_all}
use Rattle.pd_expand.specs.Limits.{block_length}
use Rattle.pd_expand.specs.Parts.{AreBlocksOf, ArePartsOf, IsInPart, IsInBlock, IsPartOf, IsUnionOf, next_number}
use Rattle.pd_expand.specs.declared.claim_seat.ClaimSeat.{ClaimSeat}
use Rattle.pd_expand.specs.declared.part.Part.{Part}
use Rattle.pd_expand.proofs.RuleSteps.{counted}

-- ---- one block

-- a last block ends with the level
pub as_block : (block from to : ℕ) (cuts : List (List ℕ)) (cut : List ℕ) → from ≡ block_length * block
    → to ≡ from + min block_length (length cuts - from) → from < length cuts
    → IsBetween cuts from to cut ↔ IsInBlock block cuts cut
as_block block from to cuts cut start end within = go (cases_lt (from + block_length) (length cuts))
  where
    go : (from + block_length < length cuts) ⊎ (length cuts ≤ from + block_length)
        → IsBetween cuts from to cut ↔ IsInBlock block cuts cut
    go (inl inner) =
        let last : to ≡ block_length * block + block_length = omega (arith, end) in (
          λ b. subst (λ (m : ℕ). IsBetween cuts (block_length * block) m cut) last
              (subst (λ (k : ℕ). IsBetween cuts k to cut) start b),
          λ b. subst (λ (k : ℕ). IsBetween cuts k to cut) (sym start)
              (subst (λ (m : ℕ). IsBetween cuts (block_length * block) m cut) (sym last) b),
        )
    go (inr outer) =
        let last : length cuts ≤ to = omega (arith, end) in (
          λ b. (
            subst (λ (k : ℕ). 0 < k → ¬ LexBelow cut (slice_index_or cuts k [])) start b.0,
            λ lt. absurd (omega arith),
          ),
          λ b. (
            subst (λ (k : ℕ). 0 < k → ¬ LexBelow cut (slice_index_or cuts k [])) (sym start) b.0,
            λ lt. absurd (omega arith),
          ),
        )

-- the cuts between are those in the block
pub in_block : (c : Computation) (block from to : ℕ) (cuts next : List (List ℕ)) → from ≡ block_length * block
    → to ≡ from + min block_length (length cuts - from) → from < length cuts
    → IsListOf (λ cut. IsNextOf c cuts cut × IsBetween cuts from to cut) next
    → IsListOf (λ cut. IsNextOf c cuts cut × IsInBlock block cuts cut) next
in_block c block from to cuts next start end within list = record {
  ascending = list.ascending;
  just = λ cut. (
    λ has. let w = (list.just cut).0 has in (w.0, (as_block block from to cuts cut start end within).0 w.1),
    λ is. (list.just cut).1 (is.0, (as_block block from to cuts cut start end within).1 is.1),
  );
}

-- ---- the parts that one worker keeps

abbrev pub number_of : Part → ℕ
number_of part = part.block

above : (x block : ℕ) → x < block → cond {A = ℕ} (eqb block x) 1 0 ≡ 0
above x block lt = grind (arith, nat_tests)

-- a number past the last block's brings no part
pub no_block : (c : Computation) (level : Levelled) (blocks : ℕ) (numbers : List ℕ) (block : ℕ) (parts : List Part)
    → blocks ≤ block → ArePartsOf c level blocks (λ x. times x numbers) parts
    → ArePartsOf c level blocks (λ x. times x (numbers ++ block ∷ [])) parts
no_block c level blocks numbers block parts past are = record {
  are = are.are;
  each = λ x lt.
      omega (arith, are.each x lt, counted (λ y. eqb y x) numbers block, above x block (omega arith));
}

-- the part of a block that was drawn
pub one_block : (c : Computation) (level : Levelled) (blocks : ℕ) (numbers : List ℕ) (block : ℕ)
    (parts more : List Part) (part : Part) → part.block ≡ block → IsPartOf c level part → more ≡ parts ++ part ∷ []
    → ArePartsOf c level blocks (λ x. times x numbers) parts
    → ArePartsOf c level blocks (λ x. times x (numbers ++ block ∷ [])) more
one_block c level blocks numbers block parts more part same is e are = record {
  are = subst (All (IsPartOf c level)) (sym e) (All-push (IsPartOf c level) parts part are.are is);
  each = λ x lt.
      let listed : map number_of more ≡ map number_of parts ++ block ∷ [] =
      ap (map number_of) e ∙ (map-append number_of parts (part ∷ [])
      ∙ ap (λ (b : ℕ). map number_of parts ++ b ∷ []) same) in
      omega (
        arith,
        are.each x lt,
        ap (times x) listed,
        counted (λ y. eqb y x) numbers block,
        counted (λ y. eqb y x) (map number_of parts) block,
      );
}

abbrev pub Kept : Type 0
Kept = Result (Vec Part Global) AllocError

pub no_block_kept : (c : Computation) (level : Levelled) (blocks : ℕ) (numbers : List ℕ) (block : ℕ) (kept : Kept)
    → blocks ≤ block → IfOk kept (λ parts. ArePartsOf c level blocks (λ x. times x numbers) parts.items)
    → IfOk kept (λ parts. ArePartsOf c level blocks (λ x. times x (numbers ++ block ∷ [])) parts.items)
no_block_kept c level blocks numbers block (Ok parts) past are =
    no_block c level blocks numbers block parts.items past are
no_block_kept c level blocks numbers block (Err error) past are = tt

-- one number more was drawn
pub drawn_on : (c : Computation) (level : Levelled) (blocks total : ℕ) (numbers more : List ℕ) (block : ℕ)
    (old new : Kept) → blocks ≡ total → more ≡ numbers ++ block ∷ []
    → ((xs : List ℕ) → IfOk old (λ parts. ArePartsOf c level blocks (λ x. times x xs) parts.items)
    → IfOk new (λ parts. ArePartsOf c level blocks (λ x. times x (xs ++ block ∷ [])) parts.items))
    → IfOk old (λ parts. ArePartsOf c level total (λ x. times x numbers) parts.items)
    → IfOk new (λ parts. ArePartsOf c level total (λ x. times x more) parts.items)
drawn_on c level blocks total numbers more block old new same e step are =
    subst (λ (xs : List ℕ). IfOk new (λ parts. ArePartsOf c level total (λ x. times x xs) parts.items)) (sym e)
    (subst (λ (b : ℕ). IfOk old (λ parts. ArePartsOf c level b (λ x. times x numbers) parts.items)
    → IfOk new (λ parts. ArePartsOf c level b (λ x. times x (numbers ++ block ∷ [])) parts.items)) same
    (step numbers) are)

-- the parts are those of the blocks that all the seats drew, if memory didn't run out
abbrev pub Keeps : Computation → Levelled → ℕ → Kept → List ClaimSeat → Type 0
Keeps c level blocks kept seats =
    IfOk kept (λ parts. ArePartsOf c level blocks (λ x. times_in_all x seats) parts.items)

pub none_drawn : (c : Computation) (level : Levelled) (blocks : ℕ) (numbers : List ℕ) (parts : List Part)
    → numbers ≡ [] → parts ≡ [] → ArePartsOf c level blocks (λ x. times x numbers) parts
none_drawn c level blocks numbers parts e f = record {
  are = subst (All (IsPartOf c level)) (sym f) (All-nil (IsPartOf c level));
  each = λ x lt. ap (λ (l : List Part). times x (map number_of l)) f ∙ sym (ap (times x) e);
}

-- ---- the parts of several workers

pub no_seat : (c : Computation) (level : Levelled) (blocks : ℕ) (seats : List ClaimSeat) (parts : List Part)
    → length seats ≡ 0 → parts ≡ [] → ArePartsOf c level blocks (λ x. times_in_all x seats) parts
no_seat c level blocks [] parts none e = record {
  are = subst (All (IsPartOf c level)) (sym e) (All-nil (IsPartOf c level));
  each = λ x lt. ap (λ (l : List Part). times x (map number_of l)) e;
}
no_seat c level blocks (s ∷ seats) parts none e = absurd (omega arith)

one_worker : (c : Computation) (level : Levelled) (blocks : ℕ) (seat : ClaimSeat) (parts : List Part)
    → ArePartsOf c level blocks (λ x. times x (drawn seat)) parts
    → ArePartsOf c level blocks (λ x. times_in_all x (seat ∷ [])) parts
one_worker c level blocks seat parts are = record {
  are = are.are;
  each = λ x lt. omega (arith, are.each x lt, sum_by-cons (λ (s : ClaimSeat). times x (drawn s)) seat []);
}

pub one_seat : (c : Computation) (level : Levelled) (blocks : ℕ) (kept : Kept) (seat : ClaimSeat)
    → IfOk kept (λ parts. ArePartsOf c level blocks (λ x. times x (drawn seat)) parts.items)
    → Keeps c level blocks kept (seat ∷ [])
one_seat c level blocks (Ok parts) seat are = one_worker c level blocks seat parts.items are
one_seat c level blocks (Err error) seat are = tt

one_of : (seats : List ClaimSeat) (seat : ClaimSeat) → length seats ≡ 1 → set seats 0 seat ≡ seat ∷ []
one_of [] seat one = absurd (omega arith)
one_of (s ∷ []) seat one = refl
one_of (s ∷ t ∷ seats) seat one = absurd (omega arith)

-- the one seat of a list
pub sole_seat : (c : Computation) (level : Levelled) (blocks : ℕ) (kept : Kept) (seats : List ClaimSeat)
    (seat : ClaimSeat) → length seats ≡ 1 → Keeps c level blocks kept (seat ∷ [])
    → Keeps c level blocks kept (set seats 0 seat)
sole_seat c level blocks kept seats seat one are =
    subst (Keeps c level blocks kept) (sym (one_of seats seat one)) are

both_parts : (c : Computation) (level : Levelled) (blocks : ℕ) (first last all : List Part)
    (seats others : List ClaimSeat) → all ≡ first ++ last
    → ArePartsOf c level blocks (λ x. times_in_all x seats) first
    → ArePartsOf c level blocks (λ x. times_in_all x others) last
    → ArePartsOf c level blocks (λ x. times_in_all x (seats ++ others)) all
both_parts c level blocks first last all seats others e p q = record {
  are = subst (All (IsPartOf c level)) (sym e) (All-append (IsPartOf c level) first last p.are q.are);
  each = λ x lt.
      let listed : map number_of all ≡ map number_of first ++ map number_of last =
      ap (map number_of) e ∙ map-append number_of first last in
      omega (
        arith,
        p.each x lt,
        q.each x lt,
        ap (times x) listed,
        sum_by-append (λ (y : ℕ). cond (eqb y x) 1 0) (map number_of first) (map number_of last),
        sum_by-append (λ (s : ClaimSeat). times x (drawn s)) seats others,
      );
}

pub both_kept : (c : Computation) (level : Levelled) (blocks : ℕ) (first last all : Kept)
    (seats others : List ClaimSeat) → Keeps c level blocks first seats → Keeps c level blocks last others
    → IfOk all (λ parts. IfOk first (λ f. IfOk last (λ l. parts.items ≡ f.items ++ l.items)))
    → (IsOk all → IsOk first × IsOk last) → Keeps c level blocks all (seats ++ others)
both_kept c level blocks first last (Err error) seats others p q joined both = tt
both_kept c level blocks (Err error) last (Ok all) seats others p q joined both =
    let no = (both refl).0 in cc
both_kept c level blocks (Ok f) (Err error) (Ok all) seats others p q joined both =
    let no = (both refl).1 in cc
both_kept c level blocks (Ok f) (Ok l) (Ok all) seats others p q joined both =
    both_parts c level blocks f.items l.items all.items seats others joined p q

-- what stands first of a list, if it is as long as that
pub all_of_front : {A : Type 0} (n : ℕ) (new others : List A) → length new ≡ n → take n (new ++ others) ≡ new
all_of_front zero [] others e = refl
all_of_front zero (x ∷ xs) others e = absurd (omega arith)
all_of_front (suc n) [] others e = absurd (omega arith)
all_of_front (suc n) (x ∷ xs) others e =
    let rest = all_of_front n xs others (omega arith) in
    λ i. x ∷ rest i

-- if the claims are whole, each block has one part
pub whole_kept : (c : Computation) (level : Levelled) (blocks : ℕ) (kept : Kept) (seats closed : List ClaimSeat)
    → Keeps c level blocks kept seats → closed ≡ seats → AreWhole blocks closed
    → IfOk kept (λ parts. ArePartsOf c level blocks (λ x. 1) parts.items)
whole_kept c level blocks (Ok parts) seats closed are e whole =
    let now : AreWhole blocks seats = subst (AreWhole blocks) e whole in record {
      are = are.are;
      each = λ x lt. are.each x lt ∙ now x lt;
    }
whole_kept c level blocks (Err error) seats closed are e whole = tt

-- ---- the cuts of all parts

pub part_consistent : (c : Computation) (level : Levelled) (part : Part) → IsPartOf c level part
    → All (IsConsistent c) part.next.cuts
part_consistent c level part is k d lt =
    ((is.list.just (get_or part.next.cuts k d)).0 (Contains-get_or part.next.cuts k d lt)).0.0

pub no_part : (c : Computation) (level next : Levelled) (parts : List Part) → next.cuts ≡ []
    → next.number ≡ next_number level → IsUnionOf c level (take 0 parts) next
no_part c level next parts none number = record {
  list = subst (IsListOf (IsInPart [])) (sym none) (record {
    ascending = tt;
    just = λ cut. (λ has. absurd (omega (arith, has.1)), λ is. absurd (omega (arith, is.1.1)));
  });
  consistent = subst (All (IsConsistent c)) (sym none) (All-nil (IsConsistent c));
  number = number;
}

-- one part more
pub part_more : (c : Computation) (level old new : Levelled) (parts : List Part) (i : ℕ) (d part : Part)
    → i < length parts → get_or parts i d ≡ part → All (IsPartOf c level) parts
    → IsUnionOf c level (take i parts) old → IsListOf (IsInEither old.cuts part.next.cuts) new.cuts
    → new.number ≡ old.number → IsUnionOf c level (take (i + 1) parts) new
part_more c level old new parts i d part lt at are union list number =
    subst (λ (l : List Part). IsUnionOf c level l new) (sym more) (record {
      list = record {
        ascending = list.ascending;
        just = λ cut. (λ has. to cut ((list.just cut).0 has), λ in_. (list.just cut).1 (from cut in_));
      };
      consistent = λ k d in_. fit (get_or new.cuts k d)
          ((list.just (get_or new.cuts k d)).0 (Contains-get_or new.cuts k d in_));
      number = number ∙ union.number;
    })
  where
    more : take (i + 1) parts ≡ take i parts ++ part ∷ []
    more = take_more parts i d lt ∙ ap (λ (p : Part). take i parts ++ p ∷ []) at

    is : IsPartOf c level part
    is = subst (IsPartOf c level) at (are i d lt)

    fit : (cut : List ℕ) → IsInEither old.cuts part.next.cuts cut → IsConsistent c cut
    fit cut (inl has) = All-contains (IsConsistent c) old.cuts cut union.consistent has
    fit cut (inr has) = All-contains (IsConsistent c) part.next.cuts cut (part_consistent c level part is) has

    to : (cut : List ℕ) → IsInEither old.cuts part.next.cuts cut → IsInPart (take i parts ++ part ∷ []) cut
    to cut (inl has) =
        let w : IsInPart (take i parts) cut = (union.list.just cut).0 has in
        (w.0, Contains-append_left (take i parts) (part ∷ []) w.0 w.1, w.2)
    to cut (inr has) = (part, Contains-push (take i parts) part, has)

    from : (cut : List ℕ) → IsInPart (take i parts ++ part ∷ []) cut → IsInEither old.cuts part.next.cuts cut
    from cut (p, in_, has) = side (Contains-push_cases (take i parts) part p in_)
      where
        side : Contains (take i parts) p ⊎ (part ≡ p) → IsInEither old.cuts part.next.cuts cut
        side (inl here) = inl ((union.list.just cut).1 (p, here, has))
        side (inr same) = inr (subst (λ (q : Part). Contains q.next.cuts cut) (sym same) has)

-- ---- each block once: the next level

part_with : (block : ℕ) (parts : List Part) → 0 < times block (map number_of parts)
    → (part : Part) × Contains parts part × (part.block ≡ block)
part_with block [] some = absurd (omega arith)
part_with block (p ∷ parts) some = by (part_with block parts) (eqb_tells p.block block)
  where
    later : (part : Part) × Contains parts part × (part.block ≡ block)
        → (part : Part) × Contains (p ∷ parts) part × (part.block ≡ block)
    later (part, (k, lt, at), same) = (part, (suc k, omega arith, at), same)

    rest : eqb p.block block ≡ false → 0 < times block (map number_of parts)
    rest apart =
        omega (
          arith,
          some,
          sum_by-cons (λ (y : ℕ). cond (eqb y block) 1 0) p.block (map number_of parts),
          ap (λ (b : Bool). cond {A = ℕ} b 1 0) apart,
        )

    by : (0 < times block (map number_of parts) → (part : Part) × Contains parts part × (part.block ≡ block))
        → ((eqb p.block block ≡ true) × (p.block ≡ block)) ⊎ ((eqb p.block block ≡ false) × (p.block ≢ block))
        → (part : Part) × Contains (p ∷ parts) part × (part.block ≡ block)
    by found (inl same) = (p, (0, omega arith, refl), same.1)
    by found (inr other) = later (found (rest other.0))

-- which of two lists of numbers is before the other can be found out
lex_cases : (xs ys : List ℕ) → LexBelow xs ys ⊎ (¬ LexBelow xs ys)
lex_cases [] ys = inr (λ lex. lex)
lex_cases (x ∷ xs) [] = inr (λ lex. lex)
lex_cases (x ∷ xs) (y ∷ ys) = go (cases_order x y) (lex_cases xs ys)
  where
    go : (x ≡ y) ⊎ ((x < y) ⊎ (y < x)) → LexBelow xs ys ⊎ (¬ LexBelow xs ys)
        → LexBelow (x ∷ xs) (y ∷ ys) ⊎ (¬ LexBelow (x ∷ xs) (y ∷ ys))
    go (inl same) (inl rest) = inl (inr (same, rest))
    go (inl same) (inr none) = inr (no_rest same none)
      where
        no_rest : x ≡ y → (¬ LexBelow xs ys) → ¬ LexBelow (x ∷ xs) (y ∷ ys)
        no_rest e never (inl less) = absurd (omega arith)
        no_rest e never (inr (f, rest)) = never rest
    go (inr (inl less)) rest = inl (inl less)
    go (inr (inr more)) rest = inr (later more)
      where
        later : y < x → ¬ LexBelow (x ∷ xs) (y ∷ ys)
        later gt (inl less) = absurd (omega arith)
        later gt (inr (e, rest)) = absurd (omega arith)

-- each cut lies in a block
into_block : (blocks : ℕ) (cuts : List (List ℕ)) (cut : List ℕ) → AreBlocksOf blocks (length cuts) → 0 < length cuts
    → (block : ℕ) × (block < blocks) × IsInBlock block cuts cut
into_block zero cuts cut are some = absurd (omega (arith, are.0))
into_block (suc last) cuts cut are some = down last (omega arith) (λ lt. absurd (omega (arith, are.0)))
  where
    down : (block : ℕ) → block < suc last
        → (block_length * block + block_length < length cuts
        → LexBelow cut (slice_index_or cuts (block_length * block + block_length) []))
        → (b : ℕ) × (b < suc last) × IsInBlock b cuts cut
    down zero lt up = (0, lt, (λ positive. absurd (omega arith), up))
    down (suc block) lt up =
        by (lex_cases cut (slice_index_or cuts (block_length * suc block) [])) (down block (omega arith))
      where
        same : block_length * suc block ≡ block_length * block + block_length
        same = omega arith

        by : LexBelow cut (slice_index_or cuts (block_length * suc block) [])
            ⊎ (¬ LexBelow cut (slice_index_or cuts (block_length * suc block) []))
            → ((block_length * block + block_length < length cuts
            → LexBelow cut (slice_index_or cuts (block_length * block + block_length) []))
            → (b : ℕ) × (b < suc last) × IsInBlock b cuts cut)
            → (b : ℕ) × (b < suc last) × IsInBlock b cuts cut
        by (inl before) rest =
            rest (λ inside. subst (λ (k : ℕ). LexBelow cut (slice_index_or cuts k [])) same before)
        by (inr none) rest = (suc block, lt, (λ positive. none, up))

-- each cut of an ascending list is below the later ones
later_above : (cuts : List (List ℕ)) (i j : ℕ) → Linked LexBelow cuts → i < j → j < length cuts
    → LexBelow (get_or cuts i []) (get_or cuts j [])
later_above [] i j links lt within = absurd (omega arith)
later_above (x ∷ xs) zero zero links lt within = absurd (omega arith)
later_above (x ∷ xs) zero (suc j) links lt within =
    below_rest x (get_or xs j []) xs links (Contains-get_or xs j [] (omega arith))
later_above (x ∷ xs) (suc i) zero links lt within = absurd (omega arith)
later_above (x ∷ xs) (suc i) (suc j) links lt within =
    later_above xs i j (ascending_rest x xs links) (omega arith) (omega arith)

-- a cut in a block lies in no later one
not_later : (cuts : List (List ℕ)) (blocks : ℕ) (cut : List ℕ) (a b : ℕ) → Linked LexBelow cuts
    → AreBlocksOf blocks (length cuts) → b < blocks → a < b → IsInBlock a cuts cut → ¬ IsInBlock b cuts cut
not_later cuts blocks cut a b links sized within less in_a in_b =
    go (cases_order end start)
  where
    end : ℕ
    end = block_length * a + block_length

    start : ℕ
    start = block_length * b

    inside : start < length cuts
    inside = omega (arith, sized.1)

    early : LexBelow cut (get_or cuts end [])
    early = in_a.1 (omega (arith, inside))

    late : ¬ LexBelow cut (get_or cuts start [])
    late = in_b.0 (omega arith)

    go : (end ≡ start) ⊎ ((end < start) ⊎ (start < end)) → ⊥
    go (inl same) = late (subst (λ (k : ℕ). LexBelow cut (get_or cuts k [])) same early)
    go (inr (inl before)) =
        late (lex_transitive cut (get_or cuts end []) (get_or cuts start []) early
        (later_above cuts end start links before inside))
    go (inr (inr after)) = absurd (omega arith)

pub in_one_block : (cuts : List (List ℕ)) (blocks : ℕ) (cut : List ℕ) (a b : ℕ) → Linked LexBelow cuts
    → AreBlocksOf blocks (length cuts) → a < blocks → b < blocks → IsInBlock a cuts cut → IsInBlock b cuts cut → a ≡ b
in_one_block cuts blocks cut a b links sized in_ within here there = go (cases_order a b)
  where
    go : (a ≡ b) ⊎ ((a < b) ⊎ (b < a)) → a ≡ b
    go (inl same) = same
    go (inr (inl less)) = absurd (not_later cuts blocks cut a b links sized within less here there)
    go (inr (inr more)) = absurd (not_later cuts blocks cut b a links sized in_ more there here)

pub in_some_block : (c : Computation) (cuts : List (List ℕ)) (blocks : ℕ) (cut : List ℕ)
    → AreBlocksOf blocks (length cuts) → IsNextOf c cuts cut
    → (block : ℕ) × (block < blocks) × IsInBlock block cuts cut
in_some_block c cuts blocks cut sized is =
    let some : 0 < length cuts = let w = is.1.1 in omega (arith, w.1) in
    into_block blocks cuts cut sized some

-- if each block has one part, the cuts of all parts are those of the next level
pub whole_list : (c : Computation) (level next : Levelled) (blocks : ℕ) (parts : List Part)
    → AreBlocksOf blocks (length level.cuts) → ArePartsOf c level blocks (λ x. 1) parts
    → IsUnionOf c level parts next → IsListOf (IsNextOf c level.cuts) next.cuts
whole_list c level next blocks parts sized are union = record {
  ascending = union.list.ascending;
  just = λ cut. (λ has. to cut ((union.list.just cut).0 has), λ is. (union.list.just cut).1 (from cut is));
}
  where
    to : (cut : List ℕ) → IsInPart parts cut → IsNextOf c level.cuts cut
    to cut (part, in_, has) =
        let is : IsPartOf c level part = All-contains (IsPartOf c level) parts part are.are in_ in
        ((is.list.just cut).0 has).0

    from : (cut : List ℕ) → IsNextOf c level.cuts cut → IsInPart parts cut
    from cut is_next =
        let b : (block : ℕ) × (block < blocks) × IsInBlock block level.cuts cut =
        in_some_block c level.cuts blocks cut sized is_next in
        let p : (part : Part) × Contains parts part × (part.block ≡ b.0) =
        part_with b.0 parts (omega (arith, are.each b.0 b.1)) in
        let is : IsPartOf c level p.0 = All-contains (IsPartOf c level) parts p.0 are.are p.1 in
        let here : IsInBlock p.0.block level.cuts cut =
        subst (λ (x : ℕ). IsInBlock x level.cuts cut) (sym p.2) b.2 in
        (p.0, p.1, (is.list.just cut).1 (is_next, here))

-- the same parts in another order
pub parts_moved : (c : Computation) (level : Levelled) (blocks : ℕ) (drawn : ℕ → ℕ) (parts moved : List Part)
    → IsPermutation parts moved → ArePartsOf c level blocks drawn parts → ArePartsOf c level blocks drawn moved
parts_moved c level blocks drawn parts moved order are = record {
  are = All-permutation (IsPartOf c level) parts moved order are.are;
  each = λ x lt.
      sum_by-IsPermutation (λ (y : ℕ). cond (eqb y x) 1 0) (map number_of parts) (map number_of moved)
      (IsPermutation-map number_of parts moved order) ∙ are.each x lt;
}

-- all parts in some order are the next level
pub next_made : (c : Computation) (level : Levelled) (blocks : ℕ) (parts moved lent : List Part)
    (made : Result Levelled AllocError) → AreBlocksOf blocks (length level.cuts)
    → ArePartsOf c level blocks (λ x. 1) parts → IsPermutation parts moved → lent ≡ moved
    → IfOk made (IsUnionOf c level lent) → IfOk made (λ next. IsListOf (IsNextOf c level.cuts) next.cuts)
next_made c level blocks parts moved lent (Ok next) sized are order same union =
    whole_list c level next blocks moved sized (parts_moved c level blocks (λ x. 1) parts moved order are)
    (subst (λ (l : List Part). IsUnionOf c level l next) same union)
next_made c level blocks parts moved lent (Err error) sized are order same union = tt
