-- Which spots have one box.
use Rattle.std.proofs.Common.{◌≡◌, ◌≢◌, inl, inr, ◌⊎◌, ℕ, ◌+◌, ◌-◌, ◌<◌, ◌≤◌, List, ◌∷◌, [], ◌++◌, length, get_or, refl, sym, ap, ◌∙◌, subst, arith}
use Rattle.std.proofs.lemmas.Bool.{cases_eq}
use Rattle.std.proofs.lemmas.List.{get_or_append_left, get_or_default, get_or_push, length_push}
use Rattle.std.specs.Prelude.{Vec}
use Rattle.std.specs.Global.{Global}
use Rattle.def_model.specs.Events.{Computation, Place, IsEvent}
use Rattle.def_model.specs.Order.{HasNoCycle, IsClock}
use Rattle.def_model.proofs.Chains.{same_place}
use Rattle.wide_gates.proofs.Beside.{none_of_none, other_range}
use Rattle.wide_gates.proofs.Pushes.{each_push}
use Rattle.wide_gates.specs.Boxes.{HasBox, HaveBoxes, IsBox, IsLastBox, IsMoreBoxes}
use Rattle.wide_gates.specs.Highs.{HasNoneAfter, IsHigh}
use Rattle.wide_gates.specs.Ranges.{HasRange, IsRange}
use Rattle.wide_gates.specs.Spots.{CanHave, IsBetween, event_of}
use Rattle.wide_gates.specs.declared.range.Range.{Range}
use Rattle.wide_gates.specs.declared.spot.Spot.{Spot}

-- ---- ranges

-- of the event's own process
pub has_own : (c : Computation) (spot : Spot) (q : ℕ) → q ≡ spot.place.process
    → HasRange c spot q (record { low = 0; high = 0 })
has_own c spot q own = record {
  own_low = λ same. refl;
  own_high = λ same. refl;
  other = λ apart. absurd (apart own);
}

-- of another one
pub has_other : (c : Computation) → HasNoCycle c → (spot : Spot) (q : ℕ) (range : Range) → IsEvent c (event_of spot)
    → q ≢ spot.place.process → IsClock c (event_of spot) q range.low → IsHigh c (event_of spot) q range.high
    → HasRange c spot q range
has_other c acyclic spot q range event other clock high = record {
  own_low = λ same. absurd (other same);
  own_high = λ same. absurd (other same);
  other = λ apart. other_range c acyclic spot q range.low range.high event other clock high;
}

-- the event happened before none up to the end of the range
pub none_of_range : (c : Computation) (spot : Spot) (q : ℕ) (range : Range) → HasRange c spot q range
    → HasNoneAfter c (event_of spot) q range.high
none_of_range c spot q range has = go (cases_eq q spot.place.process)
  where
    go : (q ≡ spot.place.process) ⊎ (q ≡ spot.place.process → ⊥) → HasNoneAfter c (event_of spot) q range.high
    go (inl own) = none_of_none c (event_of spot) q range.high (has.own_high own)
    go (inr apart) =
        of (((has.other apart).each range.high).0
        ((has.other apart).ordered, (let le : range.high ≤ range.high = omega arith in le)))
      where
        of : CanHave c spot q range.high → HasNoneAfter c (event_of spot) q range.high
        of (inl (own, is)) = absurd (apart own)
        of (inr (other, between)) = record { within = between.within; none = between.none_after }

-- ---- boxes

-- at the same event another process may have the same counts
pub box_beside : (c : Computation) (last spot : Spot) (ranges : List Range)
    → last.place.process ≡ spot.place.process → last.place.number ≡ spot.place.number → HasBox c last ranges
    → HasBox c spot ranges
box_beside c last spot ranges process number has = record {
  one_each = has.one_each;
  each = λ q d lt. record {
    own_low = λ own. (has.each q d lt).own_low (own ∙ sym process);
    own_high = λ own. (has.each q d lt).own_high (own ∙ sym process);
    other = λ apart. beside q (get_or ranges q d) apart
        ((has.each q d lt).other (λ own. apart (own ∙ process)));
  };
}
  where
    same : event_of last ≡ event_of spot
    same = same_place (event_of last) (event_of spot) process number

    beside : (q : ℕ) (range : Range) → q ≢ spot.place.process → IsRange c last q range → IsRange c spot q range
    beside q range other is = record {
      ordered = is.ordered;
      within = is.within;
      each = λ count. (
        λ within. to count ((is.each count).0 within),
        λ may. (is.each count).1 (from count may),
      );
    }
      where
        to : (count : ℕ) → CanHave c last q count → CanHave c spot q count
        to count (inl (own, is)) = absurd (other (own ∙ process))
        to count (inr (apart, is)) = inr (other, subst (λ (e : Place). IsBetween c e q count) same is)

        from : (count : ℕ) → CanHave c spot q count → CanHave c last q count
        from count (inl (own, is)) = absurd (other own)
        from count (inr (apart, is)) =
            inr (λ own. other (own ∙ process), subst (λ (e : Place). IsBetween c e q count) (sym same) is)

-- the box of a spot is one
pub box_of_spot : (c : Computation) (spot : Spot) (ranges : List Range) → HasBox c spot ranges → IsBox c ranges
box_of_spot c spot ranges has = record {
  one_each = has.one_each;
  ordered = λ q d lt. ordered q (get_or ranges q d) (has.each q d lt) (cases_eq q spot.place.process);
  within = λ q d lt. (none_of_range c spot q (get_or ranges q d) (has.each q d lt)).within;
}
  where
    ordered : (q : ℕ) (range : Range) → HasRange c spot q range
        → (q ≡ spot.place.process) ⊎ (q ≡ spot.place.process → ⊥) → range.low ≤ range.high
    ordered q range is (inl own) = omega (arith, is.own_low own, is.own_high own)
    ordered q range is (inr apart) = (is.other apart).ordered

-- ---- lists of boxes

pub same_boxes : (c : Computation) (boxes : List (Vec Range Global)) → IsMoreBoxes c boxes boxes
same_boxes c boxes = record {
  no_fewer = omega arith;
  same = λ i b lt. refl;
  sound = λ are. are;
}

pub one_box_more : (c : Computation) (spot : Spot) (old new : List (Vec Range Global)) (made : Vec Range Global)
    → HasBox c spot made.items → new ≡ old ++ made ∷ [] → IsMoreBoxes c old new
one_box_more c spot old new made has is = record {
  no_fewer = (let l : length new ≡ length old + 1 = ap length is ∙ length_push old made in omega (arith, l));
  same = λ i b lt.
      ap (λ (xs : List (Vec Range Global)). get_or xs i b) is ∙ get_or_append_left old (made ∷ []) b i lt;
  sound = λ are i b lt. each_push (λ j (v : Vec Range Global). IsBox c v.items) old new made b (length old) refl is
      (λ j less. are j b less) (box_of_spot c spot made.items has) i
      (let l : length new ≡ length old + 1 = ap length is ∙ length_push old made in omega (arith, l, lt));
}

pub last_box : (c : Computation) (spot : Spot) (old new : List (Vec Range Global)) (made : Vec Range Global)
    → HasBox c spot made.items → new ≡ old ++ made ∷ [] → IsLastBox c spot new
last_box c spot old new made has is =
    let l : length new ≡ length old + 1 = ap length is ∙ length_push old made in
    record {
      some = omega (arith, l);
      last = λ b. subst (λ (v : Vec Range Global). HasBox c spot v.items)
          (sym (ap (λ (xs : List (Vec Range Global)). get_or xs (length new - 1) b) is
          ∙ get_or_push old made b (length new - 1) (let e : length old ≡ length new - 1 = omega (arith, l) in e)))
          has;
    }

pub no_boxes : (c : Computation) (spots : List Spot) → HaveBoxes c spots 0 [] []
no_boxes c spots = record {
  sound = λ i b lt. absurd (omega (arith, lt));
  one_each = refl;
  there = λ k lt. absurd (omega (arith, lt));
  each = λ k d b lt. absurd (omega (arith, lt));
}

-- one spot more, which has the last box
pub have_box_more : (c : Computation) (spots : List Spot) (n number : ℕ) (old new : List (Vec Range Global))
    (numbers made : List ℕ) → HaveBoxes c spots n old numbers → IsMoreBoxes c old new
    → ((d : Spot) → IsLastBox c (get_or spots n d) new) → (d : Spot) → number ≡ length new - 1
    → made ≡ numbers ++ number ∷ [] → HaveBoxes c spots (n + 1) new made
have_box_more c spots n number old new numbers made have more last d0 last_is is = record {
  sound = more.sound have.sound;
  one_each = ap length is ∙ length_push numbers number ∙ ap (λ (k : ℕ). k + 1) have.one_each;
  there = each_push (λ k i. i < length new) numbers made number 0 n have.one_each is
      (λ k lt. (let le : get_or numbers k 0 < length old = have.there k lt in omega (arith, le, more.no_fewer)))
      (let some : 0 < length new = (last d0).some in omega (arith, last_is, some));
  each = λ k d b lt.
      each_push (λ j i. HasBox c (get_or spots j d) (get_or new i b).items) numbers made number 0 n have.one_each is
      (λ j less. subst (λ (v : Vec Range Global). HasBox c (get_or spots j d) v.items)
      (sym (more.same (get_or numbers j 0) b (have.there j less))) (have.each j d b less))
      (subst (λ (i : ℕ). HasBox c (get_or spots n d) (get_or new i b).items) (sym last_is) ((last d).last b)) k lt;
}

-- what the last of some boxes says of a spot
pub of_last : (c : Computation) (spot : Spot) (boxes : List (Vec Range Global)) (b : Vec Range Global)
    (ranges : List Range) → IsLastBox c spot boxes → ranges ≡ b.items → b ≡ get_or boxes (length boxes - 1) b
    → HasBox c spot ranges
of_last c spot boxes b ranges last are is =
    subst (HasBox c spot) (sym are) (subst (λ (v : Vec Range Global). HasBox c spot v.items) (sym is) (last.last b))

pub is_last : (c : Computation) (spots : List Spot) (k : ℕ) (e d : Spot) (boxes : List (Vec Range Global))
    (b : Vec Range Global) (ranges : List Range) → k < length spots → 0 < length boxes → ranges ≡ b.items
    → b ≡ get_or boxes (length boxes - 1) b → HasBox c (get_or spots k e) ranges → IsLastBox c (get_or spots k d) boxes
is_last c spots k e d boxes b ranges lt some are is has = record {
  some = some;
  last = λ other.
      subst (λ (s : Spot). HasBox c s (get_or boxes (length boxes - 1) other).items)
      (get_or_default spots k e d lt)
      (subst (λ (v : Vec Range Global). HasBox c (get_or spots k e) v.items)
      (is ∙ get_or_default boxes (length boxes - 1) b other (omega (arith, some)))
      (subst (HasBox c (get_or spots k e)) are has));
}
