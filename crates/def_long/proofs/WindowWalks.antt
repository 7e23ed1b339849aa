-- Walks in a window: their cuts are in it, and they go on to each later cut.
use Rattle.std.proofs.Common.{◌≡◌, ℕ, zero, suc, ◌+◌, ◌-◌, ◌<◌, ◌≤◌, List, [], ◌∷◌, ◌++◌, length, get_or, sum, Some, All, Contains, refl, sym, ap, ◌∙◌, subst, inl, inr, ◌⊎◌, arith}
use Rattle.std.proofs.lemmas.Bool.{cases_eq, cases_lt}
use Rattle.std.proofs.lemmas.List.{get_or_default}
use Rattle.std.proofs.lemmas.List.Elements.{All-push, Contains-append_left, Contains-get_or}
use Rattle.def_model.specs.Events.{Computation, Linked, Place, place, first_of}
use Rattle.def_model.specs.Cuts.{AddsEvent, Includes, IsConsistent, one_less, one_more}
use Rattle.def_model.specs.Lattice.{IsWithin}
use Rattle.def_model.specs.Observations.{IsWalk}
use Rattle.def_model.proofs.Chains.{same_place}
use Rattle.def_model.proofs.Counts.{less_le, more_other, more_same, same_from_sum, step_from_less, sum_less}
use Rattle.def_model.proofs.Lists.{at_first, at_last, linked_at}
use Rattle.def_model.proofs.Undoing.{step_down_from_sum, within_less}
use Rattle.def_model.proofs.Walks.{walk_push}
use Rattle.def_long.specs.Windows.{Window, IsCutIn, IsWindow}
use Rattle.def_long.proofs.WindowCuts.{less_in}

-- ---- one event more

pub added_cases : (old : List ℕ) (p : ℕ) (e : Place) → p < length old → Includes (one_more old p) e
    → Includes old e ⊎ (e ≡ place p (get_or old p 0 + 1))
added_cases old p e there (low, high) = go (cases_eq e.process p) (cases_lt (get_or old e.process 0) e.number)
  where
    go : (e.process ≡ p) ⊎ (e.process ≡ p → ⊥) → (get_or old e.process 0 < e.number)
        ⊎ (e.number ≤ get_or old e.process 0) → Includes old e ⊎ (e ≡ place p (get_or old p 0 + 1))
    go other (inr le) = inl (low, le)
    go (inr apart) (inl lt) =
        let t : get_or (one_more old p) e.process 0 ≡ get_or old e.process 0 = more_other old p e.process apart in
        absurd (omega arith)
    go (inl same) (inl lt) =
        let t : get_or (one_more old p) p 0 ≡ get_or old p 0 + 1 = more_same old p there in
        let now : get_or (one_more old p) e.process 0 ≡ get_or (one_more old p) p 0 =
        ap (λ (q : ℕ). get_or (one_more old p) q 0) same in
        let was : get_or old e.process 0 ≡ get_or old p 0 = ap (λ (q : ℕ). get_or old q 0) same in
        inr (same_place e (place p (get_or old p 0 + 1)) same (omega arith))

pub more_within : (old : List ℕ) (p : ℕ) → p < length old → IsWithin old (one_more old p)
more_within old p there q = go (cases_eq q p)
  where
    go : (q ≡ p) ⊎ (q ≡ p → ⊥) → get_or old q 0 ≤ get_or (one_more old p) q 0
    go (inl same) = rw same (let t : get_or (one_more old p) p 0 ≡ get_or old p 0 + 1 = more_same old p there in
        omega arith)
    go (inr apart) = let t : get_or (one_more old p) q 0 ≡ get_or old q 0 = more_other old p q apart in omega arith

pub includes_added : (old : List ℕ) (p : ℕ) → p < length old
    → Includes (one_more old p) (place p (get_or old p 0 + 1))
includes_added old p there =
    let t : get_or (one_more old p) p 0 ≡ get_or old p 0 + 1 = more_same old p there in
    (omega arith, omega arith)

-- ---- the cuts of a walk

pub walk_grows : (cuts : List (List ℕ)) → Linked AddsEvent cuts → (i d : ℕ) → i + d < length cuts
    → IsWithin (get_or cuts i []) (get_or cuts (i + d) [])
walk_grows cuts linked i zero lt p =
    let e : i + 0 ≡ i = omega arith in rw e (omega arith)
walk_grows cuts linked i (suc d) lt p =
    let e : i + suc d ≡ suc (i + d) = omega arith in
    let before : get_or (get_or cuts i []) p 0 ≤ get_or (get_or cuts (i + d) []) p 0 =
    walk_grows cuts linked i d (omega arith) p in
    let last : get_or (get_or cuts (i + d) []) p 0 ≤ get_or (get_or cuts (suc (i + d)) []) p 0 =
    step (linked_at AddsEvent cuts linked (i + d) [] (omega arith)) in
    rw e (omega arith)
  where
    step : AddsEvent (get_or cuts (i + d) []) (get_or cuts (suc (i + d)) [])
        → get_or (get_or cuts (i + d) []) p 0 ≤ get_or (get_or cuts (suc (i + d)) []) p 0
    step (q, there, is) = rw is (more_within (get_or cuts (i + d) []) q there p)

pub not_empty : (c : Computation) (from to : List ℕ) (cuts : List (List ℕ)) → IsWalk c from cuts to
    → (n : ℕ) × (length cuts ≡ suc n)
not_empty c from to [] w = let b : first_of [] ≡ Some from = w.begins in absurd (cc)
not_empty c from to (cut ∷ cuts) w = (length cuts, refl)

pub walk_first : (c : Computation) (from to : List ℕ) (cuts : List (List ℕ)) → IsWalk c from cuts to
    → get_or cuts 0 [] ≡ from
walk_first c from to cuts w = (at_first cuts from [] w.begins).0

pub walk_last : (c : Computation) (from to : List ℕ) (cuts : List (List ℕ)) → IsWalk c from cuts to → (n : ℕ)
    → length cuts ≡ suc n → get_or cuts n [] ≡ to
walk_last c from to cuts w n l = at_last cuts to [] n w.ends l

pub last_in_walk : (c : Computation) (from to : List ℕ) (cuts : List (List ℕ)) → IsWalk c from cuts to
    → Contains cuts to
last_in_walk c from to cuts w =
    let n : (n : ℕ) × (length cuts ≡ suc n) = not_empty c from to cuts w in
    let l : length cuts ≡ suc n.0 = n.1 in
    subst (Contains cuts) (walk_last c from to cuts w n.0 l) (Contains-get_or cuts n.0 [] (omega arith))

pub walk_in : (w : Window) (cuts : List (List ℕ)) → IsWalk w.run w.from cuts w.to → (i : ℕ) → i < length cuts
    → IsCutIn w (get_or cuts i [])
walk_in w cuts walk i lt = go (not_empty w.run w.from w.to cuts walk)
  where
    go : (n : ℕ) × (length cuts ≡ suc n) → IsCutIn w (get_or cuts i [])
    go (n, l) = record {
      consistent = walk.consistent i [] lt;
      above = subst (λ (x : List ℕ). IsWithin x (get_or cuts i [])) (walk_first w.run w.from w.to cuts walk) early;
      below = subst (IsWithin (get_or cuts i [])) (walk_last w.run w.from w.to cuts walk n l) late;
    }
      where
        early : IsWithin (get_or cuts 0 []) (get_or cuts i [])
        early = let e : 0 + i ≡ i = omega arith in
            subst (λ (k : ℕ). IsWithin (get_or cuts 0 []) (get_or cuts k [])) e
            (walk_grows cuts walk.steps 0 i (omega arith))

        late : IsWithin (get_or cuts i []) (get_or cuts n [])
        late = let e : i + (n - i) ≡ n = omega arith in
            subst (λ (k : ℕ). IsWithin (get_or cuts i []) (get_or cuts k [])) e
            (walk_grows cuts walk.steps i (n - i) (omega arith))

-- a cut of a walk has a number
pub number_in : (cuts : List (List ℕ)) (cut : List ℕ) → Contains cuts cut → (i : ℕ) × (i < length cuts)
    × (get_or cuts i [] ≡ cut)
number_in cuts cut (i, lt, at) = (i, lt, get_or_default cuts i [] cut lt ∙ at)

pub cut_in : (w : Window) (cuts : List (List ℕ)) → IsWalk w.run w.from cuts w.to → (cut : List ℕ)
    → Contains cuts cut → IsCutIn w cut
cut_in w cuts walk cut has =
    let n : (i : ℕ) × (i < length cuts) × (get_or cuts i [] ≡ cut) = number_in cuts cut has in
    subst (IsCutIn w) n.2 (walk_in w cuts walk n.0 n.1)

-- ---- a walk goes on

-- A walk to one cut goes on to each later one, with what holds of its cuts and of those between the two.
module _ (w : Window) (is : IsWindow w) (P : List ℕ → Type 0) where
  pub walk_up : (n : ℕ) (cuts : List (List ℕ)) (a b : List ℕ) → IsWalk w.run w.from cuts a → IsCutIn w a → IsCutIn w b
      → IsWithin a b → sum a + n ≡ sum b → All P cuts
      → ((x : List ℕ) → IsCutIn w x → IsWithin a x → IsWithin x b → P x) → (more : List (List ℕ))
      × IsWalk w.run w.from more b × All P more × ((x : List ℕ) → Contains cuts x → Contains more x)
  walk_up zero cuts a b walk in_a in_b within s all between =
      let same : a ≡ b =
      same_from_sum a b (in_a.consistent.fits.one_each ∙ sym in_b.consistent.fits.one_each) within (omega arith) in
      (cuts, subst (IsWalk w.run w.from cuts) same walk, all, λ x has. has)
  walk_up (suc n) cuts a b walk in_a in_b within s all between =
      go (step_down_from_sum w.run is.no_cycle a b in_a.consistent in_b.consistent within (omega arith))
      (walk_up n)
    where
      go : (p : ℕ) × (p < length b) × (get_or a p 0 < get_or b p 0) × IsConsistent w.run (one_less b p)
          → ((cuts : List (List ℕ)) (a b : List ℕ) → IsWalk w.run w.from cuts a → IsCutIn w a → IsCutIn w b
          → IsWithin a b → sum a + n ≡ sum b → All P cuts
          → ((x : List ℕ) → IsCutIn w x → IsWithin a x → IsWithin x b → P x) → (more : List (List ℕ))
          × IsWalk w.run w.from more b × All P more × ((x : List ℕ) → Contains cuts x → Contains more x))
          → (more : List (List ℕ)) × IsWalk w.run w.from more b × All P more
          × ((x : List ℕ) → Contains cuts x → Contains more x)
      go (p, lt, more, ok) rest =
          last (rest cuts a (one_less b p) walk in_a in_less (within_less a b p within more) (omega (arith, fewer)) all
          (λ x in_x above below. between x in_x above (λ q.
          let i : get_or x q 0 ≤ get_or (one_less b p) q 0 = below q in
          let j : get_or (one_less b p) q 0 ≤ get_or b q 0 = less_le b p q has in omega arith)))
        where
          has : 0 < get_or b p 0
          has = omega arith

          fewer : sum (one_less b p) + 1 ≡ sum b
          fewer = sum_less b p has

          in_less : IsCutIn w (one_less b p)
          in_less = less_in w b p in_b (let i : get_or w.from p 0 ≤ get_or a p 0 = in_a.above p in omega arith) ok

          last : (on : List (List ℕ)) × IsWalk w.run w.from on (one_less b p) × All P on
              × ((x : List ℕ) → Contains cuts x → Contains on x) → (all : List (List ℕ))
              × IsWalk w.run w.from all b × All P all × ((x : List ℕ) → Contains cuts x → Contains all x)
          last (on, to_less, all_on, keeps) = (
            on ++ b ∷ [],
            walk_push w.run w.from (one_less b p) b on to_less in_b.consistent (step_from_less b p has),
            All-push P on b all_on (between b in_b within (λ q. omega arith)),
            λ x in_cuts. Contains-append_left on (b ∷ []) x (keeps x in_cuts),
          )

  -- the same with no count
  pub walk_on : (cuts : List (List ℕ)) (a b : List ℕ) → IsWalk w.run w.from cuts a → IsCutIn w a → IsCutIn w b
      → IsWithin a b → sum a ≤ sum b → All P cuts
      → ((x : List ℕ) → IsCutIn w x → IsWithin a x → IsWithin x b → P x) → (more : List (List ℕ))
      × IsWalk w.run w.from more b × All P more × ((x : List ℕ) → Contains cuts x → Contains more x)
  walk_on cuts a b walk in_a in_b within less all between =
      walk_up (sum b - sum a) cuts a b walk in_a in_b within (omega arith) all between
