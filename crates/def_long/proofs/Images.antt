-- A walk's cuts, each cut down to a part of it or filled up by one, are those of a walk once more.
use Rattle.std.proofs.Common.{◌≡◌, ℕ, zero, suc, ◌+◌, ◌<◌, ◌≤◌, min, max, List, [], ◌∷◌, ◌++◌, length, get_or, Contains, sym, ap, ◌∙◌, subst, inl, inr, ◌⊎◌, arith, ext_get_or}
use Rattle.std.proofs.lemmas.Bool.{cases_eq, cases_lt}
use Rattle.std.proofs.lemmas.List.Elements.{Contains-get_or, Contains-push_cases}
use Rattle.def_model.specs.Cuts.{AddsEvent, IsConsistent, one_more}
use Rattle.def_model.specs.Lattice.{IsWithin, meet, join}
use Rattle.def_model.specs.Observations.{IsWalk}
use Rattle.def_model.proofs.Counts.{length_more, more_other, more_same}
use Rattle.def_model.proofs.Lists.{linked_at}
use Rattle.def_model.proofs.MeetAndJoin.{join_at, length_join, length_meet, meet_at}
use Rattle.def_model.proofs.Walks.{walk_push, walk_start}
use Rattle.def_long.specs.Windows.{Window, IsCutIn}
use Rattle.def_long.proofs.WindowWalks.{not_empty, walk_first, walk_in, walk_last}

module _ (w : Window) (f : List ℕ → List ℕ) (ok : (x : List ℕ) → IsCutIn w x → IsConsistent w.run (f x))
    (step : (x : List ℕ) (p : ℕ) → IsCutIn w x → p < length x
    → (f (one_more x p) ≡ f x) ⊎ AddsEvent (f x) (f (one_more x p)))
    (cuts : List (List ℕ)) (walk : IsWalk w.run w.from cuts w.to) where
  -- a walk from the first image to this one, of images alone
  abbrev IsImage : List ℕ → Type 0
  IsImage last = (images : List (List ℕ)) × IsWalk w.run (f w.from) images last
      × ((y : List ℕ) → Contains images y → (x : List ℕ) × Contains cuts x × (f x ≡ y))

  images_to : (j : ℕ) → j < length cuts → IsImage (f (get_or cuts j []))
  images_to zero lt = (
    f (get_or cuts 0 []) ∷ [],
    subst (λ (x : List ℕ). IsWalk w.run x (f (get_or cuts 0 []) ∷ []) (f (get_or cuts 0 [])))
        (ap f (walk_first w.run w.from w.to cuts walk))
        (walk_start w.run (f (get_or cuts 0 [])) (ok (get_or cuts 0 []) (walk_in w cuts walk 0 lt))),
    λ y has. at y has,
  )
    where
      at : (y : List ℕ) → Contains (f (get_or cuts 0 []) ∷ []) y → (x : List ℕ) × Contains cuts x × (f x ≡ y)
      at y (zero, few, is) = (get_or cuts 0 [], Contains-get_or cuts 0 [] lt, is)
      at y (suc k, few, is) = absurd (omega arith)
  images_to (suc j) lt =
      go (images_to j (omega arith)) (linked_at AddsEvent cuts walk.steps j [] lt)
    where
      go : IsImage (f (get_or cuts j [])) → AddsEvent (get_or cuts j []) (get_or cuts (suc j) [])
          → IsImage (f (get_or cuts (suc j) []))
      go (images, so_far, from) (p, there, is) =
          pick (step (get_or cuts j []) p (walk_in w cuts walk j (omega arith)) there)
        where
          pick : (f (one_more (get_or cuts j []) p) ≡ f (get_or cuts j []))
              ⊎ AddsEvent (f (get_or cuts j [])) (f (one_more (get_or cuts j []) p))
              → IsImage (f (get_or cuts (suc j) []))
          pick (inl same) = subst IsImage (sym (ap f is ∙ same)) (images, so_far, from)
          pick (inr adds) = (
            images ++ f (get_or cuts (suc j) []) ∷ [],
            walk_push w.run (f w.from) (f (get_or cuts j [])) (f (get_or cuts (suc j) [])) images so_far
                (ok (get_or cuts (suc j) []) (walk_in w cuts walk (suc j) lt))
                (subst (λ (x : List ℕ). AddsEvent (f (get_or cuts j [])) (f x)) (sym is) adds),
            λ y has. at y (Contains-push_cases images (f (get_or cuts (suc j) [])) y has),
          )
            where
              at : (y : List ℕ) → Contains images y ⊎ (f (get_or cuts (suc j) []) ≡ y)
                  → (x : List ℕ) × Contains cuts x × (f x ≡ y)
              at y (inl has) = from y has
              at y (inr same) = (get_or cuts (suc j) [], Contains-get_or cuts (suc j) [] lt, same)

  pub images : IsImage (f w.to)
  images = go (not_empty w.run w.from w.to cuts walk)
    where
      go : (n : ℕ) × (length cuts ≡ suc n) → IsImage (f w.to)
      go (n, l) =
          subst (λ (x : List ℕ). IsImage (f x)) (walk_last w.run w.from w.to cuts walk n l)
          (images_to n (omega arith))

-- ---- the least and the greatest with one cut

pub meet_is_left : (a b : List ℕ) → length a ≡ length b → IsWithin a b → meet a b ≡ a
meet_is_left a b l within =
    ext_get_or 0 (meet a b) a (length_meet a b l) (λ p lt.
    let i : get_or a p 0 ≤ get_or b p 0 = within p in
    let m : get_or (meet a b) p 0 ≡ min (get_or a p 0) (get_or b p 0) = meet_at a b p in omega arith)

pub meet_is_right : (a b : List ℕ) → length a ≡ length b → IsWithin b a → meet a b ≡ b
meet_is_right a b l within =
    ext_get_or 0 (meet a b) b (length_meet a b l ∙ l) (λ p lt.
    let i : get_or b p 0 ≤ get_or a p 0 = within p in
    let m : get_or (meet a b) p 0 ≡ min (get_or a p 0) (get_or b p 0) = meet_at a b p in omega arith)

pub join_is_left : (a b : List ℕ) → length a ≡ length b → IsWithin b a → join a b ≡ a
join_is_left a b l within =
    ext_get_or 0 (join a b) a (length_join a b l) (λ p lt.
    let i : get_or b p 0 ≤ get_or a p 0 = within p in
    let m : get_or (join a b) p 0 ≡ max (get_or a p 0) (get_or b p 0) = join_at a b p in omega arith)

pub join_is_right : (a b : List ℕ) → length a ≡ length b → IsWithin a b → join a b ≡ b
join_is_right a b l within =
    ext_get_or 0 (join a b) b (length_join a b l ∙ l) (λ p lt.
    let i : get_or a p 0 ≤ get_or b p 0 = within p in
    let m : get_or (join a b) p 0 ≡ max (get_or a p 0) (get_or b p 0) = join_at a b p in omega arith)

module _ (x b : List ℕ) (p : ℕ) (there : p < length x) (l : length x ≡ length b) where
  more_p : get_or (one_more x p) p 0 ≡ get_or x p 0 + 1
  more_p = more_same x p there

  longer : length (one_more x p) ≡ length b
  longer = length_more x p ∙ l

  -- one event more is one more of the least of both, or changes nothing
  pub meet_step : (meet (one_more x p) b ≡ meet x b) ⊎ AddsEvent (meet x b) (meet (one_more x p) b)
  meet_step = go (cases_lt (get_or x p 0) (get_or b p 0))
    where
      same_length : length (meet (one_more x p) b) ≡ length (meet x b)
      same_length = length_meet (one_more x p) b longer ∙ (length_more x p ∙ sym (length_meet x b l))

      there' : p < length (meet x b)
      there' = omega (arith, length_meet x b l)

      other : (q : ℕ) → (q ≡ p → ⊥) → get_or (meet (one_more x p) b) q 0 ≡ get_or (meet x b) q 0
      other q apart =
          let m : get_or (meet (one_more x p) b) q 0 ≡ min (get_or (one_more x p) q 0) (get_or b q 0) =
          meet_at (one_more x p) b q in
          let n : get_or (meet x b) q 0 ≡ min (get_or x q 0) (get_or b q 0) = meet_at x b q in
          let o : get_or (one_more x p) q 0 ≡ get_or x q 0 = more_other x p q apart in
          omega arith

      m : get_or (meet (one_more x p) b) p 0 ≡ min (get_or (one_more x p) p 0) (get_or b p 0)
      m = meet_at (one_more x p) b p

      n : get_or (meet x b) p 0 ≡ min (get_or x p 0) (get_or b p 0)
      n = meet_at x b p

      go : (get_or x p 0 < get_or b p 0) ⊎ (get_or b p 0 ≤ get_or x p 0)
          → (meet (one_more x p) b ≡ meet x b) ⊎ AddsEvent (meet x b) (meet (one_more x p) b)
      go (inl lt) =
          inr (
            p,
            there',
            ext_get_or 0 (meet (one_more x p) b) (one_more (meet x b) p)
                (same_length ∙ sym (length_more (meet x b) p)) (λ q few. at q (cases_eq q p)),
          )
        where
          at : (q : ℕ) → (q ≡ p) ⊎ (q ≡ p → ⊥)
              → get_or (meet (one_more x p) b) q 0 ≡ get_or (one_more (meet x b) p) q 0
          at q (inl is) =
              ap (λ (k : ℕ). get_or (meet (one_more x p) b) k 0) is
              ∙ (omega (arith, m, n, more_p, more_same (meet x b) p there', lt)
              ∙ sym (ap (λ (k : ℕ). get_or (one_more (meet x b) p) k 0) is))
          at q (inr apart) = other q apart ∙ sym (more_other (meet x b) p q apart)
      go (inr ge) =
          inl (ext_get_or 0 (meet (one_more x p) b) (meet x b) same_length (λ q few. at q (cases_eq q p)))
        where
          at : (q : ℕ) → (q ≡ p) ⊎ (q ≡ p → ⊥) → get_or (meet (one_more x p) b) q 0 ≡ get_or (meet x b) q 0
          at q (inl is) =
              ap (λ (k : ℕ). get_or (meet (one_more x p) b) k 0) is
              ∙ (omega (arith, m, n, more_p, ge) ∙ sym (ap (λ (k : ℕ). get_or (meet x b) k 0) is))
          at q (inr apart) = other q apart

  -- the same of the greatest of both
  pub join_step : (join (one_more x p) b ≡ join x b) ⊎ AddsEvent (join x b) (join (one_more x p) b)
  join_step = go (cases_lt (get_or x p 0) (get_or b p 0))
    where
      same_length : length (join (one_more x p) b) ≡ length (join x b)
      same_length = length_join (one_more x p) b longer ∙ (length_more x p ∙ sym (length_join x b l))

      there' : p < length (join x b)
      there' = omega (arith, length_join x b l)

      other : (q : ℕ) → (q ≡ p → ⊥) → get_or (join (one_more x p) b) q 0 ≡ get_or (join x b) q 0
      other q apart =
          let m : get_or (join (one_more x p) b) q 0 ≡ max (get_or (one_more x p) q 0) (get_or b q 0) =
          join_at (one_more x p) b q in
          let n : get_or (join x b) q 0 ≡ max (get_or x q 0) (get_or b q 0) = join_at x b q in
          let o : get_or (one_more x p) q 0 ≡ get_or x q 0 = more_other x p q apart in
          omega arith

      m : get_or (join (one_more x p) b) p 0 ≡ max (get_or (one_more x p) p 0) (get_or b p 0)
      m = join_at (one_more x p) b p

      n : get_or (join x b) p 0 ≡ max (get_or x p 0) (get_or b p 0)
      n = join_at x b p

      go : (get_or x p 0 < get_or b p 0) ⊎ (get_or b p 0 ≤ get_or x p 0)
          → (join (one_more x p) b ≡ join x b) ⊎ AddsEvent (join x b) (join (one_more x p) b)
      go (inl lt) =
          inl (ext_get_or 0 (join (one_more x p) b) (join x b) same_length (λ q few. at q (cases_eq q p)))
        where
          at : (q : ℕ) → (q ≡ p) ⊎ (q ≡ p → ⊥) → get_or (join (one_more x p) b) q 0 ≡ get_or (join x b) q 0
          at q (inl is) =
              ap (λ (k : ℕ). get_or (join (one_more x p) b) k 0) is
              ∙ (omega (arith, m, n, more_p, lt) ∙ sym (ap (λ (k : ℕ). get_or (join x b) k 0) is))
          at q (inr apart) = other q apart
      go (inr ge) =
          inr (
            p,
            there',
            ext_get_or 0 (join (one_more x p) b) (one_more (join x b) p)
                (same_length ∙ sym (length_more (join x b) p)) (λ q few. at q (cases_eq q p)),
          )
        where
          at : (q : ℕ) → (q ≡ p) ⊎ (q ≡ p → ⊥)
              → get_or (join (one_more x p) b) q 0 ≡ get_or (one_more (join x b) p) q 0
          at q (inl is) =
              ap (λ (k : ℕ). get_or (join (one_more x p) b) k 0) is
              ∙ (omega (arith, m, n, more_p, more_same (join x b) p there', ge)
              ∙ sym (ap (λ (k : ℕ). get_or (one_more (join x b) p) k 0) is))
          at q (inr apart) = other q apart ∙ sym (more_other (join x b) p q apart)
