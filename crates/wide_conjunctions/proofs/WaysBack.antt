-- The way back, one step at a time.
use Rattle.std.proofs.Common.{◌≡◌, ℕ, suc, ◌+◌, ◌<◌, ◌≤◌, ◌⊎◌, inl, inr, Bool, List, [], ◌∷◌, ◌++◌, length, reverse, sum, refl, sym, subst, ◌↔◌, append_assoc, append-nil, add-one}
use Rattle.std.proofs.lemmas.Bool.{cases_lt}
use Rattle.def_model.specs.Answers.{IsUndoing, LeavesAvoiding}
use Rattle.def_model.specs.Cuts.{IsOfLevel, full_cut, one_less, total}
use Rattle.def_model.specs.Events.{Computation}
use Rattle.def_model.specs.Order.{HasNoCycle}
use Rattle.def_model.proofs.Counts.{empty_from_sum, in_range}
use Rattle.wide_conjunctions.specs.Boxes.{HasNoBox, IsConjunction, LeavesNoBox}
use Rattle.wide_conjunctions.specs.Ways.{IsReached, IsWayBack, PathOfWay}
use Rattle.wide_conjunctions.proofs.BoxSteps.{avoids_without_box, some_leaves}
use Rattle.wide_conjunctions.proofs.LevelAfter.{full_consistent}

module _ (c : Computation) (good : ℕ → ℕ → Bool) where
  -- at the full cut no step is needed
  pub reached_full : (path cut : List ℕ) → path ≡ [] → cut ≡ full_cut c → HasNoBox c good (full_cut c)
      → IsReached c good path cut
  reached_full path cut empty full none =
      subst (λ (s : List ℕ × List ℕ). IsReached c good s.0 s.1) (λ i. (sym empty i, sym full i))
      (record { consistent = full_consistent c; none = none; onward = λ rest way. way })

  -- one step more
  pub reached_less : (path cut : List ℕ) (p : ℕ) → IsReached c good path cut → LeavesNoBox c good cut p
      → ((q : ℕ) → q < p → ¬ LeavesNoBox c good cut q) → IsReached c good (path ++ p ∷ []) (one_less cut p)
  reached_less path cut p reached leaves least = record {
    consistent = leaves.1;
    none = leaves.2;
    onward = λ rest way.
        subst (λ (ps : List ℕ). IsWayBack c good (full_cut c) ps) (sym (append_assoc path (p ∷ []) rest))
        (reached.onward (p ∷ rest) (leaves, least, way));
  }

  pub reached_next : (path cut : List ℕ) (p : ℕ) → IsReached c good path cut → LeavesNoBox c good cut p
      → ((q : ℕ) → q < p → ¬ LeavesNoBox c good cut q) → (next low : List ℕ) → next ≡ path ++ p ∷ []
      → low ≡ one_less cut p → IsReached c good next low
  reached_next path cut p reached leaves least next low pushed less =
      subst (λ (s : List ℕ × List ℕ). IsReached c good s.0 s.1) (λ i. (sym pushed i, sym less i))
      (reached_less path cut p reached leaves least)

  -- a process below which none can be undone is no later than one that can
  pub no_later : (cut : List ℕ) (p : ℕ) → ((q : ℕ) → q < p → ¬ LeavesNoBox c good cut q) → (r : ℕ)
      → LeavesNoBox c good cut r → p ≤ r
  no_later cut p none r leaves = go (cases_lt r p)
    where
      go : (r < p) ⊎ (p ≤ r) → p ≤ r
      go (inl less) = absurd (none r less leaves)
      go (inr le) = le

  -- the empty cut ends the way
  pub reached_empty : (path cut : List ℕ) → IsReached c good path cut → sum cut ≡ 0
      → IsWayBack c good (full_cut c) path
  reached_empty path cut reached none =
      subst (λ (ps : List ℕ). IsWayBack c good (full_cut c) ps) (append-nil path)
      (reached.onward [] (empty_from_sum c cut reached.consistent.fits.one_each none))

  -- some event of a cut that is reached, and isn't empty, can be undone
  pub some_step : HasNoCycle c → (path cut : List ℕ) (k : ℕ) → IsReached c good path cut → sum cut ≡ k + 1
      → (p : ℕ) × (p < length cut) × LeavesNoBox c good cut p
  some_step acyclic path cut k reached s =
      let level : IsOfLevel c (suc k) cut =
      subst (λ (n : ℕ). IsOfLevel c n cut) (add-one k) (reached.consistent, s) in
      let w : (p : ℕ) × LeavesNoBox c good cut p = some_leaves c good acyclic k cut level reached.none in
      (w.0, in_range cut w.0 w.1.0, w.1)

module _ (c : Computation) (acyclic : HasNoCycle c) (test : List ℕ → Bool) (good : ℕ → ℕ → Bool)
    (conjunction : IsConjunction c test good) where
  leaves_same : (cut : List ℕ) (p : ℕ) → LeavesNoBox c good cut p ↔ LeavesAvoiding c test cut p
  leaves_same cut p = (
    λ w. (
      w.0,
      (avoids_without_box c acyclic test good conjunction (sum (one_less cut p)) (one_less cut p)).1 (
        (w.1, refl),
        w.2,
      ),
    ),
    λ w.
        let v : IsOfLevel c (sum (one_less cut p)) (one_less cut p) × HasNoBox c good (one_less cut p) =
        (avoids_without_box c acyclic test good conjunction (sum (one_less cut p)) (one_less cut p)).0 w.1 in
        (w.0, v.0.0, v.1),
  )

  undoing : (cut path : List ℕ) → IsWayBack c good cut path → IsUndoing c test cut path
  undoing cut [] empty = empty
  undoing cut (p ∷ path) (leaves, least, way) = (
    (leaves_same cut p).0 leaves,
    λ q lt other. least q lt ((leaves_same cut q).1 other),
    undoing (one_less cut p) path way,
  )

pub path_of_way : PathOfWay
path_of_way c acyclic test good conjunction none path way = (
  (avoids_without_box c acyclic test good conjunction (total c) (full_cut c)).1 ((full_consistent c, refl), none),
  undoing c acyclic test good conjunction (full_cut c) (reverse path) way,
)
