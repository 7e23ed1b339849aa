-- Which cuts of a run avoid, by the cuts with one event less.
use Rattle.std.proofs.Common.{◌≡◌, ℕ, suc, ◌+◌, ◌-◌, ◌<◌, Bool, false, List, length, get_or, sym, ap, ◌∙◌, subst, inl, inr, ◌⊎◌, ◌↔◌, arith}
use Rattle.def_model.specs.Events.{Computation}
use Rattle.def_model.specs.Cuts.{IsOfLevel, one_less}
use Rattle.def_model.specs.Observations.{IsAvoiding}
use Rattle.def_model.proofs.AvoidingCuts.{avoid_by_undoing}
use Rattle.walk_keys.specs.Neighbors.{cut_at}
use Rattle.walk_runs.proofs.RunCuts.{which_process, prefix_at, x_at, y_at, length_cut, less_x, less_y, less_prefix}

module _ (c : Computation) (test : List ℕ → Bool) (k : ℕ) (prefix : List ℕ) (x y : ℕ) where
  abbrev HasParent : Type 0
  HasParent =
      ((0 < x) × IsAvoiding c test k (cut_at prefix (x - 1) y))
      ⊎ (((0 < y) × IsAvoiding c test k (cut_at prefix x (y - 1)))
      ⊎ ((p : ℕ) × (p < length prefix) × (0 < get_or prefix p 0)
      × IsAvoiding c test k (cut_at (one_less prefix p) x y)))

  abbrev CanUndo : Type 0
  CanUndo =
      (p : ℕ) × (p < length (cut_at prefix x y)) × (0 < get_or (cut_at prefix x y) p 0)
      × IsAvoiding c test k (one_less (cut_at prefix x y) p)

  parent_from_undo : CanUndo → HasParent
  parent_from_undo (p, lt, has, below) = go (which_process prefix x y p lt)
    where
      go : (p < length prefix) ⊎ ((p ≡ length prefix) ⊎ (p ≡ suc (length prefix))) → HasParent
      go (inl inside) =
          inr (inr (
            p,
            inside,
            subst (λ (n : ℕ). 0 < n) (prefix_at prefix x y p inside) has,
            subst (IsAvoiding c test k) (less_prefix prefix x y p inside) below,
          ))
      go (inr (inl e)) =
          inl (
            subst (λ (n : ℕ). 0 < n) (ap (λ (q : ℕ). get_or (cut_at prefix x y) q 0) e ∙ x_at prefix x y) has,
            subst (IsAvoiding c test k) (ap (one_less (cut_at prefix x y)) e ∙ less_x prefix x y) below,
          )
      go (inr (inr e)) =
          inr (inl (
            subst (λ (n : ℕ). 0 < n) (ap (λ (q : ℕ). get_or (cut_at prefix x y) q 0) e ∙ y_at prefix x y) has,
            subst (IsAvoiding c test k) (ap (one_less (cut_at prefix x y)) e ∙ less_y prefix x y) below,
          ))

  undo_from_parent : HasParent → CanUndo
  undo_from_parent (inl (has, below)) =
      let l : length (cut_at prefix x y) ≡ length prefix + 2 = length_cut prefix x y in (
        length prefix,
        omega arith,
        subst (λ (n : ℕ). 0 < n) (sym (x_at prefix x y)) has,
        subst (IsAvoiding c test k) (sym (less_x prefix x y)) below,
      )
  undo_from_parent (inr (inl (has, below))) =
      let l : length (cut_at prefix x y) ≡ length prefix + 2 = length_cut prefix x y in (
        suc (length prefix),
        omega arith,
        subst (λ (n : ℕ). 0 < n) (sym (y_at prefix x y)) has,
        subst (IsAvoiding c test k) (sym (less_y prefix x y)) below,
      )
  undo_from_parent (inr (inr (p, lt, has, below))) =
      let l : length (cut_at prefix x y) ≡ length prefix + 2 = length_cut prefix x y in (
        p,
        omega arith,
        subst (λ (n : ℕ). 0 < n) (sym (prefix_at prefix x y p lt)) has,
        subst (IsAvoiding c test k) (sym (less_prefix prefix x y p lt)) below,
      )

  pub avoid_by_parents : IsAvoiding c test (k + 1) (cut_at prefix x y)
      ↔ (IsOfLevel c (k + 1) (cut_at prefix x y) × (test (cut_at prefix x y) ≡ false) × HasParent)
  avoid_by_parents = (to, from)
    where
      to : IsAvoiding c test (k + 1) (cut_at prefix x y) → IsOfLevel c (k + 1) (cut_at prefix x y)
          × (test (cut_at prefix x y) ≡ false) × HasParent
      to a =
          let w : IsOfLevel c (k + 1) (cut_at prefix x y) × (test (cut_at prefix x y) ≡ false) × CanUndo =
          (avoid_by_undoing c test k (cut_at prefix x y)).0 a in
          (w.0, w.1, parent_from_undo w.2)

      from : IsOfLevel c (k + 1) (cut_at prefix x y) × (test (cut_at prefix x y) ≡ false) × HasParent
          → IsAvoiding c test (k + 1) (cut_at prefix x y)
      from (level, fails, parent) =
          (avoid_by_undoing c test k (cut_at prefix x y)).1 (level, fails, undo_from_parent parent)
