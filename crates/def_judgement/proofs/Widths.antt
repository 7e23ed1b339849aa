-- A computation is narrow, or some level is too wide, and never both.
use Rattle.std.proofs.Common.{◌≡◌, ℕ, suc, ◌<◌, ◌≤◌, List, [], ◌∷◌, length, refl, inl, inr, ◌⊎◌, arith}
use Rattle.std.proofs.lemmas.Bool.{cases_lt}
use Rattle.def_model.specs.Events.{Computation}
use Rattle.def_model.specs.Cuts.{IsOfLevel, total}
use Rattle.def_model.specs.Answers.{IsListOf}
use Rattle.def_model.proofs.Decisions.{dec_less, dec_some}
use Rattle.def_model.proofs.LevelLists.{last_level}
use Rattle.def_model.proofs.LevelsListed.{level_has_list}
use Rattle.def_model.proofs.WalkSteps.{not_more}
use Rattle.def_judgement.specs.Headline.{IsNarrow, IsTooWide, NarrowOrTooWide}

-- no list of a level above the last has a cut
pub none_past : (c : Computation) (k : ℕ) (cuts : List (List ℕ)) → IsListOf (IsOfLevel c k) cuts → total c < k
    → length cuts ≡ 0
none_past c k [] list past = refl
none_past c k (cut ∷ cuts) list past =
    let le : k ≤ total c = last_level c k cut ((list.just cut).0 (0, omega arith, refl)) in absurd (omega arith)

narrow_or_wide : (c : Computation) (w : ℕ) → IsNarrow c w ⊎ IsTooWide c w
narrow_or_wide c w =
    go (dec_some (λ k. w < length (level_has_list c k).0) (λ k. dec_less w (length (level_has_list c k).0))
    (suc (total c)))
  where
    go : Dec ((k : ℕ) × (k < suc (total c)) × (w < length (level_has_list c k).0)) → IsNarrow c w ⊎ IsTooWide c w
    go (yes (k, lt, wide)) = inr (k, ((level_has_list c k).0, (level_has_list c k).1, wide))
    go (no none) = inl (λ k. ((level_has_list c k).0, (level_has_list c k).1, short k (cases_lt k (suc (total c)))))
      where
        short : (k : ℕ) → (k < suc (total c)) ⊎ (suc (total c) ≤ k) → length (level_has_list c k).0 ≤ w
        short k (inl lt) = pick (cases_lt w (length (level_has_list c k).0))
          where
            pick : (w < length (level_has_list c k).0) ⊎ (length (level_has_list c k).0 ≤ w)
                → length (level_has_list c k).0 ≤ w
            pick (inl wide) = absurd (none (k, lt, wide))
            pick (inr le) = le
        short k (inr past) =
            let e : length (level_has_list c k).0 ≡ 0 =
            none_past c k (level_has_list c k).0 (level_has_list c k).1 (omega arith) in
            omega arith

pub narrow_or_too_wide_lem : NarrowOrTooWide
narrow_or_too_wide_lem c w = (
  narrow_or_wide c w,
  λ narrow wide. not_more (IsOfLevel c wide.0) w (narrow wide.0).0 (narrow wide.0).1 (narrow wide.0).2 wide.1,
)
