-- The image of a kept event is added.
use Rattle.std.proofs.Common.{[], ◌≡◌, ℕ, zero, suc, ◌+◌, ◌<◌, List, length, get_or, All, replicate, ℤ, Contains, refl, sym, ap, ◌∙◌, subst}
use Rattle.def_format.specs.Names.{ProcessNames, vars_of}
use Rattle.def_format.specs.ReadingLaws.{FitsProcess}
use Rattle.def_long.specs.Views.{value_after}
use Rattle.def_model.specs.Events.{Event, Send}
use Rattle.def_model.specs.Predicates.{Recorded}
use Rattle.judge_reduced.specs.Planned.{AddsImage, AllKnown, IsPlanned}
use Rattle.judge_reduced.specs.Plans.{IsImage, kept_place, message_id}
use Rattle.judge_reduced.proofs.Imaging.{image_more}

abbrev image_of : ℕ → ℕ → List (ℕ × ℤ) → Event
image_of p i sets = record { kind = Send (message_id p i); sets = sets }

pub image_step : (names : List ProcessNames) (r : Recorded) (vars : List ℕ) (numbers : List (List ℕ))
    (p i count number : ℕ) (events events' : List Event) (last : List ℕ)
    → IsPlanned names r vars numbers p i events last → AllKnown r numbers p i last (length numbers)
    → number ≡ (kept_place numbers p i).number → AddsImage (value_after r number p) vars count p i events events'
    → All (λ v. v < count) vars → count ≡ length (vars_of names p) → i < length (get_or numbers p [])
    → IsPlanned names r vars numbers p (i + 1) events' last
image_step names r vars numbers p i count number events events' last plan all at adds below same in_p =
    subst (λ (xs : List Event). IsPlanned names r vars numbers p (i + 1) xs last) (sym adds.is)
    (image_more names r vars numbers p i events last plan all (image_of p i adds.sets) is_image fits in_p)
  where
    low : (v : ℕ) → Contains vars v → v < count
    low v (k, within, is) = subst (λ (x : ℕ). x < count) is (below k v within)

    is_image : IsImage r vars numbers p i (image_of p i adds.sets)
    is_image = record {
      sends = refl;
      values = λ v old has. adds.are.values v old has (low v has) ∙ ap (λ (n : ℕ). value_after r n p v) at;
    }

    fits : FitsProcess names p (image_of p i adds.sets)
    fits = record {
      ascend = adds.are.ascend;
      known = λ k d lt. subst (λ (n : ℕ). (get_or adds.sets k d).0 < n) same (adds.are.below k d lt);
    }

pub length_zeros : (n : ℕ) → length {A = ℕ} (replicate n 0) ≡ n
length_zeros zero = refl
length_zeros (suc n) = ap suc (length_zeros n)

pub zero_at : (n q : ℕ) → get_or {A = ℕ} (replicate n 0) q 0 ≡ 0
zero_at zero q = refl
zero_at (suc n) zero = refl
zero_at (suc n) (suc q) = zero_at n q
