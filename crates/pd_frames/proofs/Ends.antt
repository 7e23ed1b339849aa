-- Which bytes a framer stands for after a fault.
use Rattle.std.proofs.Common.{◌≡◌, ℕ, false, List, [], refl, sym, ◌∙◌, append-nil}
use Rattle.std.specs.Prelude.{Option, Some, None, IsSome}
use Rattle.def_format.specs.Lines.{FrameFault, open_lines, IsBatch}
use Rattle.def_format.specs.Laws.{FaultStays}
use Rattle.pd_frames.specs.State.{State, Stands}

-- there is the fault alone
pub faulty_batch : FaultStays → (state : State) (bytes piece : List ℕ) → Stands state bytes false → IsSome state.fault
    → IsBatch bytes piece [] state.fault
faulty_batch stays state bytes piece s some = go state.fault refl some
  where
    go : (f : Option FrameFault) → state.fault ≡ f → IsSome f → IsBatch bytes piece [] f
    go None e h = absurd (cc)
    go (Some fault) e h =
        let kept = stays bytes piece fault (sym s.same_fault ∙ e) in
        record { new_lines = kept.same_lines ∙ sym (append-nil (open_lines bytes)); same_fault = kept.same_fault }
