-- One count more is one more of the full cut.
use Rattle.std.proofs.Common.{◌<◌, List, [], ◌∷◌, ◌++◌, ℕ, length, take, add-one, sym, ap, ◌∙◌, arith}
use Rattle.std.proofs.Math.Seq.{take-suc}
use Rattle.def_model.specs.Cuts.{full_cut}
use Rattle.def_model.proofs.Counts.{full_at, length_full}
use Rattle.pd_evidence.proofs.observation.all_events.Goals as goal

pub loop-p-preserved : goal.loop-p-preserved
loop-p-preserved c =
    let full : List ℕ = full_cut c.args.computation.now.events in
    let within : c.loop-p.p < length full =
    rw length_full (omega (arith, c.loop-p-test.true, c.processes-p-end.ensures)) in
    rw add-one (c.in_ok-push.ensures.items
    ∙ (ap (λ (xs : List ℕ). xs ++ c.events.result ∷ []) c.loop-p.invariant
    ∙ (ap (λ (n : ℕ). take c.loop-p.p full ++ n ∷ []) (c.events.ensures
    ∙ sym (full_at c.args.computation.now.events c.loop-p.p)) ∙ sym (take-suc full c.loop-p.p 0 within))))
