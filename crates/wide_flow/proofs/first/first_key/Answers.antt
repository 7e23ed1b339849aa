-- Nothing is taken at the beginning.
use Rattle.std.proofs.Common.{◌≡◌, ℕ, List, length, replicate, sym, ap, ◌∙◌, subst}
use Rattle.std.specs.Global.{Global}
use Rattle.std.specs.Prelude.{Vec}
use Rattle.wide_flow.specs.Parts.{IsPart}
use Rattle.wide_flow.proofs.Gains.{part_none}
use Rattle.wide_flow.proofs.first.first_key.Goals as goal

pub gain-requires-clause-part : goal.gain-requires-clause-part
gain-requires-clause-part c =
    let rows = c.deref.result.now in
    let count : length rows ≡ c.args.processes =
    ap (λ (xs : List (Vec ℕ Global)). length xs) c.deref.ensures.value ∙ c.in_ok-rows.ensures.one_each in
    let zeros : c.in_ok-frozen.frozen.items ≡ replicate c.args.processes 0 =
    c.in_ok-frozen.ensures.items_if_clones_equal (λ x same. same) in
    subst
    (λ (frozen : List ℕ). IsPart (length rows) c.args.steps.now rows c.in_ok-flow.flow frozen 0 0)
    (ap (λ (n : ℕ). replicate n 0) count ∙ sym zeros)
    (part_none (length rows) c.args.steps.now rows c.in_ok-flow.flow c.in_ok-flow.ensures.left
    c.in_ok-flow.ensures.takes c.in_ok-flow.ensures.last)
