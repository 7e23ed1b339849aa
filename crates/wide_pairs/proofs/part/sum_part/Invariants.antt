-- What the loop of `sum_part` keeps.
use Rattle.std.proofs.Common.{◌≡◌, ◌≤◌, ◌*◌, ◌^◌, ◌+ℤ◌, drop}
use Rattle.std.specs.Int.RustNames.{unsigned_abs}
use Rattle.pd_pred.specs.Trees.{sum_view, terms_view}
use Rattle.wide_pairs.specs.Parts.{parts_value}
use Rattle.wide_pairs.proofs.part.sum_part.Given as goal

abbrev pub invariant-loop-term : goal.invariant-loop-term
invariant-loop-term l =
    (l.total +ℤ parts_value l.computation l.process l.count l.numbers (terms_view (drop l.term-index l.term-items))
    ≡ parts_value l.computation l.process l.count l.numbers (sum_view l.sum))
    × (unsigned_abs l.total ≤ l.term-index * 2 ^ 95)
