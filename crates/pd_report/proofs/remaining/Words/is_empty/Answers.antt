-- Words remain exactly if bytes do.
use Rattle.std.proofs.Common.{◌≡◌, ◌<◌, ℕ, List, Bool, None, Some, Option, arith, length}
use Rattle.std.specs.Prelude.{not, ◌==◌, is_some}
use Rattle.std.proofs.lemmas.Bool.Decides.{nat_tests}
use Rattle.std.proofs.lemmas.List.Splits.{length-slice_split}
use Rattle.pd_report.specs.Reading.{pieces, pieces_if}
use Rattle.pd_report.proofs.remaining.Words.is_empty.Goals as goal
use denote.Ref.{Bor}

none_left : (at : ℕ) (rest : Option (Bor (List ℕ))) (none : Bool) → is_some rest ≡ not none
    → none ≡ (length (pieces_if at rest) == 0)
none_left at None none e = grind (arith, nat_tests)
none_left at (Some rest) none e =
    let some : 0 < length (pieces at rest.now) = omega (arith, length-slice_split (λ b. b == at) rest.now) in
    grind (arith, nat_tests)

pub returns : goal.returns
returns c = none_left c.args.self.between c.args.self.rest c.is_none.result c.is_none.ensures
