-- No column stands right of the lanes' end.
use Rattle.std.proofs.Common.{ℕ, ◌+◌, ◌-◌, ◌*◌, ◌≤◌, min, arith}
use Rattle.std.proofs.Math.Nat.{min-le_right}
use Rattle.out_picture.proofs.cut.values_stand_clear.Goals as goal

pub returns : goal.returns
returns c = λ window columns e.
    let most : min (columns e + 1 - window.first) (window.shown + 1) ≤ window.shown + 1 =
    min-le_right (columns e + 1 - window.first) (window.shown + 1) in
    (omega arith, omega arith)
