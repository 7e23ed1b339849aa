-- Nothing has come.
use Rattle.std.proofs.Common.{refl}
use Rattle.read_bundle.proofs.Moving.{fresh}
use Rattle.read_bundle.proofs.bundle.Bundle.new.Goals as goal

pub returns-clause-fresh : goal.returns-clause-fresh
returns-clause-fresh c = λ input. fresh input _ refl refl refl refl
