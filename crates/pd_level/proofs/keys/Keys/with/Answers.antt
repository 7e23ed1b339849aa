-- Two lists of one kind are joined.
use Rattle.std.proofs.Common.{sym, subst}
use Rattle.pd_level.specs.Levels.{numbers}
use Rattle.pd_level.specs.declared.keys.Keys.{Keys}
use Rattle.pd_level.proofs.Unions.{AreBoth}
use Rattle.pd_level.proofs.keys.Keys.with.Goals as goal

pub returns-in_ok-joined-in-Single-last-clause-just : goal.returns-in_ok-joined-in-Single-last-clause-just
returns-in_ok-joined-in-Single-last-clause-just c =
    subst (λ (k : Keys). AreBoth (numbers k) (numbers c.args.last.now) c.in_ok-joined-in-Single-last.field-0)
    (sym c.in-Single.is) (subst (λ (k : Keys). AreBoth c.in-Single.first
    (numbers k) c.in_ok-joined-in-Single-last.field-0)
    (sym c.in-Single-last.is) c.in_ok-joined-in-Single-last.ensures.just)

pub returns-in_ok-joined-in-Pairs-last-2-clause-just : goal.returns-in_ok-joined-in-Pairs-last-2-clause-just
returns-in_ok-joined-in-Pairs-last-2-clause-just c =
    subst (λ (k : Keys). AreBoth (numbers k) (numbers c.args.last.now) c.in_ok-joined-in-Pairs-last-2.field-0)
    (sym c.in-Pairs.is) (subst (λ (k : Keys). AreBoth c.in-Pairs.first
    (numbers k) c.in_ok-joined-in-Pairs-last-2.field-0)
    (sym c.in-Pairs-last-2.is) c.in_ok-joined-in-Pairs-last-2.ensures.just)
