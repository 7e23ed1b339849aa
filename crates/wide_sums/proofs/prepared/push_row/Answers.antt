-- The comparison has the last row, or names several processes.
use Rattle.std.proofs.Common.{refl, subst, sym, IsTrue}
use Rattle.std.proofs.lemmas.Bool.{false≢true}
use Rattle.wide_sums.specs.Literals.{literal_view}
use Rattle.wide_sums.proofs.Placing.{placed_last, placed_none}
use Rattle.wide_sums.proofs.prepared.push_row.Goals as goal

pub returns-then-not-name_one : goal.returns-then-not-name_one
returns-then-not-name_one c =
    placed_none c.args.computation.now (literal_view c.args.literal) c.args.rows.now.rows.items
    (λ one. false≢true (subst IsTrue c.if-not-name_one.true (c.name_one.ensures.1 one)))

pub returns : goal.returns
returns c =
    placed_last c.args.computation.now c.args.literal c.args.rows.now.rows.items c.push.new.self.rows.items
    c.len-number.result c.requires (c.name_one.ensures.0 (subst IsTrue (sym c.if-not-name_one.false) refl))
    c.in_ok-push.ensures c.len-number.ensures
