-- A setting of the variable is found, and each other one isn't one.
use Rattle.std.proofs.Common.{sym, ℕ, ℤ}
use Rattle.std.specs.Prelude.{nat_eq}
use Rattle.std.proofs.lemmas.Bool.{eq-eqb, eqb-true}
use Rattle.def_format.proofs.FeedPlaces.{not_true}
use Rattle.judge_facts.proofs.Tests.{found, none_more}
use Rattle.judge_facts.proofs.settings.is_set_in.Goals as goal

pub returns-then-get-var : goal.returns-then-get-var
returns-then-get-var c =
    sym (found (λ (set : ℕ × ℤ). nat_eq set.0 c.args.var) c.args.settings.now c.loop-i.i c.get.result c.get.ensures
    (eq-eqb c.get.result.0 c.args.var c.if-get-var.true))

pub loop-i-preserved : goal.loop-i-preserved
loop-i-preserved c =
    none_more (λ (set : ℕ × ℤ). nat_eq set.0 c.args.var) c.args.settings.now c.loop-i.i c.get.result c.get.ensures
    (not_true (nat_eq c.get.result.0 c.args.var)
    (λ e. c.if-get-var.false (eqb-true c.get.result.0 c.args.var e))) c.loop-i.invariant
