-- A term names the process that it has.
use Rattle.std.proofs.Common.{sym, subst}
use Rattle.pd_pred.specs.Trees.{term_view}
use Rattle.pd_pred.specs.declared.tree.Term.{Term}
use Rattle.def_model.specs.Decided.{NamesPair}
use Rattle.wide_pairs.specs.Twos.{IsOther}
use Rattle.wide_pairs.proofs.names.other_of_term.Goals as goal

pub returns-in-Variable : goal.returns-in-Variable
returns-in-Variable c =
    subst (λ (t : Term). IsOther (λ x y. NamesPair x y (term_view t)) c.args.p c.args.q c.other.result)
    (sym c.in-Variable.is) c.other.ensures

pub returns-in-Times : goal.returns-in-Times
returns-in-Times c =
    subst (λ (t : Term). IsOther (λ x y. NamesPair x y (term_view t)) c.args.p c.args.q c.other-in-Times.result)
    (sym c.in-Times.is) c.other-in-Times.ensures
