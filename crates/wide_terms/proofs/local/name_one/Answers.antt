-- Both sums name one process at most exactly if neither names another than the first that one of them names.
use Rattle.std.proofs.Common.{IsTrue, refl, subst, sym}
use Rattle.std.proofs.lemmas.Bool.{false≢true}
use Rattle.pd_pred.specs.Trees.{sum_view}
use Rattle.wide_terms.proofs.Naming.{none_alone, one_by_left, one_by_right}
use Rattle.wide_terms.proofs.local.name_one.Goals as goal

pub returns-then-names_no_other : goal.returns-then-names_no_other
returns-then-names_no_other c = (
  λ right. (
    c.in-Some.process,
    c.if-names_no_other.ensures.0 refl,
    c.names_no_other-then-names_no_other.ensures.0 right,
  ),
  λ one. c.names_no_other-then-names_no_other.ensures.1 (one_by_left (sum_view c.args.left.now)
      (sum_view c.args.right.now) c.in-Some.process (sym c.in-Some.ensures) one).1,
)

pub returns-else-names_no_other : goal.returns-else-names_no_other
returns-else-names_no_other c = (
  λ left. absurd (false≢true (subst IsTrue c.if-names_no_other.false left)),
  λ one. c.names_no_other.ensures.1 (one_by_left (sum_view c.args.left.now)
      (sum_view c.args.right.now) c.in-Some.process (sym c.in-Some.ensures) one).0,
)

pub returns-in-Some-first_named : goal.returns-in-Some-first_named
returns-in-Some-first_named c = (
  λ right. (
    c.in-Some-first_named.process,
    none_alone (sum_view c.args.left.now) c.in-Some-first_named.process (sym c.in-None.ensures),
    c.names_no_other-in-Some-first_named.ensures.0 right,
  ),
  λ one. c.names_no_other-in-Some-first_named.ensures.1 (one_by_right (sum_view c.args.left.now)
      (sum_view c.args.right.now) c.in-Some-first_named.process (sym c.in-Some-first_named.ensures) one),
)

pub returns-in-None-first_named : goal.returns-in-None-first_named
returns-in-None-first_named c = (
  λ always. (
    0,
    none_alone (sum_view c.args.left.now) 0 (sym c.in-None.ensures),
    none_alone (sum_view c.args.right.now) 0 (sym c.in-None-first_named.ensures),
  ),
  λ one. refl,
)
