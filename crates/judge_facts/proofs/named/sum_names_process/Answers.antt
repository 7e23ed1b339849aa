-- A test of the terms is a test of what they stand for.
use Rattle.std.proofs.Common.{sym, ap, ◌∙◌}
use Rattle.std.specs.List.{list_any}
use Rattle.def_format.proofs.ListTests.{list_any-map}
use Rattle.def_model.specs.Predicates.{Sign, Term}
use Rattle.pd_pred.specs.Trees.{signed_term_view, term_view}
use Rattle.pd_pred.specs.declared.tree.SignedTerm.{SignedTerm}
use Rattle.judge_facts.specs.Named.{term_names_of}
use Rattle.judge_facts.proofs.named.sum_names_process.Goals as goal

pub returns : goal.returns
returns c =
    c.any_names_of.ensures
    ∙ (ap (list_any (λ (signed : SignedTerm). term_names_of c.args.process (term_view signed.term)))
    c.deref.ensures.value
    ∙ sym (list_any-map (λ (signed : Sign × Term). term_names_of c.args.process signed.1) signed_term_view
    c.args.sum.now.terms.items))
