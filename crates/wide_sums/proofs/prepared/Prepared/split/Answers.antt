-- The numbers of the term are of comparisons that are there.
use Rattle.std.proofs.Common.{List, map, sym, subst}
use Rattle.def_wide.specs.Terms.{Literal}
use Rattle.wide_sums.specs.Literals.{literal_view}
use Rattle.wide_sums.specs.Splits.{IsSplit}
use Rattle.wide_sums.proofs.Reading.{term_read, term_within}
use Rattle.wide_sums.proofs.prepared.Prepared.split.Goals as goal

pub parts-requires-clause-there : goal.parts-requires-clause-there
parts-requires-clause-there c =
    term_within c.args.self.now.terms.literals.items c.args.self.now.terms.terms.items c.args.i c.index.result.now
    c.deref.result.now c.requires.there c.index.ensures c.deref.ensures.value c.args.self.now.terms.sound

pub returns : goal.returns
returns c =
    subst
    (λ (term : List Literal). IsSplit c.args.computation.now c.args.self.now.rows.rows.items term
    c.in_ok-split.split.numbers.items (map literal_view c.in_ok-split.split.sums.items))
    (sym (term_read c.args.self.now.terms.literals.items c.args.self.now.terms.terms.items c.args.i c.index.result.now
    c.deref.result.now c.requires.there c.index.ensures c.deref.ensures.value)) c.in_ok-split.ensures
