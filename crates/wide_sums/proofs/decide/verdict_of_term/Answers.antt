-- The slice and the sums are those of the term.
use Rattle.std.proofs.Common.{◌≡◌, ℕ, List, [], length, map, sym, subst, ◌↔◌}
use Rattle.std.proofs.lemmas.Result.{IfOk-weaker}
use Rattle.std.specs.Prelude.{IsTrue, slice_index_or}
use Rattle.def_wide.specs.Terms as model
use Rattle.wide_sums.specs.Literals.{literal_view, terms_at}
use Rattle.wide_sums.specs.Splits.{AreSums}
use Rattle.wide_sums.specs.TermVerdicts.{IsSliceFor, IsVerdictOf}
use Rattle.wide_sums.specs.declared.literal.Literal.{Literal}
use Rattle.wide_sums.specs.declared.verdict.Verdict.{Verdict}
use Rattle.wide_terms.specs.Rows.{numbers_view, term_allows}
use Rattle.wide_terms.specs.declared.row.TruthRow.{TruthRow}
use Rattle.wide_sums.proofs.decide.verdict_of_term.Goals as goal

pub returns-in-Some : goal.returns-in-Some
returns-in-Some c =
    let r = c.args.computation.now in
    let prepared = c.args.prepared.now in
    let term = slice_index_or (terms_at prepared.terms.literals.items (numbers_view prepared.terms.terms.items))
    c.args.i [] in
    let good = term_allows c.good-good.result.rows.now c.good-good.result.numbers.now in
    let same : IsSliceFor r term good =
    subst (λ (rows : List TruthRow). IsSliceFor r term (term_allows rows c.good-good.result.numbers.now))
    (sym c.good-good.ensures.rows)
    (subst (λ (numbers : List ℕ). IsSliceFor r term (term_allows prepared.rows.rows.items numbers))
    (sym c.good-good.ensures.numbers) c.in_ok-split.ensures.good) in
    let are : AreSums term (map literal_view c.deref.result.now) =
    subst (λ (sums : List Literal). AreSums term (map literal_view sums)) (sym c.deref.ensures.value)
    c.in_ok-split.ensures.sums_of in
    IfOk-weaker c.verdict_in_slice.result
    (λ (verdict : Verdict). (t : List model.Literal) → AreSums t (map literal_view c.deref.result.now)
    → (IsTrue c.is_single-single.result ↔ (length t ≡ 1)) → IsSliceFor r t good → IsVerdictOf r t verdict)
    (IsVerdictOf r term) (λ verdict of_each. of_each term are c.is_single-single.ensures same)
    c.verdict_in_slice.ensures
