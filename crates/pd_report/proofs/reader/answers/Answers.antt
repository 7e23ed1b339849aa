-- Reads the answers after the line of these counts.
use Rattle.std.proofs.Common.{◌≡◌, ◌≤◌, ◌+◌, ◌*◌, ◌++◌, ℕ, List, length, map, arith}
use Rattle.std.specs.Prelude.{flat_map}
use Rattle.std.specs.List.{AllByRecursion}
use Rattle.std.proofs.lemmas.Bool.Decides.{nat_tests}
use Rattle.std.proofs.lemmas.List.{length-map}
use Rattle.def_format.specs.Limits.{predicate_limit}
use Rattle.def_format.specs.Reports.{answer_lines, text_of_lines, AnswerIsLawful}
use Rattle.pd_report.specs.Reading.{CountsFit}
use Rattle.pd_report.specs.Views.{answer_view}
use Rattle.pd_report.specs.declared.answer.Answer.{Answer}
use Rattle.pd_report.proofs.Exits.{line_apart, line_of_none, line_too_many, line_unended, no_answer, AreRead}
use Rattle.pd_report.proofs.Whole.{empty_is}
use Rattle.pd_report.proofs.reader.answers.Goals as goal

-- what the loop keeps
read_so_far : (counts : ℕ × ℕ × ℕ) → CountsFit counts → (items : List Answer) (bytes rest : List ℕ)
    → length items ≤ predicate_limit → AllByRecursion AnswerIsLawful (map answer_view items)
    → bytes ≡ text_of_lines (flat_map answer_lines (map answer_view items)) ++ rest
    → AreRead counts (map answer_view items) bytes rest
read_so_far counts fit items bytes rest few lawful whole = record {
  fit = fit;
  lawful = lawful;
  few = omega (arith, length-map items answer_view);
  whole = whole;
}

pub returns-in_default-clause-line : goal.returns-in_default-clause-line
returns-in_default-clause-line c = λ k e.
    let same : 2 * c.len.result + 2 ≡ k = cc in
    let items = c.loop-rest.answers.items in
    let bytes = c.args.bytes.now in
    let rest = c.loop-rest.rest.now in
    let kept = c.loop-rest.invariant in
    let read = read_so_far c.args.counts c.requires items bytes rest kept.few kept.lawful kept.whole in
    line_unended c.args.counts (map answer_view items) bytes rest read c.in_default.ensures (grind (arith, nat_tests))
    (2 * c.len.result + 2) k (omega (arith, length-map items answer_view, c.len.ensures)) same

pub returns-then-len-eq-PREDICATE_LIMIT-clause-line : goal.returns-then-len-eq-PREDICATE_LIMIT-clause-line
returns-then-len-eq-PREDICATE_LIMIT-clause-line c = λ k e.
    let same : 2 * c.len.result + 2 ≡ k = cc in
    let items = c.loop-rest.answers.items in
    let bytes = c.args.bytes.now in
    let rest = c.loop-rest.rest.now in
    let kept = c.loop-rest.invariant in
    let read = read_so_far c.args.counts c.requires items bytes rest kept.few kept.lawful kept.whole in
    let count = length-map items answer_view in
    let cut = c.in-Some.ensures in
    line_too_many c.args.counts (map answer_view items) bytes rest read
    (omega (arith, count, c.len-in-loop-rest.ensures, c.if-len-eq-PREDICATE_LIMIT.true)) c.in-Some.first.now
    c.in-Some.others.now cut.0 cut.1 (2 * c.len.result + 2) k (omega (arith, count, c.len.ensures)) same

pub returns-in-First-clause-line : goal.returns-in-First-clause-line
returns-in-First-clause-line c = λ k e.
    let same : 2 * c.len.result + 2 ≡ k = cc in
    let items = c.loop-rest.answers.items in
    let bytes = c.args.bytes.now in
    let rest = c.loop-rest.rest.now in
    let kept = c.loop-rest.invariant in
    let read = read_so_far c.args.counts c.requires items bytes rest kept.few kept.lawful kept.whole in
    let cut = c.in-Some.ensures in
    let none = rw c.in-First.is at c.in_ok-answer.ensures in
    line_of_none c.args.counts (map answer_view items) bytes rest read c.in-Some.first.now c.in-Some.others.now cut.0
    cut.1 none (2 * c.len.result + 2) k (omega (arith, length-map items answer_view, c.len.ensures)) same

pub returns-in-Second-clause-line : goal.returns-in-Second-clause-line
returns-in-Second-clause-line c = λ k e.
    let same : 2 * c.len.result + 2 + 1 ≡ k = cc in
    let items = c.loop-rest.answers.items in
    let bytes = c.args.bytes.now in
    let rest = c.loop-rest.rest.now in
    let kept = c.loop-rest.invariant in
    let read = read_so_far c.args.counts c.requires items bytes rest kept.few kept.lawful kept.whole in
    let count = length-map items answer_view in
    let cut = c.in-Some.ensures in
    let none = rw c.in-Second.is at c.in_ok-answer.ensures in
    line_apart c.args.counts (map answer_view items) bytes rest read
    (omega (arith, count, c.len-in-loop-rest.ensures, c.if-len-eq-PREDICATE_LIMIT.false, kept.few)) c.in-Some.first.now
    c.in-Some.others.now cut.0 cut.1 none (2 * c.len.result + 2 + 1) k (omega (arith, count, c.len.ensures)) same

pub returns-then-is_empty-clause-line : goal.returns-then-is_empty-clause-line
returns-then-is_empty-clause-line c = λ k e.
    let same : ◌≡◌ {A = ℕ} 2 k = cc in
    let items = c.loop-rest.answers.items in
    let bytes = c.args.bytes.now in
    let rest = c.loop-rest.rest.now in
    let kept = c.loop-rest.invariant in
    let read = read_so_far c.args.counts c.requires items bytes rest kept.few kept.lawful kept.whole in
    let none : length items ≡ 0 = grind (arith, nat_tests) in
    let done : length rest ≡ 0 = grind (arith, nat_tests) in
    no_answer c.args.counts (map answer_view items) bytes rest read (omega (arith, none, length-map items answer_view))
    (empty_is rest done) k same
