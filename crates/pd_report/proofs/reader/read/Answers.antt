-- What is found of the first line and of what follows it is found of the bytes.
use Rattle.std.proofs.Common.{◌≡◌, ◌<◌, ℕ, List, length, arith}
use Rattle.std.proofs.lemmas.Bool.Decides.{nat_tests}
use Rattle.pd_report.specs.Cuts.{IsCut}
use Rattle.pd_report.specs.Views.{refusal_view}
use Rattle.pd_report.proofs.Exits.{counts_agree, first_stops_it, refused_agrees, refused_goes_on, Cut}
use Rattle.pd_report.proofs.Whole.{at_number, nothing_ended}
use Rattle.pd_report.proofs.reader.read.Goals as goal

cut_of : (bytes first rest : List ℕ) → IsCut 10 bytes first rest → Cut bytes first rest
cut_of bytes first rest cut = record { lacks = cut.0; whole = cut.1 }

pub returns-in_default-clause-line : goal.returns-in_default-clause-line
returns-in_default-clause-line c = λ k e.
    let same : ◌≡◌ {A = ℕ} 1 k = cc in
    at_number c.args.bytes.now 1 k (nothing_ended c.args.bytes.now c.in_default.ensures) same

pub returns-in_err-answers-clause-early : goal.returns-in_err-answers-clause-early
returns-in_err-answers-clause-early c = λ none.
    let cut = cut_of c.args.bytes.now c.in-Some.first.now c.in-Some.rest.now c.in-Some.ensures in
    let counts = c.in-Some-session_line.ensures in
    absurd (none (counts_agree c.args.bytes.now c.in-Some.first.now c.in-Some.rest.now cut c.in-Some-session_line.counts
    counts.0 counts.1))

pub returns-in-Some-session_line-clause-early : goal.returns-in-Some-session_line-clause-early
returns-in-Some-session_line-clause-early c = λ none.
    let cut = cut_of c.args.bytes.now c.in-Some.first.now c.in-Some.rest.now c.in-Some.ensures in
    let counts = c.in-Some-session_line.ensures in
    absurd (none (counts_agree c.args.bytes.now c.in-Some.first.now c.in-Some.rest.now cut c.in-Some-session_line.counts
    counts.0 counts.1))

pub returns-in_default-2-clause-line : goal.returns-in_default-2-clause-line
returns-in_default-2-clause-line c = λ k e.
    let same : ◌≡◌ {A = ℕ} 1 k = cc in
    let cut = cut_of c.args.bytes.now c.in-Some.first.now c.in-Some.rest.now c.in-Some.ensures in
    let no_refusal = rw c.in_default-2.is at c.in_ok-refusal.ensures in
    at_number c.args.bytes.now 1 k (first_stops_it c.args.bytes.now c.in-Some.first.now c.in-Some.rest.now cut
    c.in_default-session_line.ensures no_refusal) same

pub returns-in_err-refusal-clause-early : goal.returns-in_err-refusal-clause-early
returns-in_err-refusal-clause-early c = λ none.
    let cut = cut_of c.args.bytes.now c.in-Some.first.now c.in-Some.rest.now c.in-Some.ensures in
    let there = c.in_err-refusal.ensures in
    absurd (none (refused_agrees c.args.bytes.now c.in-Some.first.now c.in-Some.rest.now cut there.0 there.1 there.2))

pub returns-then-is_empty-clause-early : goal.returns-then-is_empty-clause-early
returns-then-is_empty-clause-early c = λ none.
    let cut = cut_of c.args.bytes.now c.in-Some.first.now c.in-Some.rest.now c.in-Some.ensures in
    let reported = rw c.in-Some-2.is at c.in_ok-refusal.ensures in
    absurd (none (refused_agrees c.args.bytes.now c.in-Some.first.now c.in-Some.rest.now cut
    (refusal_view c.in-Some-2.refusal) reported.0 reported.1))

pub returns-else-is_empty-clause-early : goal.returns-else-is_empty-clause-early
returns-else-is_empty-clause-early c = λ none.
    let cut = cut_of c.args.bytes.now c.in-Some.first.now c.in-Some.rest.now c.in-Some.ensures in
    let reported = rw c.in-Some-2.is at c.in_ok-refusal.ensures in
    absurd (none (refused_agrees c.args.bytes.now c.in-Some.first.now c.in-Some.rest.now cut
    (refusal_view c.in-Some-2.refusal) reported.0 reported.1))

pub returns-else-is_empty-clause-line : goal.returns-else-is_empty-clause-line
returns-else-is_empty-clause-line c = λ k e.
    let same : ◌≡◌ {A = ℕ} 2 k = cc in
    let cut = cut_of c.args.bytes.now c.in-Some.first.now c.in-Some.rest.now c.in-Some.ensures in
    let reported = rw c.in-Some-2.is at c.in_ok-refusal.ensures in
    let some : 0 < length c.in-Some.rest.now = grind (arith, nat_tests) in
    at_number c.args.bytes.now 2 k (refused_goes_on c.args.bytes.now c.in-Some.first.now c.in-Some.rest.now cut
    (refusal_view c.in-Some-2.refusal) reported.0 reported.1 some) same
