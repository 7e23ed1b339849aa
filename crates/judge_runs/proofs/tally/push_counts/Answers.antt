-- The fields, one after another.
use Rattle.std.proofs.Common.{ap, append_assoc, codes, sym, ◌≡◌, ◌++◌, ◌∙◌, ℕ, List}
use Rattle.std.specs.Prelude.{decimal}
use Rattle.judge_runs.specs.Tallies.{counts_line, field_text}
use Rattle.judge_runs.proofs.tally.push_counts.Goals as goal

fields_apart : (first a second b third c fourth d end : List ℕ)
    → (first ++ a) ++ (second ++ b) ++ (third ++ c) ++ (fourth ++ d) ++ end
    ≡ first ++ a ++ second ++ b ++ third ++ c ++ fourth ++ d ++ end
fields_apart first a second b third c fourth d end =
    let two = sym (append_assoc (first ++ a) second b) in
    let three = ap (λ x. x ++ (third ++ c)) two ∙ sym (append_assoc (first ++ a ++ second ++ b) third c) in
    ap (λ x. x ++ end) (ap (λ x. x ++ (fourth ++ d)) three
    ∙ sym (append_assoc (first ++ a ++ second ++ b ++ third ++ c) fourth d))

fields_line : (all pass fail others : ℕ)
    → field_text (codes "runs: ") all ++ field_text (codes ", pass: ") pass ++ field_text (codes ", fail: ") fail
    ++ field_text (codes ", not judged: ") others ++ codes "\n"
    ≡ counts_line all pass fail others
unfolding field_text
fields_line all pass fail others =
    fields_apart (codes "runs: ") (decimal all) (codes ", pass: ") (decimal pass) (codes ", fail: ") (decimal fail)
    (codes ", not judged: ") (decimal others) (codes "\n")

pub returns : goal.returns
returns c =
    let before = c.args.out.now.items in
    let all = field_text (codes "runs: ") c.args.counts.all in
    let pass = field_text (codes ", pass: ") c.args.counts.pass in
    let fail = field_text (codes ", fail: ") c.args.counts.fail in
    let others = field_text (codes ", not judged: ") c.args.counts.not_judged in
    let end = codes "\n" in
    c.in_ok-push_bytes.ensures.ok
    ∙ ap (λ out. out ++ end) (c.in_ok-push_field-4.ensures
    ∙ ap (λ out. out ++ others) (c.in_ok-push_field-3.ensures
    ∙ ap (λ out. out ++ fail) (c.in_ok-push_field-2.ensures
    ∙ ap (λ out. out ++ pass) c.in_ok-push_field.ensures ∙ append_assoc before all pass)
    ∙ append_assoc before (all ++ pass) fail)
    ∙ append_assoc before (all ++ pass ++ fail) others)
    ∙ append_assoc before (all ++ pass ++ fail ++ others) end
    ∙ ap (λ line. before ++ line)
    (fields_line c.args.counts.all c.args.counts.pass c.args.counts.fail c.args.counts.not_judged)
