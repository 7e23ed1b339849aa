-- The report of a run, part by part.
use Rattle.std.proofs.Common.{◌∙◌, ◌++◌, List, ℕ, ap}
use Rattle.std.specs.Ffi.{without_last}
use Rattle.std.specs.Prelude.{codes}
use Rattle.json.specs.Print.{quoted}
use Rattle.serde_json.specs.Written.{compact_text}
use Rattle.judge_results.proofs.Joined.{report_parts, without_one}
use Rattle.judge_results.proofs.Parts.{five_parts}
use Rattle.judge_results.proofs.reports.push_report.Goals as goal

pub returns : goal.returns
returns c = λ report is.
    five_parts c.args.out.now.items c.push_bytes.new.out.items c.push_bytes-2.new.out.items
    c.push_bytes-3.new.out.items c.push_bytes-4.new.out.items c.push_bytes-5.new.out.items (codes ",{\"name\":")
    (quoted c.args.name.now) (codes ",\"report\":") (compact_text report) (codes "}") c.in_ok-push_bytes.ensures.ok
    (c.in_ok-push_bytes-2.ensures.ok
    ∙ ap (λ (text : List ℕ). c.push_bytes.new.out.items ++ text) (c.deref.ensures.value ∙ c.in_ok-quoted.ensures))
    c.in_ok-push_bytes-3.ensures.ok
    (c.in_ok-push_bytes-4.ensures.ok
    ∙ ap (λ (text : List ℕ). c.push_bytes-3.new.out.items ++ text)
    (c.without_end.ensures ∙ (ap without_last is ∙ without_one (compact_text report) _)))
    c.in_ok-push_bytes-5.ensures.ok
    ∙ ap (λ (text : List ℕ). c.args.out.now.items ++ text) (report_parts c.args.name.now report)
