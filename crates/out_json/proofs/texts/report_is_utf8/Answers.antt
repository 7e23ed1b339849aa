-- Of a session that is judged, and of one that is refused.
use Rattle.std.proofs.Common.{sym, subst}
use Rattle.std.specs.Str.{IsUtf8}
use Rattle.def_format.specs.Reports.{report_text}
use Rattle.pd_report.specs.Views.{report_view}
use Rattle.pd_report.specs.declared.report.Report.{Report}
use Rattle.out_json.proofs.Utf8Reports.{all_paths, judged_is_utf8, refused_is_utf8}
use Rattle.out_json.proofs.texts.report_is_utf8.Goals as goal

pub returns-in-Judged : goal.returns-in-Judged
returns-in-Judged c =
    subst (λ (report : Report). IsUtf8 (report_text (report_view report))) (sym c.in-Judged.is)
    (judged_is_utf8 c.in-Judged.processes c.in-Judged.events c.in-Judged.messages c.in-Judged.answers.items
    (all_paths c.in-Judged.answers.items _ c.answers_are_utf8.ensures c.deref.ensures.value))

pub returns-in-Refused : goal.returns-in-Refused
returns-in-Refused c =
    subst (λ (report : Report). IsUtf8 (report_text (report_view report))) (sym c.in-Refused.is)
    (refused_is_utf8 c.in-Refused.field-0)
