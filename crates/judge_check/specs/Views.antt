-- What the program's findings stand for.
use Rattle.std.specs.Prelude.{List, Option, Some, None, Vec, map, string_bytes}
use Rattle.std.specs.Global.{Global}
use Rattle.def_format.specs.OtherTexts as texts
use Rattle.judge_check.specs.declared.verdict.Verdict.{Verdict}
use Rattle.judge_check.specs.declared.verdict.Verdict.TheVariants.{Good, Bad, Unchecked}
use Rattle.judge_check.specs.declared.checked.Checked.{Checked}
use Rattle.judge_check.specs.declared.finding.Finding.{Finding}
use Rattle.judge_check.specs.declared.finding.Finding.TheVariants.{NotRead, OfRefusal, OfSession}

abbrev pub verdict_view : Verdict → texts.Verdict
verdict_view Good = texts.Good
verdict_view Bad = texts.Bad
verdict_view Unchecked = texts.Unchecked

abbrev pub checked_view : Checked → texts.Checked
checked_view checked = record {
  name = string_bytes checked.name;
  possibly = verdict_view checked.possibly;
  definitely =
      verdict_view checked.definitely;
}

abbrev pub verdicts_view : Option (Vec Checked Global) → Option (List texts.Checked)
verdicts_view None = None
verdicts_view (Some answers) = Some (map checked_view answers.items)

abbrev pub finding_view : Finding → texts.Finding
finding_view (NotRead line) = texts.NotRead line
finding_view (OfRefusal good) = texts.OfRefusal good
finding_view (OfSession good answers) = texts.OfSession good (verdicts_view answers)
