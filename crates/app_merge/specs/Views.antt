-- What is wrong with a line, as a fault.
use Rattle.judge_summary.specs.declared.fault.LineFault.{LineFault}
use Rattle.judge_summary.specs.declared.fault.LineFault.TheVariants as faults
use Rattle.app_merge.specs.declared.outcome.LineWrong.{LineWrong}
use Rattle.app_merge.specs.declared.outcome.LineWrong.TheVariants.{Overflow, Shape}

abbrev pub wrong_view : LineWrong → LineFault
wrong_view Shape = faults.Shape
wrong_view Overflow = faults.Overflow
