-- What an outcome reports, and what a stream says.
use Rattle.std.specs.Prelude.{ℕ, List, Option, Some, None, Ok}
use Rattle.app_arguments.specs.Statuses.{File}
use Rattle.judge_infer.specs.Streams.{Process}
use Rattle.app_infer.specs.Inferences.{IsStreamOf}
use Rattle.app_infer.specs.declared.outcome.InferOutcome.{InferOutcome}
use Rattle.app_infer.specs.declared.outcome.InferOutcome.TheVariants.{Written, Refused}

-- the line that is reported if there is no document
abbrev pub refused_notice : InferOutcome → Option (List ℕ)
refused_notice Written = None
refused_notice (Refused place notice) = Some notice.items

-- the stream in the file of this name says this of its process
abbrev pub IsSaidIn : (files : List ℕ → File) (name : List ℕ) → Process → Type 0
IsSaidIn files name process = IsStreamOf (files name).source (Ok process)
