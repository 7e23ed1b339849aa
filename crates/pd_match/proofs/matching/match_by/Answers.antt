-- Matches sends and receipts, by a hasher.
use Rattle.std.proofs.Common.{rules}
use Rattle.std.specs.Prelude.{IfSome}
use Rattle.def_format.specs.Versions.{version_view}
use Rattle.read_traces.specs.Views.{computation_view}
use Rattle.def_model.specs.Messages.{IsReported}
use Rattle.pd_match.specs.Views.{match_fault_view}
use Rattle.pd_match.proofs.matching.match_by.Goals as goal

pub returns-in_err-sends-clause-fault : goal.returns-in_err-sends-clause-fault
returns-in_err-sends-clause-fault g c =
    let reported : IfSome (match_fault_view c.in_err-sends.field-0.0)
    (IsReported (version_view c.args.version) (computation_view c.args.traces.now)) =
    c.in_err-sends.ensures.fault (version_view c.args.version) in
    search rules
