-- What streams come to.
use Rattle.std.proofs.Common.{◌≡◌, ℕ, ◌<◌, List, length, sym, subst, arith, Err}
use Rattle.std.specs.Prelude.{MatchOption}
use Rattle.std.proofs.lemmas.List.{length-map}
use Rattle.def_format.specs.Names.{ProcessNames}
use Rattle.def_format.specs.Sessions.{StreamResult, session_within}
use Rattle.pd_events.specs.Views.{result_view}
use Rattle.pd_gather.specs.Views.{session_fault_view, results_view}
use Rattle.pd_gather.specs.declared.fault.SessionFault.{SessionFault}
use Rattle.pd_gather.specs.declared.fault.SessionFault.TheVariants as faults
use Rattle.pd_spec.specs.Views.{document_view}
use Rattle.judge_session.specs.Refusals.{NamesStream}
use Rattle.pd_report.specs.Views.{refusal_view}
use Rattle.judge_session.proofs.EarlyRefusals.{session_names_none}
use Rattle.judge_session.proofs.SessionNumbers.{counted}
use Rattle.judge_session.proofs.sessions.traces_within.Goals as goal

-- the numbers in a fault fit
numbers_fit : (most : ℕ) (names : List ProcessNames) (streams : ℕ) (outcomes : List StreamResult) (fault : SessionFault)
    → length outcomes < 18446744073709551616
    → MatchOption (session_fault_view fault) (Unit {0}) (λ f. session_within most names streams outcomes ≡ Err f)
    → NamesStream names fault
numbers_fit most names streams outcomes faults.Streams few due = tt
numbers_fit most names streams outcomes (faults.Stream stream fault) few due = let lt : stream < length outcomes =
    counted most names streams outcomes _ due in omega arith
numbers_fit most names streams outcomes (faults.Taken stream line) few due = let lt : stream < length outcomes =
    counted most names streams outcomes _ due in omega arith
numbers_fit most names streams outcomes (faults.Absent process) few due = counted most names streams outcomes _ due
numbers_fit most names streams outcomes faults.Memory few due = tt

pub of_streams-requires : goal.of_streams-requires
of_streams-requires c =
    let few : length (results_view c.args.gathered.readings.items) < 18446744073709551616 = let room =
    c.args.gathered.readings.small in let count = c.args.gathered.readings.ok in
    omega (arith, room, count.0, count.1, length-map c.args.gathered.readings.items result_view) in
    subst (λ (names : List ProcessNames). NamesStream names c.in-Err.fault) (sym c.names.ensures)
    (numbers_fit c.args.most (document_view c.args.spec.now).names c.args.gathered.streams
    (results_view c.args.gathered.readings.items) c.in-Err.fault few c.in-Err.ensures.exact)

pub returns-in_ok-of_streams-in-Err-clause-no_cycle : goal.returns-in_ok-of_streams-in-Err-clause-no_cycle
returns-in_ok-of_streams-in-Err-clause-no_cycle c =
    session_names_none c.names.result.now (session_fault_view c.in-Err.fault)
    (refusal_view c.in_ok-of_streams-in-Err.field-0) c.in_ok-of_streams-in-Err.ensures
