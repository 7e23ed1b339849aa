-- A reduction has the answers of the run.
use Rattle.std.proofs.Common.{get_or, subst, ◌↔◌}
use Rattle.def_model.specs.Cuts.{empty_cut, full_cut}
use Rattle.def_model.specs.Observations.{Definitely, Possibly}
use Rattle.def_model.specs.Predicates.{Predicate, test_of}
use Rattle.def_long.specs.Renamed.{renamed}
use Rattle.def_long.specs.Windows.{DefinitelyIn, PossiblyIn, whole}
use Rattle.def_long.proofs.MadeViews.{definitely_of_made_run, possibly_of_made_run}
use Rattle.def_long.proofs.WindowCuts.{possibly_in_whole, run_is_window}
use Rattle.read_traces.specs.Views.{computation_view}
use Rattle.judge_reduced.specs.Laws.{DefinitelyOfReducedRun, PossiblyOfReducedRun}
use Rattle.judge_reduced.specs.Reductions.{identity_names, reduced_view}
use Rattle.judge_reduced.proofs.Seen.{same_predicate}

pub possibly_of_reduced_run : PossiblyOfReducedRun
possibly_of_reduced_run document r traces acyclic is k d lt = go (get_or document.predicates k d).predicate both
  where
    both : PossiblyIn (whole r.events) (test_of r (get_or document.predicates k d).predicate)
        ↔ Possibly (computation_view traces)
        (test_of (reduced_view r traces) (renamed identity_names (get_or document.predicates k d).predicate))
    both =
        possibly_of_made_run r (reduced_view r traces) (empty_cut r.events) (full_cut r.events) is.kept is.kept'
        (get_or document.predicates k d).predicate identity_names (run_is_window r.events acyclic) (is.made k d lt)

    go : (predicate : Predicate) → PossiblyIn (whole r.events) (test_of r predicate)
        ↔ Possibly (computation_view traces) (test_of (reduced_view r traces) (renamed identity_names predicate))
        → Possibly r.events (test_of r predicate)
        ↔ Possibly (computation_view traces) (test_of (reduced_view r traces) predicate)
    go predicate made =
        subst (λ (other : Predicate). Possibly r.events (test_of r predicate)
        ↔ Possibly (computation_view traces) (test_of (reduced_view r traces) other)) (same_predicate predicate) (
          λ h. made.0 ((possibly_in_whole r.events (test_of r predicate)).0 h),
          λ h. (possibly_in_whole r.events (test_of r predicate)).1 (made.1 h),
        )

pub definitely_of_reduced_run : DefinitelyOfReducedRun
definitely_of_reduced_run document r traces acyclic is k d lt = go (get_or document.predicates k d).predicate both
  where
    both : DefinitelyIn (whole r.events) (test_of r (get_or document.predicates k d).predicate)
        ↔ Definitely (computation_view traces)
        (test_of (reduced_view r traces) (renamed identity_names (get_or document.predicates k d).predicate))
    both =
        definitely_of_made_run r (reduced_view r traces) (empty_cut r.events) (full_cut r.events) is.kept is.kept'
        (get_or document.predicates k d).predicate identity_names (run_is_window r.events acyclic) (is.made k d lt)

    go : (predicate : Predicate) → DefinitelyIn (whole r.events) (test_of r predicate)
        ↔ Definitely (computation_view traces) (test_of (reduced_view r traces) (renamed identity_names predicate))
        → Definitely r.events (test_of r predicate)
        ↔ Definitely (computation_view traces) (test_of (reduced_view r traces) predicate)
    go predicate made =
        subst (λ (other : Predicate). Definitely r.events (test_of r predicate)
        ↔ Definitely (computation_view traces) (test_of (reduced_view r traces) other)) (same_predicate predicate) made
