-- The births are sorted, and the level with them so is the same.
use Rattle.std.proofs.Common.{◌≡◌, List, length, sym, ap, ◌∙◌, subst}
use Rattle.walk_runs.specs.Collected.{IsSortedOf}
use Rattle.walk_runs.specs.Kept.{KeyedBirth, KeyedRun, births_view, cuts_of}
use Rattle.walk_runs.specs.Levels.{IsKeptLevel, IsWholeLevel, WholeLevel, whole_view}
use Rattle.walk_runs.proofs.SortedLevels.{sorted_kept, sorted_level}
use Rattle.walk_runs.proofs.whole.Whole.next.Goals as goal

pub next_level-requires-clause-kept : goal.next_level-requires-clause-kept
next_level-requires-clause-kept g c =
    let births : List KeyedBirth = births_view g.K.Key.number c.deref-2.result.now in
    let same : births_view g.K.Key.number c.in_ok-births.births.items ≡ births =
    sym (ap (births_view g.K.Key.number) c.deref-2.ensures.value) in
    let sorted : IsSortedOf c.level.inside.born births =
    subst (IsSortedOf c.level.inside.born) same c.in_ok-births.ensures in
    let many : c.level.inside.processes ≡ length c.args.steps.now =
    ap (λ (l : WholeLevel). l.processes) c.level.view_is ∙ c.requires.level.processes in
    subst (λ n. IsKeptLevel g.K.Key.room n c.level.inside.number c.deref.result.now (cuts_of births)) many
    (subst (λ (runs : List KeyedRun). IsKeptLevel g.K.Key.room c.level.inside.processes c.level.inside.number runs
    (cuts_of births)) (sym c.deref.ensures.value)
    (sorted_kept g.K.Key.room c.level.inside.processes c.level.inside.number c.level.inside.runs.items
    c.level.inside.born births sorted c.level.invariant.0))

pub next_level-requires-clause-level : goal.next_level-requires-clause-level
next_level-requires-clause-level g c =
    let births : List KeyedBirth = births_view g.K.Key.number c.deref-2.result.now in
    let same : births_view g.K.Key.number c.in_ok-births.births.items ≡ births =
    sym (ap (births_view g.K.Key.number) c.deref-2.ensures.value) in
    let sorted : IsSortedOf c.level.inside.born births =
    subst (IsSortedOf c.level.inside.born) same c.in_ok-births.ensures in
    let many : c.level.inside.processes ≡ length c.args.steps.now =
    ap (λ (l : WholeLevel). l.processes) c.level.view_is ∙ c.requires.level.processes in
    subst (λ n. IsWholeLevel c.args.steps.now (whole_view n c.level.inside.number c.deref.result.now births)) many
    (subst (λ (runs : List KeyedRun). IsWholeLevel c.args.steps.now
    (whole_view c.level.inside.processes c.level.inside.number runs births)) (sym c.deref.ensures.value)
    (sorted_level c.args.steps.now c.level.inside.processes c.level.inside.number c.level.inside.runs.items
    c.level.inside.born births sorted (subst (IsWholeLevel c.args.steps.now) (sym c.level.view_is)
    c.requires.level)))
