-- The path of processes, each by its place among all.
use Rattle.std.proofs.Common.{rules, ◌≡◌, ◌∙◌, List, ℕ, map, ap}
use Rattle.def_format.specs.Names.{ProcessNames}
use Rattle.pd_report.specs.Steps.{names_at}
use Rattle.pd_engine.proofs.PathNames.{same_names}
use Rattle.pd_engine.proofs.answers.path_of.Goals as goal

pub returns : goal.returns
returns c =
    let names : List ProcessNames = c.args.names.now in
    let same : c.in_ok-steps.steps.items ≡ c.args.processes.now = search rules in
    c.new.ensures
    ∙ ap (λ (all : List (List ℕ)). names_at all c.in_ok-steps.steps.items) c.in_ok-all.ensures
    ∙ ap (λ (steps : List ℕ). names_at (map (λ (process : ProcessNames). process.name) names) steps) same
    ∙ same_names names c.args.processes.now
