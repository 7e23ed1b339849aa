-- The laws of summaries that merge.
use Rattle.judge_summary.proofs.Merges.{merges_are_summaries_lem, merges_associate_lem, merges_commute_lem, nothing_merges_lem}
use Rattle.judge_summary.proofs.summaries_merge.Goals as goal

pub returns-clause-commute : goal.returns-clause-commute
returns-clause-commute c = merges_commute_lem

pub returns-clause-associate : goal.returns-clause-associate
returns-clause-associate c = merges_associate_lem

pub returns-clause-nothing : goal.returns-clause-nothing
returns-clause-nothing c = nothing_merges_lem

pub returns-clause-summaries : goal.returns-clause-summaries
returns-clause-summaries c = merges_are_summaries_lem
