-- Lines that are summed up in groups.
use Rattle.judge_summary.proofs.Groups.{groups_merge_lem, lines_make_summaries_lem}
use Rattle.judge_summary.proofs.groups_merge.Goals as goal

pub returns-clause-groups : goal.returns-clause-groups
returns-clause-groups c = groups_merge_lem

pub returns-clause-summaries : goal.returns-clause-summaries
returns-clause-summaries c = lines_make_summaries_lem
