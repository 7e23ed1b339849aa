-- The laws of summaries that merge, from those of their counts.
use Rattle.std.proofs.Common.{refl}
use Rattle.judge_summary.specs.SummaryLaws.{MergesAreSummaries, MergesAssociate, MergesCommute, NothingMerges}
use Rattle.judge_summary.proofs.Sums.{counts_all, sums_associate, sums_commute, sums_with_none}

pub merges_commute_lem : MergesCommute
merges_commute_lem a b are other =
    rw (
      sums_commute a.counts b.counts are.counts other.counts,
      sums_commute a.failing b.failing are.failing
          other.failing,
    ) refl

pub merges_associate_lem : MergesAssociate
merges_associate_lem a b c are bs cs =
    rw (
      sums_associate a.counts b.counts c.counts are.counts bs.counts cs.counts,
      sums_associate a.failing b.failing
          c.failing are.failing bs.failing cs.failing,
    ) refl

pub nothing_merges_lem : NothingMerges
nothing_merges_lem a are =
    (refl, rw (sums_with_none a.counts are.counts, sums_with_none a.failing are.failing) refl)

pub merges_are_summaries_lem : MergesAreSummaries
merges_are_summaries_lem a b are other = record {
  counts = counts_all b.counts a.counts are.counts;
  failing = counts_all b.failing a.failing are.failing;
}
