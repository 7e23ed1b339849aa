-- What comes of the runs that a summary counts.
use Rattle.std.specs.Prelude.{◌||◌, nat_lt, if◌then◌else◌, codes}
use Rattle.judge_summary.specs.Counts.{count_of}
use Rattle.judge_summary.specs.Summaries.{Summary}
use Rattle.judge_summary.specs.declared.conclusion.Conclusion.{Conclusion}
use Rattle.judge_summary.specs.declared.conclusion.Conclusion.TheVariants.{AllPass, SomeFails, SomeNotJudged}

-- some fails, if a status 5 is counted; else some isn't judged, if a status 1 or an error is
abbrev pub conclusion_of : Summary → Conclusion
conclusion_of summary =
    if nat_lt 0 (count_of (codes "status 5") summary.counts) then SomeFails
    else (if nat_lt 0 (count_of (codes "status 1") summary.counts) || nat_lt 0 (count_of (codes "errors")
    summary.counts) then SomeNotJudged else AllPass)
