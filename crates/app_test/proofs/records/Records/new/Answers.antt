-- The results are wanted that the test has to have.
use Rattle.std.proofs.Common.{[], subst}
use Rattle.judge_results.specs.ResultsSoFar.{AreResults}
use Rattle.judge_results.specs.declared.results.Wanted.{Wanted}
use Rattle.app_test.proofs.records.Records.new.Goals as goal

pub returns : goal.returns
returns c = λ wishes. record {
  tally = c.new.ensures wishes;
  results = subst (λ (wanted : Wanted). AreResults wanted wishes [] [] c.new-2.result) c.wanted_by.ensures
      (c.new-2.ensures wishes);
}
