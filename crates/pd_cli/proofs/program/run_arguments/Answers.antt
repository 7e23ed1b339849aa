-- What is done is what the arguments ask for.
use Rattle.std.proofs.Common.{inr, map, subst}
use Rattle.app_draw.proofs.DrawingsShown.{ends_shown}
use Rattle.pd_cli.proofs.Explanations.{unexplained}
use Rattle.clap.specs.Values.{kind_of}
use Rattle.app_arguments.specs.Views.{IsAsked}
use Rattle.pd_cli.proofs.ParserEnds.{error_as_asked}
use Rattle.pd_cli.proofs.program.run_arguments.Goals as goal

pub returns-in-Ok-Judge : goal.returns-in-Ok-Judge
returns-in-Ok-Judge g c = record {
  ends = record {
    start = c.run_files.ensures.start;
    explanation = c.run_files.ensures.explanation;
    reported = inr (
      _,
      subst (IsAsked (map (λ argument. argument.bytes.items) c.args.arguments.now)) c.in-Ok-Judge.field-0-is
          c.in-Ok-Judge.ensures.asked,
      c.run_files.ensures.reported,
    );
  };
}

pub returns-in-Ok-Check : goal.returns-in-Ok-Check
returns-in-Ok-Check g c = record {
  ends = record {
    start = c.run_check.ensures.start;
    explanation = c.run_check.ensures.explanation;
    reported = inr (
      _,
      subst (IsAsked (map (λ argument. argument.bytes.items) c.args.arguments.now)) c.in-Ok-Check.field-0-is
          c.in-Ok-Check.ensures.asked,
      c.run_check.ensures.reported,
    );
  };
}

pub returns-in-Ok-Serve : goal.returns-in-Ok-Serve
returns-in-Ok-Serve g c = record {
  ends = record {
    start = c.run_service.ensures.start;
    explanation = c.run_service.ensures.explanation;
    reported = inr (
      _,
      subst (IsAsked (map (λ argument. argument.bytes.items) c.args.arguments.now)) c.in-Ok-Serve.field-0-is
          c.in-Ok-Serve.ensures.asked,
      c.run_service.ensures.reported,
    );
  };
}

pub returns-in-Ok-Draw : goal.returns-in-Ok-Draw
returns-in-Ok-Draw g c = record {
  ends = record {
    start = c.run_draw.ensures.start;
    explanation = c.run_draw.ensures.explanation;
    reported = inr (
      _,
      subst (IsAsked (map (λ argument. argument.bytes.items) c.args.arguments.now)) c.in-Ok-Draw.field-0-is
          c.in-Ok-Draw.ensures.asked,
      ends_shown _ _ _ _ _ _ _ _ _ _ c.run_draw.ensures.reported,
    );
  };
}

pub returns-in-Ok-Explore : goal.returns-in-Ok-Explore
returns-in-Ok-Explore g c = record {
  ends = record {
    start = c.run_explore.ensures.start;
    explanation = c.run_explore.ensures.explanation;
    reported = inr (
      _,
      subst (IsAsked (map (λ argument. argument.bytes.items) c.args.arguments.now)) c.in-Ok-Explore.field-0-is
          c.in-Ok-Explore.ensures.asked,
      c.run_explore.ensures.reported,
    );
  };
}

pub returns-in-Ok-Test : goal.returns-in-Ok-Test
returns-in-Ok-Test g c = record {
  ends = record {
    start = c.run_test.ensures.start;
    explanation = c.run_test.ensures.explanation;
    reported = inr (
      _,
      subst (IsAsked (map (λ argument. argument.bytes.items) c.args.arguments.now)) c.in-Ok-Test.field-0-is
          c.in-Ok-Test.ensures.asked,
      c.run_test.ensures.reported,
    );
  };
}

pub returns-in-Ok-Reduce : goal.returns-in-Ok-Reduce
returns-in-Ok-Reduce g c = record {
  ends = record {
    start = c.run_reduce.ensures.start;
    explanation = c.run_reduce.ensures.explanation;
    reported = inr (
      _,
      subst (IsAsked (map (λ argument. argument.bytes.items) c.args.arguments.now)) c.in-Ok-Reduce.field-0-is
          c.in-Ok-Reduce.ensures.asked,
      c.run_reduce.ensures.reported,
    );
  };
}

pub returns-in-Err : goal.returns-in-Err
returns-in-Err g c = record {
  ends = record {
    start = g.E.Write.contents c.args.errors.now;
    explanation = unexplained c.args.world.now.explain (g.E.Write.contents c.args.errors.now);
    reported = error_as_asked _ (g.I.ByteSource.left c.args.input) (g.Y.Files.FileSource.file_of
        c.args.world.now.files.now)
        (g.Y.Network.Network.may_give c.args.world.now.network.now) g.Y.Network.Network.never_fails
        c.report_parser_error.result
        (g.O.Write.contents c.args.output.now) (g.O.Write.contents c.report_parser_error.new.output)
        (g.E.Write.contents c.args.errors.now) (g.E.Write.contents c.report_parser_error.new.errors)
        (kind_of c.in-Err.error) c.in-Err.ensures.refused
        (record {
          memory = c.report_parser_error.ensures.memory;
          help = c.report_parser_error.ensures.help;
          version = c.report_parser_error.ensures.version;
          misused = c.report_parser_error.ensures.misused;
        });
  };
}
