-- With no further argument the bundle on the input is judged.
use Rattle.std.proofs.Common.{ℕ, List, String, arith, map, drop, ap, sym, ◌∙◌, subst}
use Rattle.std.specs.Global.{Global}
use Rattle.std.proofs.lemmas.List.{drop-map}
use Rattle.app_arguments.specs.Arguments.{AsksFor}
use Rattle.pd_cli.specs.Runs.{RunsAs}
use Rattle.pd_cli.specs.Explained.{Explained}
use Rattle.pd_cli.proofs.BundleEnds.{as_asked_by_none, none_left, truth_of_status}
use Rattle.pd_cli.proofs.OneRule.{as_bundle, as_one_rule}
use Rattle.pd_cli.proofs.program.run.Goals as goal

pub returns-then-len-le1-clause-ends : goal.returns-then-len-le1-clause-ends
returns-then-len-le1-clause-ends g c = record {
  start = c.run_bundle.ensures.start;
  explanation = c.run_bundle.ensures.explanation;
  reported = as_asked_by_none _
      (g.I.ByteSource.left c.args.input) (g.F.FileSource.file_of c.args.files.now)
      (g.N.Network.may_give c.args.network.now) g.N.Network.never_fails c.run_bundle.result
      (g.O.Write.contents c.args.output.now)
      (g.O.Write.contents c.run_bundle.new.output)
      c.run_bundle.ensures.start (g.E.Write.contents c.run_bundle.new.errors)
      (none_left _ c.args.arguments.items (omega (arith, c.args.arguments.ok.0, c.len.ensures, c.if-len-le1.true)))
      c.run_bundle.ensures.reported;
}

pub returns-then-len-le1-clause-bundle : goal.returns-then-len-le1-clause-bundle
returns-then-len-le1-clause-bundle g c few = record {
  start = c.run_bundle.ensures.start;
  explanation = c.run_bundle.ensures.explanation;
  reported = as_bundle
      (g.I.ByteSource.left c.args.input) (g.F.FileSource.file_of c.args.files.now)
      (g.N.Network.may_give c.args.network.now) g.N.Network.never_fails c.run_bundle.result
      (g.O.Write.contents c.args.output.now)
      (g.O.Write.contents c.run_bundle.new.output)
      c.run_bundle.ensures.start (g.E.Write.contents c.run_bundle.new.errors)
      c.run_bundle.ensures.reported;
}

pub returns-clause-ends : goal.returns-clause-ends
returns-clause-ends g c =
    let bytes : String Global → List ℕ = λ argument. argument.bytes.items in
    subst (λ (arguments : List (List ℕ)). Explained c.args.explain (λ start. RunsAs (AsksFor arguments)
    (g.I.ByteSource.left c.args.input) (g.F.FileSource.file_of c.args.files.now)
    (g.N.Network.may_give c.args.network.now) g.N.Network.never_fails c.run_arguments.result
    (g.O.Write.contents c.args.output.now) (g.O.Write.contents c.run_arguments.new.output)
    start (g.E.Write.contents c.run_arguments.new.errors)) (g.E.Write.contents c.args.errors.now))
    (ap (λ (arguments : List (String Global)). map bytes arguments)
    (c.without_first.ensures ∙ ap (λ (arguments : List (String Global)). drop 1 arguments) c.deref.ensures.value)
    ∙ sym (drop-map bytes 1 c.args.arguments.items)) (record {
      start = c.run_arguments.ensures.ends.start;
      explanation = c.run_arguments.ensures.ends.explanation;
      reported = as_one_rule
          (g.I.ByteSource.left c.args.input) (g.F.FileSource.file_of c.args.files.now)
          (g.N.Network.may_give c.args.network.now) g.N.Network.never_fails c.run_arguments.result
          (g.O.Write.contents c.args.output.now) (g.O.Write.contents c.run_arguments.new.output)
          c.run_arguments.ensures.ends.start (g.E.Write.contents c.run_arguments.new.errors) _
          c.run_arguments.ensures.ends.reported;
    })

pub returns-then-len-le1-clause-headline : goal.returns-then-len-le1-clause-headline
returns-then-len-le1-clause-headline g c few success =
    truth_of_status (g.I.ByteSource.left c.args.input) c.run_bundle.result
    (g.O.Write.contents c.args.output.now) (g.O.Write.contents c.run_bundle.new.output)
    c.run_bundle.ensures.start (g.E.Write.contents c.run_bundle.new.errors) c.run_bundle.ensures.reported success
