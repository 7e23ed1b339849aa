-- The parts that are left are skipped, if one has begun.
use Rattle.judge_bundles.proofs.BundleContents.{begun, none_left, rest_left}
use Rattle.judge_bundles.proofs.parts.read_rest.Goals as goal

pub returns-then-not-begins-clause-parts : goal.returns-then-not-begins-clause-parts
returns-then-not-begins-clause-parts g c = λ input closed has.
    none_left input (g.R.ByteSource.left c.args.reader.now) c.args.bundle.now c.args.begins closed
    c.if-not-begins.true has

pub returns-clause-parts : goal.returns-clause-parts
returns-clause-parts g c =
    rest_left (g.R.ByteSource.left c.args.reader.now) c.args.bundle.now c.args.begins c.if-not-begins.false
    c.skip_parts.result c.skip_parts.ensures.parts

pub returns-clause-long : goal.returns-clause-long
returns-clause-long g c = λ reported input closed has.
    c.skip_parts.ensures.long reported input closed
    (begun input (g.R.ByteSource.left c.args.reader.now) c.args.bundle.now c.args.begins closed c.if-not-begins.false
    has)

pub returns-clause-cause : goal.returns-clause-cause
returns-clause-cause g c = λ reported input closed has.
    c.skip_parts.ensures.cause reported input closed
    (begun input (g.R.ByteSource.left c.args.reader.now) c.args.bundle.now c.args.begins closed c.if-not-begins.false
    has)
