-- The number is that of the prefix, with two digits more.
use Rattle.std.proofs.Common.{◌≡◌, ◌+◌, ◌-◌, ◌*◌, ◌/◌, ◌^◌, ◌<◌, arith}
use Rattle.walk_keys.specs.Keys.{count_base, key_of}
use Rattle.walk_runs.specs.WholeLevels.{rest_at}
use Rattle.walk_runs.proofs.PointFacts.{key_of_two}
use Rattle.walk_marks.specs.Marks.{cut_with}
use Rattle.walk_marks.specs.RunPlaces.{run_at, key_of_run}
use Rattle.walk_marks.proofs.MarkedKeys.{digits_apart, prefix_fits, prefix_key}
use Rattle.walk_marks.proofs.list.cut_key.Goals as goal

pub with_two-requires-clause-few : goal.with_two-requires-clause-few
with_two-requires-clause-few g c =
    let run = run_at c.args.level.now.runs c.args.i in
    let small = digits_apart run.prefix c.args.x (rest_at c.args.level.now.number run - c.args.x) c.requires.digits in
    let fits : key_of run.prefix < count_base ^ (g.K.Key.room - 2) =
    prefix_fits run.prefix g.K.Key.room c.requires.few small.0 in
    let is : key_of_run run / count_base / count_base ≡ key_of run.prefix = prefix_key run.prefix in
    omega (arith, c.key.ensures, c.without_two.ensures)

pub with_two-requires-clause-x : goal.with_two-requires-clause-x
with_two-requires-clause-x g c =
    let run = run_at c.args.level.now.runs c.args.i in
    (digits_apart run.prefix c.args.x (rest_at c.args.level.now.number run - c.args.x) c.requires.digits).1

pub with_two-requires-clause-y : goal.with_two-requires-clause-y
with_two-requires-clause-y g c =
    let run = run_at c.args.level.now.runs c.args.i in
    let small = digits_apart run.prefix c.args.x (rest_at c.args.level.now.number run - c.args.x) c.requires.digits in
    omega (arith, c.rest.ensures, small.2)

pub returns : goal.returns
returns g c =
    let run = run_at c.args.level.now.runs c.args.i in
    let y = rest_at c.args.level.now.number run - c.args.x in
    let is : key_of_run run / count_base / count_base ≡ key_of run.prefix = prefix_key run.prefix in
    let two : key_of (cut_with c.args.level.now.number run c.args.x)
    ≡ (key_of run.prefix * count_base + c.args.x) * count_base + y = key_of_two run.prefix c.args.x y in
    omega (arith, c.key.ensures, c.without_two.ensures, c.with_two.ensures, c.rest.ensures)
