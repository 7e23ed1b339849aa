-- A digit is moved to the end.
use Rattle.std.proofs.Common.{◌%◌, ◌/◌, sym, ap}
use Rattle.walk_keys.specs.Keys.{count_base}
use Rattle.walk_keys.proofs.Keys.{weight_two}
use Rattle.walk_keys.proofs.single.digit_before.Goals as goal

pub returns : goal.returns
returns c = ap (λ w. c.args.key / w % count_base) (sym (weight_two c.args.places))
