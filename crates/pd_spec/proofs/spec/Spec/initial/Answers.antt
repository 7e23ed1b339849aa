-- The initial values, in a row for each process.
use Rattle.std.proofs.Common.{◌≡◌, length, arith, rules}
use Rattle.def_format.specs.Names.{vars_of}
use Rattle.pd_spec.proofs.Rows.{process_of_var, row_fits, row_found}
use Rattle.pd_spec.proofs.spec.Spec.initial.Goals as goal

pub initial_row-requires : goal.initial_row-requires
initial_row-requires c = process_of_var _ _ _ c.requires

pub value_in-requires : goal.value_in-requires
value_in-requires c =
    let same : length c.initial_row.result.now ≡ length (vars_of c.args.self.now.names c.args.p) =
    row_fits _ _ c.args.p _ c.args.self.now.sound.rows c.initial_row.ensures in
    omega (arith, same, c.requires)

pub returns : goal.returns
returns c = rw (row_found _ c.args.p _ c.initial_row.ensures) (search (rules, c.value_in.ensures))
