-- That `process_entry` meets its contract.
use Rattle.std.proofs.Common.{refl}
use Rattle.pd_spec.proofs.Mapped.{bytes_of_keys}
use Rattle.pd_spec.proofs.parts.process_entry.Goals as goal

pub returns-clause-names : goal.returns-clause-names
returns-clause-names c =
    rw (c.in_ok-name.ensures.ok, c.in_ok-vars.ensures.names, bytes_of_keys c.args.process.now.vars.now.entries) refl
