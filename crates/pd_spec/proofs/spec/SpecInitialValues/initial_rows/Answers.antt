-- The rows of a document fit its processes.
use Rattle.std.proofs.Common.{map}
use Rattle.std.specs.Prelude.{string_bytes}
use Rattle.pd_spec.specs.Views.{document_view}
use Rattle.pd_spec.proofs.InitialValues.{rows_fit}
use Rattle.pd_spec.proofs.spec.SpecInitialValues.initial_rows.Goals as goal

pub returns-clause-fit : goal.returns-clause-fit
returns-clause-fit c =
    rows_fit (document_view c.args.self.now).names (document_view c.args.self.now).initial
    (map (λ p. string_bytes p.name) c.args.self.now.predicates.items) c.args.self.now.width c.args.self.now.sound
