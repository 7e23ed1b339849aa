-- A document that isn't read for another reason than memory is refused.
use Rattle.std.proofs.Common.{List, ℕ, subst, sym, ◌∙◌}
use Rattle.def_format.specs.Documents.{inquiry_of}
use Rattle.pd_spec.specs.Views.{IsFaultOf, options_view}
use Rattle.app_host.proofs.NamedPredicates.{refused_unless_memory}
use Rattle.app_test.proofs.run.read_job.Goals as goal

pub refused_job-requires-after_bounds : goal.refused_job-requires-after_bounds
refused_job-requires-after_bounds g c κs within =
    refused_unless_memory (inquiry_of (options_view c.args.options.now) c.args.document.items) c.in-Err.fault
    (sym c.is_out_of_memory.ensures ∙ c.if-is_out_of_memory.false)
    (subst (λ (bytes : List ℕ). IsFaultOf (inquiry_of (options_view c.args.options.now) bytes) c.in-Err.fault)
    c.deref.ensures.value c.in-Err.ensures.err)
