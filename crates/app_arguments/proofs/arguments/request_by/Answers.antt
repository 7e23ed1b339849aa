-- A parse gives what the arguments ask for.
use Rattle.std.proofs.Common.{◌≡◌, inl, map, ℕ, List, Option, Ok, Err, subst}
use Rattle.std.specs.Prelude.{IfErr, IsErrAnd, Result}
use Rattle.clap.specs.Values.{kind_of}
use Rattle.clap.specs.declared.error.Error.{Error}
use Rattle.clap.specs.declared.error.kind.ErrorKind.TheVariants.{OutOfMemory}
use Rattle.app_arguments.specs.Views.{IsAskedIf, IsErrorOf}
use Rattle.app_arguments.specs.declared.request.Request.{Request}
use Rattle.app_arguments.proofs.Parsed.{error_found, program_fault, program_matches, program_taken, unclear_found}
use Rattle.app_arguments.proofs.arguments.request_by.Goals as goal

pub returns-in-Err-clause-refused : goal.returns-in-Err-clause-refused
returns-in-Err-clause-refused c =
    error_found _ c.in-Err.error (program_fault _ _ c.in-Err.error c.requires c.in-Err.ensures.kinds)

pub returns-in_default-clause-refused : goal.returns-in_default-clause-refused
returns-in_default-clause-refused c =
    let arguments : List (List ℕ) = map (λ argument. argument.bytes.items) c.args.arguments.now in
    unclear_found arguments c.unclear_arguments.result
    (subst (λ (request : Option Request). IsAskedIf arguments request) c.in_default.is
    (c.in_ok-request.ensures arguments
    (program_taken _ _ c.requires c.in-Ok.ensures.kinds)
    (program_matches _ _ c.in-Ok.matches c.requires c.in-Ok.ensures.ok.2))) c.unclear_arguments.ensures

pub returns-clause-asked : goal.returns-clause-asked
returns-clause-asked c =
    let arguments : List (List ℕ) = map (λ argument. argument.bytes.items) c.args.arguments.now in
    subst (λ (request : Option Request). IsAskedIf arguments request) c.in-Some.is
    (c.in_ok-request.ensures arguments
    (program_taken _ _ c.requires c.in-Ok.ensures.kinds)
    (program_matches _ _ c.in-Ok.matches c.requires c.in-Ok.ensures.ok.2))

-- memory runs out
memory_found : {T : Type 0} (result : Result T Error) (arguments : List (List ℕ))
    → IsErrAnd result (λ error. kind_of error ≡ OutOfMemory)
    → IfErr result (λ error. IsErrorOf arguments (kind_of error))
memory_found (Ok request) arguments memory = tt
memory_found (Err error) arguments memory = error_found arguments error (inl memory)

pub returns-in_err-request-clause-refused : goal.returns-in_err-request-clause-refused
returns-in_err-request-clause-refused c =
    memory_found c.from_residual.result (map (λ argument. argument.bytes.items) c.args.arguments.now)
    c.from_residual.ensures.1
