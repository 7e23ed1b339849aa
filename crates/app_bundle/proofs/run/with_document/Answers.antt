-- Of a document that is refused no stream is read; of another one each, unless a file of the run says why not.
use Rattle.std.proofs.Common.{List, refl, string_bytes, subst, sym, ℕ, ◌∙◌}
use Rattle.def_format.specs.Documents.{IsDocument, plain}
use Rattle.app_host.proofs.NamedPredicates.{refused_unless_memory}
use Rattle.pd_spec.specs.Views.{document_view}
use Rattle.app_bundle.specs.Bundles.{IsFileOfRun}
use Rattle.app_bundle.specs.RunLines.{IsStreamFile}
use Rattle.app_bundle.proofs.RunsRead.{file_of_stream, named_on}
use Rattle.app_bundle.proofs.run.with_document.Goals as goal

pub returns-else-is_out_of_memory-clause-session : goal.returns-else-is_out_of_memory-clause-session
returns-else-is_out_of_memory-clause-session g c =
    let refused = refused_unless_memory (plain c.as_bytes.result.now) c.in-Err.fault
    (sym c.is_out_of_memory.ensures ∙ c.if-is_out_of_memory.false) c.in-Err.ensures.err in record {
      is_read = c.requires;
      of_document = λ read is.
          absurd (c.one_document.ensures.not_refused (plain c.as_bytes.result.now) read refused.0
          (subst (λ (bytes : List ℕ). IsDocument (plain bytes) read) (sym c.as_bytes.ensures.value) is) refused.1);
      of_refused = λ fault is. rw c.new-streams.ensures.items refl;
    }

pub returns-in_err-streams-in-Ok-clause-file : goal.returns-in_err-streams-in-Ok-clause-file
returns-in_err-streams-in-Ok-clause-file g c =
    let files = g.Y.Files.FileSource.file_of c.args.world.now.files.now in
    let document = document_view c.in-Ok.spec in
    named_on (IsStreamFile c.args.folder.now document.names) (IsFileOfRun files c.args.folder.now)
    (file_of_stream files c.args.folder.now (string_bytes c.args.document) c.as_bytes.result.now document c.requires
    c.as_bytes.ensures.value c.in-Ok.ensures.ok)
    c.from_residual.result c.in_err-streams-in-Ok.field-0.0 c.from_residual.ensures.1
    c.in_err-streams-in-Ok.ensures.file
