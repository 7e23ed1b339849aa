-- Each part that is read is kept.
use Rattle.judge_bundle_pages.proofs.WholeParts.{all_read, first_read, stream_read}
use Rattle.std.proofs.Common.{◌∷◌}
use Rattle.judge_bundle_pages.specs.Parts.{bytes_of}
use Rattle.judge_bundle_pages.proofs.parts.read_parts.Goals as goal

pub streams-init : goal.streams-init
streams-init g c =
    let input = g.R.ByteSource.left c.args.reader in
    rw c.new-streams.ensures.items (record {
      has = first_read input (g.R.ByteSource.left c.read_part.new.reader) c.in_ok-bundle.bundle c.read_part.new.bundle
          c.in_ok-document.begins c.in_ok-document.document.items (c.in_ok-bundle.ensures.fresh input)
          c.in_ok-document.ensures.part;
      ready = c.in_ok-document.ensures.ready;
    })

pub streams-preserved : goal.streams-preserved
streams-preserved g c =
    rw c.in_ok-push.ensures.items (record {
      has = stream_read (g.R.ByteSource.left c.args.reader) (g.R.ByteSource.left c.streams.reader)
          (g.R.ByteSource.left c.read_part-in-streams.new.reader) c.streams.bundle c.read_part-in-streams.new.bundle
          c.streams.begins c.in_ok-stream.others c.in_ok-document.document.items c.streams.streams.items
          c.in_ok-stream.stream c.streams-test.true c.streams.invariant.has c.in_ok-stream.ensures.part;
      ready = c.in_ok-stream.ensures.ready;
    })

pub returns : goal.returns
returns g c =
    all_read (g.R.ByteSource.left c.args.reader) (g.R.ByteSource.left c.streams.reader) c.streams.bundle
    c.streams.begins (c.in_ok-document.document.items ∷ bytes_of c.streams.streams.items) c.if-begins.false
    c.streams.invariant.has
