-- Each part that is read is one stream more, and streams that are too many are skipped.
use Rattle.std.proofs.Common.{rules, ◌≡◌, ◌+◌, ◌≤◌, All, length, subst, sym, arith}
use Rattle.std.proofs.lemmas.List.Elements.{All-push}
use Rattle.std.proofs.lemmas.List.{length-map, map_push}
use Rattle.pd_events.specs.Views.{result_view}
use Rattle.def_format.specs.Limits.{stream_count_limit}
use Rattle.pd_gather.specs.Views.{ReadingFits, results_view}
use Rattle.pd_spec.specs.Views.{document_view}
use Rattle.read_bundle.proofs.StreamParts.{all_streams, next_stream, too_many_streams}
use Rattle.read_bundle.proofs.parts.read_stream_parts.Goals as goal
use Rattle.read_bundle.proofs.parts.read_stream_parts.Goals.{then-streams-test+else-len-lt-STREAM_COUNT_LIMIT, else-streams-test}

pub streams-preserved : goal.streams-preserved
streams-preserved g c =
    let names = (document_view c.args.spec.now).names in
    let fit : All (ReadingFits names) c.push.new.self.items =
    subst (All (ReadingFits names)) (sym c.in_ok-push.ensures.items)
    (All-push (ReadingFits names) c.streams.readings.items c.in_ok-reading.reading c.streams.invariant.fit
    c.in_ok-reading.ensures.fits) in
    let few : length c.push.new.self.items ≤ stream_count_limit = search rules in
    record {
      has = rw (c.in_ok-push.ensures.items, map_push)
          (next_stream names (g.R.ByteSource.left c.args.reader.now) (g.R.ByteSource.left c.streams.reader)
          (g.R.ByteSource.left c.read_stream_part.new.reader) c.args.bundle.now c.streams.bundle
          c.read_stream_part.new.bundle c.args.begins c.streams.begins c.in_ok-reading.others
          (results_view c.streams.readings.items) (result_view c.in_ok-reading.reading) c.streams-test.true
          c.streams.invariant.has c.in_ok-reading.ensures.part);
      fit = fit;
      few = few;
      ready = c.in_ok-reading.ensures.ready;
    }

pub returns-then-begins-clause-read : goal.returns-then-begins-clause-read
returns-then-begins-clause-read g c =
    let names = (document_view c.args.spec.now).names in
    let readings = c.streams.readings.items in
    let many : stream_count_limit ≤ length readings =
    elim c.streams-test.branch [
      | then-streams-test+else-len-lt-STREAM_COUNT_LIMIT w ↦ omega (
        arith,
        w.if-len-lt-STREAM_COUNT_LIMIT.false,
        w.len.ensures,
        c.streams.readings.ok.0,
      )
      | else-streams-test w ↦ absurd (grind (arith, w.streams-test.false, c.if-begins.true))
    ] in
    rw c.new.ensures.items
    (too_many_streams names (g.R.ByteSource.left c.args.reader.now) (g.R.ByteSource.left c.streams.reader)
    c.args.bundle.now c.streams.bundle c.args.begins c.streams.begins (results_view readings)
    (stream_count_limit + 1) c.if-begins.true
    (omega (arith, many, length-map readings result_view)) (omega arith) c.streams.invariant.has
    c.in_ok-skip_parts.ensures.parts)

pub returns-clause-read : goal.returns-clause-read
returns-clause-read g c =
    let names = (document_view c.args.spec.now).names in
    let readings = c.streams.readings.items in
    let long : c.len-2.result ≡ length (results_view readings) =
    omega (arith, c.len-2.ensures, c.streams.readings.ok.0, length-map readings result_view) in
    all_streams names (g.R.ByteSource.left c.args.reader.now) (g.R.ByteSource.left c.streams.reader)
    c.args.bundle.now c.streams.bundle c.args.begins c.streams.begins (results_view readings) c.len-2.result
    c.if-begins.false long c.streams.invariant.has
