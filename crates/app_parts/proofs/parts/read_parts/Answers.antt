-- Each part that is read is kept; all of them are, or the others are skipped.
use Rattle.std.proofs.Common.{◌≡◌, ◌+◌, ◌≤◌, ℕ, List, [], ◌∷◌, ◌++◌, length, length-append, refl, arith}
use Rattle.def_format.specs.Limits.{stream_count_limit}
use Rattle.app_parts.specs.PartsKept.{bytes_of}
use Rattle.app_parts.proofs.Keeping.{all_kept, begun, next_name, next_part, some_kept}
use Rattle.app_parts.proofs.parts.read_parts.Goals as goal
use Rattle.app_parts.proofs.parts.read_parts.Goals.{then-begins+in_ok-skip_parts, then-parts-test+else-len-lt-PART_LIMIT, else-begins, else-parts-test}

pub parts-preserved : goal.parts-preserved
parts-preserved g c =
    let input = g.R.ByteSource.left c.args.reader.now in
    let parts = c.parts.parts.items in
    let part = c.in_ok-part.part in
    let bytes : List ℕ = c.in_ok-bytes.bytes.items in
    let same : part.bytes.items ≡ bytes = rw c.in_ok-part.ensures.bytes refl in
    let counted : c.len-in-parts.result ≡ length parts = omega (arith, c.len-in-parts.ensures, c.parts.parts.ok.0) in
    let long = length-append parts (part ∷ []) in
    let few : length (parts ++ part ∷ []) ≤ stream_count_limit + 2 =
    omega (arith, long, c.if-len-lt-PART_LIMIT.true, c.len.ensures, c.parts.parts.ok.0) in
    record {
      has = rw c.in_ok-push.ensures.items
          (next_part input (g.R.ByteSource.left c.parts.reader) (g.R.ByteSource.left c.read_part.new.reader)
          c.parts.bundle c.read_part.new.bundle c.parts.begins c.in_ok-bytes.others parts part bytes c.parts-test.true
          same c.parts.invariant.has c.in_ok-bytes.ensures.part);
      names = rw c.in_ok-push.ensures.items
          (next_name parts part c.len-in-parts.result counted c.parts.invariant.names c.in_ok-part.ensures.name);
      few = rw c.in_ok-push.ensures.items few;
      ready = c.in_ok-bytes.ensures.ready;
    }

pub returns-clause-parts : goal.returns-clause-parts
returns-clause-parts g c =
    let input = g.R.ByteSource.left c.args.reader.now in
    let left = g.R.ByteSource.left c.parts.reader in
    let parts = c.parts.parts.items in
    elim c.if-begins.branch [
      | then-begins+in_ok-skip_parts w ↦
          let many : stream_count_limit + 2 ≤ length parts =
          elim c.parts-test.branch [
            | then-parts-test+else-len-lt-PART_LIMIT v ↦ omega (
              arith,
              v.if-len-lt-PART_LIMIT.false,
              v.len.ensures,
              c.parts.parts.ok.0,
            )
            | else-parts-test v ↦ absurd (grind (arith, v.parts-test.false, w.if-begins.true))
          ] in
          some_kept input parts many (w.in_ok-skip_parts.ensures.parts input (bytes_of parts)
          (begun input left c.parts.bundle c.parts.begins (bytes_of parts) w.if-begins.true c.parts.invariant.has))
      | else-begins w ↦ all_kept input left c.parts.bundle c.parts.begins (bytes_of parts) w.if-begins.false
          c.parts.invariant.has
    ]
