-- The bytes that stand for themselves.
use Rattle.std.proofs.Common.{◌+◌, ◌≤◌, ◌∙◌, arith, get_or, length}
use Rattle.core.proofs.slice.Flagged.{read}
use Rattle.read_tokens.proofs.Lexing.{plain_more}
use Rattle.read_tokens.proofs.Words.{first_special, none_special}
use Rattle.read_tokens.proofs.bytes.plain_bytes.Goals as goal

pub words-preserved : goal.words-preserved
words-preserved c =
    let bytes = c.args.bytes.now in
    let at = c.words.count in
    let room : at + 8 ≤ length bytes = omega (arith, c.words-test.true, c.words.invariant.0) in (
      room,
      none_special bytes at c.special_marks-marks.result c.words.invariant.1 room
          (c.special_marks-marks.ensures (λ k. get_or bytes (at + k) 0) (λ k. (c.type_inv.bytes (at + k)).fits)
          (c.word_at.ensures ∙ read bytes at))
          (omega (arith, c.if-marks-ne0.false)),
    )

pub returns-then-marks-ne0-clause-plain : goal.returns-then-marks-ne0-clause-plain
returns-then-marks-ne0-clause-plain c =
    let bytes = c.args.bytes.now in
    let at = c.words.count in
    (first_special bytes at c.special_marks-marks.result c.words.invariant.1
    (omega (arith, c.words-test.true, c.words.invariant.0))
    (c.special_marks-marks.ensures (λ k. get_or bytes (at + k) 0) (λ k. (c.type_inv.bytes (at + k)).fits)
    (c.word_at.ensures ∙ read bytes at))
    (omega (arith, c.if-marks-ne0.true))).1

pub bytes-preserved : goal.bytes-preserved
bytes-preserved c = (
  omega (arith, c.bytes-test.true),
  plain_more c.args.bytes.now c.bytes.count c.bytes-test.true c.bytes.invariant.1
      (c.is_plain.ensures c.if-is_plain.true),
)
