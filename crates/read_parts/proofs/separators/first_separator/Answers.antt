-- Line after line is one of the first part, until one separates.
use Rattle.std.proofs.Common.{◌≡◌, ◌∙◌, ◌+◌, ◌-◌, ℕ, false, true, arith, drop, subst, sym, take}
use Rattle.std.proofs.lemmas.List.{take_rest}
use Rattle.def_format.specs.Bundles.{is_separator}
use Rattle.read_parts.specs.Cuts.{IsFirstLine}
use Rattle.read_parts.proofs.PartCuts.{begins, ends_part, line_on, line_within, one_part}
use Rattle.read_parts.proofs.separators.first_separator.Goals as goal

pub lines-init : goal.lines-init
lines-init c = record { within = omega arith; goes = begins c.args.bytes.now }

pub lines-preserved : goal.lines-preserved
lines-preserved c =
    let bytes = c.args.bytes.now in
    let at = c.lines.at in
    let count = c.line_length.result in
    let first : IsFirstLine (drop at bytes) count = rw (take_rest bytes at) at c.line_length.ensures in
    let size : at + count - at ≡ count = omega arith in
    let other : is_separator (take count (drop at bytes)) ≡ false =
    subst (λ (n : ℕ). is_separator (take n (drop at bytes)) ≡ false) size
    (sym c.is_separator.ensures ∙ c.if-is_separator.false) in
    record {
      within = line_within bytes at count c.lines-test.true first;
      goes = line_on bytes at count c.lines.invariant.goes first other;
    }

pub returns-then-is_separator : goal.returns-then-is_separator
returns-then-is_separator c =
    let bytes = c.args.bytes.now in
    let at = c.lines.at in
    let count = c.line_length.result in
    let first : IsFirstLine (drop at bytes) count = rw (take_rest bytes at) at c.line_length.ensures in
    let size : at + count - at ≡ count = omega arith in
    let is : is_separator (take count (drop at bytes)) ≡ true =
    subst (λ (n : ℕ). is_separator (take n (drop at bytes)) ≡ true) size
    (sym c.is_separator.ensures ∙ c.if-is_separator.true) in
    ends_part bytes at count c.lines-test.true c.lines.invariant.goes first is

pub returns : goal.returns
returns c = one_part c.args.bytes.now c.lines.at (omega arith) c.lines.invariant.goes
