-- What is kept of an item, as bytes come.
use Rattle.std.proofs.Common.{◌≡◌, ◌+◌, ◌<◌, ◌≤◌, ℕ, Bool, true, false, true≢false, List, [], ◌∷◌, ◌++◌, length, length-append, sym, ap, subst, ◌∙◌, arith}
use Rattle.def_format.specs.Limits.{bundle_byte_limit}
use Rattle.read_items.specs.Items.{whole_line}
use Rattle.read_items.specs.Steps.{IsKept, TakesLine}
use Rattle.read_items.specs.declared.kept.Kept.{Kept}
use Rattle.read_items.proofs.DividerLines.{long_divides_nothing}

-- bytes that are too many already
pub still_long : (old new : Kept) (more : List ℕ) → old.is_long ≡ true → new ≡ old → (part : List ℕ) → IsKept old part
    → IsKept new (part ++ more)
still_long old new more long same part is =
    subst (λ (kept : Kept). IsKept kept (part ++ more)) (sym same) (record {
      same = λ short. absurd (true≢false (sym long ∙ short));
      long = λ _. let size = length-append part more in omega (arith, size, is.long long);
    })

-- bytes that are too many together
pub now_long : (old new : Kept) (more : List ℕ) → old.is_long ≡ false
    → bundle_byte_limit < length old.bytes.items + length more
    → ((part : List ℕ) → bundle_byte_limit < length part → IsKept new part) → (part : List ℕ) → IsKept old part
    → IsKept new (part ++ more)
now_long old new more short many drops part is =
    drops (part ++ more)
    (let size = length-append part more in
    let same : length old.bytes.items ≡ length part = ap length (is.same short).0 in omega (arith, size, same, many))

-- bytes that are kept
pub kept_on : (old new : Kept) (more : List ℕ) → old.is_long ≡ false
    → length old.bytes.items + length more ≤ bundle_byte_limit → new.is_long ≡ old.is_long
    → new.bytes.items ≡ old.bytes.items ++ more → (part : List ℕ) → IsKept old part → IsKept new (part ++ more)
kept_on old new more short few same added part is =
    let kept = is.same short in
    record {
      same = λ _. (
        added ∙ ap (λ bytes. bytes ++ more) kept.0,
        let size = length-append part more in
            let bytes : length old.bytes.items ≡ length part = ap length kept.0 in omega (arith, size, bytes, few),
      );
      long = λ long. absurd (true≢false (sym long ∙ (same ∙ short)));
    }

whole_longer : (has_feed : Bool) (line : List ℕ) → length line ≤ length (whole_line has_feed line)
whole_longer true line = let size = length-append line (10 ∷ []) in omega (arith, size)
whole_longer false line = omega arith

-- a line that is too long alone
pub long_line : (old new : Kept) (has_feed : Bool) (line : List ℕ) → 134217728 < length line
    → ((part : List ℕ) → bundle_byte_limit < length part → IsKept new part)
    → TakesLine false old new (whole_line has_feed line)
long_line old new has_feed line long drops = (
  long_divides_nothing (whole_line has_feed line) (omega (arith, whole_longer has_feed line, long)),
  λ part is. drops (part ++ whole_line has_feed line)
      (omega (arith, length-append part (whole_line has_feed line), whole_longer has_feed line, long)),
)
