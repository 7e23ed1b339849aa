-- A bit comes from the first word or from the second one.
use Rattle.std.proofs.Common.{◌≡◌, ◌+◌, ◌-◌, ◌/◌, ◌%◌, ◌<◌, ◌≤◌, ◌⊎◌, inl, inr, false, get_or, sym, ap, ◌∙◌, arith}
use Rattle.std.proofs.lemmas.Bool.{cases_lt}
use Rattle.walk_keys.specs.Words.{has_bit}
use Rattle.walk_marks.specs.Marks.{bit_from}
use Rattle.walk_marks.proofs.Windows.{same_word, next_word, or_false, false_or}
use Rattle.walk_marks.proofs.marks.bits_at.Goals as goal

pub returns-clause-bits : goal.returns-clause-bits
returns-clause-bits c j small le = go (cases_lt (c.args.from % 64 + j) 64)
  where
    go : (c.args.from % 64 + j < 64) ⊎ (64 ≤ c.args.from % 64 + j)
        → has_bit c.either.result j ≡ bit_from c.args.all.now c.args.start (c.args.from + j)
    go (inl lt) =
        let a : has_bit c.down-low.result j ≡ bit_from c.args.all.now c.args.start (c.args.from + j) =
        c.down-low.ensures j ∙ sym (same_word c.args.all.now c.args.start c.args.from j lt) in
        let b : has_bit c.up.result j ≡ false = c.up.ensures.below j (omega arith) in
        c.either.ensures j ∙ or_false (has_bit c.down-low.result j) (has_bit c.up.result j)
        (bit_from c.args.all.now c.args.start (c.args.from + j)) a b
    go (inr beyond) =
        let is : j - (64 - c.args.from % 64) + (64 - c.args.from % 64) ≡ j = omega arith in
        let a : has_bit c.down-low.result j ≡ false =
        c.down-low.ensures j ∙ c.words.ensures.beyond (j + c.args.from % 64) (omega arith) in
        let m : has_bit c.up.result (j - (64 - c.args.from % 64) + (64 - c.args.from % 64))
        ≡ has_bit (get_or c.args.all.now (c.args.start + c.args.from / 64 + 1) 0) (j - (64 - c.args.from % 64)) =
        c.up.ensures.moved (j - (64 - c.args.from % 64)) (omega arith) in
        let b : has_bit c.up.result j ≡ bit_from c.args.all.now c.args.start (c.args.from + j) =
        ap (has_bit c.up.result) (sym is) ∙ (m
        ∙ sym (next_word c.args.all.now c.args.start c.args.from j (j - (64 - c.args.from % 64)) small beyond is)) in
        c.either.ensures j ∙ false_or (has_bit c.down-low.result j) (has_bit c.up.result j)
        (bit_from c.args.all.now c.args.start (c.args.from + j)) a b
