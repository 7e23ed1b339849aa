-- Both halves are packed.
use Rattle.std.proofs.Common.{◌≡◌, ◌-◌, ap, subst, ◌∙◌, length, take, drop}
use Rattle.std.proofs.lemmas.List.{take_rest}
use Rattle.walk_keys.specs.Keys.{AreDigits, key_of}
use Rattle.walk_keys.specs.Pairs.{pair_number}
use Rattle.walk_keys.proofs.PairNumbers.{packed_halves}
use Rattle.walk_keys.proofs.pair.PairKey.pack.Goals as goal

pub returns-clause-some : goal.returns-clause-some
returns-clause-some c =
    let counts = c.args.counts.now in
    let m = c.in_first-middle.result in
    let first = c.in_ok-first.ensures in
    let second = c.in_ok-second.ensures in
    let rest : take (length counts - m) (drop m counts) ≡ drop m counts = take_rest counts m in
    let both = packed_halves counts m c.in_first-middle.ensures first.0 (subst AreDigits rest second.0) in (
      both.0,
      ap (λ k. pair_number k c.in_ok-second.second) first.1
          ∙ (ap (λ k. pair_number (key_of (take m counts)) k) (second.1 ∙ ap key_of rest) ∙ both.1),
    )
