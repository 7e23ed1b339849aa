-- All of the lowest bits are set exactly if none of them is missing.
use Rattle.std.proofs.Common.{inl, inr, nat_eq}
use Rattle.std.proofs.lemmas.Bool.{cases_lt, eqb-true, eq-eqb}
use Rattle.walk_keys.specs.Words.{has_bit}
use Rattle.walk_tables.proofs.Conjunctions.{all_below_is, not_missing, is_missing, beyond_missing}
use Rattle.walk_tables.proofs.bits.has_lowest.Goals as goal

pub returns : goal.returns
returns c =
    let missing = c.without-missing.result in
    let low = c.lowest.result in
    let word = c.args.word in
    let is = c.without-missing.ensures in
    all_below_is c.args.n (has_bit word) (nat_eq missing 0)
    (λ none j lt.
    not_missing (has_bit low j) (has_bit word j) (has_bit missing j) (is j) (c.lowest.ensures.within j lt)
    (c.words.ensures.none.0 (eqb-true missing 0 none) j))
    (λ all.
    eq-eqb missing 0
    (c.words.ensures.none.1
    (λ j.
    elim (cases_lt j c.args.n) [
      | inl lt ↦ is_missing (has_bit low j) (has_bit word j) (has_bit missing j) (is j) (all j lt)
      | inr le ↦ beyond_missing (has_bit low j) (has_bit word j) (has_bit missing j) (is j)
          (c.lowest.ensures.beyond j le)
    ])))
