-- One bit more.
use Rattle.std.proofs.Common.{◌≡◌, ◌+◌, ◌-◌, ◌*◌, ◌^◌, ◌<◌, ℕ, suc, IsTrue, get_or, subst, arith}
use Rattle.std.proofs.lemmas.Bool.{false≢true}
use Rattle.walk_keys.proofs.Truths.{zero_has_none}
use Rattle.walk_marks.specs.SkippedRuns.{bit_limit, HoldsNowhere}
use Rattle.walk_marks.proofs.SkippedWords.{one_bit_more, room}
use Rattle.walk_marks.proofs.asked.word_of.Goals as goal

pub overflow_mul-word : goal.overflow_mul-word
overflow_mul-word c =
    let few : c.loop-k.k < bit_limit = omega (arith, c.loop-k-test.true, c.asked_of-n.ensures.few) in
    let w : (c.loop-k.word * 2 + 0 < 2 ^ (c.loop-k.k + 1)) × (c.loop-k.word * 2 + 0 < 65536) =
    room c.loop-k.k c.loop-k.word 0 few (omega arith) c.loop-k.invariant.small in
    omega (arith, w.1)

pub overflow_add-word : goal.overflow_add-word
overflow_add-word c =
    let few : c.loop-k.k < bit_limit = omega (arith, c.loop-k-test.true, c.asked_of-n.ensures.few) in
    let w : (c.loop-k.word * 2 + c.skip_bit.result < 2 ^ (c.loop-k.k + 1))
    × (c.loop-k.word * 2 + c.skip_bit.result < 65536) =
    room c.loop-k.k c.loop-k.word c.skip_bit.result few c.skip_bit.ensures.bit c.loop-k.invariant.small in
    omega (arith, w.1)

pub loop-k-init : goal.loop-k-init
loop-k-init c = record {
  small = omega arith;
  set = λ j test set. absurd (false≢true (subst IsTrue (zero_has_none j) set));
}

pub loop-k-preserved : goal.loop-k-preserved
loop-k-preserved c =
    let few : c.loop-k.k < bit_limit = omega (arith, c.loop-k-test.true, c.asked_of-n.ensures.few) in
    record {
      small = (room c.loop-k.k c.loop-k.word c.skip_bit.result few c.skip_bit.ensures.bit c.loop-k.invariant.small).0;
      set = λ j test. one_bit_more
          (λ (m : ℕ). HoldsNowhere (get_or c.args.tests.now (c.asked_of-n.result - (c.loop-k.k + 1) + m) test)
          c.args.prefix.now) c.loop-k.word c.skip_bit.result c.skip_bit.ensures.bit
          (λ one. let e : c.asked_of-n.result - 1 - c.loop-k.k ≡ c.asked_of-n.result - (c.loop-k.k + 1) + 0 =
          omega arith in
          subst (λ (n : ℕ). HoldsNowhere (get_or c.args.tests.now n test) c.args.prefix.now) e
          (c.skip_bit.ensures.nowhere one test))
          (λ m set. let e : c.asked_of-n.result - c.loop-k.k + m ≡ c.asked_of-n.result - (c.loop-k.k + 1) + suc m =
          omega (arith, c.loop-k-test.true) in
          subst (λ (n : ℕ). HoldsNowhere (get_or c.args.tests.now n test) c.args.prefix.now) e
          (c.loop-k.invariant.set m test set)) j;
    }

pub returns : goal.returns
returns c q test lt set =
    let e : c.asked_of-n.result - c.loop-k.k + q ≡ q = omega (arith, c.loop-k-test.false) in
    subst (λ (n : ℕ). HoldsNowhere (get_or c.args.tests.now n test) c.args.prefix.now) e
    (c.loop-k.invariant.set q test set)
