-- A run more, whose words stand after those of the runs before it.
use Rattle.std.proofs.Common.{◌≡◌, ◌+◌, ◌<◌, ◌≤◌, ◌⊎◌, inl, inr, ℕ, suc, length, ◌++◌, ◌∷◌, [], sym, subst, ap, ◌∙◌, arith}
use Rattle.std.proofs.lemmas.Bool.{cases_lt}
use Rattle.std.proofs.lemmas.List.{length-append}
use Rattle.walk_marks.specs.RunPlaces.{run_at}
use Rattle.walk_marks.specs.Marks.{Marking, HasWords, IsShaped, IsMarking, bits_in, start_of, last_word}
use Rattle.walk_marks.proofs.Windows.{start_next}
use Rattle.walk_marks.proofs.PushedWords.{run_some, words_kept, start_below, marking_of_words, starts_pushed}
use Rattle.walk_marks.proofs.mark.mark.Goals as goal

pub loop-i-preserved : goal.loop-i-preserved
loop-i-preserved g c =
    let lt : c.loop-i.i < length c.args.level.now.runs = omega (arith, c.loop-i-test.true, c.len-i-end.ensures) in
    let is : c.push.new.self.items ≡ c.loop-i.first.items ++ c.len-in-loop-i.result ∷ [] =
    c.in_ok-push.ensures.items in
    let next : start_of c.args.level.now.runs (suc c.loop-i.i) ≡ start_of c.args.level.now.runs c.loop-i.i
    + suc (last_word (run_at c.args.level.now.runs c.loop-i.i)) =
    start_next c.args.level.now.runs c.loop-i.i lt in
    let up : c.loop-i.i + 1 ≡ suc c.loop-i.i = omega arith in
    record {
      one_each = ap length is ∙ (length-append c.loop-i.first.items (c.len-in-loop-i.result ∷ [])
          ∙ omega (arith, c.loop-i.invariant.one_each));
      starts = starts_pushed c.args.level.now.runs c.loop-i.first.items c.push.new.self.items c.len-in-loop-i.result
          c.loop-i.i is c.loop-i.invariant.one_each (omega (
            arith,
            c.loop-i.all.ok,
            c.len-in-loop-i.ensures,
            c.loop-i.invariant.ends,
          ))
          c.loop-i.invariant.starts;
      ends = c.in_ok-push_run.ensures.more ∙ (rw up (omega (arith, c.loop-i.invariant.ends)));
      slots = c.push_run.auto.places ∙ c.loop-i.invariant.slots;
      words = λ k le. words k (cases_lt k c.loop-i.i) le;
    }
  where
    words : (k : ℕ) → (k < c.loop-i.i) ⊎ (c.loop-i.i ≤ k) → k < c.loop-i.i + 1
        → HasWords (g.T.RunTest.events c.args.test.now) (g.T.RunTest.test c.args.test.now) c.args.level.now.number
        (run_at c.args.level.now.runs k) c.push_run.new.all.items (start_of c.args.level.now.runs k)
    words k (inl less) le =
        let room : start_of c.args.level.now.runs k + suc (last_word (run_at c.args.level.now.runs k))
        ≤ start_of c.args.level.now.runs c.loop-i.i =
        start_below c.args.level.now.runs k c.loop-i.i less
        (omega (arith, c.loop-i-test.true, c.len-i-end.ensures)) in
        words_kept (g.T.RunTest.events c.args.test.now) (g.T.RunTest.test c.args.test.now) c.args.level.now.number
        (run_at c.args.level.now.runs k) c.loop-i.all.items c.push_run.new.all.items
        (start_of c.args.level.now.runs k) (omega (arith, c.loop-i.invariant.ends)) c.in_ok-push_run.ensures.others
        (c.loop-i.invariant.words k less)
    words k (inr more) le =
        let e : c.loop-i.i ≡ k = omega arith in
        subst (λ (n : ℕ). HasWords (g.T.RunTest.events c.args.test.now) (g.T.RunTest.test c.args.test.now)
        c.args.level.now.number (run_at c.args.level.now.runs n) c.push_run.new.all.items
        (start_of c.args.level.now.runs n)) e
        (subst (λ (n : ℕ). HasWords (g.T.RunTest.events c.args.test.now) (g.T.RunTest.test c.args.test.now)
        c.args.level.now.number (run_at c.args.level.now.runs c.loop-i.i) c.push_run.new.all.items n)
        c.loop-i.invariant.ends c.in_ok-push_run.ensures.words)

pub returns-in-Some : goal.returns-in-Some
returns-in-Some g c =
    let end : c.loop-i.i ≡ length c.args.level.now.runs =
    omega (arith, c.loop-i-test.false, c.loop-i.auto.i-end, c.len-i-end.ensures) in
    let shape : IsShaped c.args.level.now.runs (record {
      first = c.loop-i.first.items;
      words = c.loop-i.all.items;
      count = c.in-Some.count;
    }) = record {
      some = run_some (g.T.RunTest.events c.args.test.now) c.args.level.now c.requires.level;
      one_each = c.loop-i.invariant.one_each ∙ end;
      starts = λ i lt. c.loop-i.invariant.starts i (omega arith);
      ends = c.loop-i.invariant.ends ∙ ap (start_of c.args.level.now.runs) end;
      beyond = λ i d lt. (c.loop-i.invariant.words i (omega arith)).beyond d;
    } in
    subst (λ (m : Marking). IsMarking (g.T.RunTest.events c.args.test.now) (g.T.RunTest.test c.args.test.now)
    c.args.level.now m) (sym c.new.ensures)
    (marking_of_words (g.T.RunTest.events c.args.test.now) (g.T.RunTest.test c.args.test.now) c.args.level.now
    (record {
      first = c.loop-i.first.items;
      words = c.loop-i.all.items;
      count = c.in-Some.count;
    }) c.requires.level shape (c.in-Some.ensures ∙ ap bits_in c.deref.ensures.value)
    (λ i lt. c.loop-i.invariant.words i (omega arith)))
