-- One process more, of which the window counts if it has an event in the prefix.
use Rattle.std.proofs.Common.{◌≡◌, ℕ, ◌+◌, ◌-◌, ◌^◌, ◌<◌, ◌⊎◌, ◌↔◌, IsTrue, Bool, ◌||◌, length, get_or, sym, ap, ◌∙◌, subst, arith}
use Rattle.walk_keys.specs.Words.{has_bit}
use Rattle.walk_keys.specs.Keys.{AreDigits, count_base, digits}
use Rattle.walk_runs.specs.WholeLevels.{Run}
use Rattle.walk_marks.specs.Marks.{HasOtherMark, HasMark}
use Rattle.walk_marks.specs.RunPlaces.{key_of_run, run_at}
use Rattle.walk_marks.proofs.ParentBits.{other_more, other_none, other_all, and_true, and_false, or_none}
use Rattle.walk_marks.proofs.RunKeys.{in_runs_at, prefix_below, prefix_digit}
use Rattle.walk_marks.proofs.parents.with_others.Goals as goal
use Rattle.walk_marks.proofs.parents.with_others.Goals.{then-count-gt0, else-count-gt0}

-- the digit that is read is the count of the prefix
read : (run : Run) (n m k p d : ℕ) → m ≡ n → k ≡ key_of_run run → length run.prefix + 2 ≡ n → AreDigits run.prefix
    → p < length run.prefix → d ≡ get_or (digits m k) p 0 → d ≡ get_or run.prefix p 0
read run n m k p d same is many small lt digit =
    digit
    ∙ (ap (λ (l : ℕ). get_or (digits l k) p 0) same
    ∙ (ap (λ (key : ℕ). get_or (digits n key) p 0) is ∙ prefix_digit run.prefix n p many small lt))

-- the number with one event less
less : (run : Run) (n k p d : ℕ) → k ≡ key_of_run run → length run.prefix + 2 ≡ n → d ≡ k - count_base ^ (n - 1 - p)
    → d ≡ key_of_run run - count_base ^ (length run.prefix + 1 - p)
less run n k p d is many weight =
    let place : n - 1 - p ≡ length run.prefix + 1 - p = omega arith in
    weight
    ∙ (ap (λ (key : ℕ). key - count_base ^ (n - 1 - p)) is
    ∙ ap (λ (q : ℕ). key_of_run run - count_base ^ q) place)

pub digit-count-requires-clause-below : goal.digit-count-requires-clause-below
digit-count-requires-clause-below g c =
    let run = run_at c.args.level.now.runs c.args.i in
    rw (c.key-key.ensures, c.processes-processes.ensures) (prefix_below run.prefix c.args.level.now.processes
    c.requires.processes (c.limits.ensures.digits run (in_runs_at c.args.level.now.runs c.args.i c.requires.within)))

pub one_less-parent-requires-clause-below : goal.one_less-parent-requires-clause-below
one_less-parent-requires-clause-below g c =
    let run = run_at c.args.level.now.runs c.args.i in
    rw (c.key-key.ensures, c.processes-processes.ensures) (prefix_below run.prefix c.args.level.now.processes
    c.requires.processes (c.limits.ensures.digits run (in_runs_at c.args.level.now.runs c.args.i c.requires.within)))

pub returns-then-found-wanted-clause-bits : goal.returns-then-found-wanted-clause-bits
returns-then-found-wanted-clause-bits g c j lt =
    let run = run_at c.args.level.now.runs c.args.i in
    other_all c.args.before.now.runs c.args.marks.now (key_of_run run) run.prefix c.loop-p.p (length run.prefix)
    (c.args.x + j) (has_bit c.args.own j) (has_bit c.loop-p.found j)
    (omega (arith, c.loop-p-test.true, c.processes-processes.ensures, c.requires.processes))
    (ap (λ (v : ℕ). has_bit v j) c.if-found-wanted.true ∙ c.lowest-wanted.ensures.within j lt)
    (c.loop-p.invariant.bits j lt)

pub loop-p-preserved : goal.loop-p-preserved
loop-p-preserved g c =
    let run = run_at c.args.level.now.runs c.args.i in
    let count : c.digit-count.result ≡ get_or run.prefix c.loop-p.p 0 =
    read run c.args.level.now.processes c.processes-processes.result (g.K.Key.number c.key-key.result) c.loop-p.p
    c.digit-count.result c.processes-processes.ensures c.key-key.ensures c.requires.processes
    (c.limits.ensures.digits run (in_runs_at c.args.level.now.runs c.args.i c.requires.within))
    (omega (arith, c.loop-p-test.true, c.processes-processes.ensures, c.requires.processes)) c.digit-count.ensures in
    elim c.if-count-gt0.branch [
      | then-count-gt0 w ↦
          let is : c.if-count-gt0.found ≡ w.either-found.result = w.found-is in
          let parent : g.K.Key.number w.one_less-parent.result
          ≡ key_of_run run - count_base ^ (length run.prefix + 1 - c.loop-p.p) =
          less run c.processes-processes.result (g.K.Key.number c.key-key.result) c.loop-p.p
          (g.K.Key.number w.one_less-parent.result) c.key-key.ensures
          (omega (arith, c.processes-processes.ensures, c.requires.processes)) w.one_less-parent.ensures in
          record {
            bits = λ j lt. other_more c.args.before.now.runs c.args.marks.now (key_of_run run) run.prefix c.loop-p.p
                (c.args.x + j) (has_bit c.args.own j) (has_bit c.loop-p.found j) (has_bit w.window_of.result j)
                (has_bit c.if-count-gt0.found j) (omega (arith, w.if-count-gt0.true, count))
                (c.loop-p.invariant.bits j lt)
                (subst (λ (v : ℕ). IsTrue (has_bit w.window_of.result j)
                ↔ HasMark c.args.before.now.runs c.args.marks.now v (c.args.x + j)) parent
                (w.window_of.ensures j (omega arith)))
                (ap (λ (v : ℕ). has_bit v j) is ∙ (w.either-found.ensures j
                ∙ ap (λ (b : Bool). has_bit c.loop-p.found j || b)
                (and_true (has_bit w.window_of.result j) (has_bit c.lowest-wanted.result j) (has_bit w.both.result j)
                (w.both.ensures j) (c.lowest-wanted.ensures.within j lt))));
            beyond = λ j le. ap (λ (v : ℕ). has_bit v j) is
                ∙ or_none (has_bit c.loop-p.found j) (has_bit w.both.result j) (has_bit w.either-found.result j)
                (w.either-found.ensures j) (c.loop-p.invariant.beyond j le)
                (and_false (has_bit w.window_of.result j) (has_bit c.lowest-wanted.result j) (has_bit w.both.result j)
                (w.both.ensures j) (c.lowest-wanted.ensures.beyond j le));
          }
      | else-count-gt0 w ↦
          let is : c.if-count-gt0.found ≡ c.loop-p.found = w.found-is in
          record {
            bits = λ j lt. subst (λ (v : ℕ). IsTrue (has_bit v j) ↔ (IsTrue (has_bit c.args.own j)
                ⊎ HasOtherMark c.args.before.now.runs c.args.marks.now (key_of_run run) run.prefix (c.loop-p.p + 1)
                (c.args.x + j))) (sym is)
                (other_none c.args.before.now.runs c.args.marks.now (key_of_run run) run.prefix c.loop-p.p
                (c.args.x + j) (has_bit c.args.own j) (has_bit c.loop-p.found j)
                (omega (arith, w.if-count-gt0.false, count)) (c.loop-p.invariant.bits j lt));
            beyond = λ j le. ap (λ (v : ℕ). has_bit v j) is ∙ c.loop-p.invariant.beyond j le;
          }
    ]

pub returns-clause-bits : goal.returns-clause-bits
returns-clause-bits g c j lt =
    let run = run_at c.args.level.now.runs c.args.i in
    let end : c.loop-p.p ≡ length run.prefix =
    omega (arith, c.loop-p-test.false, c.loop-p.auto.p-end, c.processes-processes.ensures, c.requires.processes) in
    subst (λ (m : ℕ). IsTrue (has_bit c.loop-p.found j) ↔ (IsTrue (has_bit c.args.own j)
    ⊎ HasOtherMark c.args.before.now.runs c.args.marks.now (key_of_run run) run.prefix m (c.args.x + j))) end
    (c.loop-p.invariant.bits j lt)
