-- The text so far is written.
use Rattle.std.proofs.Common.{◌≡◌, ℕ, ◌-◌, List, ◌++◌, length, take, drop, length-drop, take-add, Some, None, Option, ap, ◌∙◌, arith, append_assoc}
use Rattle.std.specs.Io.KnownBytes.{Appends}
use Rattle.std.proofs.lemmas.List.{take_rest}
use Rattle.pd_report.proofs.output.try_write_all.Goals as goal

-- bytes after bytes
appends_on : (a b c : Option (List ℕ)) (xs ys : List ℕ) → Appends a b xs → Appends b c ys → Appends a c (xs ++ ys)
appends_on None b c xs ys first then = tt
appends_on (Some old) None c xs ys first then = absurd first
appends_on (Some old) (Some mid) None xs ys first then = absurd then
appends_on (Some old) (Some mid) (Some new) xs ys first then =
    then ∙ (ap (λ (zs : List ℕ). zs ++ ys) first ∙ append_assoc old xs ys)

pub loop-taken-preserved : goal.loop-taken-preserved
loop-taken-preserved g c =
    let rest : take (length c.args.text.now - c.loop-taken.taken) (drop c.loop-taken.taken c.args.text.now)
    ≡ drop c.loop-taken.taken c.args.text.now = take_rest c.args.text.now c.loop-taken.taken in
    let bound = rw rest at c.in-Ok.ensures.bound in
    let bytes = rw rest at c.in-Ok.ensures.bytes in
    record {
      within = omega (arith, bound, length-drop c.loop-taken.taken c.args.text.now, c.loop-taken.invariant.within);
      written = rw (take-add c.loop-taken.taken c.in-Ok.count c.args.text.now)
          (appends_on (g.W.Write.contents c.args.writer.now) (g.W.Write.contents c.loop-taken.writer)
          (g.W.Write.contents c.write.new.self)
          (take c.loop-taken.taken c.args.text.now) (take c.in-Ok.count (drop c.loop-taken.taken c.args.text.now))
          c.loop-taken.invariant.written bytes);
    }
