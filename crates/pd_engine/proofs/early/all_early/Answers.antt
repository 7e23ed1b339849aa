-- What is decided of one predicate more.
use Rattle.std.proofs.Common.{◌∙◌, ◌+◌, [], ◌∷◌, ap, length, length-append}
use Rattle.pd_spec.specs.Views.{document_view}
use Rattle.pd_engine.proofs.WalkAnswers.{early_pushed}
use Rattle.pd_engine.proofs.early.all_early.Goals as goal

pub loop-i-preserved : goal.loop-i-preserved
loop-i-preserved g c = record {
  one_each = ap length c.in_ok-push.ensures.items
      ∙ (length-append c.loop-i.each.items (c.in_ok-early_of.field-0 ∷ [])
      ∙ ap (λ n. n + 1) c.loop-i.invariant.one_each);
  right = early_pushed (document_view c.args.spec.now) c.args.computation.now c.args.asked.now c.loop-i.left.items
      c.early_of.new.left.items c.loop-i.each.items c.push.new.self.items c.loop-i.i c.index-asked-i.result
      c.in_ok-early_of.field-0 c.loop-i-test.true c.loop-i.invariant.one_each c.loop-i.invariant.right
      c.in_ok-early_of.ensures.more c.index-asked-i.is c.in_ok-early_of.ensures.early c.in_ok-push.ensures.items;
  path = c.early_of.ensures.path;
}
