-- A row for some variables, none of which has a number.
use Rattle.std.proofs.Common.{length, None, ap, ◌∙◌, ◌∷◌, [], ◌+◌, length-append}
use Rattle.pd_events.proofs.PlainSettings.{none_more}
use Rattle.pd_events.proofs.plain.no_numbers.Goals as goal

pub loop-v-preserved : goal.loop-v-preserved
loop-v-preserved c = record {
  len = ap length c.in_ok-push.ensures.items
      ∙ (length-append c.loop-v.row.items (None ∷ []) ∙ ap (λ n. n + 1) c.loop-v.invariant.len);
  none = λ v. rw c.in_ok-push.ensures.items (none_more c.loop-v.row.items c.loop-v.invariant.none v);
}
