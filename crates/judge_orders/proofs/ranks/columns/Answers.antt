-- One more process.
use Rattle.std.proofs.Common.{◌+◌, ◌≡◌, ◌<◌, List, ℕ, [], sym, ap, ◌∙◌, subst, arith}
use Rattle.std.specs.Prelude.{AllPairs, Vec, slice_index_or}
use Rattle.std.specs.Global.{Global}
use Rattle.def_model.specs.Events.{event_count}
use Rattle.judge_orders.specs.Lists.{lists_view}
use Rattle.judge_orders.specs.Ranked.{HaveColumns, IsColumn}
use Rattle.judge_orders.proofs.Places.{all_push, list_at, lists_length, longer}
use Rattle.judge_orders.proofs.ranks.columns.Goals as goal

pub column-requires-clause-ascend : goal.column-requires-clause-ascend
column-requires-clause-ascend c =
    subst (AllPairs (λ (k m : ℕ). k < m))
    (list_at c.args.numbers.now c.loop-p.p _ c.loop-p-test.true
    ∙ (ap (λ (list : Vec ℕ Global). list.items) (sym c.index-numbers-p.is) ∙ sym c.deref.ensures.value))
    (c.requires.ascend c.loop-p.p (omega (arith, lists_length c.args.numbers.now, c.loop-p-test.true)))

pub loop-p-preserved : goal.loop-p-preserved
loop-p-preserved c =
    let computation = c.args.computation.now.events in
    let numbers = lists_view c.args.numbers.now in
    let same : c.deref.result.now ≡ slice_index_or numbers c.loop-p.p [] =
    c.deref.ensures.value ∙ (ap (λ (list : Vec ℕ Global). list.items) c.index-numbers-p.is
    ∙ sym (list_at c.args.numbers.now c.loop-p.p _ c.loop-p-test.true)) in
    let made = c.in_ok-column.field-0 in
    let to_end : IsColumn c.deref.result.now made.items (event_count computation c.loop-p.p) =
    subst (IsColumn c.deref.result.now made.items) c.events.ensures c.in_ok-column.ensures in
    let here : IsColumn (slice_index_or numbers c.loop-p.p []) made.items (event_count computation c.loop-p.p) =
    subst (λ (xs : List ℕ). IsColumn xs made.items (event_count computation c.loop-p.p)) same to_end in
    record {
      many = longer c.loop-p.columns.items c.push.new.self.items made c.loop-p.p c.in_ok-push.ensures.items
          c.loop-p.invariant.many;
      columns = subst (λ (xs : List (Vec ℕ Global)). HaveColumns computation numbers (lists_view xs) (c.loop-p.p + 1))
          (sym {A = List (Vec ℕ Global)} c.in_ok-push.ensures.items)
          (all_push (λ p column. IsColumn (slice_index_or numbers p []) column (event_count computation p))
          (λ (list : Vec ℕ Global). list.items) c.loop-p.columns.items made c.loop-p.p [] c.loop-p.invariant.many
          c.loop-p.invariant.columns here);
    }
