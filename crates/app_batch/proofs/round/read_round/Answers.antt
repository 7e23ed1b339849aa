-- One more entry is read after each turn.
use Rattle.std.proofs.Common.{◌≡◌, ◌+◌, ◌∷◌, [], ◌∙◌, List, ap, arith, length, length-append, subst, sym}
use Rattle.std.specs.Prelude.{Option}
use Rattle.read_lines.specs.declared.line.Line.{Line}
use Rattle.app_batch.specs.Entries.{GivesEntry}
use Rattle.app_batch.proofs.Rounds.{HasRound, more_round, no_round, some_round}
use Rattle.app_batch.proofs.round.read_round.Goals as goal

pub lines-init : goal.lines-init
lines-init g c = record {
  counted = ap length c.new-round.ensures.items;
  has = λ input before has.
      subst (λ (round : List Line). HasRound c.args.in_bundles round input before c.args.lines.now)
      (sym c.new-round.ensures.items) (no_round c.args.in_bundles input before c.args.lines.now has);
}

pub lines-preserved : goal.lines-preserved
lines-preserved g c = record {
  counted = ap length c.in_ok-push-in-Ok-Some.ensures.items
      ∙ (let lengths = length-append c.lines.round.items (c.in-Ok-Some.line ∷ []) in
      omega (arith, lengths, c.lines.invariant.counted));
  has = λ input before has.
      more_round c.args.in_bundles c.lines.round.items c.push.new.self.items c.in-Ok-Some.line input before
      c.lines.lines c.next_entry.new.lines c.in_ok-push-in-Ok-Some.ensures.items
      (c.lines.invariant.has input before has)
      (subst (λ (found : Option Line). GivesEntry c.args.in_bundles found c.lines.lines c.next_entry.new.lines)
      c.in-Ok-Some.field-0-is c.in-Ok-Some.ensures.gives);
}

pub returns-then-len-jobs-clause-round : goal.returns-then-len-jobs-clause-round
returns-then-len-jobs-clause-round g c = λ input before has.
    some_round c.args.in_bundles c.push.new.self.items input before c.next_entry.new.lines
    (let lengths : length c.push.new.self.items ≡ length c.lines.round.items + 1 =
    ap length c.in_ok-push-in-Ok-Some.ensures.items
    ∙ length-append c.lines.round.items (c.in-Ok-Some.line ∷ []) in omega (arith, lengths))
    (more_round c.args.in_bundles c.lines.round.items c.push.new.self.items c.in-Ok-Some.line input before
    c.lines.lines c.next_entry.new.lines c.in_ok-push-in-Ok-Some.ensures.items
    (c.lines.invariant.has input before has)
    (subst (λ (found : Option Line). GivesEntry c.args.in_bundles found c.lines.lines c.next_entry.new.lines)
    c.in-Ok-Some.field-0-is c.in-Ok-Some.ensures.gives))
