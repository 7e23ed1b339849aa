-- The items so far, and the bytes of the one that goes on.
use Rattle.std.proofs.Common.{List, ℕ}
use Rattle.def_judgement.specs.Writes.{Source}
use Rattle.read_items.specs.GivenItems.{HasItems}
use Rattle.read_items.proofs.ItemSteps.{IsInItem}
use Rattle.read_items.proofs.items.next_item.Given as goal

abbrev pub invariant-lines : goal.invariant-lines
invariant-lines g l =
    (input : Source) (items : List (List ℕ)) → HasItems input items l.fn.lines → IsInItem input items l.kept l.lines
