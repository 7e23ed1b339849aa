-- A sort moves the parts and changes none.
use Rattle.pd_expand.proofs.PartFacts.{next_made, parts_moved}
use Rattle.pd_expand.proofs.union.next_of_parts.Goals as goal

pub in_order-requires : goal.in_order-requires
in_order-requires c =
    rw c.deref.ensures.value (parts_moved c.args.computation.now.events c.args.level.now c.args.blocks (λ x. 1)
    c.args.parts.items c.sort_by_key.new.self.items c.sort_by_key.ensures.permutation c.requires.parts).are

pub returns-clause-list : goal.returns-clause-list
returns-clause-list c =
    next_made c.args.computation.now.events c.args.level.now c.args.blocks c.args.parts.items
    c.sort_by_key.new.self.items c.deref.result.now c.in_order.result c.requires.blocks c.requires.parts
    c.sort_by_key.ensures.permutation c.deref.ensures.value c.in_order.ensures
