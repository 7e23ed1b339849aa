-- What the loop of `next_sets` keeps.
use Rattle.std.proofs.Common.{length, map, string_bytes}
use Rattle.pd_events.proofs.PlainSettings.{HaveRead}
use Rattle.pd_events.proofs.plain.next_sets.Given as goal

abbrev pub invariant-members : goal.invariant-members
invariant-members l = HaveRead (map string_bytes l.vars) l.room.row.items l.initial.tokens l.tokens

abbrev pub decreases-members : goal.decreases-members
decreases-members l = length l.tokens
