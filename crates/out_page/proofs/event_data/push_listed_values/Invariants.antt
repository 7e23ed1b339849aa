-- The values so far.
use Rattle.std.proofs.Common.{◌≡◌, ◌++◌, take}
use Rattle.out_page.specs.EventData.{value_text}
use Rattle.out_page.specs.JsonTexts.{listed}
use Rattle.out_page.proofs.event_data.push_listed_values.Given as goal

abbrev pub invariant-loop-i : goal.invariant-loop-i
invariant-loop-i l = l.out.items ≡ l.initial.out.items ++ listed value_text (take l.i l.values)
