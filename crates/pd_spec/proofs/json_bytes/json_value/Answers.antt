-- If the reader of JSON finds a value it is the bytes' value, and otherwise they have none.
use Rattle.std.proofs.Common.{sym}
use Rattle.def_format.proofs.JsonFacts.{json_value-some, json_value-none}
use Rattle.pd_spec.proofs.json_bytes.json_value.Goals as goal

pub returns-in-Ok : goal.returns-in-Ok
returns-in-Ok c = sym (json_value-some _ _ c.in-Ok.ensures.ok.0 c.in-Ok.ensures.ok.1)

pub returns-else-is_memory : goal.returns-else-is_memory
returns-else-is_memory c =
    sym (json_value-none _
    (c.in-Err.ensures.err (λ memory. c.is_memory.ensures.no c.if-is_memory.false (c.classify.ensures.memory.1 memory))))
