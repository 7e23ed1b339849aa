-- How far a call came with the text that it owes.
use Rattle.std.specs.Prelude.{Result, Ok, Err}
use Rattle.def_judgement.specs.Writes.{CallEnd, Whole, Partial, Silent}
use Rattle.judge_session.specs.declared.fault.EngineFault.{EngineFault}
use Rattle.judge_session.specs.declared.fault.EngineFault.TheVariants.{Memory, Write, Read, BundleLong}

-- how far it came, by its fault
abbrev pub fault_end : EngineFault → CallEnd
fault_end Memory = Silent
fault_end Write = Partial
fault_end Read = Silent
fault_end BundleLong = Silent

abbrev pub call_end : {A : Type 0} → Result A EngineFault → CallEnd
call_end (Ok value) = Whole
call_end (Err fault) = fault_end fault
