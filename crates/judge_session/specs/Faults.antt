-- What bytes that aren't read, and a report that isn't written, are for the engine.
use Rattle.read_bundle.specs.declared.fault.BundleFault.{BundleFault}
use Rattle.read_bundle.specs.declared.fault.BundleFault.TheVariants as bundles
use Rattle.judge_session.specs.declared.fault.EngineFault.{EngineFault}
use Rattle.judge_session.specs.declared.fault.EngineFault.TheVariants as engine
use Rattle.pd_gather.specs.declared.read_fault.ReadFault.{ReadFault}
use Rattle.pd_gather.specs.declared.read_fault.ReadFault.TheVariants as sources
use Rattle.pd_report.specs.declared.fault.WriteFault.{WriteFault}
use Rattle.pd_report.specs.declared.fault.WriteFault.TheVariants as reports

abbrev pub engine_fault : WriteFault → EngineFault
engine_fault reports.Memory = engine.Memory
engine_fault reports.Write = engine.Write

abbrev pub engine_read_fault : ReadFault → EngineFault
engine_read_fault sources.Memory = engine.Memory
engine_read_fault sources.Read = engine.Read

abbrev pub engine_bundle_fault : BundleFault → EngineFault
engine_bundle_fault bundles.Memory = engine.Memory
engine_bundle_fault bundles.Read = engine.Read
engine_bundle_fault bundles.Long = engine.BundleLong
