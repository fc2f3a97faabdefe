-- What the refusal of a network ends a settle with.
use Rattle.fd_sample.specs.fd_devices.declared.fault.BuildFault.{BuildFault}
use Rattle.fd_sample.specs.fd_devices.declared.fault.BuildFault.TheVariants as build_fault
use Rattle.fd_settle.specs.declared.fault.SettleFault.{SettleFault}
use Rattle.fd_settle.specs.declared.fault.SettleFault.TheVariants as fault

abbrev pub refused : {F : Type 0} → BuildFault → SettleFault F
refused (build_fault.Range blame) = fault.Range blame
refused build_fault.NoMemory = fault.NoMemory
