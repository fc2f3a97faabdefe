-- Faults of what the check stands on, as its own.
use Rattle.fd_daily.specs.fd_devices.declared.fault.BuildFault.{BuildFault}
use Rattle.fd_daily.specs.fd_devices.declared.fault.BuildFault.TheVariants as build_fault
use Rattle.fd_certfile.specs.declared.fault.CertFileFault.{CertFileFault}
use Rattle.fd_certfile.specs.declared.fault.CertFileFault.TheVariants as file
use Rattle.fd_check.specs.declared.fault.CheckFault.{CheckFault}
use Rattle.fd_check.specs.declared.fault.CheckFault.TheVariants as fault

abbrev pub by_network : BuildFault → CheckFault
by_network (build_fault.Range blame) = fault.Range blame
by_network build_fault.NoMemory = fault.NoMemory

abbrev pub by_reader : CertFileFault → CheckFault
by_reader (file.Refused line rule) = fault.Refused line rule
by_reader file.NoMemory = fault.NoMemory
