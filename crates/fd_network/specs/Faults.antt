-- Which element is to blame where a circuit's network is out of range.
use Rattle.std.specs.Prelude.{◌≡◌, ℕ, Bool, not, List, Option, Some}
use Rattle.std.specs.Option.{option_and_then, option_or}
use Rattle.dss_ready.specs.dss_model.declared.fault.ModelFault.TheVariants as fault
use Rattle.dss_ready.specs.dss_model.declared.command.Blame.{Blame}
use Rattle.dss_ready.specs.dss_layout.Layout.{Elements}
use Rattle.dss_ready.specs.Ready.{blame_at}
use Rattle.fd_equations.specs.fd_exact.First.{first_such}
use Rattle.fd_devices.specs.declared.fault.BuildFault.{BuildFault}
use Rattle.fd_devices.specs.declared.fault.BuildFault.TheVariants as build_fault
use Rattle.fd_devices.specs.Building.{device_fits, has_small_sums}
use Rattle.fd_devices.specs.Devices.{Device, stamp_of_all}

-- the place in order of the first device of which it doesn't hold
abbrev pub first_without : (Device → Bool) → List Device → Option ℕ
first_without holds = first_such (λ d. not (holds d))

-- the first device that doesn't fit; where each fits, the first with a contribution at a place with a large sum
abbrev pub first_out_of_range : List Device → Option ℕ
first_out_of_range ds = option_or (first_without device_fits ds) (first_without (has_small_sums (stamp_of_all ds).terms) ds)

-- the element to blame, where there is one: that of the first device out of range
abbrev pub range_blame : Elements → List Device → Option Blame
range_blame elements ds = option_and_then (blame_at fault.Range elements) (first_out_of_range ds)

-- a fault is the one that is due; want of memory is free
abbrev pub IsFaultOf : Option Blame → BuildFault → Type 0
IsFaultOf said (build_fault.Range blame) = said ≡ Some blame
IsFaultOf said build_fault.NoMemory = Unit {0}
