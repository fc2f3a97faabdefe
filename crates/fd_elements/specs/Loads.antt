-- The part loads of a phase of a load.
use Rattle.std.specs.Prelude.{ℤ, pos, List, [], ◌∷◌, Option, Some, None}
use Rattle.std.specs.Option.{unwrap_or}
use Rattle.dss_model.specs.declared.load.Load.{Load}
use Rattle.dss_model.specs.declared.load.LoadKind.{LoadKind}
use Rattle.dss_model.specs.declared.load.LoadKind.TheVariants as kind
use Rattle.dss_model.specs.declared.load.ZipShares.{ZipShares}
use Rattle.dss_model.specs.fd_arith.declared.terms.LoadModel.{LoadModel}
use Rattle.dss_model.specs.fd_arith.declared.terms.LoadModel.TheVariants.{ConstantPower, ConstantImpedance, ConstantCurrent}
use Rattle.fd_line.specs.fd_system.declared.loads.LoadPhase.{LoadPhase}
use Rattle.fd_line.specs.fd_system.Terminals.{phase_volts}
use Rattle.fd_load.specs.declared.zip.PartShares.{PartShares}
use Rattle.fd_load.specs.declared.zip.ZipPhase.{ZipPhase}
use Rattle.fd_load.specs.Zip.{zip_parts}
use Rattle.fd_elements.specs.declared.powers.LoadPower.{LoadPower}
use Rattle.fd_elements.specs.Connections.{conn_of}
use Rattle.fd_elements.specs.Volts.{part_of}

-- the nominal voltage of a phase
abbrev pub nominal_of : Load → ℤ
nominal_of load = phase_volts load.phases (conn_of load.conn) load.kv

-- ---- one part load

-- the model of a phase's one part load; a load of model 8 has three
abbrev pub sole_model : LoadKind → Option LoadModel
sole_model kind.ConstantPower = Some ConstantPower
sole_model kind.ConstantImpedance = Some ConstantImpedance
sole_model kind.ConstantCurrent = Some ConstantCurrent
sole_model kind.Zip = None

-- with all of the phase's power
abbrev pub load_phase_of : Load → LoadModel → LoadPower → LoadPhase
load_phase_of load model power = record {
  model = model;
  p = power.p;
  q = power.q;
  vn = nominal_of load;
  vlo = part_of load.vminpu (nominal_of load);
  vhi = part_of load.vmaxpu (nominal_of load);
}

-- ---- three

-- no power at all
abbrev pub no_shares : ZipShares
no_shares = record {
  p = record { impedance = pos 0; current = pos 0; power = pos 0 };
  q = record { impedance = pos 0; current = pos 0; power = pos 0 };
}

-- the shares of a load; at Solve each load of model 8 has some
abbrev pub shares_of : Load → ZipShares
shares_of load = unwrap_or load.zipv no_shares

-- what each of the three has of P and of Q
abbrev pub impedance_shares : ZipShares → PartShares
impedance_shares shares = record { p = shares.p.impedance; q = shares.q.impedance }

abbrev pub current_shares : ZipShares → PartShares
current_shares shares = record { p = shares.p.current; q = shares.q.current }

abbrev pub power_shares : ZipShares → PartShares
power_shares shares = record { p = shares.p.power; q = shares.q.power }

abbrev pub zip_phase_of : Load → LoadPower → ZipPhase
zip_phase_of load power = record {
  p = power.p;
  q = power.q;
  impedance = impedance_shares (shares_of load);
  current = current_shares (shares_of load);
  power = power_shares (shares_of load);
  vn = nominal_of load;
  vlo = part_of load.vminpu (nominal_of load);
  vhi = part_of load.vmaxpu (nominal_of load);
}

-- ---- the part loads of a phase with this power

abbrev pub parts_by : Option LoadModel → Load → LoadPower → List LoadPhase
parts_by (Some model) load power = load_phase_of load model power ∷ []
parts_by None load power = zip_parts (zip_phase_of load power)

abbrev pub phase_parts : Load → LoadPower → List LoadPhase
phase_parts load power = parts_by (sole_model load.model) load power
