-- The data of a source by its values in the script.
use Rattle.std.specs.Prelude.{ℤ, pos, cond, eqb}
use Rattle.std.specs.Option.{unwrap_or}
use Rattle.dss_model.specs.declared.words.SourceForm.{SourceForm}
use Rattle.dss_model.specs.declared.words.SourceForm.TheVariants as source_form
use Rattle.dss_model.specs.declared.vsource.Vsource.{Vsource}
use Rattle.fd_source.specs.declared.data.Ohms.{Ohms}
use Rattle.fd_source.specs.declared.data.ShortCircuit.{ShortCircuit}
use Rattle.fd_source.specs.declared.data.SourceData.{SourceData}
use Rattle.fd_source.specs.Powers.{ohms_of}
use Rattle.fd_elements.specs.Volts.{part_of, part_over_root_three}

-- the base voltage times the part of it, which for three phases is between phases
abbrev pub source_volts : Vsource → ℤ
source_volts source = cond (eqb source.phases 1) (part_of source.pu source.basekv) (part_over_root_three source.pu source.basekv)

-- positive sequence values that aren't given are 0, and zero sequence values are those of the positive sequence
abbrev pub given_ohms : Vsource → Ohms
given_ohms source =
    let r1 = unwrap_or source.r1 (pos 0) in
    let x1 = unwrap_or source.x1 (pos 0) in
    record { r1 = r1; x1 = x1; r0 = unwrap_or source.r0 r1; x0 = unwrap_or source.x0 x1 }

abbrev pub short_circuit_of : Vsource → ShortCircuit
short_circuit_of source = record {
  basekv = source.basekv;
  mvasc3 = source.mvasc3;
  mvasc1 = source.mvasc1;
  x1r1 = source.x1r1;
  x0r0 = source.x0r0;
}

-- the impedances are those that are given, or those of the short-circuit powers
abbrev pub source_ohms_of : SourceForm → Vsource → Ohms
source_ohms_of source_form.Ohms source = given_ohms source
source_ohms_of source_form.ShortCircuit source = ohms_of (short_circuit_of source)

abbrev pub source_data_of : Vsource → SourceData
source_data_of source = record {
  phases = source.phases;
  volts = source_volts source;
  angle = source.angle;
  ohms = source_ohms_of source.form source;
}
