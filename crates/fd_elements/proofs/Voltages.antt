-- The voltages of loads and of sources whose values are in range.
use Rattle.std.proofs.Common.{◌*◌, ◌^◌, ◌≤◌, ℤ, pos, negsuc, ◌≤ℤ◌, ◌*ℤ◌, nat_abs, Bool, true, false, cond, eqb, arith, lit<}
use Rattle.std.proofs.Math.Nat.{mul-le-mul, mul-le-mul_right}
use Rattle.std.proofs.lemmas.Int.{ints, unsigned_abs-mul}
use Rattle.dss_model.specs.InRange.{LoadInRange, VsourceInRange}
use Rattle.dss_model.specs.Ranges.{ones}
use Rattle.dss_model.specs.declared.load.Load.{Load}
use Rattle.dss_model.specs.declared.vsource.Vsource.{Vsource}
use Rattle.dss_model.specs.fd_arith.declared.terms.LoadModel.{LoadModel}
use Rattle.dss_model.specs.fd_exact.Nearest.{near_within}
use Rattle.dss_model.specs.fd_exact.Ranges.{Between, IsBetween, UpTo}
use Rattle.dss_model.specs.fd_exact.RootThree.{root_three}
use Rattle.fd_line.proofs.CallerLemmas.fd_system.{phase_volts_between}
use Rattle.fd_load.specs.Current.{AreLoadVoltages}
use Rattle.fd_elements.specs.Connections.{conn_of}
use Rattle.fd_elements.specs.Loads.{load_phase_of, nominal_of}
use Rattle.fd_elements.specs.Sources.{source_volts}
use Rattle.fd_elements.specs.Volts.{part_of, part_over_root_three}
use Rattle.fd_elements.proofs.Products.{near_above, near_below, near_sign, natural_sign, product_most, product_sign, size_up_to}

-- ---- loads

-- the lower limit of a voltage
low_least : (part vn : ℤ) → IsBetween (pos 400_000_000) (ones 1) part → Between 5773000 (10 ^ 12) vn
    → pos (2 * 10 ^ 6) ≤ℤ part_of part vn
low_least (pos m) (pos q) h b =
    let in_part : 400000000 ≤ m = omega (arith, ints, h.least) in
    let in_volts : 5773000 ≤ q = omega (arith, ints, b.least) in
    let product : 400000000 * 5773000 ≤ m * q = mul-le-mul in_part in_volts in
    near_below (pos (m * q)) (10 ^ 9) (2 * 10 ^ 6) (lit< tt) (natural_sign (m * q)) (omega (arith, ints, product))
low_least (pos m) (negsuc q) h b = absurd (omega (arith, ints, b.least))
low_least (negsuc m) vn h b = absurd (omega (arith, ints, h.least))

low_most : (part vn : ℤ) → IsBetween (pos 400_000_000) (ones 1) part → Between 5773000 (10 ^ 12) vn → part_of part vn ≤ℤ vn
low_most (pos m) (pos q) h b =
    let product : m * q ≤ 10 ^ 9 * q = mul-le-mul_right q (omega (arith, ints, h.most)) in
    near_above (pos (m * q)) (10 ^ 9) q (lit< tt) (natural_sign (m * q)) (omega (arith, ints, product))
low_most (pos m) (negsuc q) h b = absurd (omega (arith, ints, b.least))
low_most (negsuc m) vn h b = absurd (omega (arith, ints, h.least))

-- the upper limit of a voltage
high_least : (part vn : ℤ) → IsBetween (ones 1) (ones 2) part → Between 5773000 (10 ^ 12) vn → vn ≤ℤ part_of part vn
high_least (pos m) (pos q) h b =
    let product : 10 ^ 9 * q ≤ m * q = mul-le-mul_right q (omega (arith, ints, h.least)) in
    near_below (pos (m * q)) (10 ^ 9) q (lit< tt) (natural_sign (m * q)) (omega (arith, ints, product))
high_least (pos m) (negsuc q) h b = absurd (omega (arith, ints, b.least))
high_least (negsuc m) vn h b = absurd (omega (arith, ints, h.least))

high_most : (part vn : ℤ) → IsBetween (ones 1) (ones 2) part → Between 5773000 (10 ^ 12) vn
    → part_of part vn ≤ℤ pos (2 * 10 ^ 12)
high_most (pos m) (pos q) h b =
    let in_part : m ≤ 2 * 10 ^ 9 = omega (arith, ints, h.most) in
    let in_volts : q ≤ 10 ^ 12 = omega (arith, ints, b.most) in
    let product : m * q ≤ 2 * 10 ^ 9 * 10 ^ 12 = mul-le-mul in_part in_volts in
    near_above (pos (m * q)) (10 ^ 9) (2 * 10 ^ 12) (lit< tt) (natural_sign (m * q)) (omega (arith, ints, product))
high_most (pos m) (negsuc q) h b = absurd (omega (arith, ints, b.least))
high_most (negsuc m) vn h b = absurd (omega (arith, ints, h.least))

-- the voltages of a part load of a phase, whatever its model and its power
pub load_voltages : (load : Load) (model : LoadModel) (p q : ℤ) → LoadInRange load
    → AreLoadVoltages (load_phase_of load model (record { p = p; q = q }))
load_voltages load model p q h =
    let b : Between 5773000 (10 ^ 12) (nominal_of load) =
    phase_volts_between load.phases (conn_of load.conn) load.kv (record { least = h.kv.least; most = h.kv.most }) in
    record {
      nominal_least = omega (arith, ints, b.least);
      nominal_most = b.most;
      low_least = low_least load.vminpu (nominal_of load) h.vminpu b;
      low_most = low_most load.vminpu (nominal_of load) h.vminpu b;
      high_least = high_least load.vmaxpu (nominal_of load) h.vmaxpu b;
      high_most = high_most load.vmaxpu (nominal_of load) h.vmaxpu b;
    }

-- ---- sources

-- a voltage between phases, as that of a phase
over_root_three : (part volts : ℤ) → UpTo (2 * 10 ^ 9) part → UpTo (10 ^ 12) volts
    → UpTo (2 * 10 ^ 12) (part_over_root_three part volts)
over_root_three part volts u v =
    let top = (part *ℤ volts) *ℤ pos (10 ^ 6) in
    let product : nat_abs part * nat_abs volts ≤ 2 * 10 ^ 9 * 10 ^ 12 = mul-le-mul (size_up_to _ part u) (size_up_to _ volts v) in
    let size : nat_abs top ≤ 2 * 10 ^ 12 * root_three =
    omega (arith, unsigned_abs-mul (part *ℤ volts) (pos (10 ^ 6)), unsigned_abs-mul part volts, product) in
    let within = near_within top root_three (2 * 10 ^ 12) (lit< tt) size in
    record {
      least = near_sign top root_three (product_sign (part *ℤ volts) (pos (10 ^ 6)) (product_sign part volts u.least v.least)
          (natural_sign (10 ^ 6)));
      most = omega (arith, ints, within);
    }

pub source_voltage : (source : Vsource) → VsourceInRange source → UpTo (2 * 10 ^ 12) (source_volts source)
source_voltage source h = by (eqb source.phases 1)
  where
    u : UpTo (2 * 10 ^ 9) source.pu
    u = record { least = h.pu.least; most = h.pu.most }

    v : UpTo (10 ^ 12) source.basekv
    v = record { least = omega (arith, ints, h.basekv.least); most = h.basekv.most }

    by : (b : Bool)
        → UpTo (2 * 10 ^ 12) (cond b (part_of source.pu source.basekv) (part_over_root_three source.pu source.basekv))
    by true =
        let sign = product_sign source.pu source.basekv u.least v.least in record {
          least = near_sign (source.pu *ℤ source.basekv) (10 ^ 9) sign;
          most = near_above (source.pu *ℤ source.basekv) (10 ^ 9) (2 * 10 ^ 12) (lit< tt) sign (product_most source.pu source.basekv u v);
        }
    by false = over_root_three source.pu source.basekv u v
