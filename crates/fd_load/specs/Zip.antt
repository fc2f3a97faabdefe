-- The part loads of a phase that draws shares of its power at constant impedance, constant current and constant power.
use Rattle.std.specs.Prelude.{ℕ, ◌≤◌, ◌^◌, ℤ, ◌*ℤ◌, nat_abs, List, [], ◌∷◌}
use Rattle.fd_system.specs.fd_exact.Rounding.{near_div}
use Rattle.fd_system.specs.fd_arith.declared.terms.LoadModel.{LoadModel}
use Rattle.fd_system.specs.fd_arith.declared.terms.LoadModel.TheVariants.{ConstantPower, ConstantImpedance, ConstantCurrent}
use Rattle.fd_system.specs.declared.loads.LoadPhase.{LoadPhase}
use Rattle.fd_load.specs.declared.zip.PartShares.{PartShares}
use Rattle.fd_load.specs.declared.zip.ZipPhase.{ZipPhase}
use Rattle.fd_load.specs.Current.{AreLoadVoltages}

-- a share, in 10^-9, of a power, to the nearest 10^-3 VA
abbrev pub share_of : ℤ → ℤ → ℤ
share_of power share = near_div (power *ℤ share) (10 ^ 9)

-- the part load of a model: its shares of P and of Q, at the phase's voltages
abbrev pub zip_part : ZipPhase → LoadModel → PartShares → LoadPhase
zip_part z model shares = record {
  model = model;
  p = share_of z.p shares.p;
  q = share_of z.q shares.q;
  vn = z.vn;
  vlo = z.vlo;
  vhi = z.vhi;
}

-- the three, in this order, also those whose shares are 0
abbrev pub zip_parts : ZipPhase → List LoadPhase
zip_parts z =
    zip_part z ConstantImpedance z.impedance
    ∷ zip_part z ConstantCurrent z.current
    ∷ zip_part z ConstantPower z.power
    ∷ []

-- ---- conditions

-- shares of at most 10 in size
pub record AreShares (shares : PartShares) : Type 0 where
  pub p : nat_abs shares.p ≤ 10 ^ 10
  pub q : nat_abs shares.q ≤ 10 ^ 10

-- powers of at most 10^17 in size, such shares of them, and the voltages of each part in their ranges
pub record IsZipPhase (z : ZipPhase) : Type 0 where
  pub p : nat_abs z.p ≤ 10 ^ 17
  pub q : nat_abs z.q ≤ 10 ^ 17
  pub impedance : AreShares z.impedance
  pub current : AreShares z.current
  pub power : AreShares z.power
  pub voltages : (model : LoadModel) (shares : PartShares) → AreLoadVoltages (zip_part z model shares)

-- a part load with voltages in their ranges and powers of at most 10^18 in size
pub record IsPart (w : LoadPhase) : Type 0 where
  pub voltages : AreLoadVoltages w
  pub p : nat_abs w.p ≤ 10 ^ 18
  pub q : nat_abs w.q ≤ 10 ^ 18
