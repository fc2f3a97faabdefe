-- What is true of a transformer's stated contributions.
use Rattle.std.specs.Prelude.{◌≤◌, length, All}
use Rattle.fd_system.specs.fd_arith.declared.terms.Ends.{Ends}
use Rattle.fd_system.specs.fd_arith.declared.terms.TapPair.{TapPair}
use Rattle.fd_system.specs.Contributions.{IsDivided}
use Rattle.fd_system.specs.Equations.{AddsUp}
use Rattle.fd_xfmr.specs.declared.data.XfmrData.{XfmrData}
use Rattle.fd_xfmr.specs.Leakage.{AreTaps, AreWithin, IsXfmr, coefficients_of}
use Rattle.fd_xfmr.specs.Transformer.{xfmr_list, xfmr_parts}

-- they add up to the equations, have denominators in range and are at most 60
pub record AreXfmrTerms (d : XfmrData) (t : TapPair) (at : Ends) : Type 0 where
  pub numbers : AreWithin (coefficients_of d t)
  pub adds_up : AddsUp (xfmr_list d t at) (xfmr_parts d t at)
  pub divided : All IsDivided (xfmr_list d t at)
  pub few : length (xfmr_list d t at) ≤ 60

abbrev pub XfmrLaw : Type 0
XfmrLaw = (d : XfmrData) (t : TapPair) (at : Ends) → IsXfmr d → AreTaps t → AreXfmrTerms d t at
