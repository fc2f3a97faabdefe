-- The equations of a source (a voltage behind an impedance), and the constants and contributions that add up to them.
use Rattle.std.specs.Prelude.{◌≡◌, ℕ, ◌+◌, ◌*◌, ◌%◌, ◌<◌, ◌≤◌, ◌^◌, nat_abs, ℤ, pos, negsuc, neg_ℤ, ◌*ℤ◌, ◌≤ℤ◌, List, [], ◌∷◌, ◌++◌}
use Rattle.fd_system.specs.fd_exact.States.{State}
use Rattle.fd_system.specs.fd_exact.Rounding.{floor_div}
use Rattle.fd_system.specs.fd_exact.Ranges.{UpTo}
use Rattle.fd_system.specs.fd_arith.declared.terms.Term.{Term}
use Rattle.fd_system.specs.fd_arith.declared.terms.Ends.{Ends}
use Rattle.fd_system.specs.declared.constants.Constant.{Constant}
use Rattle.fd_system.specs.Complex.{complex, ◌⊟◌, negative}
use Rattle.fd_system.specs.Contributions.{complex_terms, concat_below}
use Rattle.fd_system.specs.Equations.{unknown, Part, both}
use Rattle.fd_system.specs.System.{StampView, stamp_with}
use Rattle.fd_system.specs.Terminals.{IsSide, branch_of, node_of}
use Rattle.fd_system.specs.Series.{drop_list, drop_of, three_times}
use Rattle.fd_source.specs.declared.data.SourceData.{SourceData}
use Rattle.fd_source.specs.Phasors.{volts_im, volts_re}
use Rattle.fd_source.specs.Powers.{AreWithin}

-- ---- the impedance between phases k and m

-- the entry by sequence values in 10^-9 ohm, rounded down to 10^-12 ohm
abbrev pub ohms_by : ℤ → ℤ → ℕ → ℕ → ℤ
ohms_by z1 z0 k m = floor_div (three_times z1 z0 k m *ℤ pos 1000) 3

abbrev pub resistance_of : SourceData → ℕ → ℕ → ℤ
resistance_of s k m = ohms_by s.ohms.r1 s.ohms.r0 k m

abbrev pub reactance_of : SourceData → ℕ → ℕ → ℤ
reactance_of s k m = ohms_by s.ohms.x1 s.ohms.x0 k m

-- ---- the equations

-- phase k: the branch row E - v - sum Z_km i_m, and i enters the node
abbrev pub source_phase : SourceData → Ends → State → ℕ → List Part
source_phase s at x k =
    let e = complex (volts_re s k) (volts_im s k) 1 in
    let v = unknown x (node_of at.first k) in
    let i = unknown x (branch_of at.branch k) in
    both (branch_of at.branch k) (e ⊟ v ⊟ drop_of (resistance_of s) (reactance_of s) at.branch s.phases x k)
    ∷ both (node_of at.first k) (negative i)
    ∷ []

abbrev pub source_parts : SourceData → Ends → State → List Part
source_parts s at x = concat_below (source_phase s at x) s.phases

-- ---- its constants and contributions, in order

abbrev pub phase_constants : SourceData → ℕ → List ℤ
phase_constants s k = volts_re s k ∷ volts_im s k ∷ []

abbrev pub source_constants : SourceData → List ℤ
source_constants s = concat_below (phase_constants s) s.phases

abbrev pub phase_list : SourceData → Ends → ℕ → List Term
phase_list s at k =
    (complex_terms (branch_of at.branch k) (node_of at.first k) (negsuc 0) (pos 0) (pos 1)
    ++ drop_list (resistance_of s) (reactance_of s) at.branch s.phases k)
    ++ complex_terms (node_of at.first k) (branch_of at.branch k) (negsuc 0) (pos 0) (pos 1)

abbrev pub source_list : SourceData → Ends → List Term
source_list s at = concat_below (phase_list s at) s.phases

-- constants of rows that follow one another
abbrev pub constants_from : ℕ → List ℤ → List Constant
constants_from row [] = []
constants_from row (v ∷ vs) = record { row = row; value = v } ∷ constants_from (row + 1) vs

-- the stamp of constants of the branches' rows and of contributions
abbrev pub stamp_from : Ends → List ℤ → List Term → StampView
stamp_from at constants terms =
    stamp_with (constants_from (2 * at.branch) constants) terms [] 0

-- ---- conditions

-- one to three phases, at most 2 x 10^6 volt, an angle of at most one turn and a multiple of 30 degrees
pub record IsSource (s : SourceData) : Type 0 where
  pub some : 1 ≤ s.phases
  pub few : s.phases ≤ 3
  pub volts : UpTo (2 * 10 ^ 12) s.volts
  pub angle_least : neg_ℤ (pos 360) ≤ℤ s.angle
  pub angle_most : s.angle ≤ℤ pos 360
  pub angle_multiple : nat_abs s.angle % 30 ≡ 0
  pub ohms : AreWithin s.ohms

-- one node for each of n phases, and room for the branches
pub record IsPlaced (n : ℕ) (at : Ends) : Type 0 where
  pub nodes : IsSide n at.first
  pub branch : at.branch < 2 ^ 30
