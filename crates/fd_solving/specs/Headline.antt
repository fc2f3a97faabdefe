-- What a printed settle is.
use Rattle.std.specs.Prelude.{◌≡◌, ◌+◌, ◌*◌, ◌<◌, ◌^◌, ℕ, List, length, map, All, Ok}
use Rattle.std.specs.List.{AllByRecursion}
use Rattle.dss_commands.specs.fd_exact.Fractions.{Fraction}
use Rattle.dss_commands.specs.fd_exact.States.{State}
use Rattle.fd_pages.specs.dss_layout.Layout.{complex_count, layout_of, size_of}
use Rattle.dss_commands.specs.dss_circuit.Circuit.{CircuitView}
use Rattle.fd_daily.specs.fd_system.Equations.{equation}
use Rattle.fd_daily.specs.fd_system.Meets.{Meets}
use Rattle.fd_daily.specs.fd_system.Residual.{whole_state}
use Rattle.fd_daily.specs.fd_equations.Enclosure.{addend_count}
use Rattle.fd_daily.specs.fd_pattern.Views.{NetworkView}
use Rattle.fd_daily.specs.fd_settings.Hours.{hour_powers}
use Rattle.fd_daily.specs.fd_devices.Scripted.{circuit_parts}
use Rattle.fd_daily.specs.fd_enclosure.Encloses.{IsImpedance}
use Rattle.fd_daily.specs.fd_enclosure.Sound.{Claim, IsSound, certificate_of, inverse_in, number_at, parts_of}
use Rattle.fd_daily.specs.fd_enclosure.Ties.{IsTied}
use Rattle.fd_daily.specs.fd_inject.Procedure.{solution_of}
use Rattle.fd_daily.specs.fd_queue.Controls.{Positions}
use Rattle.fd_daily.specs.fd_queue.Decisions.{Decision}
use Rattle.fd_daily.specs.fd_queue.Machine.{Act, Machine}
use Rattle.fd_pages.specs.fd_report.Enclosed.{IsSizeBetween}
use Rattle.fd_daily.specs.fd_sample.Balls.{IsInBall}
use Rattle.fd_pages.specs.fd_report.Solutions as printed
use Rattle.fd_daily.specs.fd_settle.Contract.{limits_of}
use Rattle.fd_daily.specs.fd_settle.Numbers.{AreActNumbers}
use Rattle.fd_daily.specs.fd_settle.Plant.{controls_in, network_at, settings_at}
use Rattle.fd_daily.specs.fd_settle.Rounds.{AtEach}
use Rattle.fd_daily.specs.fd_settle.Sampling.{Decided, look_at, look_over}
use Rattle.fd_pages.specs.fd_outcome.Settles.{Round, Settle, claim_in}
use Rattle.fd_solving.specs.Boxes.{IsInBox, box_at}
use Rattle.fd_daily.specs.Underway.{plant_at}

-- at this hour, and these positions of taps and banks
module _ (circuit : CircuitView) (hour : ℕ) (at : Positions) where
  abbrev pub hour_network : NetworkView
  hour_network = network_at circuit (hour_powers circuit.elements hour) at

  -- ---- the equations of the scripted circuit

  -- The complex equations at a state, in their real and their imaginary parts: Kirchhoff's current law at each node,
  -- and the voltage equation of each branch; then the row of each magnitude.
  abbrev pub equations_of : State → ℕ → Fraction
  equations_of x l = equation l (circuit_parts circuit (settings_at (hour_powers circuit.elements hour) at) x)

  abbrev pub equation_count : ℕ
  equation_count = size_of (layout_of circuit.elements)

  -- the state meets a round's mismatches in every equation
  abbrev pub MeetsRound : Claim → State → Type 0
  MeetsRound m x = Meets equations_of (number_at m.mismatches) equation_count x

  -- ---- other states

  -- a state of any denominator in the trust box of a round that meets the round's mismatches
  pub record IsOtherState (m : Claim) (x : State) : Type 0 where
    pub over : 0 < x.over
    pub inside : IsInBox (parts_of m.support) (layout_of circuit.elements) m.centre x
    pub meets : MeetsRound m x

  -- each of them is within the radii of the round's state
  abbrev pub EnclosesOthers : Claim → Type 0
  EnclosesOthers m = (x : State) → IsOtherState m x → IsInBall m.centre m.radii x

  -- the size of each voltage and of each current at each of them is from low to high; a node's record prints them
  abbrev pub EnclosesSizes : Claim → Type 0
  EnclosesSizes m =
      (x : State) (k : ℕ) → IsOtherState m x → k < complex_count (layout_of circuit.elements)
      → IsSizeBetween (printed.solution_of m.centre m.radii m.boxes m.mismatches) x k

  -- ---- states of any size, where no load is at constant power or constant current

  -- each part load is of constant impedance, so that the equations are linear
  abbrev pub IsLinear : Type 0
  IsLinear = All IsImpedance hour_network.stamp.loads

  -- every state of any denominator, in no box, that meets the round's mismatches is within the radii of the round's
  -- state
  abbrev pub EnclosesAll : Claim → Type 0
  EnclosesAll m = (x : State) → 0 < x.over → MeetsRound m x → IsInBall m.centre m.radii x

  -- and the size of each voltage and of each current at it is from low to high
  abbrev pub EnclosesAllSizes : Claim → Type 0
  EnclosesAllSizes m =
      (x : State) (k : ℕ) → 0 < x.over → MeetsRound m x → k < complex_count (layout_of circuit.elements)
      → IsSizeBetween (printed.solution_of m.centre m.radii m.boxes m.mismatches) x k

  -- what is decided over the ball of the round's state is what the controls want at each of them
  abbrev pub DecidesAlike : Claim → Type 0
  DecidesAlike m =
      (x : State) (ds : List Decision) → IsOtherState m x → look_over (controls_in circuit) at m ≡ Decided ds
      → look_at (controls_in circuit) at x ≡ Decided ds

  -- ---- a solution

  -- the mismatch of each equation is tied to its residual
  abbrev pub AreTied : Claim → Type 0
  AreTied m =
      (l : ℕ) → l < equation_count
      → IsTied (equations_of (whole_state m.centre) l) (addend_count hour_network.stamp l) (number_at m.mismatches l)

  -- the box that is printed is that in which other states are looked at
  abbrev pub HasItsBox : Claim → Type 0
  HasItsBox m =
      (place : ℕ) → place < equation_count
      → number_at m.boxes place ≡ box_at (parts_of m.support) (layout_of circuit.elements) m.centre place

  -- both parts of a voltage and of a current have one radius and one box
  abbrev pub HaveOneBall : Claim → Type 0
  HaveOneBall m =
      (k : ℕ) → k < complex_count (layout_of circuit.elements)
      → (number_at m.radii (2 * k) ≡ number_at m.radii (2 * k + 1))
      × (number_at m.boxes (2 * k) ≡ number_at m.boxes (2 * k + 1))

  -- The state is the one that the procedure reaches, and its certificate is sound: its mismatches, at most 1,000, and
  -- its radii are exactly those of its network. The state meets the equations of the scripted circuit within the
  -- mismatches; every other state in its box that does is within the radii, and the sizes of its voltages and currents
  -- are from low to high; and no mismatch is larger than its residual and the rounding of its summands. Where the
  -- equations are linear, so is every state outside the box that meets them. Box and radius are printed once for both
  -- parts.
  pub record IsSolution (m : Claim) : Type 0 where
    pub state : solution_of hour_network (limits_of circuit.options) ≡ Ok (m.centre, inverse_in m.support)
    pub certificate : certificate_of hour_network m.centre (inverse_in m.support) ≡ Ok m
    pub sound : IsSound hour_network m
    pub meets : MeetsRound m (whole_state m.centre)
    pub encloses : EnclosesOthers m
    pub sizes : EnclosesSizes m
    pub encloses_all : IsLinear → EnclosesAll m
    pub sizes_of_all : IsLinear → EnclosesAllSizes m
    pub tied : AreTied m
    pub boxes : HasItsBox m
    pub one_ball : HaveOneBall m

-- ---- a settle

-- the certified states of its rounds, and the machine with which it starts
abbrev pub claims_of : Settle → List Claim
claims_of s = map claim_in s.rounds

abbrev pub machine_of : Settle → Machine
machine_of s = s.begun

-- each round is a solution of its circuit at the hour and at the positions that the acts before it left
abbrev pub AreSolutions : Settle → Type 0
AreSolutions s = AtEach (IsSolution s.circuit s.hour) (plant_at s.circuit s.hour) (machine_of s) (claims_of s)

-- at each round
abbrev pub AreAlike : Settle → Type 0
AreAlike s = AtEach (DecidesAlike s.circuit s.hour) (plant_at s.circuit s.hour) (machine_of s) (claims_of s)

-- its number in the run, its hour, how many rounds it has, and the numbers of its acts
pub record HasModestNumbers (s : Settle) : Type 0 where
  pub number : s.number < 2 ^ 32
  pub hour : s.hour < 2 ^ 32
  pub few : length s.rounds < 2 ^ 32
  pub acts : AllByRecursion
      (λ (r : Round). AllByRecursion (λ (a : Act). AreActNumbers a.time a.control a.steps) r.acts) s.rounds

pub record IsSolved (s : Settle) : Type 0 where
  pub solutions : AreSolutions s
  pub alike : AreAlike s
  pub numbers : HasModestNumbers s
