-- The rules on one block of a certificate.
use Rattle.std.specs.Prelude.{◌≡◌, ℕ, zero, suc, ℤ, pos, ◌+◌, ◌*◌, ◌^◌, ◌<◌, ◌≤◌, ◌≤ℤ◌, nat_le, int_le, unsigned_abs, Bool, true, false, not, ◌&&◌, List, [], ◌∷◌, ◌++◌, map, get_or, Option, Some, None, if◌then◌else◌}
use Rattle.std.specs.List.{list_all, AllByRecursion}
use Rattle.std.specs.Cmp.Lexicographic.{pointwise}
use Rattle.std.specs.Ordering.{int_eq}
use Rattle.fd_certfile.specs.Blocks.{Part, Act, Block, count_of, is_place}
use Rattle.fd_settle.specs.fd_cert.declared.rule.Rule.{Rule}
use Rattle.fd_settle.specs.fd_cert.declared.rule.Rule.TheVariants.{Size, Range, Mismatch, Bound, Radius, Undecided, Acts, ControlLimit}

-- where a block breaks a rule
pub data Where : Type 0 where
  -- at its solution line
  at_solution : Where
  -- at the line of an unknown
  at_part : ℕ → Where
  -- at the line behind its inverse
  behind_rows : Where

-- the line that is named, in a block whose solution line has this number
abbrev pub line_at : ℕ → Block → Where → ℕ
line_at first b at_solution = first
line_at first b (at_part i) = first + 1 + i
line_at first b behind_rows = first + 1 + 2 * count_of b.size

pub record Broken : Type 0 where
  pub rule : Rule
  pub place : Where

-- ---- what a block claims, and what is due

-- what the certificate's numbers are computed from
pub record Claim : Type 0 where
  pub centre : List ℤ
  pub inverse : List (List ℤ)
  pub mismatch : List ℤ

-- what the controls are sampled from
pub record Ball : Type 0 where
  pub centre : List ℤ
  pub radii : List ℤ

-- what comes of the samples at a ball
pub data Sampled : Type 0 where
  undecided : Sampled
  -- these acts, none where the settle ends
  moves : List Act → Sampled
  -- acts would be due, and no more are allowed
  at_limit : Sampled

-- What judges a block: its due numbers, and the numbers of the certificate of the network that it speaks of. The
-- mismatch is that of a row at a centre, in micro-units, the radius that of an unknown; the bound reaches one at an
-- unknown or doesn't.
pub record Judge : Type 0 where
  pub number : ℕ
  pub hour : ℕ
  pub round : ℕ
  pub size : ℕ
  pub mismatch : List ℤ → ℕ → ℕ
  pub reaches_one : Claim → ℕ → Bool
  pub radius : Claim → ℕ → ℕ
  pub sampled : Ball → Sampled

abbrev pub claim_of : Block → Claim
claim_of b = record {
  centre = map (λ p. p.centre) b.parts;
  inverse = b.inverse;
  mismatch = map (λ p. p.mismatch) b.parts;
}

abbrev pub ball_of : Block → Ball
ball_of b = record { centre = map (λ p. p.centre) b.parts; radii = map (λ p. p.radius) b.parts }

-- ---- a block for which all rules hold

-- the claims on an unknown and its row; outside the block there are none
abbrev pub part_of : Block → ℕ → Part
part_of b i = get_or b.parts i (record { centre = pos 0; radius = pos 0; mismatch = pos 0 })

abbrev pub row_of : Block → ℕ → List ℤ
row_of b i = get_or b.inverse i []

pub record IsDue (judge : Judge) (b : Block) : Type 0 where
  pub number : b.number ≡ pos judge.number
  pub hour : b.hour ≡ pos judge.hour
  pub round : b.round ≡ pos judge.round
  pub size : b.size ≡ pos judge.size

pub record IsInRange (b : Block) (i : ℕ) : Type 0 where
  pub centre : unsigned_abs (part_of b i).centre ≤ 2 ^ 40
  pub radius : unsigned_abs (part_of b i).radius ≤ 2 ^ 40
  pub not_negative : pos 0 ≤ℤ (part_of b i).radius
  pub entries : AllByRecursion (λ e. unsigned_abs e ≤ 2 ^ 56) (row_of b i)

-- each rule at each unknown; the samples of the ball decide the acts
pub record Holds (judge : Judge) (b : Block) : Type 0 where
  pub due : IsDue judge b
  pub range : (i : ℕ) → i < judge.size → IsInRange b i
  pub mismatch : (i : ℕ) → i < judge.size
      → (pos (judge.mismatch (claim_of b).centre i) ≤ℤ (part_of b i).mismatch) × ((part_of b i).mismatch ≤ℤ pos 1000)
  pub bound : (i : ℕ) → i < judge.size → judge.reaches_one (claim_of b) i ≡ false
  pub radius : (i : ℕ) → i < judge.size → pos (judge.radius (claim_of b) i) ≤ℤ (part_of b i).radius
  pub acts : judge.sampled (ball_of b) ≡ moves b.acts

-- ---- the first rule that a block breaks

-- a block of this number, hour, round and size
abbrev pub is_numbered : ℕ → ℕ → ℕ → ℕ → Block → Bool
is_numbered number hour round size b =
    is_place number b.number && (is_place hour b.hour && (is_place round b.round && is_place size b.size))

abbrev pub is_due : Judge → Block → Bool
is_due judge b = is_numbered judge.number judge.hour judge.round judge.size b

abbrev pub is_within : ℕ → ℤ → Bool
is_within limit z = nat_le (unsigned_abs z) limit

abbrev pub is_in_range : Block → ℕ → Bool
is_in_range b i =
    is_within (2 ^ 40) (part_of b i).centre
    && (is_within (2 ^ 40) (part_of b i).radius
    && (int_le (pos 0) (part_of b i).radius && list_all (is_within (2 ^ 56)) (row_of b i)))

abbrev pub is_mismatch : Judge → Block → ℕ → Bool
is_mismatch judge b i =
    int_le (pos (judge.mismatch (claim_of b).centre i)) (part_of b i).mismatch
    && int_le (part_of b i).mismatch (pos 1000)

abbrev pub is_radius : Judge → Block → ℕ → Bool
is_radius judge b i = int_le (pos (judge.radius (claim_of b) i)) (part_of b i).radius

abbrev pub same_act : Act → Act → Bool
same_act a b = int_eq a.time b.time && (int_eq a.control b.control && int_eq a.steps b.steps)

abbrev pub is_undecided : Sampled → Bool
is_undecided undecided = true
is_undecided other = false

abbrev pub is_limit : Sampled → Bool
is_limit at_limit = true
is_limit other = false

-- at the control limit no acts are due
abbrev pub acts_due : Sampled → List Act
acts_due (moves acts) = acts
acts_due other = []

-- the least of n places from i on at which a test fails
abbrev pub least_from : ℕ → ℕ → (ℕ → Bool) → Option ℕ
least_from i zero test = None
least_from i (suc n) test = if test i then least_from (suc i) n test else Some i

abbrev pub broken_by : Rule → Option ℕ → Option Broken
broken_by rule None = None
broken_by rule (Some i) = Some (record { rule = rule; place = at_part i })

abbrev pub unless : Rule → Where → Bool → Option Broken
unless rule place true = None
unless rule place false = Some (record { rule = rule; place = place })

abbrev pub unless_at : Rule → ℕ → (ℕ → Bool) → Option Broken
unless_at rule n test = broken_by rule (least_from 0 n test)

-- the rules on what a block claims, in order, with the place at which the block breaks each
abbrev pub claim_rules : Judge → Block → List (Option Broken)
claim_rules judge b =
    unless Size at_solution (is_due judge b)
    ∷ unless_at Range judge.size (is_in_range b)
    ∷ unless_at Mismatch judge.size (is_mismatch judge b)
    ∷ unless_at Bound judge.size (λ i. not (judge.reaches_one (claim_of b) i))
    ∷ unless_at Radius judge.size (is_radius judge b)
    ∷ []

-- those on its samples and its acts
abbrev pub act_rules : Judge → Block → List (Option Broken)
act_rules judge b =
    unless Undecided behind_rows (not (is_undecided (judge.sampled (ball_of b))))
    ∷ unless Acts behind_rows (pointwise same_act (acts_due (judge.sampled (ball_of b))) b.acts)
    ∷ unless ControlLimit behind_rows (not (is_limit (judge.sampled (ball_of b))))
    ∷ []

abbrev pub rules : Judge → Block → List (Option Broken)
rules judge b = claim_rules judge b ++ act_rules judge b

abbrev pub first_some : {X : Type 0} → List (Option X) → Option X
first_some [] = None
first_some (None ∷ os) = first_some os
first_some (Some x ∷ os) = Some x

unfoldable pub first_broken : Judge → Block → Option Broken
first_broken judge b = first_some (rules judge b)
