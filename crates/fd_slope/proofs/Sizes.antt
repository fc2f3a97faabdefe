-- How large the parts of a radius are.
use Rattle.std.proofs.Common.{◌≡◌, ℕ, ◌+◌, ◌*◌, ◌≤◌, ◌^◌, max, ℤ, nat_abs, true, arith, inl, inr}
use Rattle.std.proofs.Math.Nat.{mul-le-mul}
use Rattle.std.proofs.lemmas.Bool.{cases_lt}
use Rattle.fd_load.specs.fd_system.declared.loads.LoadPhase.{LoadPhase}
use Rattle.fd_load.specs.fd_system.Loads.{square_of}
use Rattle.fd_load.specs.Current.{clamped_square, largest}
use Rattle.fd_slope.specs.Radii.{square_moves, square_stays_inside}
use Rattle.fd_slope.proofs.PowerCases.{inside_facts}

pub square_most : (p q : ℤ) → nat_abs p ≤ 2 ^ 41 → nat_abs q ≤ 2 ^ 41 → square_of p q ≤ 2 ^ 83
square_most p q h k = omega (arith, mul-le-mul h h, mul-le-mul k k)

part_square : (a b : ℕ) → max a b * max a b ≤ a * a + b * b
part_square a b =
    elim (cases_lt a b) [
      | inl s ↦ let e : max a b ≡ b = omega arith in rw e (omega arith)
      | inr s ↦ let e : max a b ≡ a = omega arith in rw e (omega arith)
    ]

-- where the square stays inside, the square of the greater part is at most the clamped square
pub inside_part : (w : LoadPhase) (p q : ℤ) (rp rq : ℕ) → square_stays_inside w p q rp rq ≡ true
    → largest p q * largest p q ≤ clamped_square w p q
inside_part w p q rp rq e =
    let f = inside_facts (square_of p q) (square_moves p q rp rq) (nat_abs w.vlo * nat_abs w.vlo) (nat_abs w.vhi * nat_abs w.vhi) e in
    let low = f.0 in
    let high = f.1 in
    let part = part_square (nat_abs p) (nat_abs q) in
    omega arith

-- products of sizes
pub product_most : (x y m n k : ℕ) → x ≤ m → y ≤ n → m * n ≤ k → x * y ≤ k
product_most x y m n k h l e = omega (arith, mul-le-mul h l)
