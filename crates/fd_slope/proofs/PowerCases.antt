-- The change of a current over the clamped square, in every case.
use Rattle.std.proofs.Common.{◌≡◌, ◌⊎◌, ℕ, ◌+◌, ◌*◌, ◌<◌, ◌≤◌, ◌^◌, ℤ, pos, ◌+ℤ◌, ◌-ℤ◌, ◌*ℤ◌, Bool, true, false, cond, ◌&&◌, ◌||◌, nat_le, arith, inl, inr}
use Rattle.std.specs.Int.RustNames.{unsigned_abs}
use Rattle.std.proofs.lemmas.Bool.{and_from, and_parts, or_cases}
use Rattle.fd_load.specs.fd_exact.Fractions.{Near, fraction}
use Rattle.fd_load.specs.fd_system.Loads.{clamp, square_of}
use Rattle.fd_slope.specs.Radii.{square_moves}
use Rattle.fd_slope.proofs.PowerAcross.{power_across, power_across_flat, power_outside, radius_across_of}
use Rattle.fd_slope.proofs.PowerInside.{PowerRow, power_inside, radius_inside_of}

at_most : (a b : ℕ) → nat_le a b ≡ true → a ≤ b
at_most a b e = grind arith

-- the tests of a box
abbrev pub stays_inside : ℕ → ℕ → ℕ → ℕ → Bool
stays_inside u e lo hi = nat_le (lo + e) u && nat_le (u + e) hi

abbrev pub stays_outside : ℕ → ℕ → ℕ → ℕ → Bool
stays_outside u e lo hi = nat_le (u + e) lo || nat_le (hi + e) u

abbrev pub lies_inside : ℕ → ℕ → ℕ → Bool
lies_inside u lo hi = nat_le lo u && nat_le u hi

pub inside_facts : (u e lo hi : ℕ) → stays_inside u e lo hi ≡ true → (lo + e ≤ u) × (u + e ≤ hi)
inside_facts u e lo hi h = let f = and_parts (nat_le (lo + e) u) (nat_le (u + e) hi) h in (at_most _ _ f.0, at_most _ _ f.1)

pub outside_facts : (u e lo hi : ℕ) → stays_outside u e lo hi ≡ true → (u + e ≤ lo) ⊎ (hi + e ≤ u)
outside_facts u e lo hi h = elim (or_cases (nat_le (u + e) lo) (nat_le (hi + e) u) h) [ inl s ↦ inl (at_most _ _ s) | inr s ↦ inr (at_most _ _ s) ]

lies_facts : (u lo hi : ℕ) → lies_inside u lo hi ≡ true → (lo ≤ u) × (u ≤ hi)
lies_facts u lo hi h = let f = and_parts (nat_le lo u) (nat_le u hi) h in (at_most _ _ f.0, at_most _ _ f.1)

reaches : (a b : ℕ) → a ≤ b → nat_le a b ≡ true
reaches a b h = grind arith

-- a box that stays inside has its centre inside
pub inside_lies : (u e lo hi : ℕ) → stays_inside u e lo hi ≡ true → lies_inside u lo hi ≡ true
inside_lies u e lo hi h =
    let f = inside_facts u e lo hi h in
    and_from (nat_le lo u) (nat_le u hi) (reaches lo u (omega (arith, f.0))) (reaches u hi (omega (arith, f.1)))

-- a box that stays outside, with its centre inside, has no room and stays inside too
pub both_ways : (u e lo hi : ℕ) → lies_inside u lo hi ≡ true → stays_outside u e lo hi ≡ true
    → stays_inside u e lo hi ≡ true
both_ways u e lo hi h k =
    let f = lies_facts u lo hi h in
    elim (outside_facts u e lo hi k) [
      | inl s ↦ and_from (nat_le (lo + e) u) (nat_le (u + e) hi) (reaches (lo + e) u (omega (arith, f.0, f.1))) (reaches (u + e) hi (omega (arith, f.0, f.1)))
      | inr s ↦ and_from (nat_le (lo + e) u) (nat_le (u + e) hi) (reaches (lo + e) u (omega (arith, f.0, f.1))) (reaches (u + e) hi (omega (arith, f.0, f.1)))
    ]

pub true_false : (t : Bool) → t ≡ true → t ≡ false → ⊥
true_false true e f = cc
true_false false e f = cc

-- a rounded slope S is at most two units away from the exact one
abbrev pub IsRounded : Bool → ℤ → ℤ → ℤ → ℕ → ℤ → Type 0
IsRounded t α v N c S = Near (cond t (fraction (α *ℤ pos c -ℤ pos 2 *ℤ v *ℤ N) (c * c)) (fraction α c)) S 2 (2 ^ 40)

abbrev pub power_radius_of : Bool → Bool → ℕ → ℕ → ℕ → ℤ → ℤ → ℕ → ℕ → ℕ
power_radius_of t1 t3 G lo c p q rp rq = cond t1 (radius_inside_of G lo c p q rp rq) (cond t3 0 (radius_across_of G lo c p q rp rq))

pub power_by : (α β p q x y S1 S2 : ℤ) (G lo hi rp rq d : ℕ) (t1 t2 t3 : Bool)
    → stays_inside (square_of p q) (square_moves p q rp rq) lo hi ≡ t1
    → lies_inside (square_of p q) lo hi ≡ t2
    → stays_outside (square_of p q) (square_moves p q rp rq) lo hi ≡ t3
    → 0 < d → 0 < lo → lo ≤ hi → unsigned_abs α + unsigned_abs β ≤ G
    → unsigned_abs (x -ℤ pos d *ℤ p) ≤ d * rp → unsigned_abs (y -ℤ pos d *ℤ q) ≤ d * rq
    → (let c = clamp (square_of p q) lo hi in
    IsRounded t2 α p (α *ℤ p +ℤ β *ℤ q) c S1 → IsRounded t2 β q (α *ℤ p +ℤ β *ℤ q) c S2
    → PowerRow α β p q x y lo hi d S1 S2 (power_radius_of t1 t3 G lo c p q rp rq))
power_by α β p q x y S1 S2 G lo hi rp rq d true true t3 e1 e2 e3 d_pos lo_pos lim hG ha hb h1 h2 =
    let f = inside_facts (square_of p q) (square_moves p q rp rq) lo hi e1 in
    let low = f.0 in
    let high = f.1 in
    let c_is : clamp (square_of p q) lo hi ≡ square_of p q = omega arith in
    rw c_is (power_inside α β p q x y S1 S2 G lo hi rp rq d d_pos lo_pos hG low high ha hb (rw c_is at h1) (rw c_is at h2))
power_by α β p q x y S1 S2 G lo hi rp rq d true false t3 e1 e2 e3 d_pos lo_pos lim hG ha hb h1 h2 =
    absurd (true_false _ (inside_lies (square_of p q) (square_moves p q rp rq) lo hi e1) e2)
power_by α β p q x y S1 S2 G lo hi rp rq d false true false e1 e2 e3 d_pos lo_pos lim hG ha hb h1 h2 =
    power_across α β p q x y S1 S2 G lo hi rp rq d d_pos lo_pos hG lim ha hb h1 h2
power_by α β p q x y S1 S2 G lo hi rp rq d false true true e1 e2 e3 d_pos lo_pos lim hG ha hb h1 h2 =
    absurd (true_false _ (both_ways (square_of p q) (square_moves p q rp rq) lo hi e2 e3) e1)
power_by α β p q x y S1 S2 G lo hi rp rq d false false false e1 e2 e3 d_pos lo_pos lim hG ha hb h1 h2 =
    power_across_flat α β p q x y S1 S2 G lo hi rp rq d d_pos lo_pos hG lim ha hb h1 h2
power_by α β p q x y S1 S2 G lo hi rp rq d false false true e1 e2 e3 d_pos lo_pos lim hG ha hb h1 h2 =
    power_outside α β p q x y S1 S2 lo hi rp rq d d_pos lo_pos lim ha hb (outside_facts (square_of p q) (square_moves p q rp rq) lo hi e3) h1 h2
