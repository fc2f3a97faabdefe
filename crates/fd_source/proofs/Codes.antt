-- The voltages and impedances of a source, from the numbers that a body computes with.
use Rattle.std.proofs.Common.{◌≡◌, ◌∙◌, ℕ, ◌*◌, ◌≤◌, ◌^◌, ℤ, pos, neg_ℤ, ◌+ℤ◌, ◌*ℤ◌, ◌≤ℤ◌, nat_abs, FitsSigned, to_z, of_z, arith, ap, lit<, sym, subst}
use Rattle.std.specs.Int.{w128}
use Rattle.std.proofs.lemmas.Int.{ints, to_z-of_z, fits_signed_from_abs}
use Rattle.fd_system.specs.fd_exact.Nearest.{near_within}
use Rattle.fd_system.specs.fd_exact.Ranges.{UpTo}
use Rattle.fd_system.specs.fd_exact.ReadBack.{product_fits, product_is, product_most, read_back}
use Rattle.fd_system.specs.fd_exact.Rounding.{floor_div, near_div}
use Rattle.fd_system.specs.Series.{three_times}
use Rattle.fd_source.specs.Phasors.{cosine}
use Rattle.fd_source.specs.Equations.{ohms_by}

-- ---- a voltage times a cosine

module _ (volts turn : ℤ) (steps : ℕ) (fv : FitsSigned w128 volts) (v : UpTo (2 * 10 ^ 12) volts)
    (is : turn ≡ cosine steps) (h : nat_abs turn ≤ 10 ^ 15) where
  turn_fits : FitsSigned w128 turn
  turn_fits = fits_signed_from_abs w128 turn (omega (arith, h))

  size : nat_abs volts ≤ 2 * 10 ^ 12
  size = omega (arith, ints, v.least, v.most)

  pub turned_fits : FitsSigned w128 (to_z w128 (of_z w128 volts) *ℤ to_z w128 (of_z w128 turn))
  turned_fits =
      product_fits volts turn (2 * 10 ^ 12) (10 ^ 15) (to_z-of_z w128 volts fv) (to_z-of_z w128 turn turn_fits) size h (lit< tt)

  code_is : to_z w128 (of_z w128 (to_z w128 (of_z w128 volts) *ℤ to_z w128 (of_z w128 turn))) ≡ (volts *ℤ turn)
  code_is =
      product_is volts turn (2 * 10 ^ 12) (10 ^ 15) (to_z-of_z w128 volts fv) (to_z-of_z w128 turn turn_fits) size h (lit< tt)

  most : nat_abs (volts *ℤ turn) ≤ 2 * 10 ^ 12 * 10 ^ 15
  most =
      product_most volts turn (2 * 10 ^ 12) (10 ^ 15) (to_z-of_z w128 volts fv) (to_z-of_z w128 turn turn_fits) size h (lit< tt)

  pub turned_room :
      nat_abs (to_z w128 (of_z w128 (to_z w128 (of_z w128 volts) *ℤ to_z w128 (of_z w128 turn)))) ≤ 2 ^ 126
  turned_room = subst (λ z. nat_abs z ≤ 2 ^ 126) (sym code_is) (omega (arith, most))

  pub component_is : (r : ℤ)
      → r ≡ near_div (to_z w128 (of_z w128 (to_z w128 (of_z w128 volts) *ℤ to_z w128 (of_z w128 turn)))) (10 ^ 15)
      → to_z w128 (of_z w128 r) ≡ near_div (volts *ℤ cosine steps) (10 ^ 15)
  component_is r e =
      let near : r ≡ near_div (volts *ℤ turn) (10 ^ 15) = e ∙ ap (λ z. near_div z (10 ^ 15)) code_is in
      let small : nat_abs r ≤ 2 * 10 ^ 12 =
      subst (λ z. nat_abs z ≤ 2 * 10 ^ 12) (sym near)
      (near_within (volts *ℤ turn) (10 ^ 15) (2 * 10 ^ 12) (lit< tt) most) in
      read_back r (2 * 10 ^ 12) small (lit< tt) ∙ near ∙ ap (λ t. near_div (volts *ℤ t) (10 ^ 15)) is

-- ---- an impedance

-- a sequence value is in the range of what three times an entry is computed from
pub sequence_within : (z : ℤ) → FitsSigned w128 z → UpTo (3 * 10 ^ 13) z → UpTo (10 ^ 16) (to_z w128 (of_z w128 z))
sequence_within z f h =
    subst (UpTo (10 ^ 16)) (sym (to_z-of_z w128 z f)) (record { least = h.least; most = omega (arith, ints, h.most) })

three_size : (z1 z0 t : ℤ) → UpTo (3 * 10 ^ 13) z1 → UpTo (3 * 10 ^ 13) z0 → neg_ℤ z1 ≤ℤ t
    → t ≤ℤ (pos 2 *ℤ z1 +ℤ z0) → nat_abs t ≤ 9 * 10 ^ 13
three_size z1 z0 t u v l h = omega (arith, ints, u.most, v.most, l, h)

module _ (z1 z0 t : ℤ) (k m : ℕ) (f1 : FitsSigned w128 z1) (f0 : FitsSigned w128 z0) (u : UpTo (3 * 10 ^ 13) z1)
    (v : UpTo (3 * 10 ^ 13) z0) (is : t ≡ three_times (to_z w128 (of_z w128 z1)) (to_z w128 (of_z w128 z0)) k m)
    (l : neg_ℤ (to_z w128 (of_z w128 z1)) ≤ℤ t)
    (h : t ≤ℤ (pos 2 *ℤ to_z w128 (of_z w128 z1) +ℤ to_z w128 (of_z w128 z0))) where
  three_is : t ≡ three_times z1 z0 k m
  three_is = is ∙ (λ i. three_times (to_z-of_z w128 z1 f1 i) (to_z-of_z w128 z0 f0 i) k m)

  three_most : nat_abs t ≤ 9 * 10 ^ 13
  three_most =
      let low = subst (λ z. neg_ℤ z ≤ℤ t) (to_z-of_z w128 z1 f1) l in
      let part = subst (λ z. t ≤ℤ (pos 2 *ℤ z +ℤ to_z w128 (of_z w128 z0))) (to_z-of_z w128 z1 f1) h in
      three_size z1 z0 t u v low (subst (λ z. t ≤ℤ (pos 2 *ℤ z1 +ℤ z)) (to_z-of_z w128 z0 f0) part)

  three_read : to_z w128 (of_z w128 t) ≡ t
  three_read = read_back t (9 * 10 ^ 13) three_most (lit< tt)

  pub three_room : nat_abs (to_z w128 (of_z w128 t)) * 1000 ≤ 2 ^ 126
  three_room = subst (λ z. nat_abs z * 1000 ≤ 2 ^ 126) (sym three_read) (omega (arith, three_most))

  module _ (r : ℤ) (e : r ≡ floor_div (to_z w128 (of_z w128 t) *ℤ pos 1000) 3)
      (w : (q : ℕ) → nat_abs (to_z w128 (of_z w128 t)) * 1000 ≤ q * 3 → nat_abs r ≤ q) where
    entry_size : nat_abs r ≤ 10 ^ 30
    entry_size = w (10 ^ 30) (subst (λ z. nat_abs z * 1000 ≤ 10 ^ 30 * 3) (sym three_read) (omega (arith, three_most)))

    entry_read : to_z w128 (of_z w128 r) ≡ r
    entry_read = read_back r (10 ^ 30) entry_size (lit< tt)

    pub entry_is : to_z w128 (of_z w128 r) ≡ ohms_by z1 z0 k m
    entry_is = entry_read ∙ e ∙ ap (λ z. floor_div (z *ℤ pos 1000) 3) (three_read ∙ three_is)

    pub entry_within : nat_abs (to_z w128 (of_z w128 r)) ≤ 10 ^ 30
    entry_within = subst (λ z. nat_abs z ≤ 10 ^ 30) (sym entry_read) entry_size
