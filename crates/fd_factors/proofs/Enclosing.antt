-- The law of factors, and the enclosure that it gives.
use Rattle.std.proofs.Common.{◌≡◌, ◌∙◌, ℕ, zero, suc, ◌+◌, ◌*◌, ◌<◌, ◌≤◌, ◌^◌, ℤ, pos, ◌*ℤ◌, arith, ap, subst, inl, inr, lit<}
use Rattle.std.specs.Int.RustNames.{unsigned_abs}
use Rattle.std.proofs.Math.Nat.{mul-le-mul_left, mul-le-mul_right, le_of_lt}
use Rattle.std.proofs.lemmas.Bool.{cases_lt}
use Rattle.std.proofs.lemmas.Int.{unsigned_abs-mul}
use Rattle.std.proofs.lemmas.List.Elements.{All-tail}
use Rattle.fd_exact.specs.Greatest.{greatest_ratio}
use Rattle.fd_exact.specs.Integers.{as_val, vals, val-same}
use Rattle.fd_exact.specs.Near.{row_from_fractions}
use Rattle.fd_exact.specs.States.{away}
use Rattle.fd_exact.specs.SumLaws.{sum_n-same, sum_n-times, sum_z-same, sum_z-times}
use Rattle.fd_exact.specs.Sums.{sum_n, sum_z}
use Rattle.fd_factors.specs.Comparison.{HoldsDown, StandsAbove}
use Rattle.fd_factors.specs.Enclosure.{EnclosureLaw}
use Rattle.fd_factors.specs.Factors.{BoundsUnknown, DerivedRow, Entry, HasPlaces, FactorLaw, IsAbove, RowsHold, allowance, defect, sizes_at, slack, weighted_size}
use Rattle.fd_factors.proofs.Compare.{compared, factor_positive, others, weighted}
use Rattle.fd_factors.proofs.Places.{row_n}
use Rattle.fd_factors.proofs.Product.{lower_row, reach_ratio, reach_times, rest, side, upper_row}

-- an equation's size over the denominator d, where d rk is at most ak
scaled : (v sa sr b d rk ak : ℕ) → v ≤ sa + d * b → sa * rk ≤ ak * sr → d * rk ≤ ak → v * rk ≤ ak * (sr + b)
scaled v sa sr b d rk ak h e g =
    let p = mul-le-mul_right rk h in
    let q = mul-le-mul_right b g in
    omega arith

-- no room at the pivot
no_room : (p ak rk sa sr z h : ℕ) → p * ak ≤ sa + z → sa * rk ≤ ak * sr → z * rk ≤ ak * h → sr + h < p * rk → 0 < ak → ⊥
no_room p ak rk sa sr z h row weigh low above big =
    let a = mul-le-mul_right rk row in
    let t : suc (sr + h) ≤ p * rk = omega arith in
    let u = mul-le-mul_left ak t in
    omega arith

module _ (n m s : ℕ) (J : ℕ → ℕ → ℤ) (R : ℕ → ℕ → ℕ) (rows : ℕ → DerivedRow) (bounding : ℕ → ℕ) (b h r : ℕ → ℕ) (d : ℕ) (y : ℕ → ℤ)
    (stands : (i : ℕ) → i < m → IsAbove n m s J R rows b h r i) (bounded : (j : ℕ) → j < n → BoundsUnknown n m s J R rows b h r (bounding j) j)
    (hold : RowsHold n m s J R rows b d y) where
  abbrev a : ℕ → ℕ
  a j = unsigned_abs (y j)

  abbrev z : ℕ → ℕ
  z i = unsigned_abs (rest n m s J R rows y i)

  abbrev v : ℕ → ℕ
  v l = unsigned_abs (side n m s J R rows y l)

  abbrev E : ℕ → ℕ → ℕ
  E i j = unsigned_abs (defect n m s J R rows i j)

  module _ (k : ℕ) (k_in : k < n) (best : (j : ℕ) → j < n → a j * r k ≤ a k * r j) (big : d * r k < a k) where
    -- an equation is allowance by at most a_k / r_k times what it may be allowance by
    equation : (l : ℕ) → l < n → v l * r k ≤ a k * allowance n m s J R rows b h r l
    equation l l_in =
        scaled (v l) (sum_n (λ j. R l j * a j) n) (sum_n (λ j. R l j * r j) n) (s * b l)
        d (r k) (a k) (hold l l_in) (weighted (R l) a r n k best) (le_of_lt big)

    -- what rows leave, times r_k, is held down for a right side of a_k times the slack
    held : HoldsDown m (λ i. s) (λ i j. sizes_at (rows i).others j) (slack n m s J R rows b h r) (a k) (λ i. z i * r k)
    unfolding slack
    held i i_in =
        let placed = (stands i i_in).placed in
        let p = mul-le-mul_right (r k) (lower_row n m s J R rows y i) in
        let q = reach_ratio v (allowance n m s J R rows b h r) (r k) (a k) n (rows i).equations placed.equations equation in
        let w = weighted (E i) a r n k best in
        let u = row_n (λ j. z j * r k) m (rows i).others placed.others in
        let t = reach_times z (r k) (rows i).others in
        omega arith

    above : StandsAbove m (λ i. s) (λ i j. sizes_at (rows i).others j) (slack n m s J R rows b h r) h
    above i i_in =
        let u = row_n h m (rows i).others (stands i i_in).placed.others in
        let w = (stands i i_in).above in
        omega arith

    -- so what row i leaves is at most h_i times a_k / r_k
    left_low : (i : ℕ) → i < m → z i * r k ≤ a k * h i
    left_low = compared m (λ i. s) (λ i j. sizes_at (rows i).others j) (slack n m s J R rows b h r) (a k) (λ i. z i * r k) h held above

    -- and the row of k leaves no room
    full : (i : ℕ) → BoundsUnknown n m s J R rows b h r i k → ⊥
    full i bound =
        let inside = (stands i bound.row).placed.left in
        let p = upper_row n m s J R rows y i k bound.pivot bound.rest inside bound.left in
        let w = reach_ratio a r (r k) (a k) n bound.rest
        (All-tail (λ (u : Entry). u.0 < n) (k, bound.pivot) bound.rest (subst (HasPlaces n) bound.left inside)) best in
        no_room (unsigned_abs bound.pivot) (a k) (r k) (weighted_size bound.rest a) (weighted_size bound.rest r)
        (z i) (h i) p w (left_low i bound.row) bound.above (omega arith)

  top_low : (k : ℕ) → k < n → ((j : ℕ) → j < n → a j * r k ≤ a k * r j) → a k ≤ d * r k
  top_low k k_in best =
      elim (cases_lt (d * r k) (a k)) [ inl p ↦ absurd (full k k_in best p (bounding k) (bounded k k_in)) | inr p ↦ omega arith ]

pub factored : FactorLaw
factored zero m s J R rows bounding b h r d y stands bounded hold i i_in = absurd (omega arith)
factored (suc n) m s J R rows bounding b h r d y stands bounded hold i i_in =
    let positive : (j : ℕ) → j < suc n → 0 < r j = λ j p. factor_positive _ (unsigned_abs (bounded j p).pivot) (r j) (bounded j p).above in
    let (k, k_in, best) = greatest_ratio (λ j. unsigned_abs (y j)) r n positive in
    others (unsigned_abs (y i)) (r i) (unsigned_abs (y k)) (r k) d (positive k k_in) (best i i_in)
    (top_low (suc n) m s J R rows bounding b h r d y stands bounded hold k k_in best)

-- a row of J times v y is v times the row times y
moved_v : (J y : ℕ → ℤ) (v n : ℕ) → sum_z (λ j. J j *ℤ (pos v *ℤ y j)) n ≡ pos v *ℤ sum_z (λ j. J j *ℤ y j) n
moved_v J y v n =
    sum_z-same (λ j. J j *ℤ (pos v *ℤ y j)) (λ j. pos v *ℤ (J j *ℤ y j)) n (λ j p. turned (J j) (y j) v) ∙ sum_z-times (pos v) (λ j. J j *ℤ y j) n
  where
    turned : (p q : ℤ) (m : ℕ) → p *ℤ (pos m *ℤ q) ≡ pos m *ℤ (p *ℤ q)
    turned p q m = rw (as_val p, as_val q) (simp vals (val-same _ _ _ _ (omega arith)))

spanned_v : (R : ℕ → ℕ) (y : ℕ → ℤ) (v n : ℕ) → sum_n (λ j. R j * unsigned_abs (pos v *ℤ y j)) n ≡ v * sum_n (λ j. R j * unsigned_abs (y j)) n
spanned_v R y v n =
    sum_n-same (λ j. R j * unsigned_abs (pos v *ℤ y j)) (λ j. v * (R j * unsigned_abs (y j))) n (λ j p. turned (R j) (y j))
    ∙ sum_n-times v (λ j. R j * unsigned_abs (y j)) n
  where
    turned : (p : ℕ) (q : ℤ) → p * unsigned_abs (pos v *ℤ q) ≡ v * (p * unsigned_abs q)
    turned p q = rw (unsigned_abs-mul (pos v) q) (omega arith)

-- a row in the units of the radii
row_v : (t : ℤ) (w : ℤ) (n m v o s e : ℕ) → unsigned_abs t ≤ n + 2 * e * (o * s) → w ≡ pos v *ℤ t → m ≡ v * n
    → unsigned_abs w ≤ m + o * (s * (v * (2 * e)))
row_v t w n m v o s e h f g =
    let a = unsigned_abs-mul (pos v) t in
    let b = ap unsigned_abs f in
    let c = mul-le-mul_left v h in
    omega arith

pub enclosed : EnclosureLaw
enclosed n m F box c J R rows bounding e v h r over_positive follows centre stands bounded x over inside meets i i_in =
    let y = away c x in
    let g = factored n m (2 ^ 40) J R rows bounding (λ l. v * (2 * e l)) h r x.over (λ j. pos v *ℤ y j) stands bounded
    (λ l p. row_v (sum_z (λ j. J l j *ℤ y j) n) (sum_z (λ j. J l j *ℤ (pos v *ℤ y j)) n) (sum_n (λ j. R l j * unsigned_abs (y j)) n)
    (sum_n (λ j. R l j * unsigned_abs (pos v *ℤ y j)) n) v x.over (2 ^ 40) (e l)
    (row_from_fractions (F x l) (F (record { parts = c; over = 1 }) l) (sum_z (λ j. J l j *ℤ y j) n)
    (sum_n (λ j. R l j * unsigned_abs (y j)) n) (e l) (x.over * 2 ^ 40)
    (over_positive x l over) (over_positive (record { parts = c; over = 1 }) l (lit< tt)) (follows x over inside l p) (meets l p) (centre l p))
    (moved_v (J l) y v n) (spanned_v (R l) y v n)) i i_in in
    let a = unsigned_abs-mul (pos v) (y i) in
    omega arith
