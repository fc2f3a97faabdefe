-- The voltages of a source, as its constants have them.
use Rattle.std.proofs.Common.{◌≡◌, ◌∙◌, ℕ, zero, suc, ◌+◌, ◌*◌, ◌%◌, ◌<◌, ◌≤◌, ◌^◌, ℤ, pos, ◌*ℤ◌, nat_abs, List, [], ◌∷◌, ◌++◌, length, get_or, ◌⊎◌, ⊎_elim, refl, sym, ap, arith}
use Rattle.std.proofs.lemmas.List.{get_or-append-add, length-append}
use Rattle.std.proofs.Math.Nat.{mul-le-mul}
use Rattle.std.proofs.lemmas.Int.{ints, unsigned_abs-mul}
use Rattle.fd_pattern.specs.fd_load.fd_exact.Nearest.{near_within}
use Rattle.fd_pattern.specs.fd_load.fd_exact.Rounding.{near_div}
use Rattle.fd_pattern.specs.fd_load.fd_exact.States.{part}
use Rattle.fd_pattern.specs.fd_system.Contributions.{concat_below}
use Rattle.fd_source.specs.declared.data.SourceData.{SourceData}
use Rattle.fd_source.specs.Equations.{IsSource, phase_constants, source_constants}
use Rattle.fd_source.specs.Phasors.{cosine, cosines, steps_of, volts_im, volts_re}

-- ---- their places

-- behind a list of 2 n numbers
behind : (xs : List ℤ) (a b : ℤ) (j : ℕ) → part (xs ++ a ∷ b ∷ []) (length xs + j) ≡ part (a ∷ b ∷ []) j
behind xs a b j = get_or-append-add xs (a ∷ b ∷ []) j (pos 0)

before : (xs ys : List ℤ) (j : ℕ) → j < length xs → part (xs ++ ys) j ≡ part xs j
before [] ys j h = absurd (omega (arith, h))
before (x ∷ xs) ys zero h = refl
before (x ∷ xs) ys (suc j) h = before xs ys j (omega (arith, h))

two_longer : (xs : List ℤ) (a b : ℤ) → length (xs ++ a ∷ b ∷ []) ≡ length xs + 2
two_longer xs a b = length-append xs (a ∷ b ∷ [])

last_or : (k n : ℕ) → k < suc n → (k < n) ⊎ (k ≡ n)
last_or k n h = grind arith

module _ (s : SourceData) where
  count : (n : ℕ) → length (concat_below (phase_constants s) n) ≡ 2 * n
  count zero = refl
  count (suc n) = two_longer (concat_below (phase_constants s) n) (volts_re s n) (volts_im s n) ∙ more n (count n)
    where
      more : (n : ℕ) → length (concat_below (phase_constants s) n) ≡ 2 * n → length (concat_below (phase_constants s) n) + 2 ≡ 2 * suc n
      more n e = omega (arith, e)

  at : (n k j : ℕ) → k < n → j < 2 → part (concat_below (phase_constants s) n) (2 * k + j) ≡ part (phase_constants s k) j
  at zero k j h low = absurd (omega (arith, h))
  at (suc n) k j h low =
      ⊎_elim (λ (less : k < n). left less (at n k j less low)) (λ (same : k ≡ n). right same) (last_or k n h)
    where
      left : k < n → part (concat_below (phase_constants s) n) (2 * k + j) ≡ part (phase_constants s k) j
          → part (concat_below (phase_constants s) (suc n)) (2 * k + j) ≡ part (phase_constants s k) j
      left less e =
          before (concat_below (phase_constants s) n) (phase_constants s n) (2 * k + j) (inside less (count n)) ∙ e
        where
          inside : k < n → length (concat_below (phase_constants s) n) ≡ 2 * n → 2 * k + j < length (concat_below (phase_constants s) n)
          inside less e = omega (arith, less, low, e)

      right : k ≡ n → part (concat_below (phase_constants s) (suc n)) (2 * k + j) ≡ part (phase_constants s k) j
      right same =
          let place : 2 * k + j ≡ length (concat_below (phase_constants s) n) + j = omega (arith, same, count n) in
          ap (part (concat_below (phase_constants s) (suc n))) place
          ∙ behind (concat_below (phase_constants s) n) (volts_re s n) (volts_im s n) j
          ∙ ap (λ m. part (phase_constants s m) j) (sym same)

  pub re_is : (k : ℕ) → k < s.phases → part (source_constants s) (2 * k) ≡ volts_re s k
  re_is k h =
      let place : 2 * k ≡ 2 * k + 0 = omega arith in
      ap (part (source_constants s)) place ∙ at s.phases k 0 h (omega arith)

  pub im_is : (k : ℕ) → k < s.phases → part (source_constants s) (2 * k + 1) ≡ volts_im s k
  im_is k h = at s.phases k 1 h (omega arith)

-- ---- their sizes

cosine_most : (j : ℕ) → nat_abs (get_or cosines j (pos 0)) ≤ 10 ^ 15
cosine_most zero = omega arith
cosine_most (suc zero) = omega arith
cosine_most (suc (suc zero)) = omega arith
cosine_most (suc (suc (suc zero))) = omega arith
cosine_most (suc (suc (suc (suc zero)))) = omega arith
cosine_most (suc (suc (suc (suc (suc zero))))) = omega arith
cosine_most (suc (suc (suc (suc (suc (suc zero)))))) = omega arith
cosine_most (suc (suc (suc (suc (suc (suc (suc zero))))))) = omega arith
cosine_most (suc (suc (suc (suc (suc (suc (suc (suc zero)))))))) = omega arith
cosine_most (suc (suc (suc (suc (suc (suc (suc (suc (suc zero))))))))) = omega arith
cosine_most (suc (suc (suc (suc (suc (suc (suc (suc (suc (suc zero)))))))))) = omega arith
cosine_most (suc (suc (suc (suc (suc (suc (suc (suc (suc (suc (suc zero))))))))))) = omega arith
cosine_most (suc (suc (suc (suc (suc (suc (suc (suc (suc (suc (suc (suc j)))))))))))) = omega arith

component_most : (s : SourceData) (j : ℕ) → IsSource s → nat_abs (near_div (s.volts *ℤ get_or cosines j (pos 0)) (10 ^ 15)) ≤ 2 ^ 41
component_most s j h =
    let volts : nat_abs s.volts ≤ 2 * 10 ^ 12 = omega (arith, ints, h.volts.least, h.volts.most) in
    let product = mul-le-mul volts (cosine_most j) in
    let most : nat_abs (s.volts *ℤ get_or cosines j (pos 0)) ≤ 2 * 10 ^ 12 * 10 ^ 15 = rw (unsigned_abs-mul s.volts (get_or cosines j (pos 0))) product in
    let near = near_within (s.volts *ℤ get_or cosines j (pos 0)) (10 ^ 15) (2 * 10 ^ 12) (omega arith) most in
    omega (arith, near)

pub re_most : (s : SourceData) (k : ℕ) → IsSource s → nat_abs (volts_re s k) ≤ 2 ^ 41
re_most s k h = component_most s (steps_of s k % 12) h

pub im_most : (s : SourceData) (k : ℕ) → IsSource s → nat_abs (volts_im s k) ≤ 2 ^ 41
im_most s k h = component_most s ((steps_of s k + 9) % 12) h
