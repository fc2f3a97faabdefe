-- The impedances of a source from its parts.
use Rattle.std.proofs.Common.{◌≡◌, ℕ, ◌*◌, ◌≤◌, ◌^◌, ℤ, pos, arith, subst, sym, ◌∙◌}
use Rattle.std.specs.Int.{w128, cast_signed}
use Rattle.std.proofs.lemmas.Int.{ints}
use Rattle.fd_source.specs.declared.data.Ohms.{Ohms}
use Rattle.fd_source.specs.declared.data.ShortCircuit.{ShortCircuit}
use Rattle.fd_source.specs.Powers.{AreWithin, KeepsSize, IsGreatest, ohms_of, one_phase_size, positive_reactance, positive_resistance, ratio_of, reactance_by, three_phase_size, zero_reactance, zero_resistance}
use Rattle.fd_source.proofs.Greatest.{are_greatest, greatest_same}

-- a natural in the code's signed type
pub shown : (n : ℕ) → n ≤ 10 ^ 14 → cast_signed w128 n ≡ pos n
shown n h = omega (arith, ints)

abbrev of_parts : ℕ → ℕ → ℕ → ℕ → Ohms
of_parts a b d e = record { r1 = pos a; x1 = pos b; r0 = pos d; x0 = pos e }

pub ohms_are : (s : ShortCircuit) (three one : ℕ) (x y : ℤ) (a b d e : ℕ) → three ≡ three_phase_size s
    → one ≡ one_phase_size s → x ≡ s.x1r1 → y ≡ s.x0r0
    → IsGreatest (KeepsSize 0 0 (ratio_of x) three) a → b ≡ reactance_by (ratio_of x) a
    → IsGreatest (KeepsSize (2 * a) (2 * b) (ratio_of y) (3 * one)) d → e ≡ reactance_by (ratio_of y) d
    → of_parts a b d e ≡ ohms_of s
ohms_are s three one x y a b d e ht ho hx hy g1 e1 g0 e0 =
    let p = ratio_of s.x1r1 in
    let q = ratio_of s.x0r0 in
    let r1 = positive_resistance s in
    let x1 = positive_reactance s in
    let size = three_phase_size s in
    let h1 = subst (λ t. IsGreatest (KeepsSize 0 0 p t) a) ht (subst (λ z. IsGreatest (KeepsSize 0 0 (ratio_of z) three) a) hx g1) in
    let ea : a ≡ r1 = greatest_same (KeepsSize 0 0 p size) a r1 h1 (are_greatest s).r1 in
    let eb : b ≡ x1 = e1 ∙ (λ i. reactance_by (ratio_of (hx i)) (ea i)) in
    let k0 = subst (λ z. IsGreatest (KeepsSize (2 * a) (2 * b) (ratio_of z) (3 * one)) d) hy g0 in
    let k1 = subst (λ t. IsGreatest (KeepsSize (2 * a) (2 * b) q (3 * t)) d) ho k0 in
    let k2 = subst (λ t. IsGreatest (KeepsSize (2 * t) (2 * b) q (3 * one_phase_size s)) d) ea k1 in
    let k3 = subst (λ t. IsGreatest (KeepsSize (2 * r1) (2 * t) q (3 * one_phase_size s)) d) eb k2 in
    let ed : d ≡ zero_resistance s = greatest_same (KeepsSize (2 * r1) (2 * x1) q (3 * one_phase_size s)) d (zero_resistance s) k3 (are_greatest s).r0 in
    let ee : e ≡ zero_reactance s = e0 ∙ (λ i. reactance_by (ratio_of (hy i)) (ed i)) in
    λ i. record { r1 = pos (ea i); x1 = pos (eb i); r0 = pos (ed i); x0 = pos (ee i) }

pub are_within : (a b d e : ℕ) → a ≤ 3 * 10 ^ 13 → b ≤ 3 * 10 ^ 13 → d ≤ 3 * 10 ^ 13 → e ≤ 3 * 10 ^ 13
    → AreWithin (of_parts a b d e)
are_within a b d e ha hb hd he = record {
  r1 = record { least = omega (arith, ints); most = omega (arith, ints) };
  x1 = record { least = omega (arith, ints); most = omega (arith, ints) };
  r0 = record { least = omega (arith, ints); most = omega (arith, ints) };
  x0 = record { least = omega (arith, ints); most = omega (arith, ints) };
}

-- the same in the code's signed type
pub shown_parts : (P : Ohms → Type 0) (a b d e : ℕ) → a ≤ 10 ^ 14 → b ≤ 10 ^ 14 → d ≤ 10 ^ 14 → e ≤ 10 ^ 14
    → P (of_parts a b d e)
    → P (record { r1 = cast_signed w128 a; x1 = cast_signed w128 b; r0 = cast_signed w128 d; x0 = cast_signed w128 e })
shown_parts P a b d e ha hb hd he p =
    let pa = shown a ha in
    let pb = shown b hb in
    let pd = shown d hd in
    let pe = shown e he in
    let same : of_parts a b d e ≡ record { r1 = cast_signed w128 a; x1 = cast_signed w128 b; r0 = cast_signed w128 d; x0 = cast_signed w128 e }
    = λ i. record { r1 = sym pa i; x1 = sym pb i; r0 = sym pd i; x0 = sym pe i } in
    subst P same p
