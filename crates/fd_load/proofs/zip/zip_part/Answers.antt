use Rattle.std.proofs.Common.{◌≡◌, ◌*◌, ◌≤◌, ◌<◌, ◌^◌, ℤ, pos, ◌≤ℤ◌, nat_abs, FitsSigned, arith, sym, subst}
use Rattle.std.specs.Int.{w128}
use Rattle.std.proofs.lemmas.Int.{ints, to_z-of_z, fits_signed_from_abs}
use Rattle.fd_system.specs.fd_exact.ReadBack.{read_back}
use Rattle.fd_load.proofs.zip.zip_part.Goals as goal

fits : (z : ℤ) → pos 0 ≤ℤ z → z ≤ℤ pos (2 * 10 ^ 12) → FitsSigned w128 z
fits z h k = fits_signed_from_abs w128 z (omega (arith, ints, h, k))

both : (a b c d : ℤ) → a ≡ b → c ≡ d → a ≤ℤ c → b ≤ℤ d
both a b c d e f h = subst (λ z. z ≤ℤ d) e (subst (λ z. a ≤ℤ z) f h)

pub returns-clause-small : goal.returns-clause-small
returns-clause-small c =
    let zip = c.args.zip.now in
    let v = c.requires.zip.voltages c.args.model c.args.shares.now in
    let vn = sym (to_z-of_z w128 zip.vn (fits zip.vn (omega (arith, ints, v.nominal_least)) (omega (arith, ints, v.nominal_most)))) in
    let low = sym (to_z-of_z w128 zip.vlo
    (fits zip.vlo (omega (arith, ints, v.low_least)) (omega (arith, ints, v.low_most, v.nominal_most)))) in
    let high = sym (to_z-of_z w128 zip.vhi
    (fits zip.vhi (omega (arith, ints, v.high_least, v.nominal_least)) (omega (arith, ints, v.high_most)))) in
    record {
      voltages = record {
        nominal_least = subst (λ z. pos (5 * 10 ^ 6) ≤ℤ z) vn v.nominal_least;
        nominal_most = subst (λ z. z ≤ℤ pos (10 ^ 12)) vn v.nominal_most;
        low_least = subst (λ z. pos (2 * 10 ^ 6) ≤ℤ z) low v.low_least;
        low_most = both zip.vlo _ zip.vn _ low vn v.low_most;
        high_least = both zip.vn _ zip.vhi _ vn high v.high_least;
        high_most = subst (λ z. z ≤ℤ pos (2 * 10 ^ 12)) high v.high_most;
      };
      p = subst (λ z. nat_abs z ≤ 10 ^ 18) (sym (read_back c.share_of.result (10 ^ 18) c.share_of.ensures.most (omega arith))) c.share_of.ensures.most;
      q = subst (λ z. nat_abs z ≤ 10 ^ 18) (sym (read_back c.share_of-2.result (10 ^ 18) c.share_of-2.ensures.most (omega arith)))
          c.share_of-2.ensures.most;
    }
