-- The residual in intervals: how far its ends are apart, and how large they are.
use Rattle.std.proofs.Common.{◌≡◌, ◌∙◌, ℕ, suc, ◌+◌, ◌*◌, ◌<◌, ◌≤◌, ◌^◌, ℤ, pos, ◌+ℤ◌, ◌-ℤ◌, ◌*ℤ◌, ◌≤ℤ◌, ◌<ℤ◌, nat_abs, Bool, true, false, cond, eqb, List, [], ◌∷◌, length, Some, arith, sym, subst, ◌⊎◌, ⊎_elim, lit<, lit≤}
use Rattle.std.specs.Int.{int_min, int_max}
use Rattle.std.specs.List.{fold, All}
use Rattle.std.proofs.lemmas.Int.{ints, clamps, unsigned_abs-mul}
use Rattle.std.proofs.lemmas.List.Elements.{All-head, All-tail, All-get_or}
use Rattle.std.proofs.Math.Nat.{mul-le-mul}
use Rattle.fd_mat.specs.fd_exact.Rounding.{floor_div, ceil_div, near_div}
use Rattle.fd_mat.specs.fd_exact.Fractions.{Fraction}
use Rattle.fd_mat.specs.fd_exact.Integers.{next-mul, last-mul, mul-add, add-mul}
use Rattle.fd_mat.specs.fd_exact.Nearest.{near_nearest}
use Rattle.fd_mat.specs.fd_exact.Order.{lt_of_scale, scale}
use Rattle.fd_mat.specs.fd_exact.Quotients.{floor-low, floor-high, ceil-high, ceil-low, floor-ceil}
use Rattle.fd_mat.specs.fd_exact.States.{part}
use Rattle.fd_pattern.specs.fd_arith.Limits.{Fits}
use Rattle.fd_pattern.specs.fd_arith.Interval.{Bounds, Holds, capped, outward, least, greatest, product, sum}
use Rattle.fd_pattern.specs.fd_arith.Capping.{capped-within}
use Rattle.fd_pattern.specs.fd_arith.declared.terms.Term.{Term}
use Rattle.fd_pattern.specs.fd_system.declared.constants.Constant.{Constant}
use Rattle.fd_pattern.specs.fd_system.Residual.{term_interval, with_constant, with_term, linear_interval}
use Rattle.fd_pattern.specs.Coefficients.{row_count}
use Rattle.fd_pattern.specs.Conditions.{IsLinear, IsKnown, IsPart}
use Rattle.fd_equations.specs.Enclosure.{EndsWithin}
use Rattle.fd_equations.proofs.Sizes.{part_size, small_size}

-- two ends at most w apart and at most m in size
pub record Narrow (a : Bounds) (w m : ℕ) : Type 0 where
  pub low : ℤ
  pub high : ℤ
  pub ends : a ≡ Some (low, high)
  pub order : low ≤ℤ high
  pub apart : high ≤ℤ (low +ℤ pos w)
  pub low_small : nat_abs low ≤ m
  pub high_small : nat_abs high ≤ m

fits_of : (z : ℤ) → nat_abs z ≤ 2 ^ 120 → Fits z
fits_of z h = (omega (arith, ints), omega (arith, ints))

pub narrow_ends : (lo hi : ℤ) (w m : ℕ) → m ≤ 2 ^ 120 → lo ≤ℤ hi → hi ≤ℤ (lo +ℤ pos w) → nat_abs lo ≤ m → nat_abs hi ≤ m → Narrow (capped lo hi) w m
narrow_ends lo hi w m few o a p q = record {
  low = lo;
  high = hi;
  ends = capped-within lo hi (fits_of lo (omega arith)) (fits_of hi (omega arith));
  order = o;
  apart = a;
  low_small = p;
  high_small = q;
}

sum_order : (a b c d : ℤ) → a ≤ℤ b → c ≤ℤ d → (a +ℤ c) ≤ℤ (b +ℤ d)
sum_order a b c d h k = omega (arith, ints)

sum_apart : (a b c d : ℤ) (w u : ℕ) → b ≤ℤ (a +ℤ pos w) → d ≤ℤ (c +ℤ pos u) → (b +ℤ d) ≤ℤ ((a +ℤ c) +ℤ pos (w + u))
sum_apart a b c d w u h k = omega (arith, ints)

sum_small : (a b : ℤ) (m k : ℕ) → nat_abs a ≤ m → nat_abs b ≤ k → nat_abs (a +ℤ b) ≤ m + k
sum_small a b m k h l = omega (arith, ints)

pub wider : (a : Bounds) (w u m k : ℕ) → w ≤ u → m ≤ k → Narrow a w m → Narrow a u k
wider a w u m k h j n = record {
  low = n.low;
  high = n.high;
  ends = n.ends;
  order = n.order;
  apart = wide n.low n.high w u h n.apart;
  low_small = small n.low_small j;
  high_small = small n.high_small j;
}
  where
    wide : (l g : ℤ) (w u : ℕ) → w ≤ u → g ≤ℤ (l +ℤ pos w) → g ≤ℤ (l +ℤ pos u)
    wide l g w u h a = omega (arith, ints)

    small : {a m k : ℕ} → a ≤ m → m ≤ k → a ≤ k
    small p q = omega arith

narrow_as : (a b : Bounds) (w m : ℕ) → b ≡ a → Narrow a w m → Narrow b w m
narrow_as a b w m e h = record {
  low = h.low;
  high = h.high;
  ends = e ∙ h.ends;
  order = h.order;
  apart = h.apart;
  low_small = h.low_small;
  high_small = h.high_small;
}

pub narrow_sum : (a b : Bounds) (w u m k : ℕ) → m + k ≤ 2 ^ 120 → Narrow a w m → Narrow b u k → Narrow (sum a b) (w + u) (m + k)
narrow_sum a b w u m k few h j =
    narrow_as _ (sum a b) (w + u) (m + k) (λ i. sum (h.ends i) (j.ends i))
    (narrow_ends (h.low +ℤ j.low) (h.high +ℤ j.high) (w + u) (m + k) few
    (sum_order h.low h.high j.low j.high h.order j.order) (sum_apart h.low h.high j.low j.high w u h.apart j.apart)
    (sum_small h.low j.low m k h.low_small j.low_small) (sum_small h.high j.high m k h.high_small j.high_small))

-- ---- a contribution

-- z / d lies within one of its nearest whole number
module _ (z : ℤ) (d : ℕ) (p : 0 < d) where
  floor_near : (near_div z d -ℤ pos 1) ≤ℤ floor_div z d
  floor_near =
      let n = near_nearest z d p in
      let step = last-mul (near_div z d) d in
      let less : (near_div z d -ℤ pos 1) <ℤ (floor_div z d +ℤ pos 1) =
      lt_of_scale (near_div z d -ℤ pos 1) (floor_div z d +ℤ pos 1) d
      (omega (arith, ints, n.close, floor-high z d p)) in
      omega (arith, ints)

  ceil_near : ceil_div z d ≤ℤ (near_div z d +ℤ pos 1)
  ceil_near =
      let n = near_nearest z d p in
      let step = next-mul (near_div z d) d in
      let less : (ceil_div z d -ℤ pos 1) <ℤ (near_div z d +ℤ pos 1) =
      lt_of_scale (ceil_div z d -ℤ pos 1) (near_div z d +ℤ pos 1) d (omega (arith, ints, n.close, ceil-low z d p)) in
      omega (arith, ints)

  ends_near : ceil_div z d ≤ℤ (floor_div z d +ℤ pos 1)
  ends_near =
      let less : (ceil_div z d -ℤ pos 1) <ℤ (floor_div z d +ℤ pos 1) =
      lt_of_scale (ceil_div z d -ℤ pos 1) (floor_div z d +ℤ pos 1) d
      (omega (arith, ints, ceil-low z d p, floor-high z d p)) in
      omega (arith, ints)

  pub narrow_outward : (b : ℕ) → b ≤ 2 ^ 100 → nat_abs (near_div z d) ≤ b → Narrow (outward z d) 1 (b + 1)
  narrow_outward b few h = narrow_ends (floor_div z d) (ceil_div z d) 1 (b + 1) (omega arith) (floor-ceil z d p) ends_near
      (omega (arith, ints, h, floor_near, floor-ceil z d p, ceil_near)) (omega (arith, ints, h, floor_near, floor-ceil z d p, ceil_near))

-- v times two numbers that are at most one apart
product_apart : (v f g : ℤ) → nat_abs v ≤ 2 ^ 40 → f ≤ℤ g → g ≤ℤ (f +ℤ pos 1) → nat_abs ((v *ℤ g) -ℤ (v *ℤ f)) ≤ 2 ^ 40
product_apart v f g h o a =
    ⊎_elim (λ (e : g ≡ f). rw e (omega (arith, ints)))
    (λ (e : g ≡ (f +ℤ pos 1)). rw (e, mul-add v f (pos 1)) (omega (arith, ints))) (split f g o a)
  where
    split : (f g : ℤ) → f ≤ℤ g → g ≤ℤ (f +ℤ pos 1) → (g ≡ f) ⊎ (g ≡ (f +ℤ pos 1))
    split f g o a = grind (arith, ints)

product_small : (v f : ℤ) → nat_abs v ≤ 2 ^ 40 → nat_abs f ≤ 2 ^ 54 + 1 → nat_abs (v *ℤ f) ≤ 2 ^ 40 * (2 ^ 54 + 1)
product_small v f h k = let e = unsigned_abs-mul v f in let b = mul-le-mul h k in omega arith

-- both products over 2^40, rounded outward
rounded_order : (l g : ℤ) → l ≤ℤ g → floor_div l (2 ^ 40) ≤ℤ ceil_div g (2 ^ 40)
rounded_order l g h = omega (arith, ints, floor-low l (2 ^ 40) (lit< tt), ceil-high g (2 ^ 40) (lit< tt))

rounded_apart : (l g : ℤ) → g ≤ℤ (l +ℤ pos (2 ^ 40)) → ceil_div g (2 ^ 40) ≤ℤ (floor_div l (2 ^ 40) +ℤ pos 2)
rounded_apart l g h = omega (arith, ints, floor-high l (2 ^ 40) (lit< tt), ceil-low g (2 ^ 40) (lit< tt))

floor_small : (l : ℤ) → nat_abs l ≤ 2 ^ 40 * (2 ^ 54 + 1) → nat_abs (floor_div l (2 ^ 40)) ≤ 2 ^ 55
floor_small l h = omega (arith, ints, floor-low l (2 ^ 40) (lit< tt), floor-high l (2 ^ 40) (lit< tt))

ceil_small : (g : ℤ) → nat_abs g ≤ 2 ^ 40 * (2 ^ 54 + 1) → nat_abs (ceil_div g (2 ^ 40)) ≤ 2 ^ 55
ceil_small g h = omega (arith, ints, ceil-low g (2 ^ 40) (lit< tt), ceil-high g (2 ^ 40) (lit< tt))

least_order : (p r : ℤ) → int_min (int_min p r) (int_min p r) ≤ℤ int_max (int_max p r) (int_max p r)
least_order p r = omega (arith, ints, clamps)

least_apart : (p r : ℤ) → nat_abs (r -ℤ p) ≤ 2 ^ 40 → int_max (int_max p r) (int_max p r) ≤ℤ (int_min (int_min p r) (int_min p r) +ℤ pos (2 ^ 40))
least_apart p r h = omega (arith, ints, clamps)

least_small : (p r : ℤ) (b : ℕ) → nat_abs p ≤ b → nat_abs r ≤ b → nat_abs (int_min (int_min p r) (int_min p r)) ≤ b
least_small p r b h k = omega (arith, ints, clamps)

most_small : (p r : ℤ) (b : ℕ) → nat_abs p ≤ b → nat_abs r ≤ b → nat_abs (int_max (int_max p r) (int_max p r)) ≤ b
most_small p r b h k = omega (arith, ints, clamps)

narrow_product : (v f g : ℤ) → nat_abs v ≤ 2 ^ 40 → f ≤ℤ g → g ≤ℤ (f +ℤ pos 1) → nat_abs f ≤ 2 ^ 54 + 1
    → nat_abs g ≤ 2 ^ 54 + 1 → Narrow (product (Some (v, v)) (Some (f, g))) 2 (2 ^ 55)
narrow_product v f g h o a j k =
    let p = product_small v f h j in
    let r = product_small v g h k in
    narrow_ends (floor_div (least (v, v) (f, g)) (2 ^ 40)) (ceil_div (greatest (v, v) (f, g)) (2 ^ 40)) 2 (2 ^ 55) (lit≤ tt)
    (rounded_order (least (v, v) (f, g)) (greatest (v, v) (f, g)) (least_order (v *ℤ f) (v *ℤ g)))
    (rounded_apart (least (v, v) (f, g)) (greatest (v, v) (f, g)) (least_apart (v *ℤ f) (v *ℤ g) (product_apart v f g h o a)))
    (floor_small (least (v, v) (f, g)) (least_small (v *ℤ f) (v *ℤ g) (2 ^ 40 * (2 ^ 54 + 1)) p r))
    (ceil_small (greatest (v, v) (f, g)) (most_small (v *ℤ f) (v *ℤ g) (2 ^ 40 * (2 ^ 54 + 1)) p r))

pub narrow_term : (size : ℕ) (t : Term) (x : List ℤ) → IsLinear size t → IsPart (part x t.col) → Narrow (term_interval t x) 2 (2 ^ 55)
narrow_term size t x h k =
    let v = part x t.col in
    let s = part_size v k in
    let size = small_size (near_div (t.num *ℤ pos (2 ^ 40)) (nat_abs t.den)) h.within in
    let positive = h.term.positive in
    let f = narrow_outward (t.num *ℤ pos (2 ^ 40)) (nat_abs t.den) (omega (arith, ints)) (2 ^ 54) (lit≤ tt) size in
    let point = capped-within v v (fits_of v (omega arith)) (fits_of v (omega arith)) in
    narrow_as (product (Some (part x t.col, part x t.col)) (Some (f.low, f.high))) (term_interval t x) 2 (2 ^ 55)
    (λ i. product (point i) (f.ends i)) (narrow_product v f.low f.high s f.order f.apart f.low_small f.high_small)

-- ---- a row

constants_narrow : (size l : ℕ) (cs : List Constant) (a : Bounds) (m : ℕ) → m + length cs * 2 ^ 60 ≤ 2 ^ 120
    → All (IsKnown size) cs → Narrow a 0 m → Narrow (fold (with_constant l) a cs) 0 (m + length cs * 2 ^ 60)
constants_narrow size l [] a m few h n = wider a 0 0 m (m + 0 * 2 ^ 60) (omega arith) (omega arith) n
constants_narrow size l (c ∷ cs) a m few h n =
    wider (fold (with_constant l) (with_constant l a c) cs) 0 0 (m + 2 ^ 60 + length cs * 2 ^ 60)
    (m + suc (length cs) * 2 ^ 60) (omega arith) (omega arith)
    (constants_narrow size l cs (with_constant l a c) (m + 2 ^ 60) (omega arith) (All-tail (IsKnown size) c cs h)
    (by_test (eqb c.row l)))
  where
    one : Narrow (capped c.value c.value) 0 (2 ^ 60)
    one =
        let k = All-head (IsKnown size) c cs h in
        narrow_ends c.value c.value 0 (2 ^ 60) (lit≤ tt) (omega (arith, ints)) (omega (arith, ints))
        (omega (arith, ints, k.least, k.most)) (omega (arith, ints, k.least, k.most))

    by_test : (b : Bool) → Narrow (cond b (sum a (capped c.value c.value)) a) 0 (m + 2 ^ 60)
    by_test true = narrow_sum a (capped c.value c.value) 0 0 m (2 ^ 60) (omega arith) n one
    by_test false = wider a 0 0 m (m + 2 ^ 60) (omega arith) (omega arith) n

terms_narrow : (size l : ℕ) (x : List ℤ) (ts : List Term) (a : Bounds) (w m : ℕ) → length x ≡ size → All IsPart x
    → m + length ts * 2 ^ 55 ≤ 2 ^ 120 → All (IsLinear size) ts → Narrow a w m
    → Narrow (fold (with_term x l) a ts) (w + 2 * row_count ts l) (m + length ts * 2 ^ 55)
terms_narrow size l x [] a w m long parts few h n = wider a w (w + 2 * 0) m (m + 0 * 2 ^ 55) (omega arith) (omega arith) n
terms_narrow size l x (t ∷ ts) a w m long parts few h n = by_test (eqb t.row l)
    (λ p. terms_narrow size l x ts (sum a (term_interval t x)) (w + 2) (m + 2 ^ 55) long parts (omega arith) (All-tail (IsLinear size) t ts h) p)
    (λ p. terms_narrow size l x ts a w (m + 2 ^ 55) long parts (omega arith) (All-tail (IsLinear size) t ts h) p)
  where
    one : Narrow (term_interval t x) 2 (2 ^ 55)
    one =
        let k = All-head (IsLinear size) t ts h in
        narrow_term size t x k
        (All-get_or IsPart x t.col (pos 0) (subst (λ n. t.col < n) (sym long) k.term.col) parts)

    by_test : (b : Bool)
        → (Narrow (sum a (term_interval t x)) (w + 2) (m + 2 ^ 55)
        → Narrow (fold (with_term x l) (sum a (term_interval t x)) ts) (w + 2 + 2 * row_count ts l)
        (m + 2 ^ 55 + length ts * 2 ^ 55))
        → (Narrow a w (m + 2 ^ 55)
        → Narrow (fold (with_term x l) a ts) (w + 2 * row_count ts l) (m + 2 ^ 55 + length ts * 2 ^ 55))
        → Narrow (fold (with_term x l) (cond b (sum a (term_interval t x)) a) ts)
        (w + 2 * (cond b 1 0 + row_count ts l)) (m + suc (length ts) * 2 ^ 55)
    by_test true f g =
        wider _ (w + 2 + 2 * row_count ts l) (w + 2 * (1 + row_count ts l)) (m + 2 ^ 55 + length ts * 2 ^ 55)
        (m + suc (length ts) * 2 ^ 55) (omega arith) (omega arith)
        (f (narrow_sum a (term_interval t x) w 2 m (2 ^ 55) (omega arith) n one))
    by_test false f g =
        wider _ (w + 2 * row_count ts l) (w + 2 * (0 + row_count ts l)) (m + 2 ^ 55 + length ts * 2 ^ 55)
        (m + suc (length ts) * 2 ^ 55) (omega arith) (omega arith)
        (g (wider a w w m (m + 2 ^ 55) (omega arith) (omega arith) n))

pub narrow_row : (size l : ℕ) (x : List ℤ) (cs : List Constant) (ts : List Term) → length x ≡ size → All IsPart x
    → All (IsKnown size) cs → length cs < 2 ^ 24 → All (IsLinear size) ts → length ts < 2 ^ 24
    → Narrow (linear_interval cs ts x l) (2 * row_count ts l) (2 ^ 85)
narrow_row size l x cs ts long parts known few linear many =
    let start : Narrow (capped (pos 0) (pos 0)) 0 0 =
    narrow_ends (pos 0) (pos 0) 0 0 (lit≤ tt) (omega (arith, ints)) (omega (arith, ints)) (lit≤ tt) (lit≤ tt) in
    let c = constants_narrow size l cs (capped (pos 0) (pos 0)) 0 (omega arith) known start in
    let t = terms_narrow size l x ts (fold (with_constant l) (capped (pos 0) (pos 0)) cs) 0 (0 + length cs * 2 ^ 60) long parts (omega arith) linear c in
    wider (linear_interval cs ts x l) (0 + 2 * row_count ts l) (2 * row_count ts l)
    (0 + length cs * 2 ^ 60 + length ts * 2 ^ 55) (2 ^ 85) (omega arith) (omega arith) t

-- ---- the ends against what the interval holds

end_near : (lo hi t e : ℤ) (d w : ℕ) → (lo *ℤ pos d) ≤ℤ t → t ≤ℤ (hi *ℤ pos d) → hi ≤ℤ (lo +ℤ pos w) → lo ≤ℤ e → e ≤ℤ hi → nat_abs e * d ≤ nat_abs t + w * d
end_near lo hi t e d w p q a l h =
    let low = scale lo e d l in
    let high = scale e hi d h in
    let wide = scale hi (lo +ℤ pos w) d a in
    let split = add-mul lo (pos w) (pos d) in
    let size = unsigned_abs-mul e (pos d) in
    omega (arith, ints)

pub ends_within : (a : Bounds) (w m : ℕ) (f : Fraction) → Narrow a w m → Holds a f → EndsWithin a f w
ends_within a w m f n h =
    let k : Holds (Some (n.low, n.high)) f = subst (λ b. Holds b f) n.ends h in
    subst (λ b. EndsWithin b f w) (sym n.ends) (
      end_near n.low n.high f.top n.low f.over w k.0 k.1 n.apart (omega (arith, ints)) n.order,
      end_near n.low n.high f.top n.high f.over w k.0 k.1 n.apart n.order (omega (arith, ints)),
    )
