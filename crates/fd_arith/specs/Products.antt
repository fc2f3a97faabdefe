-- Products, areas and squares of intervals.
use Rattle.std.proofs.Common.{◌≡◌, ℕ, ℤ, pos, negsuc, neg_ℤ, ◌*ℤ◌, ◌≤ℤ◌, ◌<ℤ◌, ◌*◌, ◌^◌, ◌⊎◌, ⊎_elim, Some, None, Bool, true, false, cond, arith, refl, ap, sym, ◌∙◌, subst, ◌&&◌, lit<}
use Rattle.std.specs.Prelude.{int_le}
use Rattle.std.specs.Int.{int_min, int_max, w128}
use Rattle.std.specs.Int.RustNames.{FitsSigned}
use Rattle.std.proofs.lemmas.Bool.{and_from}
use Rattle.std.proofs.lemmas.Int.{ints, clamps}
use Rattle.fd_exact.specs.Fractions.{Fraction, ◌⊗◌}
use Rattle.fd_exact.specs.Rounding.{floor_div, ceil_div}
use Rattle.fd_exact.specs.Integers.{exchange, regroup, assoc, comm}
use Rattle.fd_exact.specs.Order.{scale, lower_product, upper_product, mul-le_right, mul-le_flip, ≤ℤ_trans, ≤ℤ_total}
use Rattle.fd_exact.specs.Quotients.{floor-low, ceil-high, floor-ceil, floor-min, ceil-max}
use Rattle.fd_arith.specs.Limits.{Fits, fits}
use Rattle.fd_arith.specs.Interval.{Bounds, Between, Holds, HoldsCoef, capped, hull_of, least, greatest, rounded, product, area_of, least_square, square_of}
use Rattle.fd_arith.specs.Laws.{IsProduct, IsArea, IsSquare}
use Rattle.fd_arith.specs.Enclosing.{capped-holds, rescaled}
use Rattle.fd_arith.specs.Capping.{fits-true, true-fits, same_bool, both, capped-within, capped-past}

-- the hull of ends that may have passed the limit
in_both : (l h m k : ℤ) → l ≤ℤ h → m ≤ℤ k
    → (fits (int_min l m) && fits (int_max h k)) ≡ ((fits l && fits h) && (fits m && fits k))
in_both l h m k p q =
    same_bool _ _ (λ e.
    let w = both (fits (int_min l m)) (fits (int_max h k)) e in
    let v = fits-true (int_min l m) w.0 in
    let u = fits-true (int_max h k) w.1 in
    and_from _ _ (and_from _ _ (true-fits l (omega (arith, ints, clamps))) (true-fits h (omega (
      arith,
      ints,
      clamps,
    )))) (and_from _ _ (true-fits m (omega (arith, ints, clamps))) (true-fits k (omega (arith, ints, clamps))))) (λ e.
    let w = both (fits l && fits h) (fits m && fits k) e in
    let v = both (fits l) (fits h) w.0 in
    let u = both (fits m) (fits k) w.1 in
    let fl = fits-true l v.0 in
    let fh = fits-true h v.1 in
    let fm = fits-true m u.0 in
    let fk = fits-true k u.1 in
    and_from _ _ (true-fits (int_min l m) (omega (arith, ints, clamps)))
    (true-fits (int_max h k) (omega (arith, ints, clamps))))

merge : (t u : Bool) (l h m k : ℤ)
    → hull_of (cond t (Some (l, h)) None) (cond u (Some (m, k)) None) ≡ cond (t && u) (Some (int_min l m, int_max h k)) None
merge true true l h m k = refl
merge true false l h m k = refl
merge false u l h m k = refl

pub hull-capped : (l h m k : ℤ) → l ≤ℤ h → m ≤ℤ k
    → hull_of (capped l h) (capped m k) ≡ capped (int_min l m) (int_max h k)
unfolding capped
hull-capped l h m k p q =
    merge (fits l && fits h) (fits m && fits k) l h m k
    ∙ ap (λ t. cond t (Some (int_min l m, int_max h k)) None) (sym (in_both l h m k p q))

-- ---- products lie between the least and the greatest product of ends

low_between : (a f : ℤ × ℤ) (n m : ℤ) (d e : ℕ) → Between (Some a) n d → Between (Some f) m e
    → (least a f *ℤ pos (d * e)) ≤ℤ (n *ℤ m)
low_between a f n m d e h k = lower_product n (a.0 *ℤ pos d) (a.1 *ℤ pos d) m (f.0 *ℤ pos e) (f.1 *ℤ pos e) (least a f *ℤ pos (d * e)) h.0 h.1 k.0 k.1
    (rw (exchange a.0 f.0 d e) (scale _ _ (d * e) (omega (arith, ints, clamps))))
    (rw (exchange a.0 f.1 d e) (scale _ _ (d * e) (omega (arith, ints, clamps))))
    (rw (exchange a.1 f.0 d e) (scale _ _ (d * e) (omega (arith, ints, clamps))))
    (rw (exchange a.1 f.1 d e) (scale _ _ (d * e) (omega (arith, ints, clamps))))

high_between : (a f : ℤ × ℤ) (n m : ℤ) (d e : ℕ) → Between (Some a) n d → Between (Some f) m e
    → (n *ℤ m) ≤ℤ (greatest a f *ℤ pos (d * e))
high_between a f n m d e h k = upper_product n (a.0 *ℤ pos d) (a.1 *ℤ pos d) m (f.0 *ℤ pos e) (f.1 *ℤ pos e) (greatest a f *ℤ pos (d * e)) h.0 h.1 k.0 k.1
    (rw (exchange a.0 f.0 d e) (scale _ _ (d * e) (omega (arith, ints, clamps))))
    (rw (exchange a.0 f.1 d e) (scale _ _ (d * e) (omega (arith, ints, clamps))))
    (rw (exchange a.1 f.0 d e) (scale _ _ (d * e) (omega (arith, ints, clamps))))
    (rw (exchange a.1 f.1 d e) (scale _ _ (d * e) (omega (arith, ints, clamps))))

product-between : (a f : ℤ × ℤ) (n m : ℤ) (d e : ℕ) → Between (Some a) n d → Between (Some f) m e
    → Between (product (Some a) (Some f)) (n *ℤ m) (d * e * 2 ^ 40)
product-between a f n m d e h k =
    let L = least a f in
    let U = greatest a f in
    capped-holds (floor_div L (2 ^ 40)) (ceil_div U (2 ^ 40)) (n *ℤ m) (d * e * 2 ^ 40)
    (rw (regroup (floor_div L (2 ^ 40)) (d * e) (2 ^ 40)) (≤ℤ_trans (scale _ _ (d * e) (floor-low L (2 ^ 40) (lit< tt))) (low_between a f n m d e h k)))
    (rw (regroup (ceil_div U (2 ^ 40)) (d * e) (2 ^ 40)) (≤ℤ_trans (high_between a f n m d e h k) (scale _ _ (d * e) (ceil-high U (2 ^ 40) (lit< tt)))))

-- a coefficient y is y 2^40 units
pub product-holds : (a f : Bounds) (x y : Fraction) → Holds a x → HoldsCoef f y → Holds (product a f) (x ⊗ y)
unfolding ◌⊗◌
product-holds (Some a) (Some f) x y h k = rescaled (product (Some a) (Some f)) (x.top *ℤ y.top) (x.over * y.over) (2 ^ 40) (lit< tt)
    (rw (assoc x.top y.top (pos (2 ^ 40))) (product-between a f x.top (y.top *ℤ pos (2 ^ 40)) x.over y.over h k))
product-holds (Some a) None x y h k = tt
product-holds None f x y h k = tt

pub area-holds : (a b : Bounds) (x y : Fraction) → Holds a x → Holds b y → Holds (area_of a b) (x ⊗ y)
unfolding ◌⊗◌
area-holds (Some a) (Some b) x y h k =
    capped-holds (least a b) (greatest a b) (x.top *ℤ y.top) (x.over * y.over)
    (low_between a b x.top y.top x.over y.over h k) (high_between a b x.top y.top x.over y.over h k)
area-holds (Some a) None x y h k = tt
area-holds None b x y h k = tt

hull-rounded : (x y : ℤ)
    → hull_of (rounded x) (rounded y) ≡ capped (int_min (floor_div x (2 ^ 40)) (floor_div y (2 ^ 40))) (int_max (ceil_div x (2 ^ 40)) (ceil_div y (2 ^ 40)))
hull-rounded x y = hull-capped _ _ _ _ (floor-ceil x (2 ^ 40) (lit< tt)) (floor-ceil y (2 ^ 40) (lit< tt))

-- the hull of the four products' own ends
pub hull-four : (p q r s : ℤ)
    → hull_of (hull_of (rounded p) (rounded q)) (hull_of (rounded r) (rounded s))
    ≡ capped (floor_div (int_min (int_min p q) (int_min r s)) (2 ^ 40))
    (ceil_div (int_max (int_max p q) (int_max r s)) (2 ^ 40))
hull-four p q r s =
    let fp = floor-ceil p (2 ^ 40) (lit< tt) in
    let fq = floor-ceil q (2 ^ 40) (lit< tt) in
    let fr = floor-ceil r (2 ^ 40) (lit< tt) in
    let fs = floor-ceil s (2 ^ 40) (lit< tt) in
    (λ i. hull_of (hull-rounded p q i) (hull-rounded r s i))
    ∙ hull-capped _ _ _ _ (omega (arith, ints, clamps)) (omega (arith, ints, clamps))
    ∙ (λ i. capped (lows i) (highs i))
  where
    lows : int_min (int_min (floor_div p (2 ^ 40)) (floor_div q (2 ^ 40)))
        (int_min (floor_div r (2 ^ 40)) (floor_div s (2 ^ 40)))
        ≡ floor_div (int_min (int_min p q) (int_min r s)) (2 ^ 40)
    lows =
        sym (floor-min (int_min p q) (int_min r s) (2 ^ 40) (lit< tt)
        ∙ (λ i. int_min (floor-min p q (2 ^ 40) (lit< tt) i) (floor-min r s (2 ^ 40) (lit< tt) i)))

    highs : int_max (int_max (ceil_div p (2 ^ 40)) (ceil_div q (2 ^ 40)))
        (int_max (ceil_div r (2 ^ 40)) (ceil_div s (2 ^ 40)))
        ≡ ceil_div (int_max (int_max p q) (int_max r s)) (2 ^ 40)
    highs =
        sym (ceil-max (int_max p q) (int_max r s) (2 ^ 40) (lit< tt)
        ∙ (λ i. int_max (ceil-max p q (2 ^ 40) (lit< tt) i) (ceil-max r s (2 ^ 40) (lit< tt) i)))

pub product_lem : (a f : Bounds) → IsProduct a f (product a f)
product_lem a f = record { ends = refl; holds = product-holds a f }

-- the hull of the four rounded products
pub four_products : (lo hi low high : ℤ)
    → hull_of (hull_of (rounded (lo *ℤ low)) (rounded (lo *ℤ high)))
    (hull_of (rounded (hi *ℤ low)) (rounded (hi *ℤ high)))
    ≡ product (Some (lo, hi)) (Some (low, high))
four_products lo hi low high = hull-four (lo *ℤ low) (lo *ℤ high) (hi *ℤ low) (hi *ℤ high)

pub hull-four-capped : (l1 h1 l2 h2 l3 h3 l4 h4 : ℤ) → l1 ≤ℤ h1 → l2 ≤ℤ h2 → l3 ≤ℤ h3 → l4 ≤ℤ h4
    → hull_of (hull_of (capped l1 h1) (capped l2 h2)) (hull_of (capped l3 h3) (capped l4 h4))
    ≡ capped (int_min (int_min l1 l2) (int_min l3 l4)) (int_max (int_max h1 h2) (int_max h3 h4))
hull-four-capped l1 h1 l2 h2 l3 h3 l4 h4 p1 p2 p3 p4 =
    (λ i. hull_of (hull-capped l1 h1 l2 h2 p1 p2 i) (hull-capped l3 h3 l4 h4 p3 p4 i))
    ∙ hull-capped (int_min l1 l2) (int_max h1 h2) (int_min l3 l4) (int_max h3 h4) (omega (arith, ints, clamps)) (omega (arith, ints, clamps))

-- ---- ends of 64 bits: no product passes 128 bits, and no end passes the limit

abbrev pub IsSmall : ℤ → Type 0
IsSmall z = (neg_ℤ (pos (2 ^ 63)) ≤ℤ z) × (z ≤ℤ pos (2 ^ 63))

abbrev pub IsSmallProduct : ℤ → Type 0
IsSmallProduct z = (neg_ℤ (pos (2 ^ 126)) ≤ℤ z) × (z ≤ℤ pos (2 ^ 126))

pub small_product : (x y : ℤ) → IsSmall x → IsSmall y → IsSmallProduct (x *ℤ y)
small_product x y h k = (
  lower_product x (neg_ℤ (pos (2 ^ 63))) (pos (2 ^ 63)) y (neg_ℤ (pos (2 ^ 63))) (pos (2 ^ 63))
      (neg_ℤ (pos (2 ^ 126))) h.0 h.1 k.0 k.1 (omega (arith, ints)) (omega (arith, ints)) (omega (arith, ints))
      (omega (arith, ints)),
  upper_product x (neg_ℤ (pos (2 ^ 63))) (pos (2 ^ 63)) y (neg_ℤ (pos (2 ^ 63))) (pos (2 ^ 63)) (pos (2 ^ 126)) h.0
      h.1 k.0 k.1 (omega (arith, ints)) (omega (arith, ints)) (omega (arith, ints)) (omega (arith, ints)),
)

pub small_signed : (z : ℤ) → IsSmallProduct z → FitsSigned w128 z
small_signed z h = omega (arith, ints, h.0, h.1)

module _ (lo hi low high : ℤ) (p : IsSmall lo) (q : IsSmall hi) (r : IsSmall low) (s : IsSmall high) where
  pub least_small : IsSmallProduct (least (lo, hi) (low, high))
  least_small =
      let a = small_product lo low p r in
      let b = small_product lo high p s in
      let c = small_product hi low q r in
      let d = small_product hi high q s in
      (omega (arith, ints, clamps, a.0, b.0, c.0, d.0), omega (arith, ints, clamps, a.1, b.1, c.1, d.1))

  pub greatest_small : IsSmallProduct (greatest (lo, hi) (low, high))
  greatest_small =
      let a = small_product lo low p r in
      let b = small_product lo high p s in
      let c = small_product hi low q r in
      let d = small_product hi high q s in
      (omega (arith, ints, clamps, a.0, b.0, c.0, d.0), omega (arith, ints, clamps, a.1, b.1, c.1, d.1))

pub least_greatest : (a f : ℤ × ℤ) → least a f ≤ℤ greatest a f
least_greatest a f = omega (arith, ints, clamps)

pub floor_small : (z : ℤ) → IsSmallProduct z → Fits (floor_div z (2 ^ 40))
floor_small (pos a) h = omega (arith, ints, h.0, h.1)
floor_small (negsuc a) h = omega (arith, ints, h.0, h.1)

pub ceil_small : (z : ℤ) → IsSmallProduct z → Fits (ceil_div z (2 ^ 40))
ceil_small z h = let f = floor_small (neg_ℤ z) (omega (arith, ints, h.0, h.1)) in omega (arith, ints, f.0, f.1)

-- what a body has to show that makes the two ends
pub small_from : {r : Bounds} (lo hi low high l h : ℤ) → IsSmallProduct (least (lo, hi) (low, high))
    → IsSmallProduct (greatest (lo, hi) (low, high)) → r ≡ Some (l, h)
    → l ≡ floor_div (least (lo, hi) (low, high)) (2 ^ 40) → h ≡ ceil_div (greatest (lo, hi) (low, high)) (2 ^ 40)
    → r ≡ product (Some (lo, hi)) (Some (low, high))
small_from lo hi low high l h p q e u v = e ∙ (λ i. Some (u i, v i)) ∙ sym (capped-within _ _ (floor_small _ p) (ceil_small _ q))

pub product_known : {a f r : Bounds} {lo hi low high : ℤ} → Some (lo, hi) ≡ a → Some (low, high) ≡ f
    → r ≡ product (Some (lo, hi)) (Some (low, high)) → IsProduct a f r
product_known p q e = subst (IsProduct _ _) (sym (e ∙ (λ i. product (p i) (q i)))) (product_lem _ _)

pub area_lem : (a b : Bounds) → IsArea a b (area_of a b)
area_lem a b = record { ends = refl; holds = area-holds a b }

-- what a body that hulls the four products has to show
pub area_from : {a b r : Bounds} {lo hi low high : ℤ} → Some (lo, hi) ≡ a → Some (low, high) ≡ b
    → r
    ≡ hull_of (hull_of (capped (lo *ℤ low) (lo *ℤ low)) (capped (lo *ℤ high) (lo *ℤ high)))
    (hull_of (capped (hi *ℤ low) (hi *ℤ low)) (capped (hi *ℤ high) (hi *ℤ high)))
    → IsArea a b r
area_from {lo = lo} {hi = hi} {low = low} {high = high} p q e =
    subst (IsArea _ _) (sym (e ∙ hull-four-capped _ _ _ _ _ _ _ _ (omega (
      arith,
      ints,
    )) (omega (arith, ints)) (omega (arith, ints)) (omega (arith, ints)) ∙ (λ i. area_of (p i) (q i)))) (area_lem _ _)

-- a product that passes 128 bits passes the limit
pub point_past : (z : ℤ) → ¬ (FitsSigned w128 z) → capped z z ≡ None
point_past z f = capped-past z z (λ w. f (omega (arith, ints, w.0)))

-- ---- squares

square_up : (z : ℤ) → pos 0 ≤ℤ (z *ℤ z)
square_up (pos n) = omega (arith, ints)
square_up (negsuc n) = omega (arith, ints)

square_high : (l n h u : ℤ) → l ≤ℤ n → n ≤ℤ h → (l *ℤ l) ≤ℤ u → (h *ℤ h) ≤ℤ u → (n *ℤ n) ≤ℤ u
square_high l n h u p q a b = ⊎_elim
    (λ up. ≤ℤ_trans (mul-le_right n h n q up) (≤ℤ_trans (rw (comm h n) (mul-le_right n h h q (≤ℤ_trans up q))) b))
    (λ low. ≤ℤ_trans (mul-le_flip l n n p low) (≤ℤ_trans (rw (comm l n) (mul-le_flip l n l p (≤ℤ_trans p low))) a))
    (≤ℤ_total (pos 0) n)

square_above : (l n : ℤ) → pos 0 ≤ℤ l → l ≤ℤ n → (l *ℤ l) ≤ℤ (n *ℤ n)
square_above l n p q = ≤ℤ_trans (mul-le_right l n l q p) (rw (comm n l) (mul-le_right l n n q (≤ℤ_trans p q)))

square_below : (n h : ℤ) → n ≤ℤ h → h ≤ℤ pos 0 → (h *ℤ h) ≤ℤ (n *ℤ n)
square_below n h p q = ≤ℤ_trans (mul-le_flip n h h p q) (rw (comm n h) (mul-le_flip n h n p (≤ℤ_trans p q)))

-- where 0 lies between the ends, and where it doesn't
apart_zero : (lo hi : ℤ) → (int_le lo (pos 0) && int_le (pos 0) hi) ≡ false → (pos 0 <ℤ lo) ⊎ (hi <ℤ pos 0)
apart_zero lo hi e = grind (arith, ints)

least_square_by : (t : Bool) (lo hi n : ℤ) (d : ℕ) → (t ≡ false → (pos 0 <ℤ lo) ⊎ (hi <ℤ pos 0)) → (lo *ℤ pos d) ≤ℤ n
    → n ≤ℤ (hi *ℤ pos d) → (cond t (pos 0) (int_min (lo *ℤ lo) (hi *ℤ hi)) *ℤ pos (d * d)) ≤ℤ (n *ℤ n)
least_square_by true lo hi n d f p q = ≤ℤ_trans (none d) (square_up n)
  where
    none : (d : ℕ) → (pos 0 *ℤ pos (d * d)) ≤ℤ pos 0
    none d = omega (arith, ints)
least_square_by false lo hi n d f p q =
    ⊎_elim (λ up.
    ≤ℤ_trans (scale (int_min (lo *ℤ lo) (hi *ℤ hi)) (lo *ℤ lo) (d * d) (omega (arith, ints, clamps)))
    (rw (← exchange lo lo d d) (square_above (lo *ℤ pos d) n (rise lo d up) p)))
    (λ low.
    ≤ℤ_trans (scale (int_min (lo *ℤ lo) (hi *ℤ hi)) (hi *ℤ hi) (d * d) (omega (arith, ints, clamps)))
    (rw (← exchange hi hi d d) (square_below n (hi *ℤ pos d) q (fall hi d low))))
    (f refl)
  where
    rise : (z : ℤ) (d : ℕ) → pos 0 <ℤ z → pos 0 ≤ℤ (z *ℤ pos d)
    rise z d h = let s = scale (pos 0) z d (omega (arith, ints)) in omega (arith, ints)

    fall : (z : ℤ) (d : ℕ) → z <ℤ pos 0 → (z *ℤ pos d) ≤ℤ pos 0
    fall z d h = let s = scale z (pos 0) d (omega (arith, ints)) in omega (arith, ints)

square-between : (a : ℤ × ℤ) (n : ℤ) (d : ℕ) → Between (Some a) n d → Between (square_of (Some a)) (n *ℤ n) (d * d)
square-between a n d h = capped-holds (least_square a) (int_max (a.0 *ℤ a.0) (a.1 *ℤ a.1)) (n *ℤ n) (d * d)
    (least_square_by (int_le a.0 (pos 0) && int_le (pos 0) a.1) a.0 a.1 n d (apart_zero a.0 a.1) h.0 h.1)
    (square_high (a.0 *ℤ pos d) n (a.1 *ℤ pos d) (int_max (a.0 *ℤ a.0) (a.1 *ℤ a.1) *ℤ pos (d * d)) h.0 h.1
    (rw (exchange a.0 a.0 d d) (scale _ _ (d * d) (omega (arith, ints, clamps))))
    (rw (exchange a.1 a.1 d d) (scale _ _ (d * d) (omega (arith, ints, clamps)))))

pub square-holds : (a : Bounds) (x : Fraction) → Holds a x → Holds (square_of a) (x ⊗ x)
unfolding ◌⊗◌
square-holds (Some a) x h = square-between a x.top x.over h
square-holds None x h = tt

square_lem : (a : Bounds) → IsSquare a (square_of a)
square_lem a = record { ends = refl; holds = square-holds a }

squares_ends : (lo hi : ℤ)
    → hull_of (capped (lo *ℤ lo) (lo *ℤ lo)) (capped (hi *ℤ hi) (hi *ℤ hi)) ≡ capped (int_min (lo *ℤ lo) (hi *ℤ hi)) (int_max (lo *ℤ lo) (hi *ℤ hi))
squares_ends lo hi = hull-capped (lo *ℤ lo) (lo *ℤ lo) (hi *ℤ hi) (hi *ℤ hi) (omega (arith, ints)) (omega (arith, ints))

-- what a body has to show where 0 lies between the ends, and where it doesn't
pub square_about : {a r : Bounds} {lo hi : ℤ} (t : Bool) → Some (lo, hi) ≡ a
    → t ≡ (int_le lo (pos 0) && int_le (pos 0) hi) → t ≡ true
    → r ≡ hull_of (hull_of (capped (lo *ℤ lo) (lo *ℤ lo)) (capped (hi *ℤ hi) (hi *ℤ hi))) (capped (pos 0) (pos 0))
    → IsSquare a r
square_about {lo = lo} {hi = hi} t p w u e = subst (IsSquare _) (sym (e
    ∙ ap (λ b. hull_of b (capped (pos 0) (pos 0))) (squares_ends lo hi)
    ∙ hull-capped (int_min (lo *ℤ lo) (hi *ℤ hi)) (int_max (lo *ℤ lo) (hi *ℤ hi)) (pos 0) (pos 0) (omega (arith, ints, clamps)) (omega (arith, ints))
    ∙ (λ i. capped (down i) (over i))
    ∙ (λ i. square_of (p i)))) (square_lem _)
  where
    down : int_min (int_min (lo *ℤ lo) (hi *ℤ hi)) (pos 0) ≡ least_square (lo, hi)
    down = at_zero (lo *ℤ lo) (hi *ℤ hi) (square_up lo) (square_up hi) ∙ sym (ap (λ b. cond b (pos 0) (int_min (lo *ℤ lo) (hi *ℤ hi))) (sym w ∙ u))
      where
        at_zero : (x y : ℤ) → pos 0 ≤ℤ x → pos 0 ≤ℤ y → int_min (int_min x y) (pos 0) ≡ pos 0
        at_zero x y h k = omega (arith, ints, clamps)

    over : int_max (int_max (lo *ℤ lo) (hi *ℤ hi)) (pos 0) ≡ int_max (lo *ℤ lo) (hi *ℤ hi)
    over = above (lo *ℤ lo) (hi *ℤ hi) (square_up lo) (square_up hi)
      where
        above : (x y : ℤ) → pos 0 ≤ℤ x → pos 0 ≤ℤ y → int_max (int_max x y) (pos 0) ≡ int_max x y
        above x y h k = omega (arith, ints, clamps)

pub square_apart : {a r : Bounds} {lo hi : ℤ} (t : Bool) → Some (lo, hi) ≡ a
    → t ≡ (int_le lo (pos 0) && int_le (pos 0) hi) → t ≡ false
    → r ≡ hull_of (capped (lo *ℤ lo) (lo *ℤ lo)) (capped (hi *ℤ hi) (hi *ℤ hi)) → IsSquare a r
square_apart {lo = lo} {hi = hi} t p w u e = subst (IsSquare _) (sym (e
    ∙ squares_ends lo hi
    ∙ (λ i. capped (down i) (int_max (lo *ℤ lo) (hi *ℤ hi)))
    ∙ (λ i. square_of (p i)))) (square_lem _)
  where
    down : int_min (lo *ℤ lo) (hi *ℤ hi) ≡ least_square (lo, hi)
    down = sym (ap (λ b. cond b (pos 0) (int_min (lo *ℤ lo) (hi *ℤ hi))) (sym w ∙ u))
