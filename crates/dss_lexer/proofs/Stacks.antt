-- Operands on a stack, whose last element comes first in the definitions.
use Rattle.std.proofs.Common.{◌≡◌, ◌∙◌, ℕ, ℤ, pos, ◌+◌, ◌^◌, ◌<◌, ◌≤◌, ◌*ℤ◌, List, [], ◌∷◌, ◌++◌, length, drop, get_or, slice_index_or, map, reverse, refl, sym, ap, subst, Ok, Err, arith, add-one, drop-cons, w64, to_z, of_z, FitsSigned}
use Rattle.std.specs.Int.{w128}
use Rattle.std.specs.Int.RustNames.{unsigned_abs}
use Rattle.std.proofs.lemmas.List.{reverse-append, length-reverse}
use Rattle.std.proofs.lemmas.Int.{ints, to_z-of_z, unsigned_abs-mul, fits_signed_from_abs}
use Rattle.std.proofs.Math.Nat.{mul-le-mul}
use Rattle.dss_lexer.specs.declared.expressions.Operator.{Operator}
use Rattle.dss_lexer.specs.declared.fault.NumberFault.{NumberFault}
use Rattle.dss_lexer.specs.declared.fault.NumberFault.TheVariants.{BadPostfix}
use Rattle.dss_lexer.specs.Answers.{◌>>=◌}
use Rattle.dss_lexer.specs.Postfix.{quotient, reduce, operate, sole, read_word, value_after}
use Rattle.dss_lexer.proofs.Each.{drop_over}

pub reverse_push : (xs ys : List ℤ) (y : ℤ) → ys ≡ xs ++ y ∷ [] → reverse ys ≡ y ∷ reverse xs
reverse_push xs ys y e = ap reverse e ∙ reverse-append xs (y ∷ [])

module _ (op : Operator) (all more rest : List ℤ) (left right : ℤ) (e₁ : all ≡ more ++ right ∷ [])
    (e₂ : more ≡ rest ++ left ∷ []) where
  reduced : reduce op (reverse all) ≡ (operate op left right >>= λ n. Ok (n ∷ reverse rest))
  reduced = ap (reduce op) (reverse_push more all right e₁ ∙ ap (λ xs. right ∷ xs) (reverse_push rest more left e₂))

  -- left and right may be spelled otherwise
  pub reduce_to : (l r : ℤ) (new : List ℤ) (n m : ℤ) → operate op l r ≡ Ok n → new ≡ rest ++ m ∷ [] → l ≡ left
      → r ≡ right → m ≡ n → reduce op (reverse all) ≡ Ok (reverse new)
  reduce_to l r new n m h e p q s =
      reduced ∙ ap (λ r. r >>= λ n. Ok (n ∷ reverse rest)) (ap (operate op left) (sym q) ∙ ap (λ z. operate op z r) (sym p) ∙ h)
      ∙ ap (λ z. Ok (z ∷ reverse rest)) (sym s) ∙ ap Ok (sym (reverse_push rest new m e))

  pub reduce_fault : (l r : ℤ) (e : NumberFault) → operate op l r ≡ Err e → l ≡ left → r ≡ right
      → reduce op (reverse all) ≡ Err e
  reduce_fault l r e h p q = reduced ∙ ap (λ r. r >>= λ n. Ok (n ∷ reverse rest)) (ap (operate op left) (sym q) ∙ ap (λ z. operate op z r) (sym p) ∙ h)

pub sole_one : (xs : List ℤ) → 1 ≤ length xs → length xs < 2 → Ok (slice_index_or xs 0 (pos 0)) ≡ sole (reverse xs)
sole_one [] h k = absurd (omega (arith, h))
sole_one (x ∷ []) h k = refl
sole_one (x ∷ y ∷ xs) h k = absurd (omega (arith, k))

pub sole_none : (xs : List ℤ) → length xs < 1 → Err BadPostfix ≡ sole (reverse xs)
sole_none [] h = refl
sole_none (x ∷ xs) h = absurd (omega (arith, h))

not_sole : (xs : List ℤ) → 2 ≤ length xs → Err BadPostfix ≡ sole xs
not_sole [] h = absurd (omega (arith, h))
not_sole (x ∷ []) h = absurd (omega (arith, h))
not_sole (x ∷ y ∷ xs) h = refl

pub sole_many : (xs : List ℤ) → 2 ≤ length xs → Err BadPostfix ≡ sole (reverse xs)
sole_many xs h = not_sole (reverse xs) (subst (λ n. 2 ≤ n) (sym (length-reverse xs)) h)

-- the words that are left, one by one
module _ {X : Type 0} (view : X → List ℕ) (xs : List X) (i : ℕ) (d : X) (s : List ℤ) where
  read_step : i < length xs
      → value_after s (map view (drop i xs)) ≡ (read_word s (view (get_or xs i d)) >>= λ more. value_after more (map view (drop (i + 1) xs)))
  read_step less = let this : drop i xs ≡ get_or xs i d ∷ drop (i + 1) xs = rw add-one (drop-cons xs i d less) in ap (λ ys. value_after s (map view ys)) this

  pub read_more : i < length xs → (more : List ℤ) → read_word s (view (get_or xs i d)) ≡ Ok more
      → value_after more (map view (drop (i + 1) xs)) ≡ value_after s (map view (drop i xs))
  read_more less more e = sym (read_step less ∙ ap (λ r. r >>= λ more. value_after more (map view (drop (i + 1) xs))) e)

  pub read_fault : i < length xs → (e : NumberFault) → read_word s (view (get_or xs i d)) ≡ Err e
      → value_after s (map view (drop i xs)) ≡ Err e
  read_fault less e was = read_step less ∙ ap (λ r. r >>= λ more. value_after more (map view (drop (i + 1) xs))) was

  pub read_end : length xs ≤ i → value_after s (map view (drop i xs)) ≡ sole s
  read_end over = ap (λ ys. value_after s (map view ys)) (drop_over xs i over)

-- a product of two numbers of 64 bits
module _ (x y l r : ℤ) (e : x ≡ l) (f : y ≡ r) (h : FitsSigned w64 l) (k : FitsSigned w64 r) where
  pub product_size : unsigned_abs (x *ℤ y) ≤ 2 ^ 126
  product_size =
      let first : unsigned_abs l ≤ 2 ^ 63 = omega (arith, ints, h) in
      let second : unsigned_abs r ≤ 2 ^ 63 = omega (arith, ints, k) in
      rw (e, f, unsigned_abs-mul l r) (mul-le-mul first second)

  pub product_fits : FitsSigned w128 (x *ℤ y)
  product_fits = fits_signed_from_abs w128 (x *ℤ y) (let small = product_size in omega (arith, small))

  pub product_kept : to_z w128 (of_z w128 (x *ℤ y)) ≡ l *ℤ r
  product_kept = to_z-of_z w128 (x *ℤ y) product_fits ∙ rw (e, f) refl

  pub product_kept_size : unsigned_abs (to_z w128 (of_z w128 (x *ℤ y))) ≤ 2 ^ 126
  product_kept_size = subst (λ z. unsigned_abs z ≤ 2 ^ 126) (sym (to_z-of_z w128 (x *ℤ y) product_fits)) product_size

pub quotient_same : (x y l r : ℤ) → x ≡ l → y ≡ r → quotient x y ≡ quotient l r
quotient_same x y l r e f = rw (e, f) refl
