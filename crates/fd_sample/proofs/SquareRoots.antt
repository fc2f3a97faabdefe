-- The square roots rounded down and up are those that the definitions count up to.
use Rattle.std.proofs.Common.{◌≡◌, ℕ, zero, suc, ◌+◌, ◌*◌, ◌<◌, ◌≤◌, Bool, true, false, cond, nat_le, eqb, refl, arith}
use Rattle.std.proofs.lemmas.Bool.{eqb-true}
use Rattle.std.proofs.lemmas.Bool.Decides.{nat_tests}
use Rattle.fd_regctl.specs.fd_arith.Limits.{IsRoot, IsRootUp}
use Rattle.fd_sample.specs.Roots.{root_down, root_up}

-- ---- rounded down

le_of_squares : (x y : ℕ) → x * x < (y + 1) * (y + 1) → x ≤ y
le_of_squares x y h = grind arith

same_root : (n a b : ℕ) → IsRoot n a → IsRoot n b → a ≡ b
same_root n a b h k = let x = le_of_squares a b (omega (arith, h.0, k.1)) in let y = le_of_squares b a (omega (arith, k.0, h.1)) in omega arith

next_by : (t : Bool) (n r : ℕ) → (t ≡ true → (r + 1) * (r + 1) ≤ suc n) → (t ≡ false → suc n < (r + 1) * (r + 1))
    → IsRoot n r → IsRoot (suc n) (cond t (r + 1) r)
next_by true n r up low h = (up refl, let k = h.1 in omega arith)
next_by false n r up low h = (let k = h.0 in omega arith, low refl)

test_true : (a b : ℕ) → nat_le a b ≡ true → a ≤ b
test_true a b e = grind arith

test_false : (a b : ℕ) → nat_le a b ≡ false → b < a
test_false a b e = grind arith

pub is_root : (n : ℕ) → IsRoot n (root_down n)
is_root zero = (omega arith, omega arith)
is_root (suc n) = next_by (nat_le ((root_down n + 1) * (root_down n + 1)) (suc n)) n (root_down n) (test_true _ _) (test_false _ _) (is_root n)

pub root_of : (n r : ℕ) → IsRoot n r → r ≡ root_down n
root_of n r h = same_root n r (root_down n) h (is_root n)

-- ---- rounded up

squares_in_order : (x y : ℕ) → x ≤ y → x * x ≤ y * y
squares_in_order x y h = grind arith

not_below : (n a b : ℕ) → n ≤ a * a → ((s : ℕ) → s < b → s * s < n) → b ≤ a
not_below n a b h k = by (nat_le b a) refl
  where
    by : (t : Bool) → nat_le b a ≡ t → b ≤ a
    by true e = test_true b a e
    by false e = absurd (let less = k a (test_false b a e) in omega arith)

same_root_up : (n a b : ℕ) → IsRootUp n a → IsRootUp n b → a ≡ b
same_root_up n a b h k = let x = not_below n a b h.0 k.1 in let y = not_below n b a k.0 h.1 in omega arith

differ : (a b : ℕ) → eqb a b ≡ false → a ≤ b → a < b
differ a b e h = grind (arith, nat_tests)

up_by : (t : Bool) (n r : ℕ) → (t ≡ true → r * r ≡ n) → (t ≡ false → r * r < n) → IsRoot n r
    → IsRootUp n (cond t r (r + 1))
up_by true n r same less h = (let e = same refl in omega arith, λ s below. let e = same refl in let k = squares_in_order (s + 1) r (omega arith) in omega arith)
up_by false n r same less h = (let k = h.1 in omega arith, λ s below. let e = less refl in let k = squares_in_order s r (omega arith) in omega arith)

pub is_root_up : (n : ℕ) → IsRootUp n (root_up n)
is_root_up n = let h = is_root n in
    up_by (eqb (root_down n * root_down n) n) n (root_down n) (λ e. eqb-true (root_down n * root_down n) n e)
    (λ e. differ (root_down n * root_down n) n e h.0) h

pub root_up_of : (n r : ℕ) → IsRootUp n r → r ≡ root_up n
root_up_of n r h = same_root_up n r (root_up n) h (is_root_up n)
