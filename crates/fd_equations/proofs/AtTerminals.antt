-- What stands at the places of a terminal: sizes, signs and counts.
use Rattle.std.proofs.Common.{◌≡◌, ◌∙◌, ℕ, ◌+◌, ◌*◌, ◌≤◌, ℤ, pos, neg_ℤ, ◌+ℤ◌, nat_abs, Bool, true, false, cond, eqb, Option, Some, None, arith, ap, refl}
use Rattle.std.proofs.lemmas.Int.{ints}
use Rattle.fd_pattern.specs.fd_arith.declared.terms.NodeAt.{NodeAt}
use Rattle.fd_pattern.specs.fd_arith.declared.terms.NodeAt.TheVariants.{Ground, Node}
use Rattle.fd_pattern.specs.fd_system.declared.loads.LoadAt.{LoadAt}
use Rattle.fd_pattern.specs.Terminals.{at_magnitude, at_node, at_terminal}

-- ---- sizes

sum_small : (a b : ℤ) (m k : ℕ) → nat_abs a ≤ m → nat_abs b ≤ k → nat_abs (a +ℤ b) ≤ m + k
sum_small a b m k h l = omega (arith, ints)

pub cond_small : (t : Bool) (z : ℤ) (b : ℕ) → nat_abs z ≤ b → nat_abs (cond t z (pos 0)) ≤ b
cond_small true z b h = h
cond_small false z b h = omega arith

pub node_small : (l : ℕ) (node : NodeAt) (re im : ℤ) (b : ℕ) → nat_abs re ≤ b → nat_abs im ≤ b → nat_abs (at_node l node re im) ≤ b + b
node_small l Ground re im b h k = omega arith
node_small l (Node n) re im b h k =
    sum_small (cond (eqb (2 * n) l) re (pos 0)) (cond (eqb (2 * n + 1) l) im (pos 0)) b b
    (cond_small (eqb (2 * n) l) re b h) (cond_small (eqb (2 * n + 1) l) im b k)

pub magnitude_small : (l : ℕ) (place : Option ℕ) (z : ℤ) (b : ℕ) → nat_abs z ≤ b → nat_abs (at_magnitude l place z) ≤ b
magnitude_small l None z b h = omega arith
magnitude_small l (Some place) z b h = cond_small (eqb place l) z b h

pub negative_small : (z : ℤ) (b : ℕ) → nat_abs z ≤ b → nat_abs (neg_ℤ z) ≤ b
negative_small z b h = omega (arith, ints)

pub terminal_small : (l : ℕ) (u : LoadAt) (re im z : ℤ) (b : ℕ) → nat_abs re ≤ b → nat_abs im ≤ b → nat_abs z ≤ b → nat_abs (at_terminal l u re im z) ≤ 5 * b
unfolding at_terminal
terminal_small l u re im z b h k j =
    let first = node_small l u.first re im b h k in
    let second = node_small l u.second (neg_ℤ re) (neg_ℤ im) b (negative_small re b h) (negative_small im b k) in
    let both = sum_small (at_node l u.first re im) (at_node l u.second (neg_ℤ re) (neg_ℤ im)) (b + b) (b + b) first second in
    let all = sum_small (at_node l u.first re im +ℤ at_node l u.second (neg_ℤ re) (neg_ℤ im))
    (at_magnitude l u.magnitude z) (b + b + (b + b)) b both (magnitude_small l u.magnitude z b j) in
    omega arith

-- a row is the real one of a node or its imaginary one
one_part : (c d : Bool) (re im : ℤ) (b : ℕ) → (c ≡ true → d ≡ true → ⊥) → nat_abs re ≤ b → nat_abs im ≤ b → nat_abs (cond c re (pos 0) +ℤ cond d im (pos 0)) ≤ b
one_part true true re im b apart h k = absurd (apart refl refl)
one_part true false re im b apart h k = omega (arith, ints)
one_part false true re im b apart h k = omega (arith, ints)
one_part false false re im b apart h k = omega (arith, ints)

parts_apart : (n l : ℕ) → eqb (2 * n) l ≡ true → eqb (2 * n + 1) l ≡ true → ⊥
parts_apart n l h k =
    let f : 2 * n ≡ l = grind arith in
    let g : 2 * n + 1 ≡ l = grind arith in
    absurd (omega arith)

node_least : (l : ℕ) (node : NodeAt) (re im : ℤ) (b : ℕ) → nat_abs re ≤ b → nat_abs im ≤ b → nat_abs (at_node l node re im) ≤ b
node_least l Ground re im b h k = omega arith
node_least l (Node n) re im b h k = one_part (eqb (2 * n) l) (eqb (2 * n + 1) l) re im b (parts_apart n l) h k

-- what a part load adds in one row is at most three of its numbers
pub terminal_least : (l : ℕ) (u : LoadAt) (re im z : ℤ) (b : ℕ) → nat_abs re ≤ b → nat_abs im ≤ b → nat_abs z ≤ b → nat_abs (at_terminal l u re im z) ≤ 3 * b
unfolding at_terminal
terminal_least l u re im z b h k j =
    let first = node_least l u.first re im b h k in
    let second = node_least l u.second (neg_ℤ re) (neg_ℤ im) b (negative_small re b h) (negative_small im b k) in
    let both = sum_small (at_node l u.first re im) (at_node l u.second (neg_ℤ re) (neg_ℤ im)) b b first second in
    let all = sum_small (at_node l u.first re im +ℤ at_node l u.second (neg_ℤ re) (neg_ℤ im))
    (at_magnitude l u.magnitude z) (b + b) b both (magnitude_small l u.magnitude z b j) in
    omega arith

-- ---- numbers added one after another

pub added_three : (o a b c : ℤ) → (((o +ℤ a) +ℤ b) +ℤ c) ≡ (o +ℤ ((a +ℤ b) +ℤ c))
added_three o a b c = omega (arith, ints)

pub added_two : (o a b : ℤ) → ((o +ℤ a) +ℤ b) ≡ (o +ℤ (a +ℤ b))
added_two o a b = omega (arith, ints)

pub added_none : (o : ℤ) → o ≡ (o +ℤ pos 0)
added_none o = omega (arith, ints)

-- ---- signs

negative_sum : (a b : ℤ) → neg_ℤ (a +ℤ b) ≡ (neg_ℤ a +ℤ neg_ℤ b)
negative_sum a b = omega (arith, ints)

negative_cond : (t : Bool) (z : ℤ) → neg_ℤ (cond t z (pos 0)) ≡ cond t (neg_ℤ z) (pos 0)
negative_cond true z = refl
negative_cond false z = refl

node_negative : (l : ℕ) (node : NodeAt) (re im : ℤ) → neg_ℤ (at_node l node re im) ≡ at_node l node (neg_ℤ re) (neg_ℤ im)
node_negative l Ground re im = refl
node_negative l (Node k) re im =
    negative_sum (cond (eqb (2 * k) l) re (pos 0)) (cond (eqb (2 * k + 1) l) im (pos 0))
    ∙ (λ i. negative_cond (eqb (2 * k) l) re i +ℤ negative_cond (eqb (2 * k + 1) l) im i)

magnitude_negative : (l : ℕ) (place : Option ℕ) (z : ℤ) → neg_ℤ (at_magnitude l place z) ≡ at_magnitude l place (neg_ℤ z)
magnitude_negative l None z = refl
magnitude_negative l (Some place) z = negative_cond (eqb place l) z

pub terminal_negative : (l : ℕ) (u : LoadAt) (re im z : ℤ) → neg_ℤ (at_terminal l u re im z) ≡ at_terminal l u (neg_ℤ re) (neg_ℤ im) (neg_ℤ z)
unfolding at_terminal
terminal_negative l u re im z =
    negative_sum (at_node l u.first re im +ℤ at_node l u.second (neg_ℤ re) (neg_ℤ im)) (at_magnitude l u.magnitude z)
    ∙ ap (λ a. a +ℤ neg_ℤ (at_magnitude l u.magnitude z)) (negative_sum (at_node l u.first re im) (at_node l u.second (neg_ℤ re) (neg_ℤ im)))
    ∙ (λ i. (node_negative l u.first re im i +ℤ node_negative l u.second (neg_ℤ re) (neg_ℤ im) i) +ℤ magnitude_negative l u.magnitude z i)

pub terminal_sum : (l : ℕ) (u : LoadAt) (re im z : ℤ)
    → ((at_node l u.first re im +ℤ at_node l u.second (neg_ℤ re) (neg_ℤ im)) +ℤ at_magnitude l u.magnitude z)
    ≡ at_terminal l u re im z
unfolding at_terminal
terminal_sum l u re im z = refl
