use Rattle.std.proofs.Common.{◌≡◌, ◌∙◌, ℕ, ◌+◌, ◌^◌, ◌≤◌, ℤ, pos, neg_ℤ, ◌+ℤ◌, ◌-ℤ◌, nat_abs, to_z, of_z, List, ap, arith}
use Rattle.std.specs.Int.{w128}
use Rattle.fd_pattern.specs.fd_system.declared.loads.LoadAt.{LoadAt}
use Rattle.std.proofs.lemmas.Int.{ints}
use Rattle.fd_mat.specs.fd_exact.States.{part}
use Rattle.fd_pattern.specs.Terminals.{at_magnitude, at_node}
use Rattle.fd_equations.proofs.AtTerminals.{added_three, negative_small, node_small, terminal_sum}
use Rattle.fd_equations.proofs.Sizes.{kept_by, negated_kept}
use Rattle.fd_equations.proofs.terminals.add_terminal.Goals as goal

module _ (old mid new : List ℤ) (u : LoadAt) (re im : ℤ) (re_small : nat_abs re ≤ 2 ^ 73)
    (im_small : nat_abs im ≤ 2 ^ 73) (first :
    (l : ℕ) → part mid l ≡ part old l +ℤ at_node l u.first (to_z w128 (of_z w128 re)) (to_z w128 (of_z w128 im)))
    (second : (l : ℕ)
    → part new l ≡ part mid l +ℤ at_node l u.second (to_z w128 (of_z w128 (pos 0 -ℤ to_z w128 (of_z w128 re))))
    (to_z w128 (of_z w128 (pos 0 -ℤ to_z w128 (of_z w128 im))))) where
  two : (l : ℕ) → part new l ≡ ((part old l +ℤ at_node l u.first re im) +ℤ at_node l u.second (neg_ℤ re) (neg_ℤ im))
  two l =
      let p = kept_by re (omega arith) in
      let q = kept_by im (omega arith) in
      let back_p = negated_kept re (omega arith) in
      let back_q = negated_kept im (omega arith) in
      second l ∙ (λ i. first l i +ℤ at_node l u.second (back_p i) (back_q i))
      ∙ (λ i. (part old l +ℤ at_node l u.first (p i) (q i)) +ℤ at_node l u.second (neg_ℤ re) (neg_ℤ im))

size : (o a b : ℤ) → nat_abs o ≤ 2 ^ 123 → nat_abs a ≤ 2 ^ 73 + 2 ^ 73 → nat_abs b ≤ 2 ^ 73 + 2 ^ 73 → nat_abs ((o +ℤ a) +ℤ b) ≤ 2 ^ 125
size o a b h k j = omega (arith, ints)

pub add_magnitude-requires-clause-room : goal.add_magnitude-requires-clause-room
add_magnitude-requires-clause-room c = λ l.
    let first = node_small l c.args.load.now.first c.args.re c.args.im (2 ^ 73) c.requires.re c.requires.im in
    let second = node_small l c.args.load.now.second (neg_ℤ c.args.re) (neg_ℤ c.args.im) (2 ^ 73)
    (negative_small c.args.re (2 ^ 73) c.requires.re) (negative_small c.args.im (2 ^ 73) c.requires.im) in
    rw (two c.args.row.now c.add_node.new.row c.add_node-2.new.row c.args.load.now c.args.re c.args.im c.requires.re
    c.requires.im c.add_node.ensures c.add_node-2.ensures l)
    (size (part c.args.row.now l) (at_node l c.args.load.now.first c.args.re c.args.im)
    (at_node l c.args.load.now.second (neg_ℤ c.args.re) (neg_ℤ c.args.im)) (c.requires.room l) first second)

pub returns : goal.returns
returns c = λ l.
    let m = kept_by c.args.magnitude (omega (arith, c.requires.magnitude)) in
    let u = c.args.load.now in
    c.add_magnitude.ensures l
    ∙ (λ i. two c.args.row.now c.add_node.new.row c.add_node-2.new.row u c.args.re c.args.im c.requires.re
    c.requires.im c.add_node.ensures c.add_node-2.ensures l i +ℤ at_magnitude l u.magnitude (m i))
    ∙ added_three (part c.args.row.now l) (at_node l u.first c.args.re c.args.im)
    (at_node l u.second (neg_ℤ c.args.re) (neg_ℤ c.args.im)) (at_magnitude l u.magnitude c.args.magnitude)
    ∙ ap (λ z. part c.args.row.now l +ℤ z) (terminal_sum l u c.args.re c.args.im c.args.magnitude)
