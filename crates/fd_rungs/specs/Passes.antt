-- The forward and the backward pass over the rungs of a ladder, from a state to the next, part by part. A state has the
-- parts of all unknowns in order, complex unknown k at the places 2k and 2k + 1. A part past 2^40 in size ends a pass
-- at its place.
use Rattle.std.specs.Prelude.{ℕ, ◌+◌, ◌*◌, ℤ, pos, neg_ℤ, ◌+ℤ◌, ◌-ℤ◌, nat_abs, List, [], ◌∷◌, length, set, Option, Some, None, Result, Ok, Err, Bool, if◌then◌else◌}
use Rattle.std.specs.List.{fold}
use Rattle.fd_pattern.specs.fd_load.fd_exact.Results.{and_then}
use Rattle.fd_pattern.specs.fd_load.fd_exact.Rounding.{near_div}
use Rattle.fd_pattern.specs.fd_load.fd_exact.States.{part}
use Rattle.fd_pattern.specs.fd_load.fd_exact.Sums.{sum_z}
use Rattle.fd_pattern.specs.fd_arith.declared.terms.NodeAt.{NodeAt}
use Rattle.fd_pattern.specs.fd_arith.declared.terms.NodeAt.TheVariants.{Ground, Node}
use Rattle.fd_pattern.specs.fd_system.declared.loads.LoadAt.{LoadAt}
use Rattle.fd_pattern.specs.fd_system.declared.terminals.NodePair.{NodePair}
use Rattle.fd_pattern.specs.fd_system.Loads.{im_of, re_of, square_of}
use Rattle.fd_pattern.specs.fd_system.Residual.{whole_state}
use Rattle.fd_pattern.specs.fd_load.Current.{divisor, in_phase, quadrature}
use Rattle.fd_pattern.specs.Terminals.{magnitude_in}
use Rattle.fd_rungs.specs.declared.branch.Branch.{Branch}
use Rattle.fd_rungs.specs.declared.branch.Shunt.{Shunt}
use Rattle.fd_rungs.specs.Numbers.{is_part, root_of, times}

-- ---- steps

-- a step for each of these in order, unless one is refused
abbrev pub each_then : {A S E : Type 0} → (A → S → Result S E) → List A → S → Result S E
each_then step [] s = Ok s
each_then step (a ∷ rest) s = and_then (step a s) (each_then step rest)

-- ---- parts

-- what a list of parts has at a node, and across a terminal: the first node's less the second's
abbrev pub re_at : List ℤ → NodeAt → ℤ
re_at x node = re_of (whole_state x) node

abbrev pub im_at : List ℤ → NodeAt → ℤ
im_at x node = im_of (whole_state x) node

abbrev pub re_across : List ℤ → NodePair → ℤ
re_across x p = re_at x p.first -ℤ re_at x p.second

abbrev pub im_across : List ℤ → NodePair → ℤ
im_across x p = im_at x p.first -ℤ im_at x p.second

-- a part is made
abbrev pub with_part : ℕ → ℤ → List ℤ → Result (List ℤ) ℕ
with_part place z x = if is_part z then Ok (set x place z) else Err place

-- both parts of a complex unknown, the real part first
abbrev pub with_both : ℕ → ℤ → ℤ → List ℤ → Result (List ℤ) ℕ
with_both k re im x = and_then (with_part (2 * k) re x) (with_part (2 * k + 1) im)

-- ---- forward

-- the real and the imaginary part of Z_k0 i_0 + .. , each product of parts by itself
abbrev pub re_drop_at : Branch → List ℤ → ℕ → ℤ
re_drop_at b x m = times (part b.r m) (part x (2 * (b.from + m))) -ℤ times (part b.x m) (part x (2 * (b.from + m) + 1))

abbrev pub im_drop_at : Branch → List ℤ → ℕ → ℤ
im_drop_at b x m = times (part b.r m) (part x (2 * (b.from + m) + 1)) +ℤ times (part b.x m) (part x (2 * (b.from + m)))

abbrev pub re_drop : Branch → List ℤ → ℤ
re_drop b x = sum_z (re_drop_at b x) (length b.r)

abbrev pub im_drop : Branch → List ℤ → ℤ
im_drop b x = sum_z (im_drop_at b x) (length b.r)

-- E + a w, w the voltage of the inner terminal
abbrev pub re_inner : Branch → List ℤ → ℤ
re_inner b x = b.re +ℤ times b.ratio (re_across x b.inner)

abbrev pub im_inner : Branch → List ℤ → ℤ
im_inner b x = b.im +ℤ times b.ratio (im_across x b.inner)

-- z less the drop where the branch's current runs outwards, and with it where it runs inwards
abbrev pub less_drop : Bool → ℤ → ℤ → ℤ
less_drop outward z drop = if outward then z -ℤ drop else z +ℤ drop

-- the voltage of a branch's outer node: E + a w - Z i, w the voltage of its inner terminal
abbrev pub re_outer : Branch → List ℤ → ℤ
re_outer b x = less_drop b.outward (re_inner b x) (re_drop b x)

abbrev pub im_outer : Branch → List ℤ → ℤ
im_outer b x = less_drop b.outward (im_inner b x) (im_drop b x)

-- the parts of a node are made
abbrev pub with_node : NodeAt → ℤ → ℤ → List ℤ → Result (List ℤ) ℕ
with_node Ground re im x = Ok x
with_node (Node k) re im x = with_both k re im x

-- a branch gives its outer node's voltage
abbrev pub forward_branch : Branch → List ℤ → Result (List ℤ) ℕ
forward_branch b x = with_node b.outer (re_outer b x) (im_outer b x) x

-- so does each in order
abbrev pub forward_rung : List Branch → List ℤ → Result (List ℤ) ℕ
forward_rung = each_then forward_branch

abbrev pub forward : List (List Branch) → List ℤ → Result (List ℤ) ℕ
forward = each_then forward_rung

-- ---- what nodes draw

-- re + j im more at a node
abbrev pub more_at : ℕ → ℤ → List ℤ → List ℤ
more_at place z draws = set draws place (part draws place +ℤ z)

abbrev pub drawn_at : NodeAt → ℤ → ℤ → List ℤ → List ℤ
drawn_at Ground re im draws = draws
drawn_at (Node k) re im draws = more_at (2 * k + 1) im (more_at (2 * k) re draws)

-- a current that leaves the first node of a terminal and enters the second
abbrev pub drawn_across : NodePair → ℤ → ℤ → List ℤ → List ℤ
drawn_across p re im draws = drawn_at p.second (neg_ℤ re) (neg_ℤ im) (drawn_at p.first re im draws)

-- the terminal of a part load
abbrev pub terminal_of : LoadAt → NodePair
terminal_of u = record { first = u.first; second = u.second }

-- a part load's current at the state x, each part to the nearest microampere
abbrev pub load_drawn : List ℤ → List ℤ → LoadAt → List ℤ
load_drawn x draws u =
    let p = re_across x (terminal_of u) in
    let q = im_across x (terminal_of u) in
    let d = divisor u.load p q (magnitude_in x u) in
    drawn_across (terminal_of u) (near_div (in_phase u.load p q) d) (near_div (quadrature u.load p q) d) draws

-- j y w, w the voltage across a shunt
abbrev pub shunt_drawn : List ℤ → List ℤ → Shunt → List ℤ
shunt_drawn x draws s = drawn_across s.into (neg_ℤ (times s.charge (im_across x s.across))) (times s.charge (re_across x s.across)) draws

-- what the nodes draw by part loads and shunts
abbrev pub drawn : List LoadAt → List Shunt → List ℤ → List ℤ → List ℤ
drawn us ss x draws = fold (shunt_drawn x) (fold (load_drawn x) draws us) ss

-- ---- backward

-- the state, and what the nodes draw
pub record Flow : Type 0 where
  pub x : List ℤ
  pub draws : List ℤ

abbrev pub flow_with : List ℤ → List ℤ → Flow
flow_with x draws = record { x = x; draws = draws }

abbrev pub turned : Bool → ℤ → ℤ
turned outward z = if outward then z else neg_ℤ z

-- a branch gets as current what its outer node draws, and adds what it draws itself at its inner terminal
abbrev pub backward_branch : Branch → Flow → Result Flow ℕ
backward_branch b s =
    let re = re_at s.draws b.outer in
    let im = im_at s.draws b.outer in
    and_then (with_both b.own (turned b.outward re) (turned b.outward im) s.x)
    (λ x. Ok (flow_with x (drawn_across b.inner (times b.ratio re) (times b.ratio im) s.draws)))

abbrev pub backward_rung : List Branch → Flow → Result Flow ℕ
backward_rung = each_then backward_branch

-- the last rung first
abbrev pub backward : List (List Branch) → Flow → Result Flow ℕ
backward [] s = Ok s
backward (r ∷ rs) s = and_then (backward rs s) (backward_rung r)

-- ---- magnitudes

-- that of a part load with a magnitude: the whole root of its squared voltage
abbrev pub with_magnitude : Option ℕ → ℕ → List ℤ → Result (List ℤ) ℕ
with_magnitude None square x = Ok x
with_magnitude (Some place) square x = with_part place (pos (root_of square)) x

abbrev pub load_magnitude : LoadAt → List ℤ → Result (List ℤ) ℕ
load_magnitude u x = with_magnitude u.magnitude (square_of (re_across x (terminal_of u)) (im_across x (terminal_of u))) x

abbrev pub magnitudes : List LoadAt → List ℤ → Result (List ℤ) ℕ
magnitudes = each_then load_magnitude
