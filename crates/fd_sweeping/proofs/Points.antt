-- A state that sweeps settle at is a point: each part of it was tested as it was made.
use Rattle.std.proofs.Common.{◌≡◌, ◌≢◌, ◌⊎◌, ⊎_elim, ◌∙◌, ℕ, zero, suc, ◌+◌, ◌*◌, ◌<◌, ◌≤◌, ◌^◌, ℤ, pos, nat_abs}
use Rattle.std.proofs.Common.{nat_le, Bool, true, false, List, [], ◌∷◌, length, set, replicate, get_or, Option, Some}
use Rattle.std.proofs.Common.{None, Result, Ok, Err, if◌then◌else◌, refl, sym, ap, subst, arith, get_or-set_same}
use Rattle.std.proofs.Common.{get_or-set_other, length-set}
use Rattle.std.proofs.lemmas.Bool.{leb-true}
use Rattle.std.proofs.lemmas.Int.{ints}
use Rattle.std.proofs.lemmas.List.{length-replicate}
use Rattle.std.proofs.lemmas.List.Elements.{All-from_get_or}
use Rattle.fd_solving.specs.fd_exact.Results.{and_then}
use Rattle.fd_solving.specs.fd_exact.States.{part}
use Rattle.fd_solving.specs.fd_pattern.Conditions.{IsPart, IsPoint}
use Rattle.fd_solving.specs.fd_pattern.Views.{NetworkView}
use Rattle.fd_solving.specs.fd_system.declared.loads.LoadAt.{LoadAt}
use Rattle.fd_sweep.specs.fd_rungs.fd_arith.declared.terms.NodeAt.{NodeAt}
use Rattle.fd_sweep.specs.fd_rungs.fd_arith.declared.terms.NodeAt.TheVariants.{Ground, Node}
use Rattle.fd_solving.specs.fd_system.Loads.{square_of}
use Rattle.fd_sweep.specs.fd_rungs.Numbers.{is_part, root_of, times}
use Rattle.fd_sweep.specs.fd_rungs.Passes.{Flow, backward, backward_branch, backward_rung, drawn, drawn_across}
use Rattle.fd_sweep.specs.fd_rungs.Passes.{flow_with, forward, forward_branch, forward_rung, im_across, im_at, im_outer}
use Rattle.fd_sweep.specs.fd_rungs.Passes.{magnitudes, re_across, re_at, re_outer, terminal_of, turned, with_both}
use Rattle.fd_sweep.specs.fd_rungs.Passes.{with_magnitude, with_node, with_part}
use Rattle.fd_sweep.specs.fd_rungs.Sweeps.{LadderView, after_start, after_sweep, are_still, raised, started}
use Rattle.fd_sweep.specs.fd_rungs.Sweeps.{sweeps_from, sweeps_of, swept_once}
use Rattle.fd_sweep.specs.fd_rungs.declared.branch.Branch.{Branch}
use Rattle.fd_sweep.specs.fd_rungs.declared.swept.Swept.{Swept}
use Rattle.fd_sweep.specs.fd_rungs.declared.swept.Swept.TheVariants.{Settled}

record IsSized (n : ℕ) (x : List ℤ) : Type 0 where
  long : length x ≡ n
  small : (i : ℕ) → nat_abs (part x i) ≤ 2 ^ 40

same_or : (i k : ℕ) → (i ≡ k) ⊎ (i ≢ k)
same_or i k = grind arith

-- ---- a part is made

set_small : (x : List ℤ) (place i : ℕ) (z : ℤ) → nat_abs z ≤ 2 ^ 40 → ((j : ℕ) → nat_abs (part x j) ≤ 2 ^ 40)
    → nat_abs (part (set x place z) i) ≤ 2 ^ 40
set_small [] place i z small h = h i
set_small (y ∷ ys) zero zero z small h = small
set_small (y ∷ ys) zero (suc i) z small h = h (suc i)
set_small (y ∷ ys) (suc place) zero z small h = h 0
set_small (y ∷ ys) (suc place) (suc i) z small h = set_small ys place i z small (λ j. h (suc j))

set_sized : (n place : ℕ) (z : ℤ) (x : List ℤ) → nat_abs z ≤ 2 ^ 40 → IsSized n x → IsSized n (set x place z)
set_sized n place z x small h =
    record { long = length-set x place z ∙ h.long; small = λ i. set_small x place i z small h.small }

part_sized : (n place : ℕ) (z : ℤ) (x y : List ℤ) → IsSized n x → with_part place z x ≡ Ok y → IsSized n y
part_sized n place z x y h e = go (is_part z) refl e
  where
    go : (b : Bool) → is_part z ≡ b → (if b then Ok (set x place z) else Err place) ≡ Ok y → IsSized n y
    go true t is =
        let same : set x place z ≡ y = cc is in
        subst (IsSized n) same (set_sized n place z x (leb-true (nat_abs z) (2 ^ 40) t) h)
    go false t is = absurd (cc is)

-- ---- steps

module _ {A B : Type 0} (P : B → Type 0) where
  after : (r : Result A ℕ) (f : A → Result B ℕ) (y : B) → and_then r f ≡ Ok y
      → ((a : A) → r ≡ Ok a → f a ≡ Ok y → P y) → P y
  after (Ok a) f y e go = go a refl e
  after (Err k) f y e go = absurd (cc e)

abbrev made : {A : Type 0} → A → Result A ℕ
made x = Ok x

same_sized : (n : ℕ) (x y : List ℤ) → IsSized n x → made x ≡ Ok y → IsSized n y
same_sized n x y h e = let same : x ≡ y = cc e in subst (IsSized n) same h

both_sized : (n k : ℕ) (re im : ℤ) (x y : List ℤ) → IsSized n x → with_both k re im x ≡ Ok y → IsSized n y
both_sized n k re im x y h e =
    after (IsSized n) (with_part (2 * k) re x) (with_part (2 * k + 1) im) y e
    (λ a p q. part_sized n (2 * k + 1) im a y (part_sized n (2 * k) re x a h p) q)

node_sized : (n : ℕ) (node : NodeAt) (re im : ℤ) (x y : List ℤ) → IsSized n x → with_node node re im x ≡ Ok y
    → IsSized n y
node_sized n Ground re im x y h e = same_sized n x y h e
node_sized n (Node k) re im x y h e = both_sized n k re im x y h e

branch_sized : (n : ℕ) (b : Branch) (x y : List ℤ) → IsSized n x → forward_branch b x ≡ Ok y → IsSized n y
branch_sized n b x y h e = node_sized n b.outer (re_outer b x) (im_outer b x) x y h e

rung_sized : (n : ℕ) (bs : List Branch) (x y : List ℤ) → IsSized n x → forward_rung bs x ≡ Ok y → IsSized n y
rung_sized n [] x y h e = same_sized n x y h e
rung_sized n (b ∷ bs) x y h e =
    after (IsSized n) (forward_branch b x) (forward_rung bs) y e
    (λ a p q. rung_sized n bs a y (branch_sized n b x a h p) q)

forward_sized : (n : ℕ) (rs : List (List Branch)) (x y : List ℤ) → IsSized n x → forward rs x ≡ Ok y → IsSized n y
forward_sized n [] x y h e = same_sized n x y h e
forward_sized n (r ∷ rs) x y h e =
    after (IsSized n) (forward_rung r x) (forward rs) y e (λ a p q. forward_sized n rs a y (rung_sized n r x a h p) q)

magnitude_sized : (n : ℕ) (place : Option ℕ) (square : ℕ) (x y : List ℤ) → IsSized n x
    → with_magnitude place square x ≡ Ok y → IsSized n y
magnitude_sized n None square x y h e = same_sized n x y h e
magnitude_sized n (Some place) square x y h e = part_sized n place (pos (root_of square)) x y h e

magnitudes_sized : (n : ℕ) (us : List LoadAt) (x y : List ℤ) → IsSized n x → magnitudes us x ≡ Ok y → IsSized n y
magnitudes_sized n [] x y h e = same_sized n x y h e
magnitudes_sized n (u ∷ us) x y h e =
    let square = square_of (re_across x (terminal_of u)) (im_across x (terminal_of u)) in
    after (IsSized n) (with_magnitude u.magnitude square x) (magnitudes us) y e
    (λ a p q. magnitudes_sized n us a y (magnitude_sized n u.magnitude square x a h p) q)

raised_sized : (n : ℕ) (l : LadderView) (us : List LoadAt) (x y : List ℤ) → IsSized n x → raised l us x ≡ Ok y
    → IsSized n y
raised_sized n l us x y h e =
    after (IsSized n) (forward l.rungs x) (magnitudes us) y e
    (λ a p q. magnitudes_sized n us a y (forward_sized n l.rungs x a h p) q)

-- ---- backward

abbrev FlowSized : ℕ → Flow → Type 0
FlowSized n f = IsSized n f.x

same_flow : (n : ℕ) (f g : Flow) → FlowSized n f → made f ≡ Ok g → FlowSized n g
same_flow n f g h e = let same : f ≡ g = cc e in subst (FlowSized n) same h

flow_sized : (n : ℕ) (b : Branch) (f g : Flow) → FlowSized n f → backward_branch b f ≡ Ok g → FlowSized n g
flow_sized n b f g h e =
    let re = re_at f.draws b.outer in
    let im = im_at f.draws b.outer in
    let drawn = drawn_across b.inner (times b.ratio re) (times b.ratio im) f.draws in
    after (FlowSized n) (with_both b.own (turned b.outward re) (turned b.outward im) f.x)
    (λ x. Ok (flow_with x drawn)) g e
    (λ a p q. same_flow n (flow_with a drawn) g
    (both_sized n b.own (turned b.outward re) (turned b.outward im) f.x a h p) q)

back_rung_sized : (n : ℕ) (bs : List Branch) (f g : Flow) → FlowSized n f → backward_rung bs f ≡ Ok g → FlowSized n g
back_rung_sized n [] f g h e = same_flow n f g h e
back_rung_sized n (b ∷ bs) f g h e =
    after (FlowSized n) (backward_branch b f) (backward_rung bs) g e
    (λ a p q. back_rung_sized n bs a g (flow_sized n b f a h p) q)

backward_sized : (n : ℕ) (rs : List (List Branch)) (f g : Flow) → FlowSized n f → backward rs f ≡ Ok g → FlowSized n g
backward_sized n [] f g h e = same_flow n f g h e
backward_sized n (r ∷ rs) f g h e =
    after (FlowSized n) (backward rs f) (backward_rung r) g e
    (λ a p q. back_rung_sized n r a g (backward_sized n rs f a h p) q)

-- ---- sweeps

swept_sized : (n : ℕ) (l : LadderView) (us : List LoadAt) (x y : List ℤ) → IsSized n x → swept_once l us x ≡ Ok y
    → IsSized n y
swept_sized n l us x y h e =
    let flow = flow_with x (drawn us l.shunts x (replicate (length x) (pos 0))) in
    after (IsSized n) (backward l.rungs flow) (λ s. raised l us s.x) y e
    (λ s p q. raised_sized n l us s.x y (backward_sized n l.rungs flow s h p) q)

module _ (n : ℕ) (l : LadderView) (us : List LoadAt) (nodes sweep : ℕ) (x z : List ℤ) (k : ℕ) (h : IsSized n x)
    (rest : List ℤ → Swept)
    (go : (y : List ℤ) → IsSized n y → rest y ≡ Settled z k → IsSized n z) where
  by_stillness : (y : List ℤ) → IsSized n y → (b : Bool) → (if b then Settled y sweep else rest y) ≡ Settled z k
      → IsSized n z
  by_stillness y sized true is = let same : y ≡ z = cc is in subst (IsSized n) same sized
  by_stillness y sized false is = go y sized is

  by_sweep : (r : Result (List ℤ) ℕ) → swept_once l us x ≡ r → after_sweep nodes sweep x rest r ≡ Settled z k
      → IsSized n z
  by_sweep (Ok y) once is = by_stillness y (swept_sized n l us x y h once) (are_still x y nodes) is
  by_sweep (Err place) once is = absurd (cc is)

settles : (n : ℕ) (l : LadderView) (us : List LoadAt) (nodes left done : ℕ) (x z : List ℤ) (k : ℕ) → IsSized n x
    → sweeps_from l us nodes left done x ≡ Settled z k → IsSized n z
settles n l us nodes zero done x z k h e = absurd (cc e)
settles n l us nodes (suc left) done x z k h e =
    by_sweep n l us nodes (suc done) x z k h (sweeps_from l us nodes left (suc done))
    (λ y sized is. settles n l us nodes left (suc done) y z k sized is) (swept_once l us x) refl e

zero_parts : (n i : ℕ) → nat_abs (part (replicate n (pos 0)) i) ≤ 2 ^ 40
zero_parts zero i = omega arith
zero_parts (suc n) zero = omega arith
zero_parts (suc n) (suc i) = zero_parts n i

all_settle : (l : LadderView) (us : List LoadAt) (nodes size most : ℕ) (z : List ℤ) (k : ℕ)
    → sweeps_of l us nodes size most ≡ Settled z k → IsSized size z
all_settle l us nodes size most z k e = by (raised l us (replicate size (pos 0))) refl e
  where
    by : (r : Result (List ℤ) ℕ) → raised l us (replicate size (pos 0)) ≡ r
        → after_start (sweeps_from l us nodes most 0) r ≡ Settled z k → IsSized size z
    by (Ok x) first is =
        settles size l us nodes most 0 x z k
        (raised_sized size l us (replicate size (pos 0)) x
        (record { long = length-replicate size (pos 0); small = zero_parts size }) first) is
    by (Err place) first is = absurd (cc is)

pub within : (z : ℤ) → nat_abs z ≤ 2 ^ 40 → IsPart z
within z h = (omega (arith, ints, h), omega (arith, ints, h))

pub settled_point : (v : NetworkView) (l : LadderView) (us : List LoadAt) (nodes most : ℕ) (z : List ℤ) (k : ℕ)
    → sweeps_of l us nodes v.size most ≡ Settled z k → IsPoint v z
settled_point v l us nodes most z k e =
    let sized = all_settle l us nodes v.size most z k e in
    record { long = sized.long; parts = All-from_get_or IsPart z (pos 0) (λ i h. within (part z i) (sized.small i)) }
