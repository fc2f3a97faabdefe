-- Sums over part loads, and what each adds.
use Rattle.std.proofs.Common.{◌≡◌, ℕ, ◌+◌, ◌*◌, ◌<◌, ◌≤◌, ◌^◌, ℤ, pos, ◌+ℤ◌, ◌-ℤ◌, nat_abs, Bool, true, false, cond, List, [], ◌∷◌, length, take, Option, Some, None, IfSome, arith, ap}
use Rattle.std.specs.List.{All}
use Rattle.std.proofs.lemmas.Int.{ints}
use Rattle.std.proofs.lemmas.List.{length-take}
use Rattle.std.proofs.lemmas.List.Elements.{All-get_or, All-head, All-tail, All-take, All-weaker}
use Rattle.fd_mat.specs.fd_exact.Rounding.{near_div}
use Rattle.fd_mat.specs.fd_exact.States.{part}
use Rattle.fd_mat.specs.fd_exact.Sums.{list_z}
use Rattle.fd_pattern.specs.fd_arith.declared.terms.NodeAt.{NodeAt}
use Rattle.fd_pattern.specs.fd_arith.declared.terms.NodeAt.TheVariants.{Ground, Node}
use Rattle.fd_pattern.specs.fd_load.Current.{AreVoltages, divisor, excess, in_phase, quadrature}
use Rattle.fd_pattern.specs.fd_arith.declared.terms.LoadModel.TheVariants.{ConstantPower}
use Rattle.fd_pattern.specs.fd_arith.LoadModels.{is_linear}
use Rattle.fd_pattern.specs.fd_system.declared.loads.LoadAt.{LoadAt}
use Rattle.fd_pattern.specs.fd_system.Loads.{re_of, im_of, magnitude_of}
use Rattle.fd_pattern.specs.fd_system.Residual.{IsPlace, whole_state}
use Rattle.fd_pattern.specs.Conditions.{IsPart}
use Rattle.fd_equations.specs.PartLoads.{load_row, loads_row}
use Rattle.fd_pattern.specs.Terminals.{IsConnected, at_terminal, imaginary_of, magnitude_in, real_of}
use Rattle.fd_equations.proofs.AtTerminals.{terminal_least}
use Rattle.fd_pattern.proofs.CallerLemmas.{excess_small, in_phase_small, quadrature_small}
use Rattle.fd_equations.proofs.Sizes.{part_size}

-- a part load for places outside a list
abbrev pub no_load : LoadAt
no_load = record {
  load = record { model = ConstantPower; p = pos 0; q = pos 0; vn = pos 0; vlo = pos 0; vhi = pos 0 };
  first = Ground;
  second = Ground;
  magnitude = None;
}

-- ---- the size of a sum

pub list_z_small : {A : Type 0} (f : A → ℤ) (b : ℕ) (xs : List A) → All (λ a. nat_abs (f a) ≤ b) xs → nat_abs (list_z f xs) ≤ length xs * b
list_z_small f b [] h = omega arith
list_z_small f b (x ∷ xs) h =
    let both = one (f x) (list_z f xs) (length xs * b) (All-head (λ a. nat_abs (f a) ≤ b) x xs h)
    (list_z_small f b xs (All-tail (λ a. nat_abs (f a) ≤ b) x xs h)) in
    omega arith
  where
    one : (y z : ℤ) (m : ℕ) → nat_abs y ≤ b → nat_abs z ≤ m → nat_abs (y +ℤ z) ≤ b + m
    one y z m h k = omega (arith, ints)

-- ---- voltages at a point

module _ (x : List ℤ) (parts : All IsPart x) where
  part_small : (k : ℕ) → k < length x → nat_abs (part x k) ≤ 2 ^ 40
  part_small k h = part_size (part x k) (All-get_or IsPart x k (pos 0) h parts)

  re_small : (node : NodeAt) → IsPlace (length x) node → nat_abs (re_of (whole_state x) node) ≤ 2 ^ 40
  re_small Ground h = omega arith
  re_small (Node k) h = part_small (2 * k) (omega (arith, h.0))

  im_small : (node : NodeAt) → IsPlace (length x) node → nat_abs (im_of (whole_state x) node) ≤ 2 ^ 40
  im_small Ground h = omega arith
  im_small (Node k) h = part_small (2 * k + 1) h.0

  magnitude_small : (place : Option ℕ) → IfSome place (λ k. k < length x) → nat_abs (magnitude_of (whole_state x) place) ≤ 2 ^ 40
  magnitude_small None h = omega arith
  magnitude_small (Some k) h = part_small k h

  difference_small : (a b : ℤ) → nat_abs a ≤ 2 ^ 40 → nat_abs b ≤ 2 ^ 40 → nat_abs (a -ℤ b) ≤ 2 ^ 41
  difference_small a b h k = omega (arith, ints)

  pub voltages : (u : LoadAt) → IsConnected (length x) u → AreVoltages (real_of x u) (imaginary_of x u) (magnitude_in x u)
  voltages u h = record {
    re = difference_small (re_of (whole_state x) u.first) (re_of (whole_state x) u.second) (re_small u.first h.first) (re_small u.second h.second);
    im = difference_small (im_of (whole_state x) u.first) (im_of (whole_state x) u.second) (im_small u.first h.first) (im_small u.second h.second);
    magnitude = let m = magnitude_small u.magnitude h.magnitude in omega arith;
  }

-- ---- a part load in the rounded residual

abbrev drawn_row : List ℤ → ℕ → LoadAt → ℤ
drawn_row x l u = at_terminal l u
    (near_div (in_phase u.load (real_of x u) (imaginary_of x u)) (divisor u.load (real_of x u) (imaginary_of x u) (magnitude_in x u)))
    (near_div (quadrature u.load (real_of x u) (imaginary_of x u)) (divisor u.load (real_of x u) (imaginary_of x u) (magnitude_in x u)))
    (near_div (excess (real_of x u) (imaginary_of x u) (magnitude_in x u)) (nat_abs u.load.vn))

pub row_other : (x : List ℤ) (l : ℕ) (u : LoadAt) → is_linear u.load.model ≡ false → load_row x l u ≡ drawn_row x l u
unfolding load_row
row_other x l u ne = ap (λ b. cond b (pos 0) (drawn_row x l u)) ne

pub row_linear : (x : List ℤ) (l : ℕ) (u : LoadAt) → is_linear u.load.model ≡ true → load_row x l u ≡ pos 0
unfolding load_row
row_linear x l u e = ap (λ b. cond b (pos 0) (drawn_row x l u)) e

pub row_small : (x : List ℤ) (l : ℕ) (u : LoadAt) → All IsPart x → IsConnected (length x) u → nat_abs (load_row x l u) ≤ 2 ^ 64
unfolding load_row
row_small x l u parts h =
    let v = voltages x parts u h in
    let p = real_of x u in
    let q = imaginary_of x u in
    let m = magnitude_in x u in
    let t = terminal_least l u (near_div (in_phase u.load p q) (divisor u.load p q m))
    (near_div (quadrature u.load p q) (divisor u.load p q m)) (near_div (excess p q m) (nat_abs u.load.vn)) (2 ^ 62)
    (in_phase_small u.load p q m h.phase v) (quadrature_small u.load p q m h.phase v)
    (excess_small u.load p q m h.phase v) in
    by_test (is_linear u.load.model) (omega arith)
  where
    by_test : (b : Bool) → nat_abs (drawn_row x l u) ≤ 2 ^ 64 → nat_abs (cond b (pos 0) (drawn_row x l u)) ≤ 2 ^ 64
    by_test true k = omega arith
    by_test false k = k

pub rows_small : (x : List ℤ) (l : ℕ) (us : List LoadAt) → All IsPart x → All (IsConnected (length x)) us → nat_abs (loads_row us x l) ≤ length us * 2 ^ 64
rows_small x l us parts h = list_z_small (load_row x l) (2 ^ 64) us (each us h)
  where
    each : (us : List LoadAt) → All (IsConnected (length x)) us → All (λ u. nat_abs (load_row x l u) ≤ 2 ^ 64) us
    each us h = All-weaker (IsConnected (length x)) (λ u. nat_abs (load_row x l u) ≤ 2 ^ 64) (λ u k. row_small x l u parts k) us h

pub row_room : (x : List ℤ) (l : ℕ) (us : List LoadAt) (k : ℕ) (z : ℤ) → All IsPart x
    → All (IsConnected (length x)) us → length us < 2 ^ 21 → nat_abs z ≤ 2 ^ 85
    → nat_abs (z +ℤ loads_row (take k us) x l) ≤ 2 ^ 86
row_room x l us k z parts h few small =
    let all = rows_small x l (take k us) parts (All-take (IsConnected (length x)) k us h) in
    let n : length (take k us) ≤ 2 ^ 21 = omega (arith, length-take k us) in
    sum z (loads_row (take k us) x l) small (omega arith)
  where
    sum : (a b : ℤ) → nat_abs a ≤ 2 ^ 85 → nat_abs b ≤ 2 ^ 85 → nat_abs (a +ℤ b) ≤ 2 ^ 86
    sum a b h k = omega (arith, ints)
