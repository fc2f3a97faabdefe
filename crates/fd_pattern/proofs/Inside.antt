-- Which places are among the rows and columns of a network, and which nodes are small.
use Rattle.std.proofs.Common.{ℕ, ◌+◌, ◌*◌, ◌<◌, ◌≤◌, ◌^◌, List, [], ◌∷◌, ◌++◌, Option, Some, None, IfSome, map, arith}
use Rattle.std.specs.List.{All, flat_map}
use Rattle.std.proofs.lemmas.List.Elements.{All-append, All-cons, All-head, All-nil, All-tail, All-weaker}
use Rattle.fd_load.specs.fd_arith.declared.terms.Term.{Term}
use Rattle.fd_load.specs.fd_arith.declared.terms.NodeAt.{NodeAt}
use Rattle.fd_load.specs.fd_arith.declared.terms.NodeAt.TheVariants.{Ground, Node}
use Rattle.fd_load.specs.fd_arith.declared.terms.LoadModel.{LoadModel}
use Rattle.fd_load.specs.fd_system.declared.loads.LoadAt.{LoadAt}
use Rattle.fd_load.specs.fd_system.Contributions.{IsSmall}
use Rattle.fd_load.specs.fd_system.Residual.{IsPlace}
use Rattle.fd_pattern.specs.Conditions.{HasMagnitude, IsAmong, IsLinear, IsServed}
use Rattle.fd_pattern.specs.PatternPlaces.{cross, load_places, magnitude_places, node_places, place_of, places_of, terminal_places}
use Rattle.fd_pattern.specs.Patterns.{IsInside}
use Rattle.fd_pattern.specs.Terminals.{IsConnected}

-- ---- places are among the rows and columns

module _ (n : ℕ) where
  terms_inside : (ts : List Term) → All (IsLinear n) ts → All (IsInside n) (map place_of ts)
  terms_inside [] h = All-nil (IsInside n)
  terms_inside (t ∷ ts) h =
      let one = All-head (IsLinear n) t ts h in
      All-cons (IsInside n) (place_of t) (map place_of ts) (record { row = one.term.row; col = one.term.col }) (terms_inside ts (All-tail (IsLinear n) t ts h))

  abbrev IsUnknown : ℕ → Type 0
  IsUnknown l = l < n

  node_inside : (node : NodeAt) → IsPlace n node → All IsUnknown (node_places node)
  node_inside Ground h = All-nil IsUnknown
  node_inside (Node k) h =
      let top = h.0 in
      All-cons IsUnknown (2 * k) ((2 * k + 1) ∷ []) (omega arith)
      (All-cons IsUnknown (2 * k + 1) [] top (All-nil IsUnknown))

  magnitude_inside : (place : Option ℕ) → IfSome place (λ k. k < n) → All IsUnknown (magnitude_places place)
  magnitude_inside None h = All-nil IsUnknown
  magnitude_inside (Some k) h = All-cons IsUnknown k [] h (All-nil IsUnknown)

  terminal_inside : (u : LoadAt) → IsConnected n u → All IsUnknown (terminal_places u)
  terminal_inside u h =
      All-append IsUnknown (node_places u.first ++ node_places u.second) (magnitude_places u.magnitude)
      (All-append IsUnknown (node_places u.first) (node_places u.second) (node_inside u.first h.first)
      (node_inside u.second h.second))
      (magnitude_inside u.magnitude h.magnitude)

  row_inside : (row : ℕ) (at : List ℕ) → row < n → All IsUnknown at → All (IsInside n) (map (λ col. (row, col)) at)
  row_inside row [] h a = All-nil (IsInside n)
  row_inside row (c ∷ at) h a =
      All-cons (IsInside n) (row, c) (map (λ col. (row, col)) at)
      (record { row = h; col = All-head IsUnknown c at a }) (row_inside row at h (All-tail IsUnknown c at a))

  pub cross_inside : (rows cols : List ℕ) → All (λ l. l < n) rows → All (λ l. l < n) cols → All (IsInside n) (cross rows cols)
  cross_inside [] cols h a = All-nil (IsInside n)
  cross_inside (r ∷ rows) cols h a =
      All-append (IsInside n) (map (λ col. (r, col)) cols) (cross rows cols)
      (row_inside r cols (All-head IsUnknown r rows h) a) (cross_inside rows cols (All-tail IsUnknown r rows h) a)

  loads_inside : (us : List LoadAt) → All (IsConnected n) us → All (IsInside n) (flat_map load_places us)
  loads_inside [] h = All-nil (IsInside n)
  loads_inside (u ∷ us) h =
      let at = terminal_inside u (All-head (IsConnected n) u us h) in
      All-append (IsInside n) (load_places u) (flat_map load_places us)
      (cross_inside (terminal_places u) (terminal_places u) at at) (loads_inside us (All-tail (IsConnected n) u us h))

  pub all_inside : (ts : List Term) (us : List LoadAt) → All (IsLinear n) ts → All (IsConnected n) us → All (IsInside n) (places_of ts us)
  all_inside ts us h k = All-append (IsInside n) (map place_of ts) (flat_map load_places us) (terms_inside ts h) (loads_inside us k)

-- ---- places below the size

node_connected : (m n size : ℕ) (node : NodeAt) → m ≤ n → 2 * n ≤ size → size ≤ 2 ^ 11 → IsAmong m node → IsPlace size node
node_connected m n size Ground among h few k = tt
node_connected m n size (Node r) among h few k = (omega arith, omega arith)

magnitude_connected : (n size : ℕ) (model : LoadModel) (place : Option ℕ) → HasMagnitude n size model place → IfSome place (λ k. k < size)
magnitude_connected n size model None h = tt
magnitude_connected n size model (Some k) h = h.1.1

pub connected : (m n size : ℕ) (u : LoadAt) → m ≤ n → 2 * n ≤ size → size ≤ 2 ^ 11 → IsServed m n size u → IsConnected size u
connected m n size u among h few s = record {
  phase = s.phase;
  first = node_connected m n size u.first among h few s.first;
  second = node_connected m n size u.second among h few s.second;
  magnitude = magnitude_connected n size u.load.model u.magnitude s.magnitude;
}

-- part loads between nodes, whose magnitudes stand behind the complex unknowns, are connected to the real ones
pub all_connected : (m n size : ℕ) (us : List LoadAt) → m ≤ n → 2 * n ≤ size → size ≤ 2 ^ 11 → All (IsServed m n size) us → All (IsConnected size) us
all_connected m n size us among h few a = All-weaker (IsServed m n size) (IsConnected size) (λ u s. connected m n size u among h few s) us a

-- ---- what has a place is small

node_few : (n : ℕ) (node : NodeAt) → IsPlace n node → IsSmall node
node_few n Ground h = tt
node_few n (Node k) h = h.1

pub firsts_few : (n : ℕ) (us : List LoadAt) → All (IsConnected n) us → All (λ u. IsSmall u.first) us
firsts_few n us h = All-weaker (IsConnected n) (λ u. IsSmall u.first) (λ u c. node_few n u.first c.first) us h

pub seconds_few : (n : ℕ) (us : List LoadAt) → All (IsConnected n) us → All (λ u. IsSmall u.second) us
seconds_few n us h = All-weaker (IsConnected n) (λ u. IsSmall u.second) (λ u c. node_few n u.second c.second) us h
