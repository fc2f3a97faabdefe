-- How many contributions elements have, and where they stand.
use Rattle.std.proofs.Common.{ℕ, zero, suc, ◌+◌, ◌*◌, ◌<◌, ◌≤◌, ◌^◌, ℤ, pos, negsuc, neg_ℤ, ◌*ℤ◌, Bool, true, false, cond, List, [], ◌∷◌, ◌++◌, length, length-append, arith}
use Rattle.std.specs.List.{All, flat_map}
use Rattle.std.specs.Ordering.{int_eq}
use Rattle.std.proofs.lemmas.List.Elements.{All-nil, All-cons, All-append, All-head, All-tail}
use Rattle.dss_layout.specs.fd_arith.declared.terms.Term.{Term}
use Rattle.dss_layout.specs.fd_arith.declared.terms.NodeAt.{NodeAt}
use Rattle.dss_layout.specs.fd_arith.declared.terms.NodeAt.TheVariants.{Ground, Node}
use Rattle.dss_layout.specs.fd_arith.declared.terms.Ends.{Ends}
use Rattle.fd_xfmr.specs.fd_system.declared.loads.LoadAt.{LoadAt}
use Rattle.fd_xfmr.specs.fd_system.Contributions.{one, complex_terms, shunt_list, concat_below}
use Rattle.fd_xfmr.specs.fd_system.Terminals.{branch_of, node_of}
use Rattle.fd_xfmr.specs.fd_system.Series.{drop_at, drop_list}
use Rattle.fd_xfmr.specs.fd_system.Loads.{impedance_list, linear_list}
use Rattle.fd_elements.specs.fd_line.declared.data.LineData.{LineData}
use Rattle.fd_elements.specs.fd_line.Totals.{reactance_of, resistance_of}
use Rattle.fd_elements.specs.fd_line.Line.{branch_row, charge_at, end_row, line_list, phase_list, susceptance_of}
use Rattle.fd_elements.specs.fd_source.declared.data.SourceData.{SourceData}
use Rattle.fd_elements.specs.fd_source.Equations.{phase_list as source_phase_list, reactance_of as source_reactance, resistance_of as source_resistance, source_list}
use Rattle.fd_devices.specs.Building.{IsInside}
use Rattle.fd_pattern.specs.Conditions.{IsAmong}

-- ---- places

-- at most b contributions, each inside
pub record AreInside (n b : ℕ) (ts : List Term) : Type 0 where
  pub inside : All (IsInside n) ts
  pub few : length ts ≤ b

pub none_inside : (n : ℕ) → AreInside n 0 []
none_inside n = record { inside = All-nil (IsInside n); few = omega arith }

pub more_room : (n a b : ℕ) (ts : List Term) → a ≤ b → AreInside n a ts → AreInside n b ts
more_room n a b ts h i = let f = i.few in record { inside = i.inside; few = omega arith }

pub joined_inside : (n a b : ℕ) (ts us : List Term) → AreInside n a ts → AreInside n b us → AreInside n (a + b) (ts ++ us)
joined_inside n a b ts us h k =
    let f = h.few in
    let g = k.few in
    let e = length-append ts us in
    record { inside = All-append (IsInside n) ts us h.inside k.inside; few = omega arith }

pub concat_inside : (n b : ℕ) (f : ℕ → List Term) (m : ℕ) → ((k : ℕ) → k < m → AreInside n b (f k)) → AreInside n (m * b) (concat_below f m)
concat_inside n b f zero h = more_room n 0 (0 * b) [] (omega arith) (none_inside n)
concat_inside n b f (suc m) h =
    let j = joined_inside n (m * b) b (concat_below f m) (f m) (concat_inside n b f m (λ k p. h k (omega arith))) (h m (omega arith)) in
    more_room n (m * b + b) (suc m * b) _ (omega arith) j

module _ (n : ℕ) where
  one_by : (t : Bool) (r c : ℕ) (a d : ℤ) → r < 2 * n → c < 2 * n → AreInside n 1 (cond t [] (record { row = r; col = c; num = a; den = d } ∷ []))
  one_by true r c a d p q = more_room n 0 1 [] (omega arith) (none_inside n)
  one_by false r c a d p q = record { inside = All-cons (IsInside n) _ [] (record { row = p; col = q }) (All-nil (IsInside n)); few = omega arith }

  one_inside : (r c : ℕ) (a d : ℤ) → r < 2 * n → c < 2 * n → AreInside n 1 (one r c a d)
  one_inside r c a d p q = one_by (int_eq a (pos 0)) r c a d p q

  pub complex_inside : (r c : NodeAt) (a b d : ℤ) → IsAmong n r → IsAmong n c → AreInside n 4 (complex_terms r c a b d)
  complex_inside (Node r) (Node c) a b d p q =
      joined_inside n 1 3 (one (2 * r) (2 * c) a d) _ (one_inside (2 * r) (2 * c) a d (omega arith) (omega arith))
      (joined_inside n 1 2 (one (2 * r) (2 * c + 1) (neg_ℤ b) d) _
      (one_inside (2 * r) (2 * c + 1) (neg_ℤ b) d (omega arith) (omega arith)) (joined_inside n 1 1
      (one (2 * r + 1) (2 * c) b d) _ (one_inside (2 * r + 1) (2 * c) b d (omega arith) (omega arith))
      (one_inside (2 * r + 1) (2 * c + 1) a d (omega arith) (omega arith))))
  complex_inside (Node r) Ground a b d p q = more_room n 0 4 [] (omega arith) (none_inside n)
  complex_inside Ground c a b d p q = more_room n 0 4 [] (omega arith) (none_inside n)

  pub node_below : (ns : List NodeAt) (k : ℕ) → All (IsAmong n) ns → IsAmong n (node_of ns k)
  node_below [] k h = tt
  node_below (m ∷ ns) zero h = All-head (IsAmong n) m ns h
  node_below (m ∷ ns) (suc k) h = node_below ns k (All-tail (IsAmong n) m ns h)

  drops_inside : (r x : ℕ → ℕ → ℤ) (branch m k : ℕ) → branch + m ≤ n → k < m → AreInside n (m * 4) (drop_list r x branch m k)
  drops_inside r x branch m k h p = concat_inside n 4 (drop_at r x branch k) m
      (λ j q. complex_inside (branch_of branch k) (branch_of branch j) (neg_ℤ (r k j)) (neg_ℤ (x k j)) (pos (10 ^ 12)) (omega arith) (omega arith))

  -- ---- lines

  module _ (l : LineData) (at : Ends) (first : All (IsAmong n) at.first) (second : All (IsAmong n) at.second) (room : at.branch + l.phases ≤ n) where
    branch_inside : (k : ℕ) → k < l.phases → AreInside n (8 + l.phases * 4) (branch_row l at k)
    branch_inside k p =
        let r = branch_of at.branch k in
        joined_inside n 8 (l.phases * 4) _ (drop_list (resistance_of l) (reactance_of l) at.branch l.phases k)
        (joined_inside n 4 4 (complex_terms r (node_of at.first k) (pos 1) (pos 0) (pos 1)) (complex_terms r (node_of at.second k) (negsuc 0) (pos 0) (pos 1))
        (complex_inside r (node_of at.first k) (pos 1) (pos 0) (pos 1) (omega arith) (node_below at.first k first))
        (complex_inside r (node_of at.second k) (negsuc 0) (pos 0) (pos 1) (omega arith) (node_below at.second k second)))
        (drops_inside (resistance_of l) (reactance_of l) at.branch l.phases k room p)

    end_inside : (ns : List NodeAt) (sign : ℤ) (k : ℕ) → All (IsAmong n) ns → k < l.phases → AreInside n (4 + l.phases * 4) (end_row l at.branch ns sign k)
    end_inside ns sign k h p =
        joined_inside n 4 (l.phases * 4) (complex_terms (node_of ns k) (branch_of at.branch k) sign (pos 0) (pos 1))
        (concat_below (charge_at l ns k) l.phases)
        (complex_inside (node_of ns k) (branch_of at.branch k) sign (pos 0) (pos 1) (node_below ns k h) (omega arith))
        (concat_inside n 4 (charge_at l ns k) l.phases (λ m q.
        complex_inside (node_of ns k) (node_of ns m) (pos 0) (susceptance_of l k m) (pos (2 * 10 ^ 27))
        (node_below ns k h) (node_below ns m h)))

    phase_inside : (k : ℕ) → k < l.phases → l.phases ≤ 3 → AreInside n 52 (phase_list l at k)
    phase_inside k p few =
        more_room n (8 + l.phases * 4 + (4 + l.phases * 4 + (4 + l.phases * 4))) 52 (phase_list l at k) (omega arith)
        (joined_inside n (8 + l.phases * 4) _ (branch_row l at k) _ (branch_inside k p)
        (joined_inside n (4 + l.phases * 4) (4 + l.phases * 4) (end_row l at.branch at.first (pos 1) k) _
        (end_inside at.first (pos 1) k first p) (end_inside at.second (negsuc 0) k second p)))

    pub line_inside : l.phases ≤ 3 → AreInside n (l.phases * 64) (line_list l at)
    line_inside few = more_room n (l.phases * 52) (l.phases * 64) (line_list l at) (omega arith)
        (concat_inside n 52 (phase_list l at) l.phases (λ k p. phase_inside k p few))

  -- ---- sources

  module _ (s : SourceData) (at : Ends) (first : All (IsAmong n) at.first) (room : at.branch + s.phases ≤ n) where
    source_phase_inside : (k : ℕ) → k < s.phases → s.phases ≤ 3 → AreInside n 20 (source_phase_list s at k)
    source_phase_inside k p few =
        let r = branch_of at.branch k in
        let m = node_of at.first k in
        more_room n (4 + s.phases * 4 + 4) 20 (source_phase_list s at k) (omega arith)
        (joined_inside n (4 + s.phases * 4) 4 _ (complex_terms m r (negsuc 0) (pos 0) (pos 1))
        (joined_inside n 4 (s.phases * 4) (complex_terms r m (negsuc 0) (pos 0) (pos 1))
        (drop_list (source_resistance s) (source_reactance s) at.branch s.phases k)
        (complex_inside r m (negsuc 0) (pos 0) (pos 1) (omega arith) (node_below at.first k first))
        (drops_inside (source_resistance s) (source_reactance s) at.branch s.phases k room p))
        (complex_inside m r (negsuc 0) (pos 0) (pos 1) (node_below at.first k first) (omega arith)))

    pub source_inside : s.phases ≤ 3 → AreInside n (s.phases * 64) (source_list s at)
    source_inside few = more_room n (s.phases * 20) (s.phases * 64) (source_list s at) (omega arith)
        (concat_inside n 20 (source_phase_list s at) s.phases (λ k p. source_phase_inside k p few))

  -- ---- loads

  -- both nodes of a part load
  pub record StandsBelow (u : LoadAt) : Type 0 where
    pub first : IsAmong n u.first
    pub second : IsAmong n u.second

  pub shunt_inside : (m k : NodeAt) (a b d : ℤ) → IsAmong n m → IsAmong n k → AreInside n 16 (shunt_list m k a b d)
  shunt_inside m k a b d p q =
      joined_inside n 8 8 _ _ (joined_inside n 4 4 (complex_terms m m a b d) (complex_terms m k (neg_ℤ a) (neg_ℤ b) d)
      (complex_inside m m a b d p p) (complex_inside m k (neg_ℤ a) (neg_ℤ b) d p q))
      (joined_inside n 4 4 (complex_terms k m (neg_ℤ a) (neg_ℤ b) d) (complex_terms k k a b d)
      (complex_inside k m (neg_ℤ a) (neg_ℤ b) d q p) (complex_inside k k a b d q q))

  pub impedance_inside : (u : LoadAt) → StandsBelow u → AreInside n 16 (impedance_list u)
  impedance_inside u h = shunt_inside u.first u.second (pos (10 ^ 9) *ℤ u.load.p) (neg_ℤ (pos (10 ^ 9) *ℤ u.load.q)) (u.load.vn *ℤ u.load.vn) h.first h.second

  linear_by : (t : Bool) (u : LoadAt) → StandsBelow u → AreInside n 16 (cond t (impedance_list u) [])
  linear_by true u h = impedance_inside u h
  linear_by false u h = more_room n 0 16 [] (omega arith) (none_inside n)

  pub loads_inside : (us : List LoadAt) → All StandsBelow us → AreInside n (length us * 16) (flat_map linear_list us)
  loads_inside [] h = more_room n 0 (0 * 16) [] (omega arith) (none_inside n)
  loads_inside (u ∷ us) h =
      more_room n (16 + length us * 16) (length (u ∷ us) * 16) _ (omega arith)
      (joined_inside n 16 (length us * 16) (linear_list u) (flat_map linear_list us)
      (linear_by _ u (All-head StandsBelow u us h)) (loads_inside us (All-tail StandsBelow u us h)))
