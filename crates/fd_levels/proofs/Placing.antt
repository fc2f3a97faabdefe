-- Places of elements and of buses: the feeds of the elements so far, the source, and a bus that isn't there.
use Rattle.std.proofs.Common.{◌≡◌, ◌∙◌, ℕ, ◌+◌, ◌≤◌, nat_lt, Bool, true, false, List, [], ◌∷◌, ◌++◌, drop, filter, get_or, length, slice_get, take, Some, None, refl, ap, sym, append_assoc, add-one, arith, if◌then◌else◌}
use Rattle.std.specs.List.{position, position_or_len}
use Rattle.std.proofs.Math.Seq.{take-append_seam}
use Rattle.std.proofs.lemmas.Grind.{common_steps}
use Rattle.std.proofs.lemmas.List.Sums.{prefix_len-le-length}
use Rattle.fd_ladder.proofs.CallerLemmas.{drop-more}
use Rattle.fd_ladder.specs.Sections.{source_nodes}
use Rattle.fd_ladder.specs.dss_layout.Layout.{Elements, LayoutView}
use Rattle.fd_ladder.specs.dss_layout.Nodes.{is_node}
use Rattle.fd_ladder.specs.dss_layout.Terminals.{terminals_of}
use Rattle.fd_ladder.specs.dss_layout.declared.nodes.NodeName.{NodeName}
use Rattle.fd_ladder.specs.dss_layout.dss_lexer.Texts.{text_eq}
use Rattle.fd_ladder.specs.dss_model.declared.element.Element.{Element}
use Rattle.fd_ladder.specs.dss_model.declared.names.ElementName.{ElementName}
use Rattle.fd_levels.specs.Feeds.{bus_in, feed_at, feeds_from}
use Rattle.fd_levels.specs.declared.feed.Feed.{Feed}

-- the feeds of one more element
pub feeds_next : (layout : LayoutView) (turned : List Bool) (es : Elements) (k : ℕ) (e : ElementName × Element) (made more all : List Feed)
    → slice_get es k ≡ Some e → more ≡ made ++ feed_at layout (get_or turned k false) k e.1
    → made ++ feeds_from layout turned k (drop k es) ≡ all → more ++ feeds_from layout turned (k + 1) (drop (k + 1) es) ≡ all
feeds_next layout turned es k e made more all at pushed so_far =
    let now : List Feed = feed_at layout (get_or turned k false) k e.1 in
    ap (λ m. m ++ feeds_from layout turned (k + 1) (drop (k + 1) es)) pushed
    ∙ append_assoc made now (feeds_from layout turned (k + 1) (drop (k + 1) es))
    ∙ ap (λ n. made ++ (now ++ feeds_from layout turned n (drop (k + 1) es))) (add-one k)
    ∙ ap (λ xs. made ++ feeds_from layout turned k xs) (sym (drop-more es k e at))
    ∙ so_far

-- the nodes of the source with which a circuit begins
pub first_source : (es : Elements) (e : ElementName × Element) → slice_get es 0 ≡ Some e → filter is_node (terminals_of e.1).first ≡ source_nodes es
first_source [] e at = absurd (let no : None ≡ Some e = at in cc)
first_source (x ∷ es) e at =
    let same : x ≡ e = cc in
    ap (λ (y : ElementName × Element). filter is_node (terminals_of y.1).first) (sym same)

-- the bus of the first node is that of these nodes
pub bus_of_first : (buses : List (List ℕ)) (nodes : List NodeName) (node : NodeName) → slice_get nodes 0 ≡ Some node
    → position_or_len (text_eq node.bus) buses ≡ bus_in buses nodes
bus_of_first buses [] node at = absurd (let no : None ≡ Some node = at in cc)
bus_of_first buses (m ∷ nodes) node at =
    let same : m ≡ node = cc in
    ap (λ (n : NodeName). position_or_len (text_eq n.bus) buses) (sym same)

-- none passes the test
pub no_position : {X : Type 0} (p : X → Bool) (xs : List X) → position p xs ≡ None → position_or_len p xs ≡ length xs
no_position p xs h = by (nat_lt (position_or_len p xs) (length xs)) refl
  where
    by : (b : Bool) → nat_lt (position_or_len p xs) (length xs) ≡ b → position_or_len p xs ≡ length xs
    by true e = let found : Some (position_or_len p xs) ≡ None = ap (λ b. if b then Some (position_or_len p xs) else None) (sym e) ∙ h in cc
    by false e = let low : position_or_len p xs ≤ length xs = prefix_len-le-length _ xs in grind (arith, common_steps)

-- what was written over a whole table
pub written : {X : Type 0} (old new : List X) (n : ℕ) → n ≡ length new → take n (new ++ drop (length new) old) ≡ new
written old new n long = ap (λ k. take k (new ++ drop (length new) old)) long ∙ take-append_seam new (drop (length new) old)
