-- The elements up to a place in order, as sections and as those that offend.
use Rattle.std.proofs.Common.{◌≡◌, ℕ, ◌+◌, ◌≤◌, ◌<◌, true, false, List, [], ◌∷◌, ◌++◌, length, drop, filter, slice_get, Some, None, sym, ap, ◌∙◌, add-one, append_assoc, arith}
use Rattle.std.proofs.lemmas.Option.{slice_get_within}
use borrow.Author.Count.{below_more}
use Rattle.dss_layout.specs.fd_exact.FirstLaws.{first_none, first_some}
use Rattle.dss_layout.specs.dss_model.declared.element.Element.{Element}
use Rattle.dss_layout.specs.dss_model.declared.names.ElementName.{ElementName}
use Rattle.dss_layout.specs.Nodes.{is_node}
use Rattle.dss_layout.specs.Terminals.{terminals_of}
use Rattle.dss_layout.proofs.CallerLemmas.{drop-more}
use Rattle.dss_circuit.specs.Circuit.{Elements}
use Rattle.fd_ladder.specs.declared.section.Section.{Section}
use Rattle.fd_ladder.specs.Sections.{sections_at, sections_from, source_nodes}
use Rattle.fd_ladder.specs.Radial.{offends_where, first_offending_by}

-- one more element as a section
pub sections_next : (es : Elements) (k : ℕ) (e : ElementName × Element) (made more all : List Section)
    → slice_get es k ≡ Some e → more ≡ made ++ sections_at k e.1 → made ++ sections_from k (drop k es) ≡ all
    → more ++ sections_from (k + 1) (drop (k + 1) es) ≡ all
sections_next es k e made more all at pushed so_far =
    ap (λ m. m ++ sections_from (k + 1) (drop (k + 1) es)) pushed
    ∙ append_assoc made (sections_at k e.1) (sections_from (k + 1) (drop (k + 1) es))
    ∙ ap (λ n. made ++ (sections_at k e.1 ++ sections_from n (drop (k + 1) es))) (add-one k)
    ∙ ap (λ xs. made ++ sections_from k xs) (sym (drop-more es k e at))
    ∙ so_far

pub first_source : (es : Elements) (e : ElementName × Element) → slice_get es 0 ≡ Some e
    → filter is_node (terminals_of e.1).first ≡ source_nodes es
first_source [] e h = absurd (let no : None ≡ Some e = h in cc)
first_source (x ∷ xs) e h = let one : x ≡ e = cc in ap (λ (y : ElementName × Element). filter is_node (terminals_of y.1).first) (sym one)

-- none before this place offends, and the element here does
pub offends_here : (order : List ℕ) (es : Elements) (k : ℕ) (e : ElementName × Element) → slice_get es k ≡ Some e
    → ((j : ℕ) → j < k → offends_where order j (slice_get es j) ≡ false) → offends_where order k (Some e) ≡ true
    → Some k ≡ first_offending_by order es
offends_here order es k e at before here =
    sym (first_some (λ j. offends_where order j (slice_get es j)) (length es) k (slice_get_within es k e at) before
    (ap (offends_where order k) at ∙ here))

-- nor does the element here
pub none_more : (order : List ℕ) (es : Elements) (k : ℕ) (e : ElementName × Element) → slice_get es k ≡ Some e
    → ((j : ℕ) → j < k → offends_where order j (slice_get es j) ≡ false) → offends_where order k (Some e) ≡ false
    → (j : ℕ) → j < k + 1 → offends_where order j (slice_get es j) ≡ false
none_more order es k e at before here =
    below_more (λ j. offends_where order j (slice_get es j) ≡ false) k before (ap (offends_where order k) at ∙ here)

-- none offends
pub none_offends : (order : List ℕ) (es : Elements) (k : ℕ) → length es ≤ k
    → ((j : ℕ) → j < k → offends_where order j (slice_get es j) ≡ false) → None ≡ first_offending_by order es
none_offends order es k all before =
    sym (first_none (λ j. offends_where order j (slice_get es j)) (length es) (λ j low. before j (omega (arith, all, low))))
