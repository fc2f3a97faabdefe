use Rattle.std.proofs.Common.{◌≡◌, ℕ, ◌+◌, ◌<◌, ◌==◌, Bool, true, false, not, ◌||◌, List, length, drop, slice_index, get_or, sym, ap, ◌∙◌}
use Rattle.std.specs.List.{list_any}
use Rattle.std.proofs.lemmas.Bool.{eq-eqb, ne_eqb}
use Rattle.std.proofs.lemmas.List.{at_drop_more, at_drop_all}
use Rattle.dss_layout.specs.declared.nodes.NodeName.{NodeName}
use Rattle.dss_layout.specs.Nodes.{number_in}
use Rattle.dss_ready.proofs.feeding.is_apart.Goals as goal

-- whether a node has another label than the sources
abbrev apart : List NodeName → List ℕ → NodeName → Bool
apart nodes labels m = not (slice_index labels (number_in nodes m) == slice_index labels (length nodes))

-- the test of this node, and of those after it
next : (p : NodeName → Bool) (xs : List NodeName) (k : ℕ) (m : NodeName) (b : Bool) → k < length xs → m ≡ get_or xs k m
    → p m ≡ b → list_any p (drop k xs) ≡ (b || list_any p (drop (k + 1) xs))
next p xs k m b within is test =
    at_drop_more (list_any p) xs k m within
    ∙ ap (λ x. p x || list_any p (drop (k + 1) xs)) (sym is)
    ∙ ap (λ c. c || list_any p (drop (k + 1) xs)) test

-- by the numbers that are looked up
tested : (nodes found : List NodeName) (labels : List ℕ) (m : NodeName) (number : ℕ) (b : Bool) → found ≡ nodes
    → number ≡ number_in nodes m → (get_or labels number 0 == get_or labels (length found) 0) ≡ b
    → apart nodes labels m ≡ not b
tested nodes found labels m number b same is test =
    ap (λ n. not (get_or labels n 0 == get_or labels (length nodes) 0)) (sym is)
    ∙ ap (λ l. not (get_or labels number 0 == get_or labels (length l) 0)) (sym same)
    ∙ ap not test

pub returns-then-labels-number_of : goal.returns-then-labels-number_of
returns-then-labels-number_of c =
    let nodes = c.args.layout.now.nodes in
    let labels = c.args.labels.now in
    let p = apart nodes labels in
    let differs = tested nodes c.nodes.result.now labels c.name-item.result c.number_of.result false c.nodes.ensures
    c.number_of.ensures.number (ne_eqb _ _ c.if-labels-number_of.true) in
    sym (next p c.deref-name-items.result.now c.loop-name.name-index c.name-item.result true c.loop-name-test.true c.name-item.is differs)
    ∙ c.loop-name.invariant
    ∙ ap (list_any p) (c.deref-name-items.ensures.value ∙ c.in_ok-names.ensures)

pub loop-name-preserved : goal.loop-name-preserved
loop-name-preserved c =
    let nodes = c.args.layout.now.nodes in
    let labels = c.args.labels.now in
    let p = apart nodes labels in
    let same = tested nodes c.nodes.result.now labels c.name-item.result c.number_of.result true c.nodes.ensures
    c.number_of.ensures.number (eq-eqb _ _ c.if-labels-number_of.false) in
    sym (next p c.deref-name-items.result.now c.loop-name.name-index c.name-item.result false c.loop-name-test.true c.name-item.is same)
    ∙ c.loop-name.invariant

pub returns : goal.returns
returns c =
    let p = apart c.args.layout.now.nodes c.args.labels.now in
    sym (at_drop_all (list_any p) c.deref-name-items.result.now c.loop-name.name-index c.loop-name-test.false)
    ∙ c.loop-name.invariant
    ∙ ap (list_any p) (c.deref-name-items.ensures.value ∙ c.in_ok-names.ensures)
