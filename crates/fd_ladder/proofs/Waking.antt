-- What isn't due can't be taken, while nodes are reached and the sections that join them become due.
use Rattle.std.proofs.Common.{◌≡◌, ℕ, ◌≤◌, nat_eq, nat_lt, Bool, true, false, cond, not, ◌&&◌, ◌||◌, List, [], ◌∷◌, ◌++◌, length, slice_get, Option, Some, None, ◌⊎◌, inl, inr, refl, sym, ap, ◌∙◌, subst, arith}
use Rattle.std.specs.List.{list_any, list_all}
use Rattle.std.specs.BTreeMap.{is_at}
use Rattle.std.specs.BTreeSet.{BTreeSet}
use Rattle.std.specs.Ordering.{nat_cmp}
use Rattle.std.proofs.lemmas.Bool.{or_parts}
use Rattle.std.proofs.lemmas.Bool.Decides.{nat_tests}
use Rattle.std.proofs.lemmas.List.Folds.{list_any-append}
use Rattle.std.proofs.lemmas.Option.{slice_get_past}
use Rattle.dss_layout.specs.declared.nodes.NodeName.{NodeName}
use Rattle.dss_layout.specs.Nodes.{same_node}
use Rattle.fd_ladder.specs.declared.section.Section.{Section}
use Rattle.fd_ladder.specs.Radial.{Reach, reach_at, is_reached, can_be_taken, is_taken, is_next}
use Rattle.fd_ladder.specs.Due.{Noted, AreNoted, AreDue, IsAsleep, Wakes, is_noted, is_due, is_next_where, joins, joins_where}
use Rattle.fd_ladder.proofs.Noting.{or_left, or_right, one_node, node_itself}

or_false : (a : Bool) → (a || false) ≡ a
or_false true = refl
or_false false = refl

-- ---- nodes are reached

pub wakes_none : (noted : Noted) (nodes : List NodeName) (due : BTreeSet ℕ) → Wakes noted nodes nodes due due
wakes_none noted nodes due place out = record { before_too = out; same = λ node there. refl }

pub wakes_both : (noted : Noted) (a b c : List NodeName) (d e f : BTreeSet ℕ) → Wakes noted a b d e → Wakes noted b c e f
    → Wakes noted a c d f
wakes_both noted a b c d e f h k place out =
    let late = k place out in
    let early = h place late.before_too in
    record { before_too = early.before_too; same = λ node there. late.same node there ∙ early.same node there }

-- a new node is reached, and the sections that are noted there are due
pub wakes_one : (noted : Noted) (before after : List NodeName) (node : NodeName) (due woken : BTreeSet ℕ)
    → after ≡ before ++ node ∷ [] → ((place : ℕ) → is_due woken place ≡ (is_due due place || is_noted noted node place))
    → Wakes noted before after due woken
wakes_one noted before after node due woken is wakes place out =
    let parts = or_parts (is_due due place) (is_noted noted node place) (sym (wakes place) ∙ out) in
    record { before_too = parts.0; same = λ other there. by other there parts.1 (same_node other node) refl }
  where
    by : (other : NodeName) → is_noted noted other place ≡ true → is_noted noted node place ≡ false → (b : Bool)
        → same_node other node ≡ b → is_reached after other ≡ is_reached before other
    by other there none true same =
        let one : other ≡ node = one_node other node same in
        let here : is_noted noted node place ≡ true = subst (λ x. is_noted noted x place ≡ true) one there in
        absurd (let no : true ≡ false = sym here ∙ none in cc)
    by other there none false apart =
        ap (list_any (same_node other)) is
        ∙ list_any-append (same_node other) before (node ∷ [])
        ∙ ap (λ b. is_reached before other || (b || false)) apart
        ∙ or_false (is_reached before other)

-- ---- a section can't be taken

all_same : (p q : NodeName → Bool) (nodes : List NodeName)
    → ((node : NodeName) → list_any (same_node node) nodes ≡ true → p node ≡ q node)
    → list_all p nodes ≡ list_all q nodes
all_same p q [] h = refl
all_same p q (x ∷ xs) h =
    let first : p x ≡ q x = h x (or_left (same_node x x) (list_any (same_node x) xs) (node_itself x)) in
    let rest : list_all p xs ≡ list_all q xs = all_same p q xs (λ node there. h node (or_right (same_node node x) (list_any (same_node node) xs) there)) in
    (λ i. first i && rest i)

any_same : (p q : NodeName → Bool) (nodes : List NodeName)
    → ((node : NodeName) → list_any (same_node node) nodes ≡ true → p node ≡ q node)
    → list_any p nodes ≡ list_any q nodes
any_same p q [] h = refl
any_same p q (x ∷ xs) h =
    let first : p x ≡ q x = h x (or_left (same_node x x) (list_any (same_node x) xs) (node_itself x)) in
    let rest : list_any p xs ≡ list_any q xs = any_same p q xs (λ node there. h node (or_right (same_node node x) (list_any (same_node node) xs) there)) in
    (λ i. first i || rest i)

-- where no node of the section is newly reached, it can be taken as before
same_can : (before after : List NodeName) (s : Section)
    → ((node : NodeName) → joins s node ≡ true → is_reached after node ≡ is_reached before node)
    → can_be_taken after s ≡ can_be_taken before s
same_can before after s h =
    (λ i. (s.from_first && (all_first i && not (any_second i))) || (s.from_second && (all_second i && not (any_first i))))
  where
    in_first : (node : NodeName) → list_any (same_node node) s.first ≡ true → is_reached after node ≡ is_reached before node
    in_first node there = h node (or_left (list_any (same_node node) s.first) (list_any (same_node node) s.second) there)

    in_second : (node : NodeName) → list_any (same_node node) s.second ≡ true → is_reached after node ≡ is_reached before node
    in_second node there = h node (or_right (list_any (same_node node) s.first) (list_any (same_node node) s.second) there)

    all_first : list_all (is_reached after) s.first ≡ list_all (is_reached before) s.first
    all_first = all_same (is_reached after) (is_reached before) s.first in_first

    any_first : list_any (is_reached after) s.first ≡ list_any (is_reached before) s.first
    any_first = any_same (is_reached after) (is_reached before) s.first in_first

    all_second : list_all (is_reached after) s.second ≡ list_all (is_reached before) s.second
    all_second = all_same (is_reached after) (is_reached before) s.second in_second

    any_second : list_any (is_reached after) s.second ≡ list_any (is_reached before) s.second
    any_second = any_same (is_reached after) (is_reached before) s.second in_second

not_next_where : (before after : List NodeName) (order : List ℕ) (found : Option Section)
    → ((node : NodeName) → joins_where found node ≡ true → is_reached after node ≡ is_reached before node)
    → is_next_where (reach_at before order) found ≡ false → is_next_where (reach_at after order) found ≡ false
not_next_where before after order None h none = refl
not_next_where before after order (Some s) h none =
    ap (λ b. not (is_taken order s.element) && b) (same_can before after s h) ∙ none

-- where it isn't due, it can't be taken after nodes are reached
asleep : (sections : List Section) (noted : Noted) (before after : List NodeName) (order : List ℕ) (due : BTreeSet ℕ) (place : ℕ)
    → AreNoted sections noted → IsAsleep noted before after due place
    → is_next_where (reach_at before order) (slice_get sections place) ≡ false
    → is_next_where (reach_at after order) (slice_get sections place) ≡ false
asleep sections noted before after order due place all h none =
    not_next_where before after order (slice_get sections place) (λ node there. h.same node (all node place there)) none

-- ---- a section is taken

taken_more : (order : List ℕ) (number other : ℕ) → is_taken order other ≡ true → is_taken (order ++ number ∷ []) other ≡ true
taken_more order number other h =
    list_any-append (nat_eq other) order (number ∷ [])
    ∙ or_left (is_taken order other) (list_any (nat_eq other) (number ∷ [])) h

pub taken_last : (order : List ℕ) (number : ℕ) → is_taken (order ++ number ∷ []) number ≡ true
taken_last order number =
    list_any-append (nat_eq number) order (number ∷ [])
    ∙ or_right (is_taken order number) (list_any (nat_eq number) (number ∷ [])) (or_left (nat_eq number number) false (grind (arith, nat_tests)))

later_where : (nodes : List NodeName) (order : List ℕ) (number : ℕ) (found : Option Section)
    → is_next_where (reach_at nodes order) found ≡ false → is_next_where (reach_at nodes (order ++ number ∷ [])) found ≡ false
later_where nodes order number None h = refl
later_where nodes order number (Some s) h = by (is_taken order s.element) refl h
  where
    by : (b : Bool) → is_taken order s.element ≡ b → (not b && can_be_taken nodes s) ≡ false
        → (not (is_taken (order ++ number ∷ []) s.element) && can_be_taken nodes s) ≡ false
    by true is e = ap (λ b. not b && can_be_taken nodes s) (taken_more order number s.element is)
    by false is e = ap (λ b. not (is_taken (order ++ number ∷ []) s.element) && b) e ∙ none (is_taken (order ++ number ∷ []) s.element)
      where
        none : (b : Bool) → (not b && false) ≡ false
        none true = refl
        none false = refl

-- only what was due stays due without the section that was looked at
not_due : (due without : BTreeSet ℕ) (place q : ℕ)
    → ((q : ℕ) → is_due without q ≡ cond (is_at (nat_cmp place) q) false (is_due due q))
    → is_due without q ≡ false → (place ≡ q) ⊎ (is_due due q ≡ false)
not_due due without place q removed out = by (is_at (nat_cmp place) q) refl
  where
    same : (place q : ℕ) → is_at (nat_cmp place) q ≡ true → place ≡ q
    same place q h = grind (arith, nat_tests)

    by : (b : Bool) → is_at (nat_cmp place) q ≡ b → (place ≡ q) ⊎ (is_due due q ≡ false)
    by true is = inl (same place q is)
    by false is = inr (sym (removed q ∙ ap (λ b. cond b false (is_due due q)) is) ∙ out)

-- it can't be taken
pub passed_over : (sections : List Section) (due without : BTreeSet ℕ) (place : ℕ) (s : Section) (r : Reach)
    → slice_get sections place ≡ Some s → is_next r s ≡ false
    → ((q : ℕ) → is_due without q ≡ cond (is_at (nat_cmp place) q) false (is_due due q))
    → AreDue sections due r → AreDue sections without r
passed_over sections due without place s r found none removed h q out = by (not_due due without place q removed out)
  where
    by : (place ≡ q) ⊎ (is_due due q ≡ false) → is_next_where r (slice_get sections q) ≡ false
    by (inl e) = ap (is_next_where r) (ap (slice_get sections) (sym e) ∙ found) ∙ none
    by (inr e) = h q e

-- it is taken, and its nodes are reached
pub taken_up : (sections : List Section) (noted : Noted) (due without woken : BTreeSet ℕ) (place : ℕ) (s : Section)
    (before after : List NodeName) (order more : List ℕ) → AreNoted sections noted → slice_get sections place ≡ Some s
    → more ≡ order ++ s.element ∷ []
    → ((q : ℕ) → is_due without q ≡ cond (is_at (nat_cmp place) q) false (is_due due q))
    → AreDue sections due (reach_at before order) → Wakes noted before after without woken
    → AreDue sections woken (reach_at after more)
taken_up sections noted due without woken place s before after order more all found is removed h wakes q out =
    let sleeps = wakes q out in
    by sleeps (not_due due without place q removed sleeps.before_too)
  where
    by : IsAsleep noted before after without q → (place ≡ q) ⊎ (is_due due q ≡ false)
        → is_next_where (reach_at after more) (slice_get sections q) ≡ false
    by sleeps (inl e) =
        ap (is_next_where (reach_at after more)) (ap (slice_get sections) (sym e) ∙ found)
        ∙ ap (λ o. not (is_taken o s.element) && can_be_taken after s) is
        ∙ ap (λ b. not b && can_be_taken after s) (taken_last order s.element)
    by sleeps (inr e) =
        let later = later_where before order s.element (slice_get sections q) (h q e) in
        asleep sections noted before after more without q all sleeps
        (subst (λ o. is_next_where (reach_at before o) (slice_get sections q) ≡ false) (sym is) later)

-- at first all are due
pub all_are_due : (sections : List Section) (noted : Noted) (before after : List NodeName) (due woken : BTreeSet ℕ) (r : Reach)
    → ((q : ℕ) → is_due due q ≡ nat_lt q (length sections)) → Wakes noted before after due woken
    → AreDue sections woken r
all_are_due sections noted before after due woken r all wakes q out =
    let is : nat_lt q (length sections) ≡ false = sym (all q) ∙ (wakes q out).before_too in
    let past = behind q (length sections) is in
    ap (is_next_where r) (slice_get_past sections q past)
  where
    behind : (q n : ℕ) → nat_lt q n ≡ false → n ≤ q
    behind q n h = grind (arith, nat_tests)
