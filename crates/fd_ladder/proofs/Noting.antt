-- Places are noted, and become due, one after another.
use Rattle.std.proofs.Common.{◌≡◌, ℕ, ◌+◌, ◌<◌, ◌≤◌, nat_eq, Bool, true, false, cond, ◌&&◌, ◌||◌, ◌==◌, List, [], ◌∷◌, ◌++◌, length, get_or, take, slice_get, Some, None, ◌⊎◌, inl, inr, refl, sym, ap, ◌∙◌, subst, arith}
use Rattle.std.specs.List.{list_any}
use Rattle.std.specs.Map.{lookup}
use Rattle.std.specs.Global.{Vec}
use Rattle.std.specs.BTreeMap.{is_at}
use Rattle.std.specs.Ordering.{nat_cmp}
use Rattle.std.specs.Cmp.Lexicographic.{nat_list_eq_equiv}
use Rattle.std.proofs.lemmas.Bool.{or_cases}
use Rattle.std.proofs.lemmas.Bool.Decides.{nat_tests}
use Rattle.std.proofs.lemmas.List.{take_all}
use Rattle.std.proofs.lemmas.List.Folds.{list_any-append, list_any_more}
use Rattle.std.proofs.lemmas.Option.{slice_get_past}
use Rattle.std.proofs.lemmas.Slice.Eq.{bytes_eq-Decides}
use Rattle.dss_layout.specs.dss_lexer.Texts.{text_eq}
use Rattle.dss_layout.specs.declared.nodes.NodeName.{NodeName}
use Rattle.dss_layout.specs.Nodes.{same_node}
use Rattle.fd_ladder.specs.declared.section.Section.{Section}
use Rattle.fd_ladder.specs.Due.{Noted, Notes, AreNoted, places_of, is_noted, joins, joins_where}

-- ---- tests

pub or_left : (a b : Bool) → a ≡ true → (a || b) ≡ true
or_left true b h = refl
or_left false b h = absurd (let no : false ≡ true = h in cc)

pub or_right : (a b : Bool) → b ≡ true → (a || b) ≡ true
or_right true b h = refl
or_right false b h = h

pub one_node : (a b : NodeName) → same_node a b ≡ true → a ≡ b
one_node a b h = by (text_eq a.bus b.bus) refl h
  where
    by : (same : Bool) → text_eq a.bus b.bus ≡ same → (same && (a.number == b.number)) ≡ true → a ≡ b
    by true is number =
        let bus : a.bus ≡ b.bus = (bytes_eq-Decides a.bus b.bus).0 is in
        let count : a.number ≡ b.number = grind (arith, nat_tests) in
        (λ i. record { bus = bus i; number = count i })
    by false is number = absurd (let no : false ≡ true = number in cc)

pub node_itself : (a : NodeName) → same_node a a ≡ true
node_itself a = rw (nat_list_eq_equiv.refl a.bus) (grind (arith, nat_tests))

pub node_back : (a b : NodeName) → same_node a b ≡ true → same_node b a ≡ true
node_back a b h = subst (λ x. same_node x a ≡ true) (one_node a b h) (node_itself a)

-- ---- one more place at a node

-- a node has one more place, and no other node has
pub place_noted : (before after : Noted) (node : NodeName) (place : ℕ) (new : Vec ℕ)
    → new.items ≡ places_of (lookup (same_node node) before) ++ place ∷ []
    → ((q : NodeName) → lookup (same_node q) after ≡ cond (same_node node q) (Some new) (lookup (same_node q) before))
    → Notes (λ other. same_node other node) place before after
place_noted before after node place new pushed is = record {
  kept = λ q other h. by q other (same_node node q) refl h;
  here = λ q t.
      let found : lookup (same_node q) after ≡ Some new =
      is q ∙ ap (λ b. cond b (Some new) (lookup (same_node q) before)) (node_back q node t) in
      ap (λ v. list_any (nat_eq place) (places_of v)) found
      ∙ ap (list_any (nat_eq place)) pushed
      ∙ list_any-append (nat_eq place) (places_of (lookup (same_node node) before)) (place ∷ [])
      ∙ or_right (list_any (nat_eq place) (places_of (lookup (same_node node) before))) (list_any (nat_eq place) (place ∷ []))
      (or_left (nat_eq place place) false (grind (arith, nat_tests)));
}
  where
    by : (q : NodeName) (other : ℕ) (b : Bool) → same_node node q ≡ b → is_noted before q other ≡ true
        → is_noted after q other ≡ true
    by q other true same h =
        let one : node ≡ q = one_node node q same in
        let old : list_any (nat_eq other) (places_of (lookup (same_node node) before)) ≡ true =
        subst (λ x. is_noted before x other ≡ true) (sym one) h in
        ap (λ v. list_any (nat_eq other) (places_of v)) (is q ∙ ap (λ b. cond b (Some new) (lookup (same_node q) before)) same)
        ∙ ap (list_any (nat_eq other)) pushed
        ∙ list_any-append (nat_eq other) (places_of (lookup (same_node node) before)) (place ∷ [])
        ∙ or_left (list_any (nat_eq other) (places_of (lookup (same_node node) before))) (list_any (nat_eq other) (place ∷ [])) old
    by q other false apart h =
        ap (λ v. list_any (nat_eq other) (places_of v)) (is q ∙ ap (λ b. cond b (Some new) (lookup (same_node q) before)) apart) ∙ h

-- ---- one node after another

pub notes_both : (t u : NodeName → Bool) (place : ℕ) (before mid after : Noted) → Notes t place before mid
    → Notes u place mid after → Notes (λ node. t node || u node) place before after
notes_both t u place before mid after h k = record {
  kept = λ node other there. k.kept node other (h.kept node other there);
  here = λ node there. either node (or_cases (t node) (u node) there);
}
  where
    either : (node : NodeName) → (t node ≡ true) ⊎ (u node ≡ true) → is_noted after node place ≡ true
    either node (inl e) = k.kept node place (h.here node e)
    either node (inr e) = k.here node e

pub notes_none : (nodes : List NodeName) (place : ℕ) (before : Noted)
    → Notes (λ node. list_any (same_node node) (take 0 nodes)) place before before
notes_none nodes place before = record {
  kept = λ node other there. there;
  here = λ node there. absurd (let no : false ≡ true = there in cc);
}

-- the place is noted at the next node
pub notes_more : (nodes : List NodeName) (i place : ℕ) (d : NodeName) (before mid after : Noted) → i < length nodes
    → Notes (λ node. list_any (same_node node) (take i nodes)) place before mid
    → Notes (λ node. same_node node (get_or nodes i d)) place mid after
    → Notes (λ node. list_any (same_node node) (take (i + 1) nodes)) place before after
notes_more nodes i place d before mid after low h k =
    let both = notes_both _ _ place before mid after h k in
    record {
      kept = both.kept;
      here = λ node there. both.here node (sym (list_any_more (same_node node) nodes i d low) ∙ there);
    }

-- the place is noted at all
pub notes_all : (nodes : List NodeName) (i place : ℕ) (before after : Noted) → length nodes ≤ i
    → Notes (λ node. list_any (same_node node) (take i nodes)) place before after
    → Notes (λ node. list_any (same_node node) nodes) place before after
notes_all nodes i place before after low h =
    let whole : take i nodes ≡ nodes = take_all i nodes low in
    record { kept = h.kept; here = λ node there. h.here node (ap (list_any (same_node node)) whole ∙ there) }

-- ---- one section after another

-- the sections before a place are noted
abbrev pub AreNotedBelow : List Section → ℕ → Noted → Type 0
AreNotedBelow sections count noted = (node : NodeName) (place : ℕ) → place < count → joins_where (slice_get sections place) node ≡ true → is_noted noted node place ≡ true

pub sections_more : (sections : List Section) (k : ℕ) (s : Section) (before after : Noted) → slice_get sections k ≡ Some s
    → AreNotedBelow sections k before → Notes (joins s) k before after → AreNotedBelow sections (k + 1) after
sections_more sections k s before after at h notes node place low there = by (last place k low)
  where
    last : (p k : ℕ) → p < k + 1 → (p < k) ⊎ (p ≡ k)
    last p k h = grind arith

    by : (place < k) ⊎ (place ≡ k) → is_noted after node place ≡ true
    by (inl l) = notes.kept node place (h node place l there)
    by (inr e) =
        let here : joins s node ≡ true = ap (λ found. joins_where found node) (sym at ∙ ap (slice_get sections) (sym e)) ∙ there in
        subst (λ p. is_noted after node p ≡ true) (sym e) (notes.here node here)

pub sections_all : (sections : List Section) (count : ℕ) (noted : Noted) → length sections ≤ count
    → AreNotedBelow sections count noted → AreNoted sections noted
sections_all sections count noted all h node place there = by (cases place count)
  where
    cases : (p k : ℕ) → (p < k) ⊎ (k ≤ p)
    cases p k = grind arith

    by : (place < count) ⊎ (count ≤ place) → is_noted noted node place ≡ true
    by (inl l) = h node place l there
    by (inr past) =
        let none : slice_get sections place ≡ None = slice_get_past sections place (omega (arith, all, past)) in
        absurd (let no : false ≡ true = ap (λ found. joins_where found node) (sym none) ∙ there in cc)

-- ---- a loop over places

at_place : (place other : ℕ) → is_at (nat_cmp place) other ≡ nat_eq other place
at_place place other = grind (arith, nat_tests)

one_due : (b a m : Bool) → cond b true (a || m) ≡ (a || (m || b))
one_due true true m = refl
one_due true false true = refl
one_due true false false = refl
one_due false true m = refl
one_due false false true = refl
one_due false false false = refl

-- the place at an index is due too
pub woken_more : (xs : List ℕ) (i other : ℕ) (before mid after : Bool) → i < length xs
    → mid ≡ (before || list_any (nat_eq other) (take i xs))
    → after ≡ cond (is_at (nat_cmp (get_or xs i 0)) other) true mid
    → after ≡ (before || list_any (nat_eq other) (take (i + 1) xs))
woken_more xs i other before mid after low so_far is =
    let p : ℕ = get_or xs i 0 in
    is
    ∙ ap (λ b. cond b true mid) (at_place p other)
    ∙ ap (λ m. cond (nat_eq other p) true m) so_far
    ∙ one_due (nat_eq other p) before (list_any (nat_eq other) (take i xs))
    ∙ ap (λ b. before || b) (sym (list_any_more (nat_eq other) xs i 0 low))
