-- Labels after pairs are joined: those of a pair are equal, and equal labels stay equal.
use Rattle.std.proofs.Common.{◌≡◌, ℕ, ◌==◌, ◌<◌, Bool, true, false, if◌then◌else◌, List, [], ◌∷◌, length, get_or, ◌⊎◌, inl, inr, refl, sym, ap, subst, ◌∙◌, arith}
use Rattle.std.proofs.lemmas.List.{get_or-map, length-map}
use Rattle.std.proofs.lemmas.Bool.{eqb-true, eq-eqb}
use Rattle.dss_ready.specs.Labels.{joined, joined_all}
use Rattle.dss_ready.proofs.Membership.{In}

-- both places of each pair are below n
abbrev pub AreBelow : ℕ → List (ℕ × ℕ) → Type 0
AreBelow n pairs = (p : ℕ × ℕ) → In p pairs → (p.0 < n) × (p.1 < n)

abbrev pub label : List ℕ → ℕ → ℕ
label labels k = get_or labels k 0

pub length-joined : (labels : List ℕ) (p : ℕ × ℕ) → length (joined labels p) ≡ length labels
length-joined labels p = length-map labels _

pub label-joined : (labels : List ℕ) (p : ℕ × ℕ) (k : ℕ) → k < length labels
    → label (joined labels p) k ≡ (if label labels k == label labels p.1 then label labels p.0 else label labels k)
label-joined labels p k h = get_or-map (λ l. if l == label labels p.1 then label labels p.0 else l) labels k 0 0 h

-- equal labels stay equal
pub kept_joined : (labels : List ℕ) (p : ℕ × ℕ) (a b : ℕ) → a < length labels → b < length labels
    → label labels a ≡ label labels b → label (joined labels p) a ≡ label (joined labels p) b
kept_joined labels p a b ha hb h =
    label-joined labels p a ha
    ∙ ap (λ l. if l == label labels p.1 then label labels p.0 else l) h
    ∙ sym (label-joined labels p b hb)

pub pair_joined : (labels : List ℕ) (p : ℕ × ℕ) → p.0 < length labels → p.1 < length labels
    → label (joined labels p) p.0 ≡ label (joined labels p) p.1
pair_joined labels p ha hb =
    label-joined labels p p.0 ha ∙ by (label labels p.0 == label labels p.1)
    ∙ sym (ap (λ b. if b then label labels p.0 else label labels p.1) (eq-eqb (label labels p.1) (label labels p.1) refl)) ∙ sym (label-joined labels p p.1 hb)
  where
    by : (b : Bool) → (if b then label labels p.0 else label labels p.0) ≡ label labels p.0
    by true = refl
    by false = refl

pub kept_all : (labels : List ℕ) (pairs : List (ℕ × ℕ)) (a b : ℕ) → a < length labels → b < length labels
    → label labels a ≡ label labels b → label (joined_all labels pairs) a ≡ label (joined_all labels pairs) b
kept_all labels [] a b ha hb h = h
kept_all labels (p ∷ pairs) a b ha hb h =
    let same = length-joined labels p in
    kept_all (joined labels p) pairs a b (omega arith) (omega arith) (kept_joined labels p a b ha hb h)

pub pair_all : (labels : List ℕ) (pairs : List (ℕ × ℕ)) (p : ℕ × ℕ) → AreBelow (length labels) pairs → In p pairs
    → label (joined_all labels pairs) p.0 ≡ label (joined_all labels pairs) p.1
pair_all labels [] p below h = absurd h
pair_all labels (q ∷ pairs) p below h =
    by h (pair_all (joined labels q) pairs p (λ r i.
    subst (λ n. (r.0 < n) × (r.1 < n)) (sym (length-joined labels q)) (below r (inr i))))
  where
    here : label (joined_all (joined labels q) pairs) q.0 ≡ label (joined_all (joined labels q) pairs) q.1
    here =
        let inside = below q (inl refl) in
        let a : q.0 < length (joined labels q) = subst (λ n. q.0 < n) (sym (length-joined labels q)) inside.0 in
        let b : q.1 < length (joined labels q) = subst (λ n. q.1 < n) (sym (length-joined labels q)) inside.1 in
        kept_all (joined labels q) pairs q.0 q.1 a b (pair_joined labels q inside.0 inside.1)

    by : (q ≡ p) ⊎ In p pairs
        → (In p pairs → label (joined_all (joined labels q) pairs) p.0 ≡ label (joined_all (joined labels q) pairs) p.1)
        → label (joined_all (joined labels q) pairs) p.0 ≡ label (joined_all (joined labels q) pairs) p.1
    by (inl e) later = subst (λ (r : ℕ × ℕ). label (joined_all (joined labels q) pairs) r.0 ≡ label (joined_all (joined labels q) pairs) r.1) e here
    by (inr i) later = later i

-- a relation that has each pair, and equal labels at first, has equal labels at the end
pub record Relation (R : ℕ → ℕ → Type 0) : Type 0 where
  pub turn : (a b : ℕ) → R a b → R b a
  pub chain : (a b c : ℕ) → R a b → R b c → R a c

abbrev pub Implies : (ℕ → ℕ → Type 0) → List ℕ → Type 0
Implies R labels = (a b : ℕ) → a < length labels → b < length labels → label labels a ≡ label labels b → R a b

pub implied_joined : (R : ℕ → ℕ → Type 0) → Relation R → (labels : List ℕ) (p : ℕ × ℕ) → p.0 < length labels
    → p.1 < length labels → R p.0 p.1 → Implies R labels → Implies R (joined labels p)
implied_joined R laws labels p hp hq related before a b ha hb h =
    by (label labels a == label labels p.1) (label labels b == label labels p.1) refl refl
    (sym (label-joined labels p a a_in) ∙ h ∙ label-joined labels p b b_in)
  where
    a_in : a < length labels
    a_in = subst (λ n. a < n) (length-joined labels p) ha

    b_in : b < length labels
    b_in = subst (λ n. b < n) (length-joined labels p) hb

    by : (x y : Bool) → (label labels a == label labels p.1) ≡ x → (label labels b == label labels p.1) ≡ y
        → (if x then label labels p.0 else label labels a) ≡ (if y then label labels p.0 else label labels b) → R a b
    by true true ea eb e = before a b a_in b_in (eqb-true (label labels a) (label labels p.1) ea ∙ sym (eqb-true (label labels b) (label labels p.1) eb))
    by true false ea eb e =
        laws.chain a p.1 b (before a p.1 a_in hq (eqb-true (label labels a) (label labels p.1) ea))
        (laws.chain p.1 p.0 b (laws.turn p.0 p.1 related) (before p.0 b hp b_in e))
    by false true ea eb e =
        laws.chain a p.0 b (before a p.0 a_in hp e)
        (laws.chain p.0 p.1 b related (before p.1 b hq b_in (sym (eqb-true (label labels b) (label labels p.1) eb))))
    by false false ea eb e = before a b a_in b_in e

pub implied_all : (R : ℕ → ℕ → Type 0) → Relation R → (labels : List ℕ) (pairs : List (ℕ × ℕ))
    → AreBelow (length labels) pairs → ((p : ℕ × ℕ) → In p pairs → R p.0 p.1) → Implies R labels
    → Implies R (joined_all labels pairs)
implied_all R laws labels [] below related before = before
implied_all R laws labels (p ∷ pairs) below related before =
    implied_all R laws (joined labels p) pairs
    (λ r i. subst (λ n. (r.0 < n) × (r.1 < n)) (sym (length-joined labels p)) (below r (inr i)))
    (λ r i. related r (inr i))
    (implied_joined R laws labels p (below p (inl refl)).0 (below p (inl refl)).1 (related p (inl refl)) before)

pub length-joined_all : (labels : List ℕ) (pairs : List (ℕ × ℕ)) → length (joined_all labels pairs) ≡ length labels
length-joined_all labels [] = refl
length-joined_all labels (p ∷ pairs) = length-joined_all (joined labels p) pairs ∙ length-joined labels p
