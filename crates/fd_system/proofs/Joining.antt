-- Stamps are put together, and what meets one level meets the other.
use Rattle.std.proofs.Common.{◌≡◌, ◌∙◌, ℕ, ◌*◌, ◌<◌, ◌≤◌, ℤ, pos, ◌*ℤ◌, List, [], ◌∷◌, ◌++◌, map, arith, ap, sym, subst, zero-add}
use Rattle.std.specs.List.{flat_map, All}
use Rattle.std.specs.Int.RustNames.{unsigned_abs}
use Rattle.std.proofs.Math.Nat.{mul-le-mul_right, le_of_mul-le-mul_right}
use Rattle.std.proofs.lemmas.Int.{unsigned_abs-mul}
use Rattle.std.proofs.lemmas.List.Elements.{All-head, All-tail}
use Rattle.fd_arith.specs.fd_exact.Fractions.{Fraction, SizeWithin}
use Rattle.fd_arith.specs.fd_exact.States.{State}
use Rattle.fd_system.specs.Meets.{Meets}
use Rattle.fd_arith.specs.declared.terms.Term.{Term}
use Rattle.fd_system.specs.declared.constants.Constant.{Constant}
use Rattle.fd_system.specs.declared.loads.LoadAt.{LoadAt}
use Rattle.fd_system.specs.declared.stamps.Stamp.{Stamp}
use Rattle.fd_system.specs.Loads.{nonlinear_parts}
use Rattle.std.proofs.lemmas.Grind.{flat_map-append}
use Rattle.fd_arith.specs.fd_exact.Fractions.{◌⊕◌, nothing, Same}
use Rattle.fd_system.specs.Contributions.{given}
use Rattle.fd_system.specs.Equations.{Part, equation, AddsUp}
use Rattle.fd_system.specs.Stamps.{IsRoomSame}
use Rattle.fd_system.specs.System.{StampView, beside, constant_given, linear_of, residual_of, joined, Represents}
use Rattle.fd_arith.specs.fd_exact.FractionLaws.{sum_of-append, Same-nothing, nothing-plus, plus-nothing, plus_swap, Same-plus}
use Rattle.fd_system.proofs.ComplexRows.{equation-append}

-- an element that has constants and contributions alone
pub linear_row : (cs : List Constant) (ts : List Term) (draw : ℕ) (x : State) (l : ℕ) (ps : List Part)
    → Same (linear_of cs ts x l) (equation l ps)
    → Same (residual_of (record { constants = cs; terms = ts; loads = []; draw = draw }) x l) (equation l ps)
linear_row cs ts draw x l ps h = subst (λ s. Same s (equation l ps)) (sym (plus-nothing _)) h

pub term_stamp : (ts : List Term) (draw : ℕ) (ps : State → List Part) → AddsUp ts ps
    → Represents (record { constants = []; terms = ts; loads = []; draw = draw }) ps
term_stamp ts draw ps h x o l =
    linear_row [] ts draw x l (ps x) (subst (λ s. Same s (equation l (ps x))) (sym (nothing-plus _)) (h x o l))

pub residual-beside : (s t : StampView) (x : State) (l : ℕ)
    → residual_of (beside s t) x l ≡ residual_of s x l ⊕ residual_of t x l
residual-beside s t x l =
    let e = sum_of-append (constant_given l) s.constants t.constants in
    let f = sum_of-append (λ (u : Term). given l u x) s.terms t.terms in
    let g = ap (equation l) (flat_map-append (λ (u : LoadAt). nonlinear_parts u x) s.loads t.loads)
    ∙ equation-append l (flat_map (λ u. nonlinear_parts u x) s.loads) (flat_map (λ u. nonlinear_parts u x) t.loads) in
    (λ i. (e i ⊕ f i) ⊕ g i)
    ∙ ap (λ r.
    r ⊕ (equation l (flat_map (λ u.
    nonlinear_parts u x) s.loads) ⊕ equation l (flat_map (λ u. nonlinear_parts u x) t.loads))) (plus_swap _ _ _ _)
    ∙ plus_swap _ _ _ _

pub beside_row : (s t : StampView) (x : State) (l : ℕ) (ps qs : List Part) → Same (residual_of s x l) (equation l ps)
    → Same (residual_of t x l) (equation l qs) → Same (residual_of (beside s t) x l) (equation l (ps ++ qs))
beside_row s t x l ps qs h j = rw (residual-beside s t x l, equation-append l ps qs) (Same-plus h j)

pub no_parts : Same ((nothing ⊕ nothing) ⊕ nothing) nothing
no_parts = subst (λ v. Same v nothing) (sym (plus-nothing (nothing ⊕ nothing) ∙ nothing-plus nothing)) Same-nothing

-- a circuit: each element has a stamp and parts, and the two agree
pub Represents-joined : {E : Type 0} (stamp : E → StampView) (parts : E → State → List Part) (es : List E)
    → All (λ e. Represents (stamp e) (parts e)) es
    → Represents (joined (map stamp es)) (λ x. flat_map (λ e. parts e x) es)
Represents-joined stamp parts [] h = λ x o l. no_parts
Represents-joined stamp parts (e ∷ es) h = λ x o l.
    beside_row (stamp e) (joined (map stamp es)) x l (parts e x) (flat_map (λ d. parts d x) es)
    (All-head (λ d. Represents (stamp d) (parts d)) e es h x o l)
    (Represents-joined stamp parts es (All-tail (λ d. Represents (stamp d) (parts d)) e es h) x o l)

-- ---- stamps one after the other

pub first_beside : (s t : StampView) → s ≡ joined [] → beside s t ≡ t
first_beside s t e =
    ap (λ x. beside x t) e ∙ (λ i. record { constants = t.constants; terms = t.terms; loads = t.loads; draw = zero-add t.draw i })

-- room that stays the same twice
pub room_then : (s t u : Stamp) → IsRoomSame s t → IsRoomSame t u → IsRoomSame s u
room_then s t u h k = record { terms = k.terms ∙ h.terms; loads = k.loads ∙ h.loads; constants = k.constants ∙ h.constants }

-- ---- meets

within_other : (t u : ℤ) (d f e : ℕ) → 0 < d → t *ℤ pos f ≡ u *ℤ pos d → unsigned_abs t ≤ e * d → unsigned_abs u ≤ e * f
within_other t u d f e h c w =
    let p = unsigned_abs-mul t (pos f) in
    let q = unsigned_abs-mul u (pos d) in
    let r = ap unsigned_abs c in
    let m = mul-le-mul_right f w in
    let g : unsigned_abs u * d ≤ e * f * d = omega arith in
    le_of_mul-le-mul_right g h

pub SizeWithin-Same : {a b : Fraction} (e : ℕ) → Same a b → SizeWithin a e → SizeWithin b e
SizeWithin-Same {a} {b} e s h = within_other a.top b.top a.over b.over e s.left s.cross h

pub Meets-Same : (F G : State → ℕ → Fraction) (e : ℕ → ℕ) (n : ℕ) (x : State) → ((l : ℕ) → Same (F x l) (G x l))
    → Meets F e n x → Meets G e n x
Meets-Same F G e n x h m l l_in = SizeWithin-Same (e l) (h l) (m l l_in)
