-- Acts that are compared one after another.
use Rattle.std.proofs.Common.{◌≡◌, ℕ, ◌+◌, ◌<◌, ◌≤◌, Bool, true, false, List, [], ◌∷◌, length, get_or, drop, Some, None, refl, ap, sym, ◌∙◌, arith}
use Rattle.std.specs.Prelude.{◌&&◌, map}
use Rattle.std.specs.Cmp.Lexicographic.{pointwise}
use Rattle.std.proofs.lemmas.List.{drop_more, length-drop}
use Rattle.fd_settle.specs.declared.round.Act.{Act as Made}
use Rattle.fd_certfile.specs.Blocks.{Act, acts_at}
use Rattle.fd_certfile.specs.Lines.{Line, rest_of}
use Rattle.fd_certfile.specs.Readings.{act_in}
use Rattle.fd_certfile.specs.Rounds.{act_of}
use Rattle.fd_certfile.specs.Rules.{same_act}
use Rattle.fd_certfile.proofs.Acts.{first_act, no_first}

abbrev pub are_same : List Made → List Act → Bool
are_same made claimed = pointwise same_act (map act_of made) claimed

pub act_here : (lines : List Line) (line : Line) (more : List Line) (a : Act) → lines ≡ line ∷ more
    → Some a ≡ act_in line → (acts_at lines).0 ≡ a ∷ (acts_at more).0
act_here lines line more a e f = ap (λ (ls : List Line). (acts_at ls).0) e
    ∙ ap (λ (p : List Act × List Line). p.0) (first_act line more a f)

pub none_here : (lines : List Line) (line : Line) (more : List Line) → lines ≡ line ∷ more → None ≡ act_in line
    → (acts_at lines).0 ≡ []
none_here lines line more e f = ap (λ (ls : List Line). (acts_at ls).0) e
    ∙ ap (λ (p : List Act × List Line). p.0) (no_first line more f)

pub none_behind : (lines : List Line) (bytes : List ℕ) → lines ≡ rest_of bytes → (acts_at lines).0 ≡ []
none_behind lines [] e = ap (λ (ls : List Line). (acts_at ls).0) e
none_behind lines (c ∷ bytes) e = ap (λ (ls : List Line). (acts_at ls).0) e

nothing_left : (made : List Made) (i : ℕ) → length made ≤ i → drop i made ≡ []
nothing_left made i l = none (drop i made) (omega (arith, l, length-drop i made))
  where
    none : (ms : List Made) → length ms ≡ 0 → ms ≡ []
    none [] e = refl
    none (m ∷ ms) e = absurd (omega (arith, e))

module _ (made : List Made) (all : List Act) (i : ℕ) (rest : List Act)
    (s : are_same made all ≡ are_same (drop i made) rest) where
  module _ (l : i < length made) (e : Made) where
    here : (a : Act) (more : List Act) → rest ≡ a ∷ more
        → are_same made all ≡ (same_act (act_of (get_or made i e)) a && are_same (drop (i + 1) made) more)
    here a more f = s ∙ ap (λ (ms : List Made). are_same ms rest) (drop_more made i e l)
        ∙ ap (are_same (get_or made i e ∷ drop (i + 1) made)) f

    pub same_more : (a : Act) (more : List Act) → rest ≡ a ∷ more → true ≡ same_act (act_of (get_or made i e)) a
        → are_same made all ≡ are_same (drop (i + 1) made) more
    same_more a more f t = here a more f ∙ ap (λ (b : Bool). b && are_same (drop (i + 1) made) more) (sym t)

    pub differs : (a : Act) (more : List Act) → rest ≡ a ∷ more → false ≡ same_act (act_of (get_or made i e)) a
        → false ≡ are_same made all
    differs a more f t = sym (here a more f ∙ ap (λ (b : Bool). b && are_same (drop (i + 1) made) more) (sym t))

    pub too_few : rest ≡ [] → false ≡ are_same made all
    too_few f = sym (s ∙ ap (λ (ms : List Made). are_same ms rest) (drop_more made i e l) ∙ ap (are_same (get_or made i e ∷ drop (i + 1) made)) f)

  module _ (l : length made ≤ i) where
    pub as_many : rest ≡ [] → true ≡ are_same made all
    as_many f = sym (s ∙ ap (λ (ms : List Made). are_same ms rest) (nothing_left made i l) ∙ ap (are_same []) f)

    pub too_many : (a : Act) (more : List Act) → rest ≡ a ∷ more → false ≡ are_same made all
    too_many a more f = sym (s ∙ ap (λ (ms : List Made). are_same ms rest) (nothing_left made i l) ∙ ap (are_same []) f)
