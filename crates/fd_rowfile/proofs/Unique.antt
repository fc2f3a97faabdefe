-- At most one line is refused; the laws of a block.
use Rattle.std.proofs.Common.{◌≡◌, ◌⊎◌, inl, inr, List, [], ◌∷◌, ◌++◌, refl, ap, sym, subst, ◌∙◌}
use Rattle.std.specs.Prelude.{map}
use Rattle.std.proofs.lemmas.List.{append_assoc, append-nil}
use Rattle.fd_lines.specs.Numbered.{numbered_lines, with_first}
use Rattle.fd_lines.specs.WordLines.{Line}
use Rattle.fd_rowfile.specs.Blocks.{Act, Bound, act_line, block_lines, bound_line}
use Rattle.fd_rowfile.specs.Laws.{BlockLaw, IsBehindRows, Refuses}
use Rattle.fd_rowfile.proofs.BlockForms.{block_found, block_only}
use Rattle.fd_rowfile.proofs.Refused.{block_refused}

-- one front goes on where the other ends
record Longer (short long rest : List Line) : Type 0 where
  line : Line
  more : List Line
  behind : List Line
  long_is : long ≡ short ++ line ∷ more
  rest_is : rest ≡ line ∷ behind

longer_by : (l : Line) (short long rest : List Line) → Longer short long rest → Longer (l ∷ short) (l ∷ long) rest
longer_by l short long rest k = record
    { line = k.line; more = k.more; behind = k.behind; long_is = ap (λ (ls : List Line). l ∷ ls) k.long_is; rest_is = k.rest_is }

heads : (a b : Line) (xs ys : List Line) → a ∷ xs ≡ b ∷ ys → (a ≡ b) × (xs ≡ ys)
heads a b xs ys e = (cc, cc)

along : (a b : Line) (short long rest : List Line) → a ≡ b → Longer (a ∷ short) (a ∷ long) rest
    → Longer (a ∷ short) (b ∷ long) rest
along a b short long rest e k = subst (λ (c : Line). Longer (a ∷ short) (c ∷ long) rest) e k

split : (f g r s : List Line) → f ++ r ≡ g ++ s → (r ≡ s) ⊎ (Longer f g r ⊎ Longer g f s)
split [] [] r s e = inl e
split [] (b ∷ g) r s e = inr (inl (record { line = b; more = g; behind = g ++ s; long_is = refl; rest_is = e }))
split (a ∷ f) [] r s e = inr (inr (record { line = a; more = f; behind = f ++ r; long_is = refl; rest_is = sym e }))
split (a ∷ f) (b ∷ g) r s e =
    let h = heads a b (f ++ r) (g ++ s) e in
    elim (split f g r s h.1) [
      | inl same ↦ inl same
      | inr (inl k) ↦ inr (inl (along a b f g r h.0 (longer_by a f g r k)))
      | inr (inr k) ↦ inr (inr (along b a g f s (sym h.0) (longer_by b g f s k)))
    ]

-- behind the rows of a block no row line stands
ended : (bs : List Bound) (acts : List Act) → IsBehindRows ((numbered_lines bound_line 0 bs ++ map act_line acts) ++ [])
ended [] [] = tt
ended [] (a ∷ acts) = refl
ended (b ∷ bs) acts = refl

-- a refused line begins no block, and so stands in no front that begins one
too_long : (lines r s : List Line) (p : Refuses lines r) (q : Refuses lines s) → Longer p.front q.front r → ⊥
too_long lines r s p q k =
    let b = q.begins in
    let rest : with_first r (k.more ++ b.more) ≡ k.line ∷ (k.more ++ b.more) = ap (λ (t : List Line). with_first t (k.more ++ b.more)) k.rest_is in
    p.refused (k.more ++ b.more) b.block [] b.sized (ended b.block.bounds b.block.acts)
    (ap (λ (t : List Line). p.front ++ t) rest
    ∙ sym (append_assoc p.front (k.line ∷ k.more) b.more)
    ∙ sym (ap (λ (t : List Line). t ++ b.more) k.long_is)
    ∙ sym b.lines_are
    ∙ sym (append-nil (block_lines b.block)))

pub one_refused : (lines r s : List Line) → Refuses lines r → Refuses lines s → r ≡ s
one_refused lines r s p q =
    elim (split p.front q.front r s (sym p.lines_are ∙ q.lines_are)) [
      | inl same ↦ same
      | inr (inl k) ↦ absurd (too_long lines r s p q k)
      | inr (inr k) ↦ absurd (too_long lines s r q p k)
    ]

pub block_law : BlockLaw
block_law = record { again = block_only; found = block_found; refused = block_refused; one_refused = one_refused }
