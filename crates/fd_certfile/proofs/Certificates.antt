-- Lines are those of exactly one certificate.
use Rattle.std.proofs.Common.{◌≡◌, ℕ, zero, suc, ◌-◌, ◌<◌, List, [], ◌∷◌, ◌++◌, length, ◌⊎◌, inl, inr, Result, Ok, Err, refl, ap, sym, subst, ◌∙◌, arith}
use Rattle.std.specs.List.{AllByRecursion}
use Rattle.std.proofs.lemmas.List.{length-append, append-nil}
use Rattle.fd_certfile.specs.Lines.{Line, header, solution, state, row, act, end, other, bytes_of, lines_of, IsLine}
use Rattle.fd_certfile.specs.Blocks.{Version, Whole, Sparse, Block, block_lines, block_at, IsBehindActs}
use Rattle.fd_certfile.specs.Certificates.{Certificate, ends, trails, refuses, gives, IsNoEnd, RefusedBehind, Reads, IsWhole, blocks_of, lines_behind, version_number, certificate_lines, certificate_bytes}
use Rattle.fd_certfile.specs.Laws.{CertificateLaw}
use Rattle.fd_certfile.proofs.Lines.{lines_again}
use Rattle.fd_certfile.proofs.Blocks.{block_only, block_found, length-block}
use Rattle.fd_certfile.proofs.Refused.{block_refused, no_solution, same_err, ok_err}
use Rattle.fd_certfile.proofs.Written.{fits_block, all_append}

-- ---- some certificate

record Trailing (lines : List Line) : Type 0 where
  line : Line
  more : List Line
  lines_are : lines ≡ end ∷ line ∷ more

ending : (lines : List Line) → (lines ≡ end ∷ []) ⊎ (Trailing lines ⊎ IsNoEnd lines)
ending (end ∷ []) = inl refl
ending (end ∷ line ∷ more) = inr (inl (record { line = line; more = more; lines_are = refl }))
ending [] = inr (inr tt)
ending (header w ∷ lines) = inr (inr tt)
ending (solution m h r s ∷ lines) = inr (inr tt)
ending (state p c r m ∷ lines) = inr (inr tt)
ending (row fields ∷ lines) = inr (inr tt)
ending (act t c s ∷ lines) = inr (inr tt)
ending (other ∷ lines) = inr (inr tt)

shorter : (v : Version) (lines : List Line) (b : Block) (rest : List Line) → block_at v lines ≡ Ok (b, rest)
    → length rest < length lines
shorter v lines b rest e =
    let k = block_found v lines b rest e in
    omega (arith, ap length k.lines_are, length-append (block_lines v b) rest, length-block v b)

at_refused : (v : Version) (lines rest : List Line) → block_at v lines ≡ Err rest → (c : Certificate) × Reads v lines c
at_refused v lines rest e =
    let k = block_refused v lines rest e in
    elim (ending lines) [
      | inl same ↦ (ends, same)
      | inr (inl t) ↦ (trails, (t.line, t.more, t.lines_are))
      | inr (inr none) ↦ (
        refuses (length lines - length rest),
        record {
          rest = rest;
          refused = e;
          behind = omega (arith, ap length k.lines_are, length-append k.front rest);
          no_end = none;
        },
      )
    ]

some_within : (v : Version) (n : ℕ) (lines : List Line) → length lines < n → (c : Certificate) × Reads v lines c
some_within v zero lines l = absurd (omega (arith, l))
some_within v (suc n) lines l = go (block_at v lines) refl (some_within v n) where
  go : (r : Result (Block × List Line) (List Line)) → block_at v lines ≡ r
      → ((rest : List Line) → length rest < n → (c : Certificate) × Reads v rest c)
      → (c : Certificate) × Reads v lines c
  go (Ok (b, rest)) e more = let m = more rest (omega (arith, shorter v lines b rest e, l)) in (gives b m.0, (rest, e, m.1))
  go (Err rest) e more = at_refused v lines rest e

pub some : (v : Version) (lines : List Line) → (c : Certificate) × Reads v lines c
some v lines = some_within v (suc (length lines)) lines (omega arith)

-- ---- one certificate

end_read : (v : Version) (lines more : List Line) (y : Block × List Line) → lines ≡ end ∷ more → block_at v lines ≡ Ok y
    → ⊥
end_read v lines more y same e = ok_err (sym (ap (block_at v) same) ∙ e) (no_solution v (end ∷ more) tt)

end_refused : (v : Version) (lines more : List Line) (count : ℕ) → lines ≡ end ∷ more → RefusedBehind v lines count → ⊥
end_refused v lines more count same r = let h : IsNoEnd (end ∷ more) = subst IsNoEnd same r.no_end in h

same_ok : {A : Type 0} {r : Result A (List Line)} {x y : A} → r ≡ Ok x → r ≡ Ok y → x ≡ y
same_ok e f = cc

pub one : (v : Version) (lines : List Line) (a b : Certificate) → Reads v lines a → Reads v lines b → a ≡ b
one v lines ends ends p q = refl
one v lines ends trails p q = absurd (let e = sym p ∙ q.2 in cc)
one v lines ends (refuses count) p q = absurd (end_refused v lines [] count p q)
one v lines ends (gives b c) p q = absurd (end_read v lines [] (b, q.0) p q.1)
one v lines trails ends p q = absurd (let e = sym q ∙ p.2 in cc)
one v lines trails trails p q = refl
one v lines trails (refuses count) p q = absurd (end_refused v lines (p.0 ∷ p.1) count p.2 q)
one v lines trails (gives b c) p q = absurd (end_read v lines (p.0 ∷ p.1) (b, q.0) p.2 q.1)
one v lines (refuses count) ends p q = absurd (end_refused v lines [] count q p)
one v lines (refuses count) trails p q = absurd (end_refused v lines (q.0 ∷ q.1) count q.2 p)
one v lines (refuses m) (refuses n) p q =
    let same : p.rest ≡ q.rest = same_err p.refused q.refused in
    let equal : m ≡ n = omega (arith, p.behind, q.behind, ap length same) in
    ap refuses equal
one v lines (refuses m) (gives b c) p q = absurd (ok_err q.1 p.refused)
one v lines (gives b c) ends p q = absurd (end_read v lines [] (b, p.0) q p.1)
one v lines (gives b c) trails p q = absurd (end_read v lines (q.0 ∷ q.1) (b, p.0) q.2 p.1)
one v lines (gives b c) (refuses n) p q = absurd (ok_err p.1 q.refused)
one v lines (gives b c) (gives d f) p q =
    let more = one v p.0 c f p.2 in
    let both = same_ok p.1 q.1 in
    let block : b ≡ d = ap (λ (y : Block × List Line). y.0) both in
    let rest : p.0 ≡ q.0 = ap (λ (y : Block × List Line). y.1) both in
    let others : c ≡ f = more (subst (λ (ls : List Line). Reads v ls f) (sym rest) q.2) in
    ap (λ (x : Block). gives x c) block ∙ ap (gives d) others

-- ---- what is written is read

fits_behind : (v : Version) (c : Certificate) → IsWhole c → AllByRecursion IsLine (lines_behind v (blocks_of c))
fits_behind v ends h = ((tt, tt), tt)
fits_behind v trails h = absurd h
fits_behind v (refuses count) h = absurd h
fits_behind v (gives b c) h = all_append IsLine (block_lines v b) (lines_behind v (blocks_of c)) (fits_block v b h.0 h.1) (fits_behind v c h.2)

fits_header : (v : Version) → IsLine (header (version_number v))
fits_header Whole = (tt, (omega arith, tt))
fits_header Sparse = (tt, (omega arith, tt))

no_acts_first : (v : Version) (blocks : List Block) → IsBehindActs (lines_behind v blocks)
no_acts_first v [] = tt
no_acts_first v (b ∷ blocks) = tt

read_again : (v : Version) (c : Certificate) → IsWhole c → Reads v (lines_behind v (blocks_of c)) c
read_again v ends h = refl
read_again v trails h = absurd h
read_again v (refuses count) h = absurd h
read_again v (gives b c) h =
    (lines_behind v (blocks_of c), block_only v b (lines_behind v (blocks_of c)) h.0 (no_acts_first v (blocks_of c)), read_again v c h.2)

nothing_left : lines_of [] ≡ []
unfolding lines_of
nothing_left = refl

pub again : (v : Version) (c : Certificate) → IsWhole c
    → (lines_of (certificate_bytes v (blocks_of c)) ≡ certificate_lines v (blocks_of c)) × Reads v (lines_behind v (blocks_of c)) c
again v c h =
    let ls = certificate_lines v (blocks_of c) in (
      ap lines_of (sym (append-nil (bytes_of ls)))
          ∙ lines_again ls [] (fits_header v, fits_behind v c h)
          ∙ ap (λ (rest : List Line). ls ++ rest) nothing_left
          ∙ append-nil ls,
      read_again v c h,
    )

length-behind : (a b : Version) (blocks : List Block) → length (lines_behind a blocks) ≡ length (lines_behind b blocks)
length-behind a b [] = refl
length-behind a b (x ∷ blocks) = omega (
  arith,
  length-append (block_lines a x) (lines_behind a blocks),
  length-append (block_lines b x) (lines_behind b blocks),
  length-block a x,
  length-block b x,
  length-behind a b blocks,
)

pub certificate_law : CertificateLaw
certificate_law = record { some = some; one = one; again = again; as_long = λ a b c. ap suc (length-behind a b (blocks_of c)) }
