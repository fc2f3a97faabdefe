-- Bytes have an upgrade, or a first line outside of the grammar, and not both.
use Rattle.std.proofs.Common.{◌≡◌, ℕ, ◌+◌, List, [], ◌∷◌, ◌⊎◌, inl, inr, Option, Some, None, refl, ap, sym, subst, ◌∙◌}
use Rattle.std.specs.Prelude.{map}
use Rattle.fd_certfile.specs.Lines.{Line, header, solution, state, row, act, end, other, lines_of, line_bytes, IsKnown}
use Rattle.fd_certfile.specs.Blocks.{Version, Sparse}
use Rattle.fd_certfile.specs.Certificates.{Certificate, ends, trails, refuses, gives, IsWhole, Reads, behind_first, blocks_of, certificate_lines, lines_count, version_in}
use Rattle.fd_certfile.specs.Upgrade.{IsFirstOutside, IsOutside, IsOutsideBy, IsUpgraded, outside_at}
use Rattle.fd_certfile.proofs.Certificates.{certificate_law}
use Rattle.fd_certfile.proofs.Lines.{lines_found}
use Rattle.fd_certfile.proofs.Upgrading.{lines_whole}

-- what these bytes come to
abbrev pub Comes : List ℕ → Type 0
Comes bytes = ((pieces : List (List ℕ)) × IsUpgraded (lines_of bytes) pieces) ⊎ ((line : ℕ) × IsFirstOutside (lines_of bytes) line)

pub none_outside : (c : Certificate) (line : ℕ) → IsWhole c → outside_at line c ≡ None
none_outside ends line h = refl
none_outside trails line h = absurd h
none_outside (refuses k) line h = absurd h
none_outside (gives b c) line h = none_outside c (line + lines_count b) h.2

none_some : {X : Type 0} {x : X} → None ≡ Some x → ⊥
none_some e = cc

some_is : {X : Type 0} {x y : X} → Some x ≡ Some y → x ≡ y
some_is e = cc

-- the bytes behind the first line, where that names a version
record Behind (bytes : List ℕ) : Type 0 where
  rest : List ℕ
  lines_are : behind_first (lines_of bytes) ≡ lines_of rest

behind_header : (bytes : List ℕ) (first : Line) (more : List Line) → IsKnown first → lines_of bytes ≡ first ∷ more → Behind bytes
behind_header bytes first more k e =
    let b = lines_found (first ∷ []) more bytes (k, tt) e in
    record { rest = b.tail; lines_are = ap behind_first e ∙ sym b.rest_is }

behind_named : (bytes : List ℕ) (lines : List Line) (v : Version) → lines_of bytes ≡ lines → version_in lines ≡ Some v → Behind bytes
behind_named bytes [] v e n = absurd (none_some n)
behind_named bytes (header z ∷ lines) v e n = behind_header bytes (header z) lines tt e
behind_named bytes (solution a b c d ∷ lines) v e n = absurd (none_some n)
behind_named bytes (state a b c d ∷ lines) v e n = absurd (none_some n)
behind_named bytes (row fields ∷ lines) v e n = absurd (none_some n)
behind_named bytes (act a b c ∷ lines) v e n = absurd (none_some n)
behind_named bytes (end ∷ lines) v e n = absurd (none_some n)
behind_named bytes (other ∷ lines) v e n = absurd (none_some n)

module _ (bytes : List ℕ) where
  by_outside : (v : Version) → version_in (lines_of bytes) ≡ Some v → (c : Certificate) → Reads v (behind_first (lines_of bytes)) c
      → (o : Option ℕ) → outside_at 2 c ≡ o → Comes bytes
  by_outside v n c r (Some line) e =
      inr (line, subst (λ (w : Option Version). IsOutsideBy w (lines_of bytes) line) (sym n) (record { certificate = c; reads = r; line_is = e }))
  by_outside v n c r None e =
      let b = behind_named bytes (lines_of bytes) v refl n in
      inl (
        map line_bytes (certificate_lines Sparse (blocks_of c)),
        record {
          version = v;
          certificate = c;
          names = n;
          reads = r;
          ends = lines_whole v b.rest (record { certificate = c; reads = subst (λ (ls : List Line). Reads v ls c) b.lines_are r; line_is = e });
          text = refl;
        },
      )

  by_version : (o : Option Version) → version_in (lines_of bytes) ≡ o → Comes bytes
  by_version None n = inr (1, subst (λ (w : Option Version). IsOutsideBy w (lines_of bytes) 1) (sym n) refl)
  by_version (Some v) n =
      let c = certificate_law.some v (behind_first (lines_of bytes)) in
      by_outside v n c.0 c.1 (outside_at 2 c.0) refl

  pub some_upgrade : Comes bytes
  some_upgrade = by_version (version_in (lines_of bytes)) refl

-- the blocks of an upgrade are those of the one certificate that is read
pub one_upgrade : (lines : List Line) (p q : List (List ℕ)) (a : IsUpgraded lines p) (b : IsUpgraded lines q)
    → a.certificate ≡ b.certificate
one_upgrade lines p q a b =
    let same : a.version ≡ b.version = some_is (sym a.names ∙ b.names) in
    certificate_law.one b.version (behind_first lines) a.certificate b.certificate
    (subst (λ (v : Version). Reads v (behind_first lines) a.certificate) same a.reads) b.reads

outside_by : (o : Option Version) (lines : List Line) (a b : ℕ) → IsOutsideBy o lines a → IsOutsideBy o lines b → a ≡ b
outside_by None lines a b p q = p ∙ sym q
outside_by (Some v) lines a b p q =
    let same : p.certificate ≡ q.certificate = certificate_law.one v (behind_first lines) p.certificate q.certificate p.reads q.reads in
    some_is (sym p.line_is ∙ ap (outside_at 2) same ∙ q.line_is)

-- one line is the first outside
pub one_outside : (lines : List Line) (a b : ℕ) → IsFirstOutside lines a → IsFirstOutside lines b → a ≡ b
one_outside lines a b p q = outside_by (version_in lines) lines a b p q

pub never_both : (lines : List Line) (pieces : List (List ℕ)) (line : ℕ) → IsUpgraded lines pieces → IsFirstOutside lines line → ⊥
never_both lines pieces line u o =
    let k : IsOutside u.version (behind_first lines) (Some line) = subst (λ (w : Option Version). IsOutsideBy w lines line) u.names o in
    let same : u.certificate ≡ k.certificate = certificate_law.one u.version (behind_first lines) u.certificate k.certificate u.reads k.reads in
    none_some (sym (none_outside u.certificate 2 u.ends) ∙ ap (outside_at 2) same ∙ k.line_is)
