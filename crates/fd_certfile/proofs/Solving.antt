-- What a reader gives as a solver.
use Rattle.std.proofs.Common.{◌≡◌, ℕ, ◌+◌, Bool, true, false, List, Option, Some, None, Result, Ok, Err, ℤ, refl, ap, sym, ◌∙◌}
use Rattle.std.specs.Prelude.{option_map, map, pos}
use Rattle.std.proofs.lemmas.Bool.{and_parts}
use Rattle.std.proofs.lemmas.Simd.{map-map}
use Rattle.fd_settle.specs.fd_pattern.Views.{NetworkView}
use Rattle.fd_settle.specs.fd_cert.Rechecks.{boxed_claim, first_unsound}
use Rattle.fd_settle.specs.fd_cert.declared.rule.Broken.{Broken as Found}
use Rattle.fd_settle.specs.fd_cert.declared.rule.Rule.{Rule}
use Rattle.fd_certfile.specs.Blocks.{Block, IsSized, block_at, is_place}
use Rattle.fd_certfile.specs.Blocks as blocks
use Rattle.fd_certfile.specs.Claiming.{centre_in, claim_read, mismatch_in, radius_in, read_mismatch, read_radius}
use Rattle.fd_certfile.specs.Judging.{claim_on}
use Rattle.fd_certfile.specs.Lines.{Line}
use Rattle.fd_certfile.specs.Reader.{FindsAhead, ReaderView, behind, by_head, next_of, starts_with_end, unless_other}
use Rattle.fd_certfile.specs.Rules.{Ball, Broken, Sampled, claim_of, claim_rules, first_some, is_due, is_numbered}
use Rattle.fd_certfile.specs.Solving.{GivesSolved, by_claim, judge_in, no_acts, solved_of, unless_unsound}
use Rattle.fd_certfile.specs.Views.{part}
use Rattle.fd_certfile.specs.declared.block.Part.{Part as Read}
use Rattle.fd_certfile.specs.declared.fault.CertFileFault.{CertFileFault}
use Rattle.fd_certfile.specs.declared.fault.CertFileFault.TheVariants as fault
use Rattle.fd_certfile.proofs.Blocks.{block_found}
use Rattle.fd_certfile.proofs.ReadClaims.{at_place, claim_same, rules_same}
use Rattle.fd_certfile.proofs.RowForms.{place_is}

-- ---- the next block

pub record IsNextOf (r : ReaderView) (n : ℕ) (b : Block) (w : ReaderView) : Type 0 where
  pub rest : List Line
  pub starts : starts_with_end r.lines ≡ false
  pub block : block_at r.version r.lines ≡ Ok (b, rest)
  pub numbered : is_numbered r.number r.hour r.round n b ≡ true
  pub reader : w ≡ behind r b rest

by_other : (r : ReaderView) (n : ℕ) (b : Block) (w : ReaderView) (next : Block × List Line) (t : Bool)
    → starts_with_end r.lines ≡ false
    → block_at r.version r.lines ≡ Ok next → is_numbered r.number r.hour r.round n next.0 ≡ t
    → unless_other r next t ≡ Ok (b, w) → IsNextOf r n b w
by_other r n b w next true s e f h =
    let same : (next.0, behind r next.0 next.1) ≡ (b, w) = cc in
    let block : next.0 ≡ b = ap (λ (p : Block × ReaderView). p.0) same in
    record {
      rest = next.1;
      starts = s;
      block = e ∙ ap (λ (k : Block). Ok (k, next.1)) block;
      numbered = ap (λ (k : Block). is_numbered r.number r.hour r.round n k) (sym block) ∙ f;
      reader = sym (ap (λ (p : Block × ReaderView). p.1) same) ∙ ap (λ (k : Block). behind r k next.1) block;
    }
by_other r n b w next false s e f h = let no : ⊥ = cc in absurd no

by_read : (r : ReaderView) (n : ℕ) (b : Block) (w : ReaderView) (t : Bool) (read : Result (Block × List Line) (List Line))
    → starts_with_end r.lines ≡ t
    → block_at r.version r.lines ≡ read → by_head r n t read ≡ Ok (b, w) → IsNextOf r n b w
by_read r n b w true read s e h = let no : ⊥ = cc in absurd no
by_read r n b w false (Err rest) s e h = let no : ⊥ = cc in absurd no
by_read r n b w false (Ok next) s e h = by_other r n b w next (is_numbered r.number r.hour r.round n next.0) s e refl h

pub next_given : (r : ReaderView) (n : ℕ) (b : Block) (w : ReaderView) → next_of r n ≡ Ok (b, w) → IsNextOf r n b w
unfolding next_of
next_given r n b w h = by_read r n b w (starts_with_end r.lines) (block_at r.version r.lines) refl refl h

-- ---- the rules on what it claims

module _ (v : NetworkView) (r : ReaderView) (b : Block) (w : ReaderView) (next : next_of r v.size ≡ Ok (b, w)) where
  given : IsNextOf r v.size b w
  given = next_given r v.size b w next

  pub sized : IsSized b
  sized = (block_found r.version r.lines b given.rest given.block).sized

  pub due : (sampled : Ball → Sampled) → is_due (judge_in v r sampled) b ≡ true
  due sampled = given.numbered

  pub of_size : b.size ≡ pos v.size
  of_size = place_is v.size b.size (and_parts _ _ (and_parts _ _ (and_parts (is_place r.number b.number) _ given.numbered).1).1).1

  pub rules_are : (sampled : Ball → Sampled)
      → first_some (claim_rules (judge_in v r sampled) b) ≡ option_map at_place (first_unsound v (claim_read v b))
  rules_are sampled = rules_same v r.number r.hour r.round sampled b sized of_size (due sampled)

  solved_by : (o : Option Broken) → first_some (claim_rules (judge_in v r no_acts) b) ≡ o
      → solved_of v r ≡ unless_unsound r.line (b, w) o
  unfolding solved_of
  solved_by o h = ap (by_claim v r) next ∙ ap (unless_unsound r.line (b, w)) h

  pub solved_ok : first_unsound v (claim_read v b) ≡ None → solved_of v r ≡ Ok (b, w)
  solved_ok h = solved_by None (rules_are no_acts ∙ ap (option_map at_place) h)

  pub solved_claim : first_unsound v (claim_read v b) ≡ None → claim_read v b ≡ claim_on v b
  solved_claim h = claim_same v r.number r.hour r.round no_acts b sized of_size h

  pub solved_broken : (k : Found) → first_unsound v (claim_read v b) ≡ Some k
      → solved_of v r ≡ Err (r.line + 1 + k.place, k.rule)
  solved_broken k h = solved_by (Some (at_place k)) (rules_are no_acts ∙ ap (option_map at_place) h)

pub solved_refused : (v : NetworkView) (r : ReaderView) (line : ℕ) (rule : Rule) → next_of r v.size ≡ Err (line, rule)
    → solved_of v r ≡ Err (line, rule)
unfolding solved_of
solved_refused v r line rule h = ap (by_claim v r) h

pub gives_refused : (v : NetworkView) (r : ReaderView) (n : ℕ) (f : CertFileFault) → n ≡ v.size → FindsAhead r n (Err f)
    → GivesSolved v r (Err f) r
gives_refused v r n (fault.Refused line rule) e h = (solved_refused v r line rule (ap (next_of r) (sym e) ∙ h), refl)
gives_refused v r n fault.NoMemory e h = refl

-- ---- what the code reads

pub read_is : (v : NetworkView) (parts : List Read) (rows : List (List ℤ)) (b : Block) → map part parts ≡ b.parts
    → rows ≡ b.inverse
    → boxed_claim v (map centre_in parts) (map radius_in parts) (map mismatch_in parts) rows ≡ claim_read v b
read_is v parts rows b h e =
    let centres : map centre_in parts ≡ (claim_of b).centre =
    sym (map-map (λ (p : blocks.Part). p.centre) part parts) ∙ ap (map (λ (p : blocks.Part). p.centre)) h in
    let radii = sym (map-map (λ (p : blocks.Part). read_radius p.radius) part parts) ∙ ap (map (λ (p : blocks.Part). read_radius p.radius)) h in
    let mismatches = sym (map-map (λ (p : blocks.Part). read_mismatch p.mismatch) part parts) ∙ ap (map (λ (p : blocks.Part). read_mismatch p.mismatch)) h in
    λ i. boxed_claim v (centres i) (radii i) (mismatches i) (e i)
