-- The lines of a certificate in version 2 are read as the same blocks.
use Rattle.std.proofs.Common.{◌≡◌, ℕ, suc, ◌+◌, ℤ, pos, List, [], ◌∷◌, ◌++◌, length, Option, Some, None, inl, inr, refl, ap, sym, subst, ◌∙◌, arith}
use Rattle.std.specs.Prelude.{◌↔◌, IsSome, map}
use Rattle.std.specs.List.{AllByRecursion, concat}
use Rattle.std.proofs.lemmas.Bool.{cases_Bool, cond-true, cond-false}
use Rattle.std.proofs.lemmas.List.{append_assoc, append-nil, map-append}
use Rattle.fd_lines.specs.Numbers.{IsNumber}
use Rattle.fd_certfile.specs.Lines.{Line, header, solution, line_bytes, lines_of, rest_of, IsKnown, IsLine}
use Rattle.fd_certfile.specs.Blocks.{Version, Whole, Sparse, Part, Act, Block, fields_of, is_zero, part_line, row_line, act_line, numbered_lines, block_lines, IsSized, IsWritable}
use Rattle.fd_certfile.specs.Certificates.{Certificate, ends, trails, refuses, gives, Reads, IsWhole, blocks_of, lines_behind, certificate_lines, version_in, behind_first, lines_count}
use Rattle.fd_certfile.specs.Upgrade.{AreKnown, IsOutside, IsUpgraded, UpgradeLaw, outside_at, upgraded}
use Rattle.fd_certfile.specs.Verdict.{Due, Answer, IsAnswer, IsAnswerBy, verdict}
use Rattle.fd_certfile.specs.Views.{or_other}
use Rattle.fd_certfile.proofs.Blocks.{block_found}
use Rattle.fd_certfile.proofs.Certificates.{again, certificate_law}
use Rattle.fd_certfile.proofs.Lines.{lines_found}
use Rattle.fd_certfile.proofs.RowForms.{is_zero_pos, pairs_from}
use Rattle.fd_certfile.proofs.RowTexts.{concat_lines}
use Rattle.fd_certfile.proofs.Written.{all_append, known_block}

-- ---- a certificate of which no line is outside of the grammar

pub record IsSpelled (v : Version) (lines : List Line) (c : Certificate) : Type 0 where
  pub lines_are : lines ≡ lines_behind v (blocks_of c)
  pub sized : AllByRecursion IsSized (blocks_of c)

pub spelled : (v : Version) (lines : List Line) (c : Certificate) (line : ℕ) → Reads v lines c → outside_at line c ≡ None
    → IsSpelled v lines c
spelled v lines ends line r e = record { lines_are = r; sized = tt }
spelled v lines trails line r e = absurd cc
spelled v lines (refuses k) line r e = absurd cc
spelled v lines (gives b c) line r e =
    let found = block_found v lines b r.0 r.1 in
    let rest = spelled v r.0 c (line + lines_count b) r.2 e in
    record {
      lines_are = found.lines_are ∙ ap (λ (ls : List Line). block_lines v b ++ ls) rest.lines_are;
      sized = (found.sized, rest.sized);
    }

pub known_behind : (v : Version) (blocks : List Block) → AllByRecursion IsKnown (lines_behind v blocks)
known_behind v [] = (tt, tt)
known_behind v (b ∷ blocks) = all_append IsKnown (block_lines v b) (lines_behind v blocks) (known_block v b) (known_behind v blocks)

-- ---- what is read can be written

all_split : {X : Type 0} (P : X → Type 0) (xs ys : List X) → AllByRecursion P (xs ++ ys)
    → AllByRecursion P xs × AllByRecursion P ys
all_split P [] ys h = (tt, h)
all_split P (x ∷ xs) ys h = let rest = all_split P xs ys h.1 in ((h.0, rest.0), rest.1)

parts_written : (i : ℕ) (ps : List Part) → AllByRecursion IsLine (numbered_lines part_line i ps)
    → AllByRecursion (λ p. AllByRecursion IsNumber (p.centre ∷ p.radius ∷ p.mismatch ∷ [])) ps
parts_written i [] h = tt
parts_written i (p ∷ ps) h = (h.0.1.1, parts_written (i + 1) ps h.1)

entries_written : (j : ℕ) (r : List ℤ) → AllByRecursion IsNumber (pairs_from j r) → AllByRecursion IsNumber r
entries_written j [] h = tt
entries_written j (e ∷ r) h =
    let go = entries_written (j + 1) r in
    elim (cases_Bool (is_zero e)) [
      | inl is ↦ (
        subst IsNumber (sym (is_zero_pos e is)) (omega arith),
        go (subst (λ (p : List ℤ). AllByRecursion IsNumber (p ++ pairs_from (j + 1) r)) (cond-true (is_zero e) [] (pos j ∷ e ∷ []) is) h),
      )
      | inr isnt ↦
          let k = subst (λ (p : List ℤ). AllByRecursion IsNumber (p ++ pairs_from (j + 1) r)) (cond-false (is_zero e) [] (pos j ∷ e ∷ []) isnt) h in
          (k.1.0, go k.1.1)
    ]

fields_written : (v : Version) (r : List ℤ) → AllByRecursion IsNumber (fields_of v r) → AllByRecursion IsNumber r
fields_written Whole r h = h
fields_written Sparse r h = entries_written 0 r h.1

rows_written : (v : Version) (i : ℕ) (rs : List (List ℤ)) → AllByRecursion IsLine (numbered_lines (row_line v) i rs)
    → AllByRecursion (AllByRecursion IsNumber) rs
rows_written v i [] h = tt
rows_written v i (r ∷ rs) h = (fields_written v r h.0.1.1, rows_written v (i + 1) rs h.1)

acts_written : (acts : List Act) → AllByRecursion IsLine (map act_line acts)
    → AllByRecursion (λ a. AllByRecursion IsNumber (a.time ∷ a.control ∷ a.steps ∷ [])) acts
acts_written [] h = tt
acts_written (a ∷ acts) h = (h.0.1, acts_written acts h.1)

block_written : (v : Version) (b : Block) → AllByRecursion IsLine (block_lines v b) → IsWritable b
block_written v b h =
    let parts = all_split IsLine (numbered_lines part_line 0 b.parts) _ h.1 in
    let rows = all_split IsLine (numbered_lines (row_line v) 0 b.inverse) _ parts.1 in
    record {
      due = h.0.1;
      parts = parts_written 0 b.parts parts.0;
      inverse = rows_written v 0 b.inverse rows.0;
      acts = acts_written b.acts rows.1;
    }

whole : (v : Version) (c : Certificate) (line : ℕ) → outside_at line c ≡ None → AllByRecursion IsSized (blocks_of c)
    → AllByRecursion IsLine (lines_behind v (blocks_of c)) → IsWhole c
whole v ends line e s h = tt
whole v trails line e s h = absurd cc
whole v (refuses k) line e s h = absurd cc
whole v (gives b c) line e s h =
    let parts = all_split IsLine (block_lines v b) (lines_behind v (blocks_of c)) h in
    (s.0, block_written v b parts.0, whole v c (line + lines_count b) e s.1 parts.1)

-- the lines of bytes, of which none is outside of the grammar
module _ (v : Version) (bytes : List ℕ) (o : IsOutside v (lines_of bytes) None) where
  pub lines_spelled : IsSpelled v (lines_of bytes) o.certificate
  lines_spelled = spelled v (lines_of bytes) o.certificate 2 o.reads o.line_is

  pub lines_known : AreKnown (lines_of bytes)
  lines_known = subst AreKnown (sym lines_spelled.lines_are) (known_behind v (blocks_of o.certificate))

  pub lines_whole : IsWhole o.certificate
  lines_whole =
      let ls = lines_behind v (blocks_of o.certificate) in
      whole v o.certificate 2 o.line_is lines_spelled.sized
      (lines_found ls [] bytes (known_behind v (blocks_of o.certificate)) (lines_spelled.lines_are ∙ sym (append-nil ls))).fits

-- ---- each line in version 2

as_it_is : (lines : List Line) → map (upgraded Sparse) lines ≡ lines
as_it_is [] = refl
as_it_is (line ∷ lines) = ap (λ (ls : List Line). line ∷ ls) (as_it_is lines)

parts_stay : (i : ℕ) (ps : List Part) → map (upgraded Whole) (numbered_lines part_line i ps) ≡ numbered_lines part_line i ps
parts_stay i [] = refl
parts_stay i (p ∷ ps) = ap (λ (ls : List Line). part_line i p ∷ ls) (parts_stay (i + 1) ps)

acts_stay : (acts : List Act) → map (upgraded Whole) (map act_line acts) ≡ map act_line acts
acts_stay [] = refl
acts_stay (a ∷ acts) = ap (λ (ls : List Line). act_line a ∷ ls) (acts_stay acts)

rows_move : (i : ℕ) (rs : List (List ℤ))
    → map (upgraded Whole) (numbered_lines (row_line Whole) i rs) ≡ numbered_lines (row_line Sparse) i rs
rows_move i [] = refl
rows_move i (r ∷ rs) = ap (λ (ls : List Line). row_line Sparse i r ∷ ls) (rows_move (i + 1) rs)

block_moves : (b : Block) → map (upgraded Whole) (block_lines Whole b) ≡ block_lines Sparse b
block_moves b =
    let ps = numbered_lines part_line 0 b.parts in
    let rs = numbered_lines (row_line Whole) 0 b.inverse in
    let bs = map act_line b.acts in
    ap (λ (ls : List Line). solution b.number b.hour b.round b.size ∷ ls)
    (map-append (upgraded Whole) ps (rs ++ bs)
    ∙ (λ i. parts_stay 0 b.parts i ++ map-append (upgraded Whole) rs bs i)
    ∙ (λ i. ps ++ (rows_move 0 b.inverse i ++ acts_stay b.acts i)))

lines_move : (blocks : List Block) → map (upgraded Whole) (lines_behind Whole blocks) ≡ lines_behind Sparse blocks
lines_move [] = refl
lines_move (b ∷ blocks) =
    map-append (upgraded Whole) (block_lines Whole b) (lines_behind Whole blocks)
    ∙ (λ i. block_moves b i ++ lines_move blocks i)

pub lines_upgraded : (v : Version) (blocks : List Block) → map (upgraded v) (lines_behind v blocks) ≡ lines_behind Sparse blocks
lines_upgraded Whole blocks = lines_move blocks
lines_upgraded Sparse blocks = as_it_is (lines_behind Sparse blocks)

-- ---- the answer

module _ (lines : List Line) (v : Version) (bytes : List ℕ) (names : version_in lines ≡ Some v)
    (behind : behind_first lines ≡ lines_of bytes) (o : IsOutside v (lines_of bytes) None) where
  pub upgraded_is : (first pieces : List (List ℕ)) → first ≡ line_bytes (header (pos 2)) ∷ []
      → pieces ≡ first ++ map line_bytes (map (upgraded v) (lines_of bytes)) → IsUpgraded lines pieces
  upgraded_is first pieces f p = record {
    version = v;
    certificate = o.certificate;
    names = names;
    reads = subst (λ (ls : List Line). Reads v ls o.certificate) (sym behind) o.reads;
    ends = lines_whole v bytes o;
    text = p ∙ ap (λ (t : List (List ℕ)). t ++ map line_bytes (map (upgraded v) (lines_of bytes))) f
        ∙ ap (λ (ls : List Line). line_bytes (header (pos 2)) ∷ map line_bytes ls)
        (ap (map (upgraded v)) (lines_spelled v bytes o).lines_are ∙ lines_upgraded v (blocks_of o.certificate));
  }

-- a certificate and its upgrade are read as one
module _ (bytes : List ℕ) (pieces : List (List ℕ)) (u : IsUpgraded (lines_of bytes) pieces) where
  pub upgrade_lines : lines_of (concat pieces) ≡ certificate_lines Sparse (blocks_of u.certificate)
  upgrade_lines =
      ap (λ (ps : List (List ℕ)). lines_of (concat ps)) u.text
      ∙ ap lines_of (concat_lines (certificate_lines Sparse (blocks_of u.certificate)))
      ∙ (again Sparse u.certificate u.ends).0

  first_is : (lines : List Line) (v : Version) → version_in lines ≡ Some v → length lines ≡ suc (length (behind_first lines))
  first_is [] v e = absurd cc
  first_is (line ∷ lines) v e = refl

  pub upgrade_long : length (lines_of bytes) ≡ length (lines_of (concat pieces))
  upgrade_long =
      let a = again u.version u.certificate u.ends in
      let same : behind_first (lines_of bytes) ≡ lines_behind u.version (blocks_of u.certificate) =
      (spelled u.version (behind_first (lines_of bytes)) u.certificate 2 u.reads (none_outside u.certificate 2 u.ends)).lines_are in
      first_is (lines_of bytes) u.version u.names ∙ ap (λ (ls : List Line). suc (length ls)) same
      ∙ certificate_law.as_long u.version Sparse u.certificate ∙ sym (ap length upgrade_lines)
    where
      none_outside : (c : Certificate) (line : ℕ) → IsWhole c → outside_at line c ≡ None
      none_outside ends line h = refl
      none_outside trails line h = absurd h
      none_outside (refuses k) line h = absurd h
      none_outside (gives b c) line h = none_outside c (line + lines_count b) h.2

  module _ {S F : Type 0} (due : S → Due F) (after : S → Block → S) (s : S) (answer : Answer F) where
    upgrade_by : IsAnswerBy due after (Some Sparse) (certificate_lines Sparse (blocks_of u.certificate)) s answer
        → IsAnswer due after (Some (concat pieces)) s answer
    upgrade_by h = subst (λ (ls : List Line). IsAnswerBy due after (version_in ls) ls s answer) (sym upgrade_lines) h

    from_upgrade : IsAnswer due after (Some (concat pieces)) s answer
        → IsAnswerBy due after (Some Sparse) (certificate_lines Sparse (blocks_of u.certificate)) s answer
    from_upgrade h = subst (λ (ls : List Line). IsAnswerBy due after (version_in ls) ls s answer) upgrade_lines h

    old_by : IsAnswerBy due after (Some u.version) (lines_of bytes) s answer → IsAnswer due after (Some bytes) s answer
    old_by h = subst (λ (o : Option Version). IsAnswerBy due after o (lines_of bytes) s answer) (sym u.names) h

    from_old : IsAnswer due after (Some bytes) s answer → IsAnswerBy due after (Some u.version) (lines_of bytes) s answer
    from_old h = subst (λ (o : Option Version). IsAnswerBy due after o (lines_of bytes) s answer) u.names h

    pub same_answer : IsAnswer due after (Some bytes) s answer ↔ IsAnswer due after (Some (concat pieces)) s answer
    same_answer = (forth, back)
      where
        forth : IsAnswer due after (Some bytes) s answer → IsAnswer due after (Some (concat pieces)) s answer
        forth h =
            let k = from_old h in
            let c : k.certificate ≡ u.certificate = certificate_law.one u.version (behind_first (lines_of bytes)) k.certificate u.certificate k.reads u.reads in
            upgrade_by (record {
              certificate = u.certificate;
              reads = (again Sparse u.certificate u.ends).1;
              answer_is = k.answer_is ∙ ap (λ (d : Certificate). verdict due after 2 0 d s) c;
            })

        back : IsAnswer due after (Some (concat pieces)) s answer → IsAnswer due after (Some bytes) s answer
        back h =
            let k = from_upgrade h in
            let c : k.certificate ≡ u.certificate =
            certificate_law.one Sparse (lines_behind Sparse (blocks_of u.certificate)) k.certificate u.certificate k.reads (again Sparse u.certificate u.ends).1 in
            old_by (record {
              certificate = u.certificate;
              reads = u.reads;
              answer_is = k.answer_is ∙ ap (λ (d : Certificate). verdict due after 2 0 d s) c;
            })

pub upgrade_law : {S F : Type 0} (due : S → Due F) (after : S → Block → S) → UpgradeLaw due after
upgrade_law due after = record {
  long = λ bytes pieces u. upgrade_long bytes pieces u;
  answers = λ bytes pieces u s answer. same_answer bytes pieces u due after s answer;
}

-- ---- line by line

pub line_pushed : (v : Version) (base now next : List (List ℕ)) (rest : List Line) (line : Line) (more : List Line) (b : List ℕ)
    → now ++ map line_bytes (map (upgraded v) rest) ≡ base → rest ≡ line ∷ more → b ≡ line_bytes (upgraded v line)
    → next ≡ now ++ b ∷ [] → next ++ map line_bytes (map (upgraded v) more) ≡ base
line_pushed v base now next rest line more b so_far e q n =
    let left : List Line → List (List ℕ) = λ ls. map line_bytes (map (upgraded v) ls) in
    ap (λ (t : List (List ℕ)). t ++ left more) n ∙ append_assoc now (b ∷ []) (left more)
    ∙ ap (λ (c : List ℕ). now ++ c ∷ left more) q ∙ sym (ap (λ (ls : List Line). now ++ left ls) e) ∙ so_far

known_rest : (bytes : List ℕ) → AreKnown (rest_of bytes) → rest_of bytes ≡ []
known_rest [] h = refl
known_rest (c ∷ bytes) h = absurd h.0

pub lines_pushed : (v : Version) (base now : List (List ℕ)) (rest : List Line) (bytes : List ℕ)
    → now ++ map line_bytes (map (upgraded v) rest) ≡ base → rest ≡ rest_of bytes → AreKnown rest → now ≡ base
lines_pushed v base now rest bytes so_far e k =
    let none : rest ≡ [] = e ∙ known_rest bytes (subst AreKnown e k) in
    sym (append-nil now) ∙ ap (λ (ls : List Line). now ++ map line_bytes (map (upgraded v) ls)) (sym none) ∙ so_far

-- ---- a row

pub some_numbers : (f : List ℤ → Line) (o : Option (List ℤ)) → IsKnown (or_other f o) → IsSome o
some_numbers f None h = absurd h
some_numbers f (Some zs) h = refl
