-- What a reader gives as a solver is what a certificate comes to.
use Rattle.std.proofs.Common.{◌≡◌, ℕ, zero, suc, ◌+◌, ◌-◌, Bool, true, false, not, List, [], ◌∷◌, ◌++◌, length, Option, Some, None, Result, Ok, Err, refl, ap, sym, subst, ◌∙◌, arith}
use Rattle.fd_settle.specs.fd_pattern.Views.{NetworkView}
use Rattle.fd_settle.specs.fd_cert.declared.rule.Rule.{Rule}
use Rattle.fd_settle.specs.fd_cert.declared.rule.Rule.TheVariants.{Bound, Count, Grammar, Mismatch, Radius, Range, Size}
use Rattle.fd_certfile.specs.Blocks.{Block, Version, block_at}
use Rattle.fd_certfile.specs.Certificates.{Certificate, IsNoEnd, Reads, RefusedBehind, ends, gives, lines_count, refuses, trails}
use Rattle.fd_certfile.specs.Lines.{Line, header, solution, state, row, act, end, other}
use Rattle.fd_certfile.specs.Reader.{ReaderView, behind, by_head, finish_of, finished, next_of, starts_with_end, unless_other}
use Rattle.fd_certfile.specs.Rules.{Ball, Broken, Judge, Sampled, act_rules, at_solution, claim_of, claim_rules, first_broken, first_some, is_due, is_in_range, is_mismatch, is_numbered, is_radius, line_at, unless, unless_at}
use Rattle.fd_certfile.specs.Solving.{by_claim, judge_in, no_acts, solved_of, unless_unsound}
use Rattle.fd_certfile.specs.SolvingLaws.{ComesAfter, GivenLaw, SolvingLaw, answer_of}
use Rattle.fd_certfile.specs.Verdict.{Answer, Due, accepted, asks, by_due, complete, refused, unless_broken, verdict}
use Rattle.fd_certfile.proofs.Blocks.{block_found}
use Rattle.fd_certfile.proofs.Refused.{first_kept, solution_kept}
use Rattle.fd_certfile.proofs.Solving.{next_given, sized}

-- ---- the first rule of two lists

behind_none : {X : Type 0} (os ps : List (Option X)) → first_some os ≡ None → first_some (os ++ ps) ≡ first_some ps
behind_none [] ps e = refl
behind_none (None ∷ os) ps e = behind_none os ps e
behind_none (Some x ∷ os) ps e = let no : ⊥ = cc in absurd no

before_some : {X : Type 0} (os ps : List (Option X)) (x : X) → first_some os ≡ Some x → first_some (os ++ ps) ≡ Some x
before_some [] ps x e = let no : ⊥ = cc in absurd no
before_some (None ∷ os) ps x e = before_some os ps x e
before_some (Some y ∷ os) ps x e = e

acts_left : (judge : Judge) (b : Block) → first_some (claim_rules judge b) ≡ None
    → first_broken judge b ≡ first_some (act_rules judge b)
unfolding first_broken
acts_left judge b e = behind_none (claim_rules judge b) (act_rules judge b) e

broken_first : (judge : Judge) (b : Block) (k : Broken) → first_some (claim_rules judge b) ≡ Some k
    → first_broken judge b ≡ Some k
unfolding first_broken
broken_first judge b k e = before_some (claim_rules judge b) (act_rules judge b) k e

-- the rules on a claim behind the first
abbrev later_rules : Judge → Block → List (Option Broken)
later_rules judge b =
    unless_at Range judge.size (is_in_range b)
    ∷ unless_at Mismatch judge.size (is_mismatch judge b)
    ∷ unless_at Bound judge.size (λ i. not (judge.reaches_one (claim_of b) i))
    ∷ unless_at Radius judge.size (is_radius judge b)
    ∷ []

size_first : (judge : Judge) (b : Block) → is_due judge b ≡ false
    → first_broken judge b ≡ Some (record { rule = Size; place = at_solution })
size_first judge b e =
    broken_first judge b (record { rule = Size; place = at_solution })
    (ap (λ (t : Bool). first_some (unless Size at_solution t ∷ later_rules judge b)) e)

-- ---- what is given

record IsSolvedNext (v : NetworkView) (r : ReaderView) (b : Block) (w : ReaderView) : Type 0 where
  next : next_of r v.size ≡ Ok (b, w)
  holds : first_some (claim_rules (judge_in v r no_acts) b) ≡ None

module _ (v : NetworkView) (r : ReaderView) (b : Block) (w : ReaderView) where
  by_rules : (next : Block × ReaderView) (o : Option Broken) → next_of r v.size ≡ Ok next
      → first_some (claim_rules (judge_in v r no_acts) next.0) ≡ o
      → unless_unsound r.line next o ≡ Ok (b, w) → IsSolvedNext v r b w
  by_rules next None f g h =
      let same : next ≡ (b, w) = cc in
      record { next = f ∙ ap Ok same; holds = ap (λ (p : Block × ReaderView). first_some (claim_rules (judge_in v r no_acts) p.0)) (sym same) ∙ g }
  by_rules next (Some k) f g h = let no : ⊥ = cc in absurd no

  by_next : (o : Result (Block × ReaderView) (ℕ × Rule)) → next_of r v.size ≡ o → by_claim v r o ≡ Ok (b, w)
      → IsSolvedNext v r b w
  by_next (Err e) f h = let no : ⊥ = cc in absurd no
  by_next (Ok next) f h = by_rules next (first_some (claim_rules (judge_in v r no_acts) next.0)) f refl h

  solved_next : solved_of v r ≡ Ok (b, w) → IsSolvedNext v r b w
  unfolding solved_of
  solved_next h = by_next (next_of r v.size) refl h

pub given_law : GivenLaw
given_law v r b w h =
    let s = solved_next v r b w h in
    let g = next_given r v.size b w s.next in
    record { rest = g.rest; block = g.block; sized = sized v r b w s.next; reader = g.reader; holds = λ sampled. s.holds }

-- ---- what is refused

no_end_starts : (lines : List Line) → IsNoEnd lines → starts_with_end lines ≡ false
no_end_starts [] h = refl
no_end_starts (header n ∷ lines) h = refl
no_end_starts (solution m a k n ∷ lines) h = refl
no_end_starts (state p x y m ∷ lines) h = refl
no_end_starts (row fields ∷ lines) h = refl
no_end_starts (act t k n ∷ lines) h = refl
no_end_starts (end ∷ lines) h = absurd h
no_end_starts (other ∷ lines) h = refl

module _ (v : NetworkView) (r : ReaderView) where
  next_by : (t : Bool) (read : Result (Block × List Line) (List Line)) → starts_with_end r.lines ≡ t
      → block_at r.version r.lines ≡ read
      → next_of r v.size ≡ by_head r v.size t read
  unfolding next_of
  next_by t read e f = ap (λ c. by_head r v.size c (block_at r.version r.lines)) e ∙ ap (by_head r v.size t) f

  solved_by : (o : Result (Block × ReaderView) (ℕ × Rule)) → next_of r v.size ≡ o → solved_of v r ≡ by_claim v r o
  unfolding solved_of
  solved_by o h = ap (by_claim v r) h

  ended : starts_with_end r.lines ≡ true → solved_of v r ≡ Err (r.line, Count)
  ended e = solved_by (Err (r.line, Count)) (next_by true (block_at r.version r.lines) e refl)

  not_read : (k : ℕ) → RefusedBehind r.version r.lines k → solved_of v r ≡ Err (r.line + k, Grammar)
  not_read k h =
      solved_by (Err (r.line + (length r.lines - length h.rest), Grammar)) (next_by false (Err h.rest) (no_end_starts r.lines h.no_end) h.refused)
      ∙ ap (λ (n : ℕ). Err (r.line + n, Grammar)) (omega (arith, h.behind))

  module _ (b : Block) (rest : List Line) (e : block_at r.version r.lines ≡ Ok (b, rest)) where
    starts : starts_with_end r.lines ≡ false
    starts = ap starts_with_end (block_found r.version r.lines b rest e).lines_are

    misnumbered : is_numbered r.number r.hour r.round v.size b ≡ false → solved_of v r ≡ Err (r.line, Size)
    misnumbered f = solved_by (Err (r.line, Size)) (next_by false (Ok (b, rest)) starts e ∙ ap (unless_other r (b, rest)) f)

    numbered : is_numbered r.number r.hour r.round v.size b ≡ true
        → solved_of v r ≡ unless_unsound r.line (b, behind r b rest) (first_some (claim_rules (judge_in v r no_acts) b))
    numbered f = solved_by (Ok (b, behind r b rest)) (next_by false (Ok (b, rest)) starts e ∙ ap (unless_other r (b, rest)) f)

    record Breaks (line : ℕ) (rule : Rule) (sampled : Ball → Sampled) : Type 0 where
      broken : Broken
      first : first_broken (judge_in v r sampled) b ≡ Some broken
      line_is : line_at r.line b broken.place ≡ line
      rule_is : broken.rule ≡ rule

    by_broken : (o : Option Broken) (line : ℕ) (rule : Rule) (sampled : Ball → Sampled)
        → first_some (claim_rules (judge_in v r no_acts) b) ≡ o
        → unless_unsound r.line (b, behind r b rest) o ≡ Err (line, rule) → Breaks line rule sampled
    by_broken None line rule sampled f h = let no : ⊥ = cc in absurd no
    by_broken (Some k) line rule sampled f h =
        let same : (line_at r.line b k.place, k.rule) ≡ (line, rule) = cc in
        record {
          broken = k;
          first = broken_first (judge_in v r sampled) b k f;
          line_is = ap (λ (p : ℕ × Rule). p.0) same;
          rule_is = ap (λ (p : ℕ × Rule). p.1) same;
        }

    by_number : (t : Bool) (line : ℕ) (rule : Rule) (sampled : Ball → Sampled)
        → is_numbered r.number r.hour r.round v.size b ≡ t → solved_of v r ≡ Err (line, rule)
        → Breaks line rule sampled
    by_number true line rule sampled f h = by_broken (first_some (claim_rules (judge_in v r no_acts) b)) line rule sampled refl (sym (numbered f) ∙ h)
    by_number false line rule sampled f h =
        let both : Err (r.line, Size) ≡ Err (line, rule) = sym (misnumbered f) ∙ h in
        let same : (r.line, Size) ≡ (line, rule) = cc in
        record {
          broken = record { rule = Size; place = at_solution };
          first = size_first (judge_in v r sampled) b f;
          line_is = ap (λ (p : ℕ × Rule). p.0) same;
          rule_is = ap (λ (p : ℕ × Rule). p.1) same;
        }

    breaks : (line : ℕ) (rule : Rule) (sampled : Ball → Sampled) → solved_of v r ≡ Err (line, rule)
        → Breaks line rule sampled
    breaks line rule sampled h = by_number (is_numbered r.number r.hour r.round v.size b) line rule sampled refl h

err_is : (x y : ℕ × Rule) (o : Result (Block × ReaderView) (ℕ × Rule)) → o ≡ Err x → o ≡ Err y → x ≡ y
err_is x y o e f = let both = sym e ∙ f in cc

not_ok : (x : ℕ × Rule) (p : Block × ReaderView) (o : Result (Block × ReaderView) (ℕ × Rule)) → o ≡ Err x → o ≡ Ok p → ⊥
not_ok x p o e f = let both = sym e ∙ f in cc

-- ---- what is finished

at_other : (v : Version) (lines : List Line) (line n : ℕ) → RefusedBehind v lines zero
    → finished lines line n ≡ Err (line, Grammar)
at_other v [] line n h = refl
at_other v (header k ∷ lines) line n h = refl
at_other v (solution m a k p ∷ lines) line n h = absurd (omega (arith, h.behind, solution_kept v m a k p lines h.rest h.refused))
at_other v (state p x y m ∷ lines) line n h = refl
at_other v (row fields ∷ lines) line n h = refl
at_other v (act t k p ∷ lines) line n h = refl
at_other v (end ∷ lines) line n h = absurd h.no_end
at_other v (other ∷ lines) line n h = refl

at_block : (v : Version) (lines : List Line) (line n k : ℕ) → RefusedBehind v lines (suc k)
    → finished lines line n ≡ Err (line, Count)
at_block v (solution m a o p ∷ lines) line n k h = refl
at_block v [] line n k h = absurd (omega (arith, h.behind, ap length (first_kept v [] h.rest tt h.refused)))
at_block v (header z ∷ lines) line n k h = absurd (omega (arith, h.behind, ap length (first_kept v (header z ∷ lines) h.rest tt h.refused)))
at_block v (state p x y m ∷ lines) line n k h = absurd (omega (arith, h.behind, ap length (first_kept v (state p x y m ∷ lines) h.rest tt h.refused)))
at_block v (row fields ∷ lines) line n k h = absurd (omega (arith, h.behind, ap length (first_kept v (row fields ∷ lines) h.rest tt h.refused)))
at_block v (act t c p ∷ lines) line n k h = absurd (omega (arith, h.behind, ap length (first_kept v (act t c p ∷ lines) h.rest tt h.refused)))
at_block v (end ∷ lines) line n k h = absurd h.no_end
at_block v (other ∷ lines) line n k h = absurd (omega (arith, h.behind, ap length (first_kept v (other ∷ lines) h.rest tt h.refused)))

module _ {S F : Type 0} (due : S → Due F) (after : S → Block → S) where
  abbrev refused_at : ℕ × Rule → Answer F
  refused_at k = refused k.0 k.1

  refused_same : (x y : ℕ × Rule) → x ≡ y → refused_at x ≡ refused_at y
  refused_same x y e = ap refused_at e

  refused_so : (v : NetworkView) (r : ReaderView) (line : ℕ) (rule : Rule) (c : Certificate) (sampled : Ball → Sampled) (s : S) (count : ℕ)
      → solved_of v r ≡ Err (line, rule) → Reads r.version r.lines c → due s ≡ asks (judge_in v r sampled)
      → verdict due after r.line count c s ≡ refused line rule
  refused_so v r line rule ends sampled s count h reads d =
      ap (λ (x : Due F). by_due x (accepted count) (λ judge. refused r.line Count)) d
      ∙ refused_same (r.line, Count) (line, rule) (err_is (r.line, Count) (line, rule) (solved_of v r) (ended v r (ap starts_with_end reads)) h)
  refused_so v r line rule trails sampled s count h reads d =
      ap (λ (x : Due F). by_due x (refused (r.line + 1) Grammar) (λ judge. refused r.line Count)) d
      ∙ refused_same (r.line, Count) (line, rule) (err_is (r.line, Count) (line, rule) (solved_of v r) (ended v r (ap starts_with_end reads.2)) h)
  refused_so v r line rule (refuses zero) sampled s count h reads d =
      ap (λ (x : Due F). by_due x (refused r.line Grammar) (λ judge. refused r.line Grammar)) d
      ∙ ap (λ (n : ℕ). refused n Grammar) (omega arith)
      ∙ refused_same (r.line + 0, Grammar) (line, rule) (err_is (r.line + 0, Grammar) (line, rule) (solved_of v r) (not_read v r 0 reads) h)
  refused_so v r line rule (refuses (suc k)) sampled s count h reads d =
      ap (λ (x : Due F). by_due x (refused r.line Count) (λ judge. refused (r.line + suc k) Grammar)) d
      ∙ refused_same (r.line + suc k, Grammar) (line, rule) (err_is (r.line + suc k, Grammar) (line, rule) (solved_of v r) (not_read v r (suc k) reads) h)
  refused_so v r line rule (gives b more) sampled s count h reads d =
      let k = breaks v r b reads.0 reads.1 line rule sampled h in
      ap (λ (x : Due F).
      by_due x (refused r.line Count) (λ judge.
      unless_broken r.line b (first_broken judge b)
      (verdict due after (r.line + lines_count b) (count + 1) more (after s b))))
      d
      ∙ ap (λ (o : Option Broken).
      unless_broken r.line b o (verdict due after (r.line + lines_count b) (count + 1) more (after s b)))
      k.first
      ∙ ap (λ (n : ℕ). refused n k.broken.rule) k.line_is
      ∙ ap (refused line) k.rule_is

  came : (v : NetworkView) (r : ReaderView) (b : Block) (rest : List Line) (more : Certificate) (sampled : Ball → Sampled) (s : S) (count : ℕ)
      → first_some (claim_rules (judge_in v r sampled) b) ≡ None → Reads r.version rest more
      → due s ≡ asks (judge_in v r sampled)
      → ComesAfter due after v r b (behind r b rest) (gives b more) sampled s count
  came v r b rest more sampled s count h reads d = record {
    rest = more;
    gives_is = refl;
    reads = reads;
    comes = ap (λ (x : Due F).
        by_due x (refused r.line Count) (λ judge.
        unless_broken r.line b (first_broken judge b)
        (verdict due after (r.line + lines_count b) (count + 1) more (after s b))))
        d
        ∙ ap (λ (o : Option Broken).
        unless_broken r.line b o (verdict due after (r.line + lines_count b) (count + 1) more (after s b)))
        (acts_left (judge_in v r sampled) b h);
  }

  solved : (v : NetworkView) (r : ReaderView) (b : Block) (w : ReaderView) (c : Certificate) (sampled : Ball → Sampled) (s : S) (count : ℕ)
      → solved_of v r ≡ Ok (b, w) → Reads r.version r.lines c → due s ≡ asks (judge_in v r sampled)
      → ComesAfter due after v r b w c sampled s count
  solved v r b w ends sampled s count h reads d = absurd (not_ok (r.line, Count) (b, w) (solved_of v r) (ended v r (ap starts_with_end reads)) h)
  solved v r b w trails sampled s count h reads d = absurd (not_ok (r.line, Count) (b, w) (solved_of v r) (ended v r (ap starts_with_end reads.2)) h)
  solved v r b w (refuses k) sampled s count h reads d = absurd (not_ok (r.line + k, Grammar) (b, w) (solved_of v r) (not_read v r k reads) h)
  solved v r b w (gives e more) sampled s count h reads d =
      let g = given_law v r b w h in
      let both : Ok (e, reads.0) ≡ Ok (b, g.rest) = sym reads.1 ∙ g.block in
      let pair : (e, reads.0) ≡ (b, g.rest) = cc in
      let left : Reads r.version g.rest more = subst (λ (p : Block × List Line). Reads r.version p.1 more) pair reads.2 in
      subst (λ (q : ReaderView). ComesAfter due after v r b q (gives e more) sampled s count) (sym g.reader)
      (subst (λ (p : Block × List Line).
      ComesAfter due after v r b (behind r b g.rest) (gives p.0 more) sampled s count)
      (sym pair) (came v r b g.rest more sampled s count (g.holds sampled) left d))

  finishes : (r : ReaderView) (c : Certificate) (s : S) → Reads r.version r.lines c → due s ≡ complete
      → verdict due after r.line (length r.given) c s ≡ answer_of (finish_of r)
  finishes r ends s reads d =
      ap (λ (x : Due F). by_due x (accepted (length r.given)) (λ judge. refused r.line Count)) d
      ∙ ap (λ (ls : List Line). answer_of (finished ls r.line (length r.given))) (sym reads)
  finishes r trails s reads d =
      ap (λ (x : Due F). by_due x (refused (r.line + 1) Grammar) (λ judge. refused r.line Count)) d
      ∙ ap (λ (ls : List Line). answer_of (finished ls r.line (length r.given))) (sym reads.2)
  finishes r (refuses zero) s reads d =
      ap (λ (x : Due F). by_due x (refused r.line Grammar) (λ judge. refused r.line Grammar)) d
      ∙ ap answer_of (sym (at_other r.version r.lines r.line (length r.given) reads))
  finishes r (refuses (suc k)) s reads d =
      ap (λ (x : Due F). by_due x (refused r.line Count) (λ judge. refused (r.line + suc k) Grammar)) d
      ∙ ap answer_of (sym (at_block r.version r.lines r.line (length r.given) k reads))
  finishes r (gives b more) s reads d =
      ap (λ (x : Due F).
      by_due x (refused r.line Count) (λ judge.
      unless_broken r.line b (first_broken judge b)
      (verdict due after (r.line + lines_count b) (length r.given + 1) more (after s b))))
      d
      ∙ ap (λ (ls : List Line). answer_of (finished ls r.line (length r.given)))
      (sym (block_found r.version r.lines b reads.0 reads.1).lines_are)

  pub solving_law : SolvingLaw due after
  solving_law = record { solved = solved; refused_so = refused_so; finishes = finishes }
