-- Acts, one after another.
use Rattle.std.proofs.Common.{◌≡◌, ℕ, ◌+◌, List, [], ◌∷◌, ◌++◌, length, Some, None, refl, ap, sym, ◌∙◌, arith}
use Rattle.std.proofs.lemmas.List.{append_assoc, append-nil, length-append}
use Rattle.fd_certfile.specs.Lines.{Line, header, solution, state, row, act, end, other, rest_of}
use Rattle.fd_certfile.specs.Blocks.{Act, acts_at}
use Rattle.fd_certfile.specs.Readings.{act_in, acts_behind}

pub first_act : (line : Line) (more : List Line) (a : Act) → Some a ≡ act_in line
    → acts_at (line ∷ more) ≡ acts_behind (a ∷ []) (acts_at more)
first_act (act t c s) more a e =
    let same : a ≡ record { time = t; control = c; steps = s } = (let f = e in cc) in
    ap (λ (b : Act). acts_behind (b ∷ []) (acts_at more)) (sym same)
first_act (header w) more a e = absurd cc
first_act (solution m h r s) more a e = absurd cc
first_act (state p c r m) more a e = absurd cc
first_act (row fields) more a e = absurd cc
first_act end more a e = absurd cc
first_act other more a e = absurd cc

pub no_first : (line : Line) (more : List Line) → None ≡ act_in line → acts_at (line ∷ more) ≡ ([], line ∷ more)
no_first (act t c s) more e = absurd cc
no_first (header w) more e = refl
no_first (solution m h r s) more e = refl
no_first (state p c r m) more e = refl
no_first (row fields) more e = refl
no_first end more e = refl
no_first other more e = refl

at_rest : (bytes : List ℕ) → acts_at (rest_of bytes) ≡ ([], rest_of bytes)
at_rest [] = refl
at_rest (c ∷ bytes) = refl

-- so many acts stand before the rest, and behind them the acts of all go on with those of the rest
pub record IsCounted (all : List Line) (count : ℕ) (rest : List Line) : Type 0 where
  pub front : List Act
  pub many : length front ≡ count
  pub so_far : acts_at all ≡ acts_behind front (acts_at rest)
  pub lines : length all ≡ count + length rest

pub counted_start : (all : List Line) → IsCounted all 0 all
counted_start all = record { front = []; many = refl; so_far = refl; lines = omega arith }

module _ (all : List Line) (count : ℕ) (rest : List Line) (k : IsCounted all count rest) where
  pub one_act : (line : Line) (more : List Line) (a : Act) → rest ≡ line ∷ more → Some a ≡ act_in line
      → IsCounted all (count + 1) more
  one_act line more a e f = record {
    front = k.front ++ a ∷ [];
    many = omega (arith, k.many, length-append k.front (a ∷ []));
    so_far = k.so_far ∙ ap (λ (ls : List Line). acts_behind k.front (acts_at ls)) e
        ∙ ap (acts_behind k.front) (first_act line more a f)
        ∙ ap (λ (xs : List Act). (xs, (acts_at more).1)) (sym (append_assoc k.front (a ∷ []) (acts_at more).0));
    lines = omega (arith, k.lines, ap length e);
  }

  stops : acts_at rest ≡ ([], rest) → acts_at all ≡ (k.front, rest)
  stops e = k.so_far ∙ ap (acts_behind k.front) e ∙ ap (λ (xs : List Act). (xs, rest)) (append-nil k.front)

  pub no_act : (line : Line) (more : List Line) → rest ≡ line ∷ more → None ≡ act_in line
      → acts_at all ≡ (k.front, rest)
  no_act line more e f = stops (ap acts_at e ∙ no_first line more f ∙ ap (λ (ls : List Line). ([], ls)) (sym e))

  pub no_line : (bytes : List ℕ) → rest ≡ rest_of bytes → acts_at all ≡ (k.front, rest)
  no_line bytes e = stops (ap acts_at e ∙ at_rest bytes ∙ ap (λ (ls : List Line). ([], ls)) (sym e))

  pub counts : acts_at all ≡ (k.front, rest) → length (acts_at all).0 ≡ count
  counts e = ap (λ (p : List Act × List Line). length p.0) e ∙ k.many
