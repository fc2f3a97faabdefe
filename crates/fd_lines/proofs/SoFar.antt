-- Numbered lines, one after another.
use Rattle.std.proofs.Common.{◌≡◌, ℕ, zero, suc, ◌+◌, ◌-◌, ◌<◌, ◌≤◌, List, [], ◌∷◌, ◌++◌, length, Option, Some, None, Result, Ok, Err, refl, ap, sym, ◌∙◌, arith}
use Rattle.std.proofs.lemmas.List.{append_assoc, append-nil}
use Rattle.fd_lines.specs.Numbered.{IsSoFar, RefusedBehind, behind_front, numbered_at, or_refused, ◌>>=◌}
use Rattle.fd_lines.proofs.Numbered.{bind_ok}

module _ {L X : Type 0} (read : ℕ → L → Option X) (n : ℕ) (lines : List L) where
  nothing : (r : Result (List X × List L) (List L)) → r ≡ behind_front [] r
  nothing (Ok x) = refl
  nothing (Err rest) = refl

  pub so_far_start : IsSoFar read n lines 0 [] lines
  so_far_start = record {
    within = omega arith;
    same = nothing (numbered_at read n 0 lines)
        ∙ ap (λ (k : ℕ). behind_front [] (numbered_at read k 0 lines)) (omega arith);
    count = omega arith;
  }

  pub all_read : (i : ℕ) (front : List X) (rest : List L) → n ≤ i → IsSoFar read n lines i front rest
      → numbered_at read n 0 lines ≡ Ok (front, rest)
  all_read i front rest l s =
      let none : n - i ≡ 0 = omega (arith, l) in
      s.same ∙ ap (λ (k : ℕ). behind_front front (numbered_at read k i rest)) none
      ∙ ap (λ (xs : List X). Ok (xs, rest)) (append-nil front)

  joined : (front : List X) (x : X) (r : Result (List X × List L) (List L))
      → behind_front front (r >>= λ xs. Ok (x ∷ xs.0, xs.1)) ≡ behind_front (front ++ x ∷ []) r
  joined front x (Ok xs) = ap (λ (ys : List X). Ok (ys, xs.1)) (sym (append_assoc front (x ∷ []) xs.0))
  joined front x (Err rest) = refl

  module _ (i : ℕ) (front : List X) (rest : List L) (l : i < n) (s : IsSoFar read n lines i front rest) where
    one_left : n - i ≡ suc (n - (i + 1))
    one_left = omega (arith, l)

    pub so_far_more : (line : L) (more : List L) (x : X) → rest ≡ line ∷ more → Some x ≡ read i line
        → IsSoFar read n lines (i + 1) (front ++ x ∷ []) more
    so_far_more line more x e f = record {
      within = omega (arith, l);
      same = s.same
          ∙ ap (λ (k : ℕ). behind_front front (numbered_at read k i rest)) one_left
          ∙ ap (λ (ls : List L). behind_front front (numbered_at read (suc (n - (i + 1))) i ls)) e
          ∙ ap
          (λ (o : Option X). behind_front front (or_refused (line ∷ more) o >>= λ y. numbered_at read (n - (i + 1)) (suc i) more >>= λ xs. Ok (y ∷ xs.0, xs.1)))
          (sym f)
          ∙ joined front x (numbered_at read (n - (i + 1)) (suc i) more)
          ∙ ap (λ (k : ℕ). behind_front (front ++ x ∷ []) (numbered_at read (n - (i + 1)) k more)) (omega arith);
      count = omega (arith, s.count, ap length e);
    }

    pub refused_at : numbered_at read (n - i) i rest ≡ Err rest → RefusedBehind i lines (numbered_at read n 0 lines)
    refused_at e = record { rest = rest; refused = s.same ∙ ap (behind_front front) e; count = s.count }

    pub refused_line : (line : L) (more : List L) → rest ≡ line ∷ more → None ≡ read i line
        → RefusedBehind i lines (numbered_at read n 0 lines)
    refused_line line more e f = refused_at (
        ap (λ (k : ℕ). numbered_at read k i rest) one_left
        ∙ ap (λ (ls : List L). numbered_at read (suc (n - (i + 1))) i ls) e
        ∙ ap (λ (o : Option X). or_refused (line ∷ more) o >>= λ y. numbered_at read (n - (i + 1)) (suc i) more >>= λ xs. Ok (y ∷ xs.0, xs.1)) (sym f)
        ∙ ap (λ (ls : List L). Err ls) (sym e))

    pub refused_end : rest ≡ [] → RefusedBehind i lines (numbered_at read n 0 lines)
    refused_end e = refused_at (
        ap (λ (k : ℕ). numbered_at read k i rest) one_left
        ∙ ap (λ (ls : List L). numbered_at read (suc (n - (i + 1))) i ls) e
        ∙ ap (λ (ls : List L). Err ls) (sym e))

pub numbered_long : {L X : Type 0} (read : ℕ → L → Option X) (n i : ℕ) (lines : List L) (xs : List X) (rest : List L)
    → numbered_at read n i lines ≡ Ok (xs, rest) → length xs ≡ n
numbered_long {L} {X} read zero i lines xs rest e = let same : ◌≡◌ {A = List X × List L} ([], lines) (xs, rest) = cc in
    ap (λ (p : List X × List L). length p.0) (sym same)
numbered_long read (suc n) i [] xs rest e = absurd cc
numbered_long {L} {X} read (suc n) i (l ∷ lines) xs rest e =
    let a = bind_ok (or_refused (l ∷ lines) (read i l)) (λ x. numbered_at read n (suc i) lines >>= λ ys. Ok (x ∷ ys.0, ys.1)) (xs, rest) e in
    let b = bind_ok (numbered_at read n (suc i) lines) (λ ys. Ok (a.0 ∷ ys.0, ys.1)) (xs, rest) a.2 in
    let c = b.2 in
    let same : ◌≡◌ {A = List X × List L} (a.0 ∷ b.0.0, b.0.1) (xs, rest) = cc in
    ap (λ (p : List X × List L). length p.0) (sym same) ∙ ap suc (numbered_long read n (suc i) lines b.0.0 b.0.1 b.1)

pub numbered_left : {L X : Type 0} (read : ℕ → L → Option X) (n i : ℕ) (lines : List L) (xs : List X) (rest : List L)
    → numbered_at read n i lines ≡ Ok (xs, rest) → length lines ≡ n + length rest
numbered_left {L} {X} read zero i lines xs rest e =
    let same : ◌≡◌ {A = List X × List L} ([], lines) (xs, rest) = cc in
    let long : length lines ≡ length rest = ap (λ (p : List X × List L). length p.1) same in
    omega (arith, long)
numbered_left read (suc n) i [] xs rest e = absurd cc
numbered_left {L} {X} read (suc n) i (l ∷ lines) xs rest e =
    let a = bind_ok (or_refused (l ∷ lines) (read i l)) (λ x. numbered_at read n (suc i) lines >>= λ ys. Ok (x ∷ ys.0, ys.1)) (xs, rest) e in
    let b = bind_ok (numbered_at read n (suc i) lines) (λ ys. Ok (a.0 ∷ ys.0, ys.1)) (xs, rest) a.2 in
    let c = b.2 in
    let same : ◌≡◌ {A = List X × List L} (a.0 ∷ b.0.0, b.0.1) (xs, rest) = cc in
    let long : length b.0.1 ≡ length rest = ap (λ (p : List X × List L). length p.1) same in
    omega (arith, numbered_left read n (suc i) lines b.0.0 b.0.1 b.1, long)
