-- Numbered lines, one after another.
use Rattle.std.proofs.Common.{◌≡◌, ℕ, Bool, true, false, ℤ, ◌+◌, ◌<◌, ◌≤◌, List, [], ◌∷◌, ◌++◌, Option, Some, None, refl, ap, sym, ◌∙◌}
use Rattle.std.proofs.lemmas.List.{append_assoc, append-nil}
use Rattle.fd_certfile.specs.Lines.{Line, other, line_of, lines_of, rest_of}
use Rattle.fd_certfile.specs.Blocks.{numbered_at}
use Rattle.fd_certfile.proofs.Lines.{of_cons}
use Rattle.fd_lines.specs.Cuts.{Lacks}
use Rattle.fd_lines.proofs.CallerLemmas.{all_read, refused_end, refused_line, so_far_more, so_far_start}
use Rattle.fd_certfile.specs.Readings.{RefusedBehind, IsSoFar, IsKept, IsKeptSoFar, cells_of, kept}
use Rattle.fd_certfile.proofs.RowReading.{kept_append}

-- ---- a line, and the bytes behind it

pub lines_cut : (bytes text more : List ℕ) → Lacks 10 text → bytes ≡ text ++ 10 ∷ more
    → lines_of bytes ≡ line_of text ∷ lines_of more
lines_cut bytes text more h e = ap lines_of e ∙ of_cons text more h

-- what stands behind the last line feed is refused
refused_rest : {X : Type 0} (read : ℕ → Line → Option X) (n : ℕ) (lines : List Line) (i : ℕ) (front : List X)
    (rest : List Line) → i < n → IsSoFar read n lines i front rest → (bytes : List ℕ) → ((j : ℕ) → read j other ≡ None)
    → rest ≡ rest_of bytes → RefusedBehind i lines (numbered_at read n 0 lines)
refused_rest read n lines i front rest l s [] h e = refused_end read n lines i front rest l s e
refused_rest read n lines i front rest l s (c ∷ bytes) h e = refused_line read n lines i front rest l s other [] e (sym (h i))

-- ---- numbered lines of which what flat makes of them is kept, or nothing

module _ {X Y : Type 0} (read : ℕ → Line → Option X) (flat : List X → List Y) (keep : Bool) (n : ℕ)
    (lines : List Line) where
  pub kept_start : (found : List Y) → found ≡ [] → [] ≡ flat [] → IsKeptSoFar read flat keep n lines 0 found lines
  kept_start found empty e = record { front = []; so_far = so_far_start read n lines; keeps = empty ∙ none keep }
    where
      none : (keep : Bool) → [] ≡ kept keep (flat [])
      none true = e
      none false = refl

  module _ (i : ℕ) (found : List Y) (rest : List Line) (s : IsKeptSoFar read flat keep n lines i found rest) where
    pub kept_all : n ≤ i → IsKept flat keep found rest (numbered_at read n 0 lines)
    kept_all l = record { all = s.front; same = all_read read n lines i s.front rest l s.so_far; keeps = s.keeps }

    module _ (l : i < n) where
      pub kept_more : (line : Line) (more : List Line) (x : X) (one new : List Y) → rest ≡ line ∷ more
          → Some x ≡ read i line → flat (s.front ++ x ∷ []) ≡ flat s.front ++ one → new ≡ found ++ kept keep one
          → IsKeptSoFar read flat keep n lines (i + 1) new more
      kept_more line more x one new e f g h = record {
        front = s.front ++ x ∷ [];
        so_far = so_far_more read n lines i s.front rest l s.so_far line more x e f;
        keeps = h ∙ ap (λ (ys : List Y). ys ++ kept keep one) s.keeps ∙ sym (kept_append keep (flat s.front) one)
            ∙ ap (kept keep) (sym g);
      }

      pub line_refused : (line : Line) (more : List Line) → rest ≡ line ∷ more → None ≡ read i line
          → RefusedBehind i lines (numbered_at read n 0 lines)
      line_refused line more e f = refused_line read n lines i s.front rest l s.so_far line more e f

      pub end_refused : (bytes : List ℕ) → ((j : ℕ) → read j other ≡ None) → rest ≡ rest_of bytes
          → RefusedBehind i lines (numbered_at read n 0 lines)
      end_refused bytes h e = refused_rest read n lines i s.front rest l s.so_far bytes h e

pub cells_more : (rows : List (List ℤ)) (r : List ℤ) → cells_of (rows ++ r ∷ []) ≡ cells_of rows ++ r
cells_more [] r = append-nil r
cells_more (q ∷ rows) r = ap (λ (t : List ℤ). q ++ t) (cells_more rows r) ∙ sym (append_assoc q (cells_of rows) r)
