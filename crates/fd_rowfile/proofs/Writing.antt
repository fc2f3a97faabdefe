-- The lines of a block, one after another.
use Rattle.std.proofs.Common.{◌≡◌, ℕ, ◌+◌, ◌<◌, ◌≤◌, List, [], ◌∷◌, ◌++◌, length, get_or, drop, ap, sym, ◌∙◌, arith}
use Rattle.std.specs.Prelude.{map, min}
use Rattle.std.specs.List.{zip}
use Rattle.std.proofs.lemmas.Slice.Zip.{get_or-zip, length-zip}
use Rattle.std.proofs.lemmas.List.{append_assoc, append-nil, drop_all, drop_more, map-append}
use Rattle.fd_lines.specs.fd_outside.Emitted.{pieces_of}
use Rattle.fd_lines.specs.fd_outside.declared.bytes.Record.{Record}
use Rattle.fd_lines.specs.Numbered.{numbered_lines}
use Rattle.fd_lines.specs.WordLines.{Line, line_bytes}

pub pieces_pushed : (now next : List Record) (r : Record) → next ≡ now ++ r ∷ [] → pieces_of next ≡ pieces_of now ++ r.bytes ∷ []
pieces_pushed now next r e = ap pieces_of e ∙ map-append (λ (x : Record). x.bytes) now (r ∷ [])

-- the next of numbered lines
pub numbered_pushed : {X Y : Type 0} (line : ℕ → X → Line) (f : Y → X) (base now next : List (List ℕ)) (ys : List Y) (i : ℕ)
    (y : Y) (text : List ℕ)
    → now ++ map line_bytes (numbered_lines line i (map f (drop i ys))) ≡ base ++ map line_bytes (numbered_lines line 0 (map f ys))
    → next ≡ now ++ text ∷ [] → text ≡ line_bytes (line i (f (get_or ys i y))) → i < length ys
    → next ++ map line_bytes (numbered_lines line (i + 1) (map f (drop (i + 1) ys)))
    ≡ base ++ map line_bytes (numbered_lines line 0 (map f ys))
numbered_pushed {X} {Y} line f base now next ys i y text so_far n t l =
    ap (λ (bs : List (List ℕ)). bs ++ map line_bytes (numbered_lines line (i + 1) (map f (drop (i + 1) ys)))) n
    ∙ append_assoc now (text ∷ []) (map line_bytes (numbered_lines line (i + 1) (map f (drop (i + 1) ys))))
    ∙ ap (λ (b : List ℕ). now ++ b ∷ map line_bytes (numbered_lines line (i + 1) (map f (drop (i + 1) ys)))) t
    ∙ ap (λ (zs : List Y). now ++ map line_bytes (numbered_lines line i (map f zs))) (sym (drop_more ys i y l)) ∙ so_far

-- the next of numbered lines of pairs
module _ {A B X : Type 0} (line : ℕ → X → Line) (f : A × B → X) (base now : List (List ℕ)) (xs : List A) (ys : List B) (i : ℕ)
    (so_far : now ++ map line_bytes (numbered_lines line i (map f (drop i (zip xs ys))))
    ≡ base ++ map line_bytes (numbered_lines line 0 (map f (zip xs ys))))
    (long : length ys ≡ length xs) where
  zip_long : length (zip xs ys) ≡ length xs
  zip_long = length-zip xs ys ∙ ap (min (length xs)) long ∙ omega arith

  pub zip_pushed : (next : List (List ℕ)) (a : A) (b : B) (text : List ℕ) → next ≡ now ++ text ∷ []
      → text ≡ line_bytes (line i (f (get_or xs i a, get_or ys i b))) → i < length xs
      → next ++ map line_bytes (numbered_lines line (i + 1) (map f (drop (i + 1) (zip xs ys))))
      ≡ base ++ map line_bytes (numbered_lines line 0 (map f (zip xs ys)))
  zip_pushed next a b text n t l =
      numbered_pushed line f base now next (zip xs ys) i (a, b) text so_far n
      (t ∙ ap (λ (p : A × B). line_bytes (line i (f p))) (sym (get_or-zip xs ys i (a, b) l (omega (arith, l, long)))))
      (omega (arith, l, zip_long))

  pub zip_all : length xs ≤ i → now ≡ base ++ map line_bytes (numbered_lines line 0 (map f (zip xs ys)))
  zip_all l =
      sym (ap (λ (ps : List (A × B)). now ++ map line_bytes (numbered_lines line i (map f ps)))
      (drop_all i (zip xs ys) (omega (arith, l, zip_long))) ∙ append-nil now) ∙ so_far
