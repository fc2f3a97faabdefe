-- What is read of the first line.
use Rattle.std.proofs.Common.{◌≡◌, ℕ, List, [], ◌∷◌, Option, Some, None, Ok, Err, ap, sym, ◌∙◌}
use Rattle.fd_lines.specs.Numbered.{or_refused, ◌>>=◌}
use Rattle.fd_lines.specs.WordLines.{Line, other, rest_of}
use Rattle.fd_rowfile.specs.Blocks.{first_at}

module _ {X : Type 0} (read : Line → Option X) where
  pub first_read : (lines more : List Line) (l : Line) (x : X) → lines ≡ l ∷ more → Some x ≡ read l
      → first_at read lines ≡ Ok (x, more)
  first_read lines more l x e f = ap (first_at read) e
      ∙ ap (λ (o : Option X). or_refused (l ∷ more) o >>= λ y. Ok (y, more)) (sym f)

  pub first_not : (lines more : List Line) (l : Line) → lines ≡ l ∷ more → None ≡ read l → first_at read lines ≡ Err lines
  first_not lines more l e f = ap (first_at read) e
      ∙ ap (λ (o : Option X). or_refused (l ∷ more) o >>= λ y. Ok (y, more)) (sym f)
      ∙ ap (λ (ls : List Line). Err ls) (sym e)

  pub first_end : (lines : List Line) (bytes : List ℕ) → lines ≡ rest_of bytes → read other ≡ None
      → first_at read lines ≡ Err lines
  first_end lines [] e f = ap (first_at read) e ∙ ap (λ (ls : List Line). Err ls) (sym e)
  first_end lines (c ∷ bytes) e f = first_not lines [] other e (sym f)
