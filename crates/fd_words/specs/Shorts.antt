-- The words for the kinds of short circuits, as a table.
use Rattle.std.specs.Prelude.{ℕ, ◌*◌, List, [], ◌∷◌, Option, codes, find, nat_eq}
use Rattle.std.specs.Cmp.Lexicographic.{pointwise}
use Rattle.std.specs.Option.{option_map}
use Rattle.fd_words.specs.declared.shorts.Short.{Short}
use Rattle.fd_words.specs.declared.shorts.Short.TheVariants.{Lll, Lg1, Lg2, Lg3}

abbrev pub shorts : List (List ℕ × Short)
shorts = (codes "lll", Lll) ∷ (codes "lg1", Lg1) ∷ (codes "lg2", Lg2) ∷ (codes "lg3", Lg3) ∷ []

abbrev pub short_of : List ℕ → Option Short
short_of word = option_map (λ row. row.1) (find (λ row. pointwise nat_eq row.0 word) shorts)
