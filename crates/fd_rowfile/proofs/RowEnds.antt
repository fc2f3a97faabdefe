-- A row behind whose lists a number stands is none.
use Rattle.std.proofs.Common.{◌≡◌, ℕ, ℤ, List, [], ◌∷◌, Option, Some, None, refl, ap, ◌∙◌}
use Rattle.std.specs.List.{slice_split}
use Rattle.std.specs.Option.{option_and_then, option_map}
use Rattle.fd_lines.specs.Lines.{is_blank}
use Rattle.fd_lines.specs.Numbers.{numbers_of}
use Rattle.fd_lines.proofs.CallerLemmas.{some_field}
use Rattle.fd_rowfile.specs.Blocks.{Row, is_anywhere, is_below, left_at, list_at, row_of, row_with}
use Rattle.fd_rowfile.specs.Held.{TakesPairs}

module _ (n : ℕ) (height : ℤ) (behind : List ℕ) (ha hb hc : List (ℕ × ℤ)) where
  abbrev past : Option (List ℤ)
  past = numbers_of (slice_split is_blank behind)

  past_left : (a b : List (ℕ × ℤ)) (last : Option (List ℤ)) → TakesPairs (left_at n) last past [] hc
      → option_and_then (λ zs. option_and_then (row_with height a b) (left_at n zs)) last ≡ None
  past_left a b None t = refl
  past_left a b (Some zs) t = ap (option_and_then (row_with height a b)) t.same
      ∙ some_field (λ o. option_and_then (row_with height a b) (option_map (λ ws. (t.pairs, ws)) o)) None refl (λ z ws. refl) behind

  -- behind two lists, and behind one
  abbrev last_of : List (ℕ × ℤ) → List (ℕ × ℤ) × List ℤ → Option Row
  last_of a b = option_and_then (row_with height a b.0) (left_at n b.1)

  abbrev others_of : List (ℕ × ℤ) × List ℤ → Option Row
  others_of a = option_and_then (last_of a.0) (list_at is_anywhere a.1)

  on : {X : Type 0} (f : List (ℕ × ℤ) × List ℤ → Option X) (pairs : List (ℕ × ℤ)) (o : Option (List ℤ))
      → option_and_then f (option_map (λ ws. (pairs, ws)) o) ≡ option_and_then (λ ws. f (pairs, ws)) o
  on f pairs None = refl
  on f pairs (Some ws) = refl

  past_others : (a : List (ℕ × ℤ)) (more last : Option (List ℤ)) → TakesPairs (list_at is_anywhere) more last [] hb
      → TakesPairs (left_at n) last past [] hc → option_and_then (λ ws. others_of (a, ws)) more ≡ None
  past_others a None last t u = refl
  past_others a (Some zs) last t u = ap (option_and_then (last_of a)) t.same ∙ on (last_of a) t.pairs last ∙ past_left a t.pairs last u

  pub row_past : (all lists more last : Option (List ℤ)) → all ≡ option_map (λ zs. height ∷ zs) lists
      → TakesPairs (list_at (is_below n)) lists more [] ha → TakesPairs (list_at is_anywhere) more last [] hb
      → TakesPairs (left_at n) last past [] hc → option_and_then (row_of n) all ≡ None
  row_past all None more last e t u v = ap (option_and_then (row_of n)) e
  row_past all (Some zs) more last e t u v = ap (option_and_then (row_of n)) e ∙ ap (option_and_then others_of) t.same
      ∙ on others_of t.pairs more ∙ past_others t.pairs more last u v
