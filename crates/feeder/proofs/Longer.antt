-- Five words are no form of a command line, and more are none either.
use Rattle.std.proofs.Common.{◌≡◌, ◌∙◌, ◌&&◌, ◌+◌, ℕ, List, [], ◌∷◌, map, drop, Bool, true, false, Option, Some, None, nat_eq, refl, sym, ap, cond, arith}
use Rattle.std.specs.Prelude.{find, option_and_then}
use Rattle.std.specs.Cmp.Lexicographic.{pointwise}
use Rattle.std.specs.Vec.Iter.{into_iter_items, into_iter_len, into_iter_steps}
use Rattle.std.specs.declared.vec.IntoIter.{IntoIter}
use Rattle.fd_app.specs.fd_words.declared.table.Kind.{Kind}
use Rattle.fd_app.specs.fd_words.Words.{Form, Row, Takes, form_of, form_with, rows, value_as}

-- ---- no form

-- where nothing comes of any value, nothing comes of one that may not be there
nothing : {A B : Type 0} (f : A → Option B) (o : Option A) → ((x : A) → f x ≡ None) → option_and_then f o ≡ None
nothing f None none = refl
nothing f (Some x) none = none x

-- whether there are more words than kinds
abbrev is_longer : List Kind → List (List ℕ) → Bool
is_longer [] [] = false
is_longer [] (word ∷ words) = true
is_longer (kind ∷ kinds) [] = false
is_longer (kind ∷ kinds) (word ∷ words) = is_longer kinds words

too_long : (kinds : List Kind) (form : Takes kinds) (words : List (List ℕ)) → is_longer kinds words ≡ true
    → form_with kinds form words ≡ None
too_long [] form [] longer = absurd (cc longer)
too_long [] form (word ∷ words) longer = refl
too_long (kind ∷ kinds) form [] longer = absurd (cc longer)
too_long (kind ∷ kinds) form (word ∷ words) longer =
    nothing (λ value. form_with kinds (form value) words) (value_as kind word) (λ value. too_long kinds (form value) words longer)

first_of : (a b : Bool) → a && b ≡ true → a ≡ true
first_of true b both = refl
first_of false b both = absurd (cc both)

second_of : (a b : Bool) → a && b ≡ true → b ≡ true
second_of true b both = both
second_of false b both = absurd (cc both)

module _ (words : List (List ℕ)) where
  abbrev with_row : Row → Option Form
  with_row row = form_with row.kinds row.form words

  abbrev all_longer : List Row → Bool
  all_longer [] = true
  all_longer (row ∷ list) = is_longer row.kinds words && all_longer list

  in_none : (p : Row → Bool) (list : List Row) → all_longer list ≡ true → option_and_then with_row (find p list) ≡ None
  in_none p [] all = refl
  in_none p (row ∷ list) all = go (p row) (in_none p list (second_of (is_longer row.kinds words) (all_longer list) all))
    where
      go : (is : Bool) → option_and_then with_row (find p list) ≡ None
          → option_and_then with_row (cond is (Some row) (find p list)) ≡ None
      go true rest = too_long row.kinds row.form words (first_of (is_longer row.kinds words) (all_longer list) all)
      go false rest = rest

five_words : (a b c d e : List ℕ) (more : List (List ℕ)) → form_of (a ∷ b ∷ c ∷ d ∷ e ∷ more) ≡ None
five_words a b c d e more = in_none (b ∷ c ∷ d ∷ e ∷ more) (λ row. pointwise nat_eq row.word a) rows refl

-- ---- what an iterator over the words gives

-- behind a step that found one more, the items are those that are left behind the first
pub behind_first : {X Z : Type 0} (s t : IntoIter X Z) (found : Option X) (more : ℕ) → into_iter_steps s found t
    → more + 1 ≡ into_iter_len t → drop 1 (into_iter_items s) ≡ into_iter_items t
behind_first s t None more steps longer = absurd (omega (arith, steps.1, longer))
behind_first s t (Some x) more steps longer = ap (drop 1) steps.0

-- so the five words of a command line of more have its form
pub five_are_enough : {X : Type 0} (text : X → List ℕ) (all : List X) (one two three four five : List X) (a b c d e : X)
    → drop 1 all ≡ one → one ≡ a ∷ two → two ≡ b ∷ three → three ≡ c ∷ four → four ≡ d ∷ five → (rest : List X)
    → five ≡ e ∷ rest
    → form_of (map text (a ∷ b ∷ c ∷ d ∷ e ∷ [])) ≡ form_of (map text (drop 1 all))
five_are_enough text all one two three four five a b c d e behind is_one is_two is_three is_four rest is_five =
    let items : drop 1 all ≡ a ∷ b ∷ c ∷ d ∷ e ∷ rest =
    behind ∙ is_one ∙ ap (λ l. a ∷ l) is_two ∙ ap (λ l. a ∷ b ∷ l) is_three ∙ ap (λ l. a ∷ b ∷ c ∷ l) is_four
    ∙ ap (λ l. a ∷ b ∷ c ∷ d ∷ l) is_five in
    five_words (text a) (text b) (text c) (text d) (text e) []
    ∙ sym (five_words (text a) (text b) (text c) (text d) (text e) (map text rest)) ∙ ap (λ l. form_of (map text l)) (sym items)
