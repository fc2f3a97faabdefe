-- The number that bytes spell, where they are text and where they aren't.
use Rattle.std.proofs.Common.{◌≡◌, ℕ, List, [], ◌∷◌, Some, None, Bool, true, false, refl}
use Rattle.std.specs.Result.{result_ok}
use Rattle.std.specs.Str.{IsUtf8, chars, is_utf8}
use Rattle.std.proofs.lemmas.Str.{IsUtf8-from_is_utf8, is_utf8-from_IsUtf8}
use Rattle.csv.specs.Records.{field_at}
use Rattle.dss_lexer.specs.Line.{skip_blanks}
use Rattle.dss_lexer.specs.Number.{number_of}
use Rattle.fd_shape.specs.Column.{first_number, number_in, without_last_blanks}

pub number_in_text : (text : List ℕ) → IsUtf8 text → number_in text ≡ result_ok (number_of (chars text))
number_in_text text h = rw (is_utf8-from_IsUtf8 text h) refl

pub number_in_no_text : (text : List ℕ) → ¬ (IsUtf8 text) → number_in text ≡ None
number_in_no_text text h = cases (is_utf8 text) refl
  where
    cases : (b : Bool) → is_utf8 text ≡ b → number_in text ≡ None
    cases true e = absurd (h (IsUtf8-from_is_utf8 text e))
    cases false e = rw e refl

pub first_number_some : (fields : List (List ℕ)) (field : List ℕ) → Some field ≡ field_at fields 0
    → first_number fields ≡ number_in (without_last_blanks (skip_blanks field))
unfolding field_at
first_number_some [] field e = cc e
first_number_some (f ∷ fields) field e = let same : field ≡ f = cc e in rw same refl

pub first_number_none : (fields : List (List ℕ)) → None ≡ field_at fields 0 → first_number fields ≡ None
unfolding field_at
first_number_none [] e = refl
first_number_none (f ∷ fields) e = cc e
