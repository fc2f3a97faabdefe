-- Whether bytes are text, as a test.
use Rattle.std.proofs.Common.{◌≡◌, ℕ, List, Bool, true, false, refl}
use Rattle.std.specs.Str.{IsUtf8, is_utf8}
use Rattle.std.proofs.lemmas.Str.{IsUtf8-from_is_utf8, is_utf8-from_IsUtf8}

pub text_is : (text : List ℕ) → IsUtf8 text → is_utf8 text ≡ true
text_is text h = is_utf8-from_IsUtf8 text h

pub text_is_not : (text : List ℕ) → ¬ (IsUtf8 text) → is_utf8 text ≡ false
text_is_not text h = cases (is_utf8 text) refl
  where
    cases : (b : Bool) → is_utf8 text ≡ b → is_utf8 text ≡ false
    cases true e = absurd (h (IsUtf8-from_is_utf8 text e))
    cases false e = e
