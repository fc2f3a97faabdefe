-- The bytes of the names of nodes and elements.
use Rattle.std.proofs.Common.{◌≡◌, ◌∙◌, ℕ, ◌<◌, ◌^◌, List, ◌∷◌, ◌++◌, ap, sym}
use Rattle.std.specs.Fmt.{decimal}
use Rattle.std.specs.Str.{IsUtf8, chars}
use Rattle.std.proofs.Math.Utf8.{encode}
use Rattle.std.proofs.lemmas.Fmt.{IsAscii-decimal}
use Rattle.std.proofs.lemmas.Str.{encodes-IsAscii, encodes-append, encodes-chars}
use Rattle.dss_script.specs.dss_model.Names.{bytes}

-- a bus, a dot, and a number
pub bytes_of_node : (bus : List ℕ) (number : ℕ) → number < 2 ^ 64 → bytes bus ++ 46 ∷ decimal number ≡ bytes (bus ++ 46 ∷ decimal number)
unfolding encode
bytes_of_node bus number small =
    sym (encodes-append bus (46 ∷ decimal number)
    ∙ ap (λ digits. bytes bus ++ 46 ∷ digits) (encodes-IsAscii (decimal number) (IsAscii-decimal number small)))

-- a word, a dot, and a name
pub bytes_of_element : (word name : List ℕ) → IsUtf8 word → word ++ 46 ∷ bytes name ≡ bytes (chars word ++ 46 ∷ name)
unfolding encode
bytes_of_element word name utf8 = sym (encodes-append (chars word) (46 ∷ name) ∙ ap (λ w. w ++ 46 ∷ bytes name) (encodes-chars word utf8))
