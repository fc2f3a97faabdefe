-- The numbers of an unknown as the code holds them.
use Rattle.std.specs.Prelude.{ℕ, List, [], ◌∷◌}
use Rattle.fd_report.specs.declared.texts.ComplexTexts.{ComplexTexts}
use Rattle.fd_report.specs.declared.texts.IntervalTexts.{IntervalTexts}
use Rattle.fd_report.specs.declared.texts.ValueTexts.{ValueTexts}

abbrev pub parts_in : ComplexTexts → List (List ℕ)
parts_in texts = texts.re.items ∷ texts.im.items ∷ []

abbrev pub mismatches_in : ComplexTexts → List (List ℕ)
mismatches_in texts = texts.mismatch_re.items ∷ texts.mismatch_im.items ∷ []

abbrev pub intervals_in : IntervalTexts → List (List ℕ)
intervals_in texts = texts.radius.items ∷ texts.half_width.items ∷ texts.low.items ∷ texts.high.items ∷ []

abbrev pub values_in : ValueTexts → List (List ℕ)
values_in texts = texts.value.items ∷ texts.radius.items ∷ texts.half_width.items ∷ texts.mismatch.items ∷ []
