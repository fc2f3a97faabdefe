use Rattle.std.proofs.Common.{◌≡◌, ℤ, pos, ◌∷◌, sym, subst, rules, FitsSigned, to_z, of_z}
use Rattle.std.specs.Int.{w64}
use Rattle.std.specs.List.{slice_split}
use Rattle.std.specs.Option.{option_map}
use Rattle.std.proofs.lemmas.Int.{to_z-of_z}
use Rattle.fd_lines.specs.Lines.{is_blank}
use Rattle.fd_lines.specs.Numbers.{numbers_of}
use Rattle.fd_lines.proofs.FewDigits.{pair_fields}
use Rattle.fd_lines.proofs.short.short_pair.Goals as goal

pub returns-in-Some-integer : goal.returns-in-Some-integer
returns-in-Some-integer c =
    let entry = c.in-Some-integer.entry in
    let fits : FitsSigned w64 entry = search rules in
    let same : to_z w64 (of_z w64 entry) ≡ entry = to_z-of_z w64 entry fits in
    subst
    (λ (z : ℤ). numbers_of (slice_split is_blank c.args.text.now)
    ≡ option_map (λ zs. pos c.in-Some.place ∷ z ∷ zs) (numbers_of (slice_split is_blank c.in-Some-integer.rest.now)))
    (sym same)
    (pair_fields c.args.text.now c.in-Some.place c.in-Some.more.now entry c.in-Some-integer.rest.now c.in-Some.ensures.size
    c.in-Some-integer.ensures)
