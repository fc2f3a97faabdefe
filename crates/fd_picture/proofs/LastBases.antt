-- The last base of each bus, with one record more.
use Rattle.std.proofs.Common.{◌≡◌, ◌∙◌, ◌+◌, ◌<◌, ℕ, List, length, take, get_or, fold, Option, Some, None, if◌then◌else◌, sym, ap}
use Rattle.std.proofs.lemmas.List.Sums.{fold_more}
use Rattle.std.specs.Str.{bytes_eq}
use Rattle.fd_picture.specs.Bases.{base_of}
use Rattle.fd_picture.specs.declared.report.Base.{Base}

pub base_of_more : (bases : List Base) (i : ℕ) (base : Base) (bus : List ℕ) → i < length bases
    → base ≡ get_or bases i base
    → base_of (take (i + 1) bases) bus ≡ (if bytes_eq base.bus bus then Some base.micro_kilovolts else base_of (take i bases) bus)
base_of_more bases i base bus h e =
    let step = λ (found : Option ℕ) (b : Base). if bytes_eq b.bus bus then Some b.micro_kilovolts else found in
    fold_more step None bases i base h ∙ ap (step (fold step None (take i bases))) (sym e)
