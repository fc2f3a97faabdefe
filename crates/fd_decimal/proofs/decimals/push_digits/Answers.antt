use Rattle.std.proofs.Common.{◌∙◌, ap, rules, take, drop, ◌-◌}
use Rattle.fd_decimal.proofs.Digits.{last_of_nine}
use Rattle.fd_decimal.proofs.decimals.push_digits.Goals as goal

pub returns : goal.returns
returns c =
    let p = c.args.places in
    let shown = ap (λ digits. take (9 - (9 - p)) (drop (9 - p) digits)) c.nine_digits.ensures ∙ last_of_nine p c.args.n c.requires in
    search (rules, shown)
