use Rattle.std.proofs.Common.{◌≡◌, ◌∙◌, ◌+◌, ◌*◌, nat_abs, length, get_or, ap, sym, FitsSigned, rules}
use Rattle.std.specs.Int.{w64}
use Rattle.std.proofs.lemmas.Int.{to_z-of_z}
use Rattle.std.proofs.lemmas.List.Elements.{All-get_or}
use Rattle.fd_enclosure.specs.fd_exact.States.{part}
use Rattle.fd_enclosure.proofs.CallerLemmas.fd_equations.{list_n_more}
use Rattle.fd_cert.specs.Parts.{IsHigh}
use Rattle.fd_cert.proofs.PartSums.{no_high}
use Rattle.fd_cert.proofs.parted.high_total.Goals as goal

pub loop-high-preserved : goal.loop-high-preserved
loop-high-preserved c =
    let k = c.loop-high.high-index in
    let hs = c.args.highs.now in
    let fs = c.args.factors.now in
    let h = get_or hs k no_high in
    let is : IsHigh (length fs) h = All-get_or (IsHigh (length fs)) hs k no_high c.loop-high-test.true c.requires.highs.each in
    let small = c.requires.factors.small h.place is.place in
    let ff : FitsSigned w64 (part fs h.place) = search rules in
    let size : c.unsigned_abs.result ≡ nat_abs (part fs h.place) = simp to_z-of_z at c.unsigned_abs.ensures.value in
    let sum : c.plus_short-total.result ≡ c.loop-high.total + h.times * nat_abs (part fs h.place) =
    c.plus_short-total.ensures.sum ∙ ap (λ n. c.loop-high.total + h.times * n) size in
    let more = list_n_more (λ h. h.times * nat_abs (part fs h.place)) hs k no_high c.loop-high-test.true in
    record {
      sum = sum ∙ ap (λ n. n + h.times * nat_abs (part fs h.place)) c.loop-high.invariant.sum ∙ sym more;
      small = c.plus_short-total.ensures.small k c.loop-high.invariant.small;
    }
