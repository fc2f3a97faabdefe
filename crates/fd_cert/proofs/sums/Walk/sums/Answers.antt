use Rattle.std.proofs.Common.{◌∙◌, ◌≤◌, ◌^◌, ℕ, IfSome, arith, ap, subst}
use Rattle.fd_enclosure.specs.fd_exact.States.{part}
use Rattle.fd_enclosure.specs.fd_exact.Sums.{list_z}
use Rattle.fd_cert.specs.Entries.{IsFlatOf, entry_term}
use Rattle.fd_cert.proofs.FlatSums.{flat_column, flat_units}
use Rattle.fd_cert.proofs.Units.{weaker_none}
use Rattle.fd_cert.proofs.sums.Walk.sums.Goals as goal

pub returns-in-Some-clause-units : goal.returns-in-Some-clause-units
returns-in-Some-clause-units c =
    let m = c.args.self.now.matrix.now in
    let es = c.in-Some.entries.items in
    let flat : IsFlatOf m es = subst (λ o. IfSome o (λ es. IsFlatOf m es.items)) c.in-Some.is c.requires.flat in
    let added = λ (j : ℕ). c.add_entries.ensures.sums j ∙ ap (list_z (entry_term (part c.args.factors.now) j)) c.deref.ensures.value in
    let few : m.size ≤ 2 ^ 11 = omega (arith, c.size-size.ensures.small, c.size-size.ensures.size) in
    flat_units m es c.args.factors.now c.add_entries.new.sums flat few c.requires.factors added c.requires.made.J
    c.requires.made.has (c.add_entries.ensures.long ∙ c.requires.sums)

pub returns-in-Some-clause-sums : goal.returns-in-Some-clause-sums
returns-in-Some-clause-sums c = λ J has.
    let m = c.args.self.now.matrix.now in
    let es = c.in-Some.entries.items in
    let flat : IsFlatOf m es = subst (λ o. IfSome o (λ es. IsFlatOf m es.items)) c.in-Some.is c.requires.flat in
    let added = λ (j : ℕ). c.add_entries.ensures.sums j ∙ ap (list_z (entry_term (part c.args.factors.now) j)) c.deref.ensures.value in
    let few : m.size ≤ 2 ^ 11 = omega (arith, c.size-size.ensures.small, c.size-size.ensures.size) in
    flat_column m es c.args.factors.now c.add_entries.new.sums flat few c.requires.factors added J has

pub returns-in-None-clause-sums : goal.returns-in-None-clause-sums
returns-in-None-clause-sums c = λ J has. weaker_none c.column_sums.result (λ h j l. h j) (c.column_sums.ensures.sums J has)
