use Rattle.std.proofs.Common.{ℕ, ℤ, Option, IfNone, inr, subst, rules, FitsSigned, to_z, of_z}
use Rattle.std.specs.Int.{w128}
use Rattle.std.proofs.lemmas.Int.{to_z-of_z}
use Rattle.std.specs.Option.{option_map}
use Rattle.fd_lines.specs.Cuts.{texts_of}
use Rattle.fd_certfile.specs.Readings.{IsUnput}
use Rattle.fd_certfile.proofs.row.push_long_pair.Goals as goal

pub returns-in-None-2-clause-none : goal.returns-in-None-2-clause-none
returns-in-None-2-clause-none c =
    let place : FitsSigned w128 c.in-Some.place = search rules in
    let entry : FitsSigned w128 c.in-Some.entry = search rules in
    let told = subst
    (λ (o : Option ℕ). IfNone o (IsUnput c.args.count c.args.next (to_z w128 (of_z w128 c.in-Some.place)) (to_z w128 (of_z w128 c.in-Some.entry))))
    c.in-None-2.is c.in_ok-behind-in-Some.ensures.none in
    inr (record {
      place = c.in-Some.place;
      entry = c.in-Some.entry;
      more = texts_of (option_map (λ t. t.now) c.in-Some.more);
      first = c.in-Some.ensures.some;
      unput = subst (λ (z : ℤ). IsUnput c.args.count c.args.next z c.in-Some.entry) (to_z-of_z w128 c.in-Some.place place)
          (subst (λ (z : ℤ). IsUnput c.args.count c.args.next (to_z w128 (of_z w128 c.in-Some.place)) z)
          (to_z-of_z w128 c.in-Some.entry entry) told);
    })
