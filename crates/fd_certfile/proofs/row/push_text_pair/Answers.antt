use Rattle.std.proofs.Common.{ℕ, ℤ, pos, Option, IfNone, inr, subst, rules, FitsSigned, to_z, of_z}
use Rattle.std.specs.Int.{w64}
use Rattle.std.specs.List.{slice_split}
use Rattle.std.proofs.lemmas.Int.{to_z-of_z}
use Rattle.fd_certfile.specs.Lines.{is_blank}
use Rattle.fd_certfile.specs.Readings.{IsUnput}
use Rattle.fd_certfile.proofs.row.push_text_pair.Goals as goal

pub returns-in-None-2-clause-none : goal.returns-in-None-2-clause-none
returns-in-None-2-clause-none c =
    let entry : FitsSigned w64 c.in-Some.entry = search rules in
    let told = subst
    (λ (o : Option ℕ). IfNone o (IsUnput c.args.count c.args.next (pos c.in-Some.place) (to_z w64 (of_z w64 c.in-Some.entry))))
    c.in-None-2.is c.in_ok-behind-in-Some.ensures.none in
    inr (record {
      place = pos c.in-Some.place;
      entry = c.in-Some.entry;
      more = slice_split is_blank c.in-Some.more.now;
      first = c.in-Some.ensures;
      unput = subst (λ (z : ℤ). IsUnput c.args.count c.args.next (pos c.in-Some.place) z) (to_z-of_z w64 c.in-Some.entry entry) told;
    })
