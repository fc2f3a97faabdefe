use Rattle.std.proofs.Common.{◌≡◌, ◌∙◌, pos, ap, refl, sym, FitsSigned}
use Rattle.std.specs.Int.{w64}
use Rattle.fd_triangles.specs.Elimination.{less}
use Rattle.fd_triangles.specs.Rows.{number}
use Rattle.fd_triangles.proofs.Losing.{less_never}
use Rattle.fd_triangles.proofs.Sizes.{zero_read}
use Rattle.fd_triangles.proofs.clearing.lose.Goals as goal

pub returns-then-f-eq0-clause-lost : goal.returns-then-f-eq0-clause-lost
returns-then-f-eq0-clause-lost c =
    let ff : FitsSigned w64 c.args.f = c.ranges.f in
    let zero : c.args.f ≡ pos 0 = zero_read c.args.f ff c.if-f-eq0.true in
    record {
      equations = refl;
      never = λ _. refl;
      once = λ ne. absurd (ne zero);
      left = c.requires.row;
      numbers = λ p. sym (ap (λ f. less (number c.args.row.now.left.items p) f (number c.args.others.now p)) zero
          ∙ less_never (number c.args.row.now.left.items p) (number c.args.others.now p));
    }
