use Rattle.std.proofs.Common.{◌≡◌, ◌∙◌, ◌<◌, length, ap, sym, subst, Ok, arith}
use Rattle.fd_equations.specs.Rounded.{start_matrix_of}
use Rattle.fd_inject.specs.Kept.{IsInverted}
use Rattle.fd_inject.specs.Ranges.{inverse_at}
use Rattle.fd_inject.proofs.Iterates.{start_long}
use Rattle.fd_inject.proofs.Pairs.{at_is, kept_size, kept_small}
use Rattle.fd_inject.proofs.kept.solve_at.Goals as goal
use Rattle.fd_inject.proofs.kept.solve_at.Goals.{After-index}

matrix_is : (c : After-index) → c.index.result.now.matrix ≡ start_matrix_of c.args.net.now
matrix_is c = at_is (start_matrix_of c.args.net.now) c.kept.inside.pairs.items c.args.kept.now c.args.place c.index.result.now c.kept.view_is c.index.ensures c.requires.kept

inverted : (c : After-index) → IsInverted c.index.result.now
inverted c =
    let l : c.args.place < length c.kept.inside.pairs.items = omega (arith, c.requires.kept.inside, ap length c.kept.view_is) in
    subst IsInverted (sym c.index.ensures) (c.kept.invariant.1 c.args.place c.index.result.now l)

pub solve_from-requires-clause-inverse : goal.solve_from-requires-clause-inverse
solve_from-requires-clause-inverse c = subst (λ m. inverse_at m ≡ Ok c.index.result.now.inverse) (matrix_is c) (inverted c)

pub solve_from-requires-clause-size : goal.solve_from-requires-clause-size
solve_from-requires-clause-size c =
    kept_size c.index.result.now.matrix c.index.result.now.inverse (inverted c)
    ∙ start_long c.args.net.now c.index.result.now.matrix (matrix_is c)

pub solve_from-requires-clause-entries : goal.solve_from-requires-clause-entries
solve_from-requires-clause-entries c = kept_small c.index.result.now.matrix c.index.result.now.inverse (inverted c)
