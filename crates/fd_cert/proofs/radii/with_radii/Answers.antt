use Rattle.std.proofs.Common.{◌≡◌, ◌∙◌, ◌<◌, ◌++◌, ◌∷◌, [], length, arith, ap, sym, subst}
use Rattle.fd_enclosure.specs.fd_equations.Amounts.{cell_at, empty}
use Rattle.fd_enclosure.proofs.CallerLemmas.fd_equations.{get_or-list_of, length-list_of, list_of-more}
use Rattle.fd_enclosure.specs.Sound.{number_at}
use Rattle.fd_cert.specs.Places.{radius_cell}
use Rattle.fd_cert.proofs.radii.with_radii.Goals as goal

pub loop-k-preserved : goal.loop-k-preserved
loop-k-preserved c =
    c.in_ok-push.ensures.items ∙ (λ i. c.loop-k.invariant i ++ c.with_radius.ensures i ∷ [])
    ∙ sym (list_of-more c.loop-k.k (λ k. radius_cell (cell_at c.args.cells.now k) (number_at c.args.radii.now k)))

pub returns : goal.returns
returns c =
    let all : c.loop-k.k ≡ length c.args.cells.now = omega arith in
    record {
      long = ap length c.loop-k.invariant ∙ length-list_of c.loop-k.k (λ k. radius_cell (cell_at c.args.cells.now k) (number_at c.args.radii.now k)) ∙ all;
      each = λ k l. ap (λ xs. cell_at xs k) c.loop-k.invariant
          ∙ get_or-list_of c.loop-k.k (λ k. radius_cell (cell_at c.args.cells.now k) (number_at c.args.radii.now k)) k
          empty (subst (λ n. k < n) (sym all) l);
    }
