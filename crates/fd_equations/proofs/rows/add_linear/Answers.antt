use Rattle.std.proofs.Common.{◌∙◌, length, ap, sym, subst}
use Rattle.std.specs.List.{All}
use Rattle.fd_pattern.specs.fd_system.Residual.{IsTerm}
use Rattle.fd_pattern.proofs.CallerLemmas.fd_system.{length-constants}
use Rattle.fd_equations.proofs.rows.add_linear.Goals as goal

pub add_terms-requires : goal.add_terms-requires
add_terms-requires c =
    let long = ap length c.add_constants.ensures ∙ length-constants c.args.rows.now c.args.constants.now in
    record {
      terms = subst (λ n. All (IsTerm n) c.args.terms.now) (sym long) c.requires.terms;
      same_length = long ∙ c.requires.same_length;
    }
