use Rattle.std.proofs.Common.{◌+◌, All, refl, subst, arith}
use Rattle.fd_pattern.specs.Conditions.{AreLinear, IsKnown, IsServed}
use Rattle.fd_equations.proofs.network.Network.new.Goals as goal

pub invariant_of-result : goal.invariant_of-result
invariant_of-result c =
    let layout = c.args.layout in
    let rows = c.args.rows.now in (
      record {
        small = c.requires.small;
        nodes = omega arith;
        unknowns = refl;
        terms = subst (λ n. AreLinear n rows.terms) c.requires.size c.terms-terms.ensures.linear;
        entries = c.requires.entries;
        constants = subst (λ n. All (IsKnown n) c.args.constants.now) c.requires.size c.requires.constants;
        few_constants = c.requires.few_constants;
        loads = subst (λ n. All (IsServed layout.nodes (layout.nodes + layout.branches) n) rows.loads) c.requires.size c.requires.loads;
        few_loads = c.loads-loads.ensures.few;
        apart = c.requires.apart;
        draw = c.requires.draw;
      },
      c.requires.size,
    )
