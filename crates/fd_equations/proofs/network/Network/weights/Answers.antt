use Rattle.std.proofs.Common.{◌≡◌, ◌∙◌, ℕ, ◌+◌, ◌*◌, ℤ, List, length, ap, pos, sym, subst}
use Rattle.std.proofs.lemmas.Result.{IfOk-weaker}
use Rattle.fd_pattern.specs.Conditions.{IsNetwork}
use Rattle.fd_equations.specs.Rounded.{list_of}
use Rattle.fd_pattern.specs.Views.{kind_in}
use Rattle.fd_equations.specs.Weights.{weight_by, weights_of}
use Rattle.fd_equations.proofs.Networks.{weights_range}
use Rattle.fd_equations.proofs.network.Network.weights.Goals as goal
use Rattle.fd_equations.proofs.network.Network.weights.Goals.{After-weights}

abbrev by_layout : (c : After-weights) → ℕ → ℤ
by_layout c place =
    pos (weight_by (kind_in (2 * c.self.inside.layout.nodes)
    (2 * (c.self.inside.layout.nodes + c.self.inside.layout.branches)) place)
    c.self.inside.draw c.args.x.now place)

weights_are : (c : After-weights) (ws : List ℤ) → ws ≡ list_of (length c.args.x.now) (by_layout c) → ws ≡ weights_of c.args.self.now c.args.x.now
weights_are c ws e =
    e
    ∙ ap (λ n. list_of n (by_layout c)) (c.requires.long ∙ sym (ap (λ v. v.size) c.self.view_is))
    ∙ ap (λ v. weights_of v c.args.x.now) c.self.view_is

pub returns : goal.returns
returns c = record {
  weights = IfOk-weaker c.weights.result _ _ (λ w e. weights_are c w.items e) c.weights.ensures;
  range = IfOk-weaker c.weights.result _ _ (λ w e.
      weights_range c.args.self.now c.args.x.now w.items (subst IsNetwork c.self.view_is c.self.invariant.0)
      c.requires (weights_are c w.items e))
      c.weights.ensures;
}
