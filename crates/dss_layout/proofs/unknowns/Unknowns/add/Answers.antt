use Rattle.std.proofs.Common.{sym, ap, ◌∙◌, length, arith}
use Rattle.dss_layout.specs.Layout.{LayoutView, added, passes_limit}
use Rattle.dss_layout.proofs.Adding.{passes_limit-added}
use Rattle.dss_layout.proofs.unknowns.Unknowns.add.Goals as goal

pub returns-then-are_too_many-clause-passes : goal.returns-then-are_too_many-clause-passes
returns-then-are_too_many-clause-passes c =
    let e = c.args.element.now in
    let here = passes_limit-added (let v : LayoutView = record {
      nodes = c.self.inside.nodes.keys;
      branches = c.self.inside.branches.items;
      magnitudes = c.self.inside.magnitudes.items;
      branches_before = c.self.inside.branches_before.items;
      magnitudes_before = c.self.inside.magnitudes_before.items;
    } in
    v) c.args.name.now e c.len.result c.len-2.result c.branches_of-branches.result c.len-3.result
    c.magnitudes_of-magnitudes.result (c.len.ensures.len ∙ ap length c.in_ok-note.ensures)
    (omega (arith, c.len-2.ensures, c.self.inside.branches.ok.0)) c.branches_of-branches.ensures
    (omega (arith, c.len-3.ensures, c.self.inside.magnitudes.ok.0)) c.magnitudes_of-magnitudes.ensures in
    sym c.if-are_too_many.true ∙ c.are_too_many.ensures ∙ here ∙ ap (λ (v : LayoutView). passes_limit (added v c.args.name.now e)) c.self.view_is

pub returns-clause-passes : goal.returns-clause-passes
returns-clause-passes c =
    let e = c.args.element.now in
    let here = passes_limit-added (let v : LayoutView = record {
      nodes = c.self.inside.nodes.keys;
      branches = c.self.inside.branches.items;
      magnitudes = c.self.inside.magnitudes.items;
      branches_before = c.self.inside.branches_before.items;
      magnitudes_before = c.self.inside.magnitudes_before.items;
    } in
    v) c.args.name.now e c.len.result c.len-2.result c.branches_of-branches.result c.len-3.result
    c.magnitudes_of-magnitudes.result (c.len.ensures.len ∙ ap length c.in_ok-note.ensures)
    (omega (arith, c.len-2.ensures, c.self.inside.branches.ok.0)) c.branches_of-branches.ensures
    (omega (arith, c.len-3.ensures, c.self.inside.magnitudes.ok.0)) c.magnitudes_of-magnitudes.ensures in
    sym c.if-are_too_many.false ∙ c.are_too_many.ensures ∙ here ∙ ap (λ (v : LayoutView). passes_limit (added v c.args.name.now e)) c.self.view_is
