use Rattle.std.proofs.Common.{◌<◌, ◌++◌, length, ap, sym, refl, ◌∙◌, arith}
use Rattle.std.proofs.lemmas.Option.{slice_get_read}
use Rattle.fd_levels.specs.Levels.{level_in}
use Rattle.fd_levels.specs.Order.{current_pairs, voltage_pairs}
use Rattle.fd_levels.specs.declared.group.Group.{Group}
use Rattle.fd_levels.proofs.Groups.{adds_own, adds_past}
use Rattle.fd_levels.proofs.group.add.Goals as goal

pub returns-then-level-groups : goal.returns-then-level-groups
returns-then-level-groups c =
    adds_past (level_in c.args.levels.now) c.args.groups.now c.in-Some.level c.args.feed.now (sym c.in-Some.ensures) c.if-level-groups.true

pub returns : goal.returns
returns c =
    let groups = c.args.groups.now in
    let group = c.index-groups-level.result in
    let low : c.in-Some.level < length groups = omega (arith, c.if-level-groups.false) in
    adds_own (level_in c.args.levels.now) groups c.in-Some.level c.args.feed.now group c.join.new.group (sym c.in-Some.ensures)
    (slice_get_read groups (length groups) c.in-Some.level group refl low c.index-groups-level.is)
    (c.in_ok-join.ensures.currents ∙ ap (λ (g : Group). g.currents.items ++ current_pairs c.args.feed.now) (sym c.index-groups-level.is))
    (c.in_ok-join.ensures.voltages ∙ ap (λ (g : Group). g.voltages.items ++ voltage_pairs c.args.feed.now) (sym c.index-groups-level.is))
