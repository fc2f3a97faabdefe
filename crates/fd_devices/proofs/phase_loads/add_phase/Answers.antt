use Rattle.std.proofs.Common.{◌≡◌, List, [], ◌∷◌, ◌++◌, sym, subst}
use Rattle.std.specs.List.{All}
use Rattle.std.proofs.lemmas.List.Elements.{All-nil, All-cons, All-append}
use Rattle.fd_xfmr.specs.fd_system.declared.loads.LoadAt.{LoadAt}
use Rattle.fd_devices.specs.Building.{IsUsable}
use Rattle.fd_devices.proofs.phase_loads.add_phase.Goals as goal

pushed : (us vs : List LoadAt) (u : LoadAt) → vs ≡ us ++ u ∷ [] → All IsUsable us → IsUsable u → All IsUsable vs
pushed us vs u e h k =
    subst (All IsUsable) (sym e) (All-append IsUsable us (u ∷ []) h (All-cons IsUsable u [] k (All-nil IsUsable)))

pub returns-in-Some-clause-usable : goal.returns-in-Some-clause-usable
returns-in-Some-clause-usable c =
    pushed c.args.into.now.items _ c.part_at.result c.push_reserved.ensures.items c.requires.usable c.part_at.ensures.usable

pub returns-in-None-clause-usable : goal.returns-in-None-clause-usable
returns-in-None-clause-usable c =
    let first = pushed c.args.into.now.items _ c.part_at-in-None.result c.push_reserved-in-None.ensures.items c.requires.usable
    c.part_at-in-None.ensures.usable in
    let second = pushed c.push_reserved-in-None.new.self.items _ c.part_at-in-None-2.result
    c.push_reserved-in-None-2.ensures.items first c.part_at-in-None-2.ensures.usable in
    pushed c.push_reserved-in-None-2.new.self.items _ c.part_at-in-None-3.result c.push_reserved-in-None-3.ensures.items
    second c.part_at-in-None-3.ensures.usable
