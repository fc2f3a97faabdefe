use Rattle.std.proofs.Common.{◌≡◌, ◌∙◌, inl, inr, refl, ◌+◌, ◌++◌, ◌<◌, ◌≤◌, ◌^◌, [], ◌∷◌, length, arith, ap, sym, subst}
use Rattle.std.proofs.lemmas.Option.{IfSome_then}
use Rattle.fd_devices.specs.fd_system.Stamps.{stamp_of}
use Rattle.fd_devices.specs.fd_system.System.{StampView, beside}
use Rattle.fd_devices.specs.Kept.{AreFewOf}
use Rattle.fd_devices.specs.Settings.{settings_in}
use Rattle.fd_network.specs.Former.{IsFormerOf, former_in, formers_in}
use Rattle.fd_network.specs.Stamps.{extent_of}
use Rattle.fd_network.specs.declared.extents.Extent.{Extent}
use Rattle.fd_network.proofs.Before.{IfSome_each, of_known, own_there, still_of}
use Rattle.fd_network.proofs.stamps.add_stamp.Goals as goal

pub unmoved-requires-clause-former : goal.unmoved-requires-clause-former
unmoved-requires-clause-former c =
    own_there c.args.layout.now c.args.hertz c.args.place c.args.element.now (formers_in c.args.former) c.requires.former

pub push_first-requires-clause-first : goal.push_first-requires-clause-first
push_first-requires-clause-first c =
    let layout = c.args.layout.now in
    let before = c.in-Some.before in
    let is = of_known (IsFormerOf layout c.args.hertz c.args.place c.args.element.now) c.args.former before
    c.in-Some.ensures.former c.requires.former in
    let still = still_of layout c.args.hertz c.args.place c.args.element.now (settings_in c.args.left.now) (former_in before)
    c.requires.taken is c.in-Some.ensures.same in
    still.first

pub push_first-requires-clause-draw : goal.push_first-requires-clause-draw
push_first-requires-clause-draw c =
    let layout = c.args.layout.now in
    let before = c.in-Some.before in
    let is = of_known (IsFormerOf layout c.args.hertz c.args.place c.args.element.now) c.args.former before
    c.in-Some.ensures.former c.requires.former in
    let still = still_of layout c.args.hertz c.args.place c.args.element.now (settings_in c.args.left.now) (former_in before)
    c.requires.taken is c.in-Some.ensures.same in
    omega (arith, ap (λ (x : Extent). x.draw) still.extent, still.settled.bounded.draw, c.requires.draw)

pub push_first-requires-clause-terms : goal.push_first-requires-clause-terms
push_first-requires-clause-terms c =
    let layout = c.args.layout.now in
    let before = c.in-Some.before in
    let is = of_known (IsFormerOf layout c.args.hertz c.args.place c.args.element.now) c.args.former before
    c.in-Some.ensures.former c.requires.former in
    let still = still_of layout c.args.hertz c.args.place c.args.element.now (settings_in c.args.left.now) (former_in before)
    c.requires.taken is c.in-Some.ensures.same in
    omega (arith, ap (λ (x : Extent). x.terms) still.extent, still.few.terms, c.requires.terms)

pub push_first-requires-clause-loads : goal.push_first-requires-clause-loads
push_first-requires-clause-loads c =
    let layout = c.args.layout.now in
    let before = c.in-Some.before in
    let is = of_known (IsFormerOf layout c.args.hertz c.args.place c.args.element.now) c.args.former before
    c.in-Some.ensures.former c.requires.former in
    let still = still_of layout c.args.hertz c.args.place c.args.element.now (settings_in c.args.left.now) (former_in before)
    c.requires.taken is c.in-Some.ensures.same in
    omega (arith, ap (λ (x : Extent). x.loads) still.extent, still.few.loads, c.requires.loads)

pub push_first-requires-clause-constants : goal.push_first-requires-clause-constants
push_first-requires-clause-constants c =
    let layout = c.args.layout.now in
    let before = c.in-Some.before in
    let is = of_known (IsFormerOf layout c.args.hertz c.args.place c.args.element.now) c.args.former before
    c.in-Some.ensures.former c.requires.former in
    let still = still_of layout c.args.hertz c.args.place c.args.element.now (settings_in c.args.left.now) (former_in before)
    c.requires.taken is c.in-Some.ensures.same in
    omega (arith, ap (λ (x : Extent). x.constants) still.extent, still.few.constants, c.requires.constants)

pub returns-in-Some-clause-stamp : goal.returns-in-Some-clause-stamp
returns-in-Some-clause-stamp c =
    let layout = c.args.layout.now in
    let before = c.in-Some.before in
    let is = of_known (IsFormerOf layout c.args.hertz c.args.place c.args.element.now) c.args.former before
    c.in-Some.ensures.former c.requires.former in
    let still = still_of layout c.args.hertz c.args.place c.args.element.now (settings_in c.args.left.now) (former_in before)
    c.requires.taken is c.in-Some.ensures.same in
    c.push_first.ensures.stamp ∙ ap (λ s. beside (stamp_of c.args.stamps.now.all) s) still.stamp

pub returns-in-Some-clause-extents : goal.returns-in-Some-clause-extents
returns-in-Some-clause-extents c =
    let layout = c.args.layout.now in
    let before = c.in-Some.before in
    let is = of_known (IsFormerOf layout c.args.hertz c.args.place c.args.element.now) c.args.former before
    c.in-Some.ensures.former c.requires.former in
    let still = still_of layout c.args.hertz c.args.place c.args.element.now (settings_in c.args.left.now) (former_in before)
    c.requires.taken is c.in-Some.ensures.same in
    c.push_first.ensures.extents ∙ ap (λ x. c.args.stamps.now.extents.items ++ x ∷ []) still.extent

pub returns-in-Some-clause-settled : goal.returns-in-Some-clause-settled
returns-in-Some-clause-settled c =
    let layout = c.args.layout.now in
    let before = c.in-Some.before in
    let is = of_known (IsFormerOf layout c.args.hertz c.args.place c.args.element.now) c.args.former before
    c.in-Some.ensures.former c.requires.former in
    let still = still_of layout c.args.hertz c.args.place c.args.element.now (settings_in c.args.left.now) (former_in before)
    c.requires.taken is c.in-Some.ensures.same in
    still.settled

pub returns-in-Some-clause-few : goal.returns-in-Some-clause-few
returns-in-Some-clause-few c =
    let layout = c.args.layout.now in
    let before = c.in-Some.before in
    let is = of_known (IsFormerOf layout c.args.hertz c.args.place c.args.element.now) c.args.former before
    c.in-Some.ensures.former c.requires.former in
    let still = still_of layout c.args.hertz c.args.place c.args.element.now (settings_in c.args.left.now) (former_in before)
    c.requires.taken is c.in-Some.ensures.same in
    still.few

pub push_reserved-requires-clause-draw : goal.push_reserved-requires-clause-draw
push_reserved-requires-clause-draw c =
    let s = c.in_ok-stamp_at-in-None.ensures.stamp in
    let draw = ap (λ (x : StampView). x.draw) s in
    omega (arith, draw, c.in_ok-stamp_at-in-None.ensures.settled.bounded.draw, c.requires.draw)

pub push_reserved-requires-clause-terms : goal.push_reserved-requires-clause-terms
push_reserved-requires-clause-terms c =
    omega (arith, c.in_ok-stamp_at-in-None.ensures.few.terms, c.requires.terms)

pub push_reserved-requires-clause-loads : goal.push_reserved-requires-clause-loads
push_reserved-requires-clause-loads c =
    omega (arith, c.in_ok-stamp_at-in-None.ensures.few.loads, c.requires.loads)

pub push_reserved-requires-clause-constants : goal.push_reserved-requires-clause-constants
push_reserved-requires-clause-constants c =
    omega (arith, c.in_ok-stamp_at-in-None.ensures.few.constants, c.requires.constants)

pub returns-in-Some-clause-unwritten : goal.returns-in-Some-clause-unwritten
returns-in-Some-clause-unwritten c = IfSome_each (formers_in c.args.former) (λ v. inl refl)
