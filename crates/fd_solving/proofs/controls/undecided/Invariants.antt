use Rattle.std.proofs.Common.{◌≡◌}
use Rattle.std.specs.Prelude.{slice_get}
use Rattle.fd_pages.specs.fd_outcome.Pages.{controls_of}
use Rattle.fd_solving.proofs.controls.undecided.Given as goal

-- the control looked for is so many controls behind those before
abbrev pub invariant-loop-name : goal.invariant-loop-name
invariant-loop-name l =
    slice_get (controls_of l.name-iterator) l.left ≡ slice_get (controls_of l.circuit.elements) l.number
