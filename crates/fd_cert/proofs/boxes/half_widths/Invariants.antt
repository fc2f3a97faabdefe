use Rattle.std.proofs.Common.{◌≡◌, nat_abs}
use Rattle.fd_enclosure.specs.fd_exact.States.{part}
use Rattle.fd_enclosure.specs.fd_equations.Rounded.{list_of}
use Rattle.fd_enclosure.specs.fd_pattern.Views.{kind_of}
use Rattle.fd_enclosure.specs.Boxes.{part_width_by}
use Rattle.fd_cert.proofs.boxes.half_widths.Given as goal

abbrev pub invariant-loop-place : goal.invariant-loop-place
invariant-loop-place l = l.boxes.items ≡ list_of l.place (λ i. part_width_by l.parts (kind_of l.net i) (nat_abs (part l.weights i)))
