-- Where an element of a circuit stands in the equations.
use Rattle.std.specs.Prelude.{ℕ, slice_get, Option}
use Rattle.std.specs.Option.{option_map}
use Rattle.dss_layout.specs.fd_arith.declared.terms.Ends.{Ends}
use Rattle.dss_layout.specs.Layout.{Elements, ends_of, layout_of}

-- the nodes and the first branch of the element with this number in order, if there is one
abbrev pub ends_at : Elements → ℕ → Option Ends
ends_at elements k = option_map (λ e. ends_of (layout_of elements) k e.1) (slice_get elements k)
