-- The strips of panels: rows of nodes that fit beside each other on a page. A strip is a panel of some nodes.
use Rattle.std.specs.Prelude.{ℕ, zero, suc, ◌-◌, ◌/◌, List, [], ◌∷◌, length, map, take, drop}
use Rattle.std.specs.List.{flat_map}
use Rattle.fd_picture.specs.declared.report.Node.{Node}
use Rattle.fd_picture.specs.declared.report.Panel.{Panel}

abbrev pub strip_by : Panel → List Node → Panel
strip_by panel nodes = record { settle = panel.settle; hour = panel.hour; round = panel.round; nodes = nodes }

-- nodes in so many rows of 42, and a last row of those that are left
abbrev pub rows_from : ℕ → List Node → List (List Node)
rows_from zero nodes = nodes ∷ []
rows_from (suc more) nodes = take 42 nodes ∷ rows_from more (drop 42 nodes)

-- the strips of a panel: full ones of 42 nodes, and a last one of the rest
unfoldable pub strips_of : Panel → List Panel
strips_of panel = map (λ nodes. strip_by panel nodes) (rows_from ((length panel.nodes - 1) / 42) panel.nodes)

-- what is drawn of panels: their strips, in order
abbrev pub drawn : List Panel → List Panel
drawn panels = flat_map strips_of panels
