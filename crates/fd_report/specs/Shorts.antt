-- The records of a short circuit, as lists of fields.
use Rattle.std.specs.Prelude.{ℕ, ◌*◌, List, [], ◌∷◌, ◌++◌, map, codes}
use Rattle.std.specs.List.{enumerate_from}
use Rattle.std.specs.Fmt.{decimal}
use Rattle.dss_script.specs.dss_model.Names.{bytes}
use Rattle.dss_script.specs.fd_decimal.Decimals.{size_text}
use Rattle.fd_report.specs.Records.{part_fields}
use Rattle.fd_report.specs.Sizes.{greatest_size, least_size}
use Rattle.fd_report.specs.Solutions.{SolutionView, number_at}

-- the numbers of a solution, by place
module _ (s : SolutionView) where
  -- the radius of the parts of complex unknown k, and the least and the greatest size within it
  abbrev pub ball_fields : ℕ → List (List ℕ)
  ball_fields k = size_text (number_at s.radii (2 * k)) ∷ size_text (least_size s k) ∷ size_text (greatest_size s k) ∷ []

  -- a phase of a fault: the current that leaves this node of the bus into it is complex unknown k
  abbrev pub short_fields : ℕ → List ℕ → ℕ → List (List ℕ)
  short_fields k bus node = codes "short" ∷ bytes bus ∷ decimal node ∷ (part_fields s k ++ ball_fields k)

  -- phases of a fault, of which the first has complex unknown k
  abbrev pub short_records : ℕ → List ℕ → List ℕ → List (List (List ℕ))
  short_records k bus nodes = map (λ p. short_fields p.0 bus p.1) (enumerate_from k nodes)
