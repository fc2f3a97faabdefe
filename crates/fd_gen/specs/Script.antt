-- The script of a feeder of so many sections from a number. A line is the list of its bytes.
use Rattle.std.specs.Prelude.{◌≡◌, ℕ, zero, suc, ◌+◌, ◌-◌, ◌*◌, ◌%◌, List, [], ◌∷◌, ◌++◌, map, flat_map, codes}
use Rattle.std.specs.List.{concat, range_with_len}
use Rattle.std.specs.Fmt.{decimal}
use Rattle.fd_outside.specs.declared.bytes.Record.{Record}
use Rattle.fd_outside.specs.Emitted.{pieces_of}
use Rattle.fd_gen.specs.Draws.{draw}

-- the circuit, and the one linecode of its lines
abbrev pub head : List (List ℕ)
head =
    codes "Clear"
    ∷ codes "New Circuit.gen basekv=4.16 r1=0 x1=0.001 r0=0 x0=0.001"
    ∷ (codes "New Linecode.g nphases=3 rmatrix=(0.3465 | 0.1560 0.3375 | 0.1580 0.1535 0.3414)"
    ++ codes " xmatrix=(1.0179 | 0.5017 1.0478 | 0.4236 0.3849 1.0348) units=mi")
    ∷ []

-- the bus at the end of a section; the source's stands before the first
abbrev pub bus_of : ℕ → List ℕ
bus_of zero = codes "sourcebus"
bus_of (suc k) = codes "b" ++ decimal (suc k)

-- a section's line: its number, the bus that it comes from by number, and its length in feet
abbrev pub line_of : ℕ → ℕ → ℕ → List ℕ
line_of k from feet = concat (
    codes "New Line.l" ∷ decimal k ∷ codes " bus1=" ∷ bus_of from ∷ codes " bus2=" ∷ bus_of k
    ∷ codes " linecode=g length=" ∷ decimal feet ∷ codes " units=ft" ∷ [])

-- the load at the end of a section, in kW
abbrev pub load_of : ℕ → ℕ → List ℕ
load_of k kilowatts = concat (
    codes "New Load.d" ∷ decimal k ∷ codes " bus1=" ∷ bus_of k ∷ codes " kv=4.16 kw=" ∷ decimal kilowatts
    ∷ codes " vminpu=0.8" ∷ [])

-- the lines of section k by its three draws: it begins at a bus before its own, is 100 to 299 feet long, and has 5 to
-- 24 kW at its end
unfoldable pub section_by : ℕ → ℕ → ℕ → ℕ → List (List ℕ)
section_by k a b c = line_of k (a % k) (100 + b % 200) ∷ load_of k (5 + c % 20) ∷ []

-- the lines of section k, counted from 1: three draws belong to each
abbrev pub section : ℕ → ℕ → List (List ℕ)
section number k = section_by k (draw number (3 * k - 2)) (draw number (3 * k - 1)) (draw number (3 * k))

abbrev pub sections_of : ℕ → ℕ → List (List ℕ)
sections_of number count = flat_map (section number) (range_with_len 1 count)

-- the line feed at the end of a line
abbrev pub ended : List ℕ → List ℕ
ended line = line ++ 10 ∷ []

-- these lines, each with its end, are added to records
abbrev pub Adds : List Record → List Record → List (List ℕ) → Type 0
Adds old new lines = pieces_of new ≡ pieces_of old ++ map ended lines

-- the script's lines, without their ends
abbrev pub script_of : ℕ → ℕ → List (List ℕ)
script_of number count = head ++ sections_of number count ++ codes "Solve" ∷ []

-- the same, each with its end
abbrev pub lines_of : ℕ → ℕ → List (List ℕ)
lines_of number count = map ended (script_of number count)
