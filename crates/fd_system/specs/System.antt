-- The system: what elements add to the rows, and the residual of a row.
use Rattle.std.specs.Prelude.{ℕ, ◌+◌, ◌<◌, List, [], ◌∷◌, ◌++◌, cond, eqb}
use Rattle.std.specs.List.{flat_map}
use Rattle.fd_arith.specs.fd_exact.Fractions.{Fraction, fraction, ◌⊕◌, nothing, Same}
use Rattle.fd_arith.specs.fd_exact.States.{State}
use Rattle.fd_arith.specs.declared.terms.Term.{Term}
use Rattle.fd_system.specs.declared.constants.Constant.{Constant}
use Rattle.fd_system.specs.declared.loads.LoadAt.{LoadAt}
use Rattle.fd_system.specs.Loads.{draw_of, linear_list, nonlinear_parts}
use Rattle.fd_system.specs.Contributions.{row_sum}
use Rattle.fd_arith.specs.fd_exact.Sums.{list_n, sum_of}
use Rattle.fd_system.specs.Equations.{Part, equation}

-- a stamp, what an element or a whole circuit adds to the rows: constants, contributions and part loads, of which those
-- of constant impedance stand in the contributions too; with what it draws at nominal voltage, in whole microamperes
pub record StampView : Type 0 where
  pub constants : List Constant
  pub terms : List Term
  pub loads : List LoadAt
  pub draw : ℕ

-- the stamp of these lists, and of what is drawn
abbrev pub stamp_with : List Constant → List Term → List LoadAt → ℕ → StampView
stamp_with cs ts us draw = record { constants = cs; terms = ts; loads = us; draw = draw }

abbrev pub constant_given : ℕ → Constant → Fraction
constant_given l c = cond (eqb c.row l) (fraction c.value 1) nothing

-- the linear rows
abbrev pub linear_of : List Constant → List Term → State → ℕ → Fraction
linear_of cs ts x l = sum_of (constant_given l) cs ⊕ row_sum l ts x

-- what the part loads add beside the contributions
abbrev pub nonlinear_of : List LoadAt → State → List Part
nonlinear_of us x = flat_map (λ u. nonlinear_parts u x) us

-- the residual of row l
abbrev pub residual_of : StampView → State → ℕ → Fraction
residual_of s x l = linear_of s.constants s.terms x l ⊕ equation l (nonlinear_of s.loads x)

-- one after the other
abbrev pub beside : StampView → StampView → StampView
beside s t = stamp_with (s.constants ++ t.constants) (s.terms ++ t.terms) (s.loads ++ t.loads) (s.draw + t.draw)

-- of all elements, one after the other
abbrev pub joined : List StampView → StampView
joined ss =
    stamp_with (flat_map (λ s. s.constants) ss) (flat_map (λ s. s.terms) ss) (flat_map (λ s. s.loads) ss)
    (list_n (λ s. s.draw) ss)

-- the system has the rows of the equations, at every state
abbrev pub Represents : StampView → (State → List Part) → Type 0
Represents s ps = (x : State) → 0 < x.over → (l : ℕ) → Same (residual_of s x l) (equation l (ps x))

-- a part load, and those of an element
abbrev pub load_stamp : LoadAt → StampView
load_stamp u = stamp_with [] (linear_list u) (u ∷ []) (draw_of u)

abbrev pub loads_stamp : List LoadAt → StampView
loads_stamp us = stamp_with [] (flat_map linear_list us) us (list_n draw_of us)
