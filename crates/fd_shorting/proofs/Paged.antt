-- What stands behind the settle of a short circuit, by its first round and the line that stands last.
use Rattle.std.proofs.Common.{◌≡◌, ℕ, List, [], ◌∷◌, length, map, slice_get, Option, Some, None, refl, sym, ap, subst}
use Rattle.std.proofs.Common.{arith}
use Rattle.std.specs.Prelude.{option_map}
use Rattle.std.specs.List.{flat_map}
use Rattle.fd_fault.specs.dss_model.declared.element.Element.{Element}
use Rattle.fd_fault.specs.dss_model.declared.names.ElementName.{ElementName}
use Rattle.fd_fault.specs.dss_layout.Layout.{Elements}
use Rattle.fd_solving.specs.fd_cert.declared.ball.Certified.{Certified}
use Rattle.fd_solving.specs.fd_outcome.Events.{row}
use Rattle.fd_solving.specs.fd_outcome.Pages.{report_texts}
use Rattle.fd_solving.specs.fd_outcome.Settles.{Round, Settle}
use Rattle.fd_solving.specs.fd_pages.Hours.{end_with, round_in, rounds_in}
use Rattle.fd_solving.specs.fd_report.Lines.{line_of, lines_of}
use Rattle.fd_solving.specs.fd_report.declared.faults.Fault.{Fault}
use Rattle.fd_solving.specs.fd_settle.declared.round.Round.{Round as Made}
use Rattle.fd_solving.proofs.CallerLemmas.{first_round}
use Rattle.fd_shorting.specs.Pages.{last_place, line_bus, rows_at, rows_of, short_rows_by}

-- the lines of rows are their texts
pub row_lines : (rows : List (List (List ℕ))) → lines_of rows ≡ flat_map report_texts (map row rows)
row_lines [] = refl
row_lines (r ∷ rows) = ap (λ (texts : List (List ℕ)). line_of r ∷ texts) (row_lines rows)

-- no record of a phase where a settle ends with a fault
pub no_phases : (s : Settle) (f : Fault) (tried : Option Certified) → map row (short_rows_by s (end_with f tried)) ≡ []
no_phases s f None = refl
no_phases s f (Some tried) = refl

-- the first round, as it is printed
pub first_in : (rounds : List Made) → (first : Option Made) → slice_get rounds 0 ≡ first
    → slice_get (rounds_in rounds) 0 ≡ option_map round_in first
first_in rounds first e = first_round rounds first e

-- ---- the element that stands last

-- of no elements there is none
pub no_last : (es : Elements) (round : Option Round) → length es ≡ 0
    → rows_of es (slice_get es (last_place es)) round ≡ []
no_last [] round none = refl
no_last (e ∷ es) round none = absurd (omega (arith, none))

pub at_last : (es : Elements) (place : ℕ) (entry : ElementName × Element) (round : Option Round)
    → slice_get es place ≡ Some entry → place ≡ last_place es
    → rows_at es entry.1 (line_bus entry.1) round ≡ rows_of es (slice_get es (last_place es)) round
at_last es place entry round here last =
    let there : slice_get es (last_place es) ≡ Some entry = subst (λ k. slice_get es k ≡ Some entry) last here in
    ap (λ (o : Option (ElementName × Element)). rows_of es o round) (sym there)
