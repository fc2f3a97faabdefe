-- Where there are no bounds.
use Rattle.std.proofs.Common.{◌≡◌, ℕ, ◌<◌, ◌≤◌, ◌^◌, Some, None, List, length}
use Rattle.std.proofs.lemmas.Bool.{ltb-false}
use Rattle.fd_substitution.specs.fd_derived.fd_factors.fd_exact.FirstLaws.{none_holds}
use Rattle.fd_substitution.specs.fd_derived.Refusals.{added_sizes}
use Rattle.fd_substitution.specs.fd_derived.declared.entries.Equation.{Equation}
use Rattle.fd_substitution.specs.fd_derived.declared.entries.Row.{Row}
use Rattle.fd_bounds.specs.Passes.{row_past}
use Rattle.fd_bounds.specs.Results.{HasEnded, HasNoPass, none, past}
use Rattle.fd_bounds.specs.Rows.{unknown_at}
use Rattle.fd_bounds.specs.declared.fault.BoundFault.{BoundFault}
use Rattle.fd_bounds.specs.declared.fault.BoundFault.TheVariants.{NoMemory, Unbounded}

module _ (es : List Equation) (rows : List Row) where
  pub in_range : row_past es rows ≡ None → (t : ℕ) → t < length rows → added_sizes es rows t ≤ 2 ^ 120
  in_range e t l = ltb-false (2 ^ 120) (added_sizes es rows t) (none_holds _ (length rows) t e l)

  pub has_ended : (fault : BoundFault) → row_past es rows ≡ None → HasNoPass es rows fault → HasEnded es rows fault
  has_ended NoMemory e h = tt
  has_ended (Unbounded q) e h = none e h

  pub ended_past : (t q : ℕ) → row_past es rows ≡ Some t → q ≡ unknown_at rows t → HasEnded es rows (Unbounded q)
  ended_past t q e is = past t e is
