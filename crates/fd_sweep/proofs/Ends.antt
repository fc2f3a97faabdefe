-- What the order of a circuit says of its sweep.
use Rattle.std.proofs.Common.{◌≡◌, ℕ, List, Option, Some, None, Ok, Err, refl, sym, ap}
use Rattle.fd_network.specs.fd_exact.Answers.{IsTold}
use Rattle.fd_ladder.specs.declared.fault.LadderFault.{LadderFault}
use Rattle.fd_ladder.specs.declared.fault.LadderFault.TheVariants.{NotRadial, NoMemory}
use Rattle.fd_ladder.specs.Radial.{fault_of, radial_unless}
use Rattle.fd_series.specs.fd_rungs.declared.swept.Swept.{Swept}
use Rattle.fd_sweep.specs.Sweep.{swept_unless}

-- the fault of a circuit without an order is that of its sweep
pub not_swept : (first : Option ℕ) (order : List ℕ) (swept : Swept) (e : LadderFault) → IsTold (fault_of e) (radial_unless first order)
    → IsTold (fault_of e) (swept_unless first swept)
not_swept first order swept NoMemory told = tt
not_swept None order swept (NotRadial number) told = absurd (let no : radial_unless None order ≡ Err (NotRadial number) = told in cc)
not_swept (Some other) order swept (NotRadial number) told =
    let same : NotRadial other ≡ NotRadial number = cc in ap Err same

-- one that has an order is swept
pub is_swept : (first : Option ℕ) (order numbers : List ℕ) (swept : Swept) → radial_unless first order ≡ Ok numbers
    → swept_unless first swept ≡ Ok swept
is_swept None order numbers swept made = refl
is_swept (Some number) order numbers swept made = absurd (let no : Err (NotRadial number) ≡ Ok numbers = made in cc)

pub same_order : (first : Option ℕ) (order numbers : List ℕ) → radial_unless first order ≡ Ok numbers → numbers ≡ order
same_order None order numbers made = let same : order ≡ numbers = cc in sym same
same_order (Some number) order numbers made = absurd (let no : Err (NotRadial number) ≡ Ok numbers = made in cc)
