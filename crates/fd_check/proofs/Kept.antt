-- The acts that are kept of an hour's rounds.
use Rattle.std.proofs.Common.{◌≡◌, ◌∙◌, List, Result, Ok, Err, map, refl, sym, ap}
use Rattle.std.proofs.lemmas.Simd.{map-map}
use Rattle.std.specs.declared.alloc.Global.{Global}
use Rattle.std.specs.declared.vec.Vec.{Vec}
use Rattle.fd_daily.specs.fd_settle.declared.fault.SettleFault.{SettleFault}
use Rattle.fd_daily.specs.fd_settle.declared.fault.SettleFault.TheVariants as settle
use Rattle.fd_daily.specs.fd_settle.declared.round.Act.{Act as Made}
use Rattle.fd_daily.specs.fd_settle.declared.round.Round.{Round}
use Rattle.fd_check.specs.Comparing.{acts_claimed, acts_made, with_acts}
use Rattle.fd_check.proofs.Told.{before_last_map}

with_acts_map : {T F X Y : Type 0} (ended : Result T (SettleFault F)) (f : X → Y) (xs : List X)
    → with_acts ended (map f xs) ≡ map f (with_acts ended xs)
with_acts_map (Err (settle.Undecided control low high edge)) f xs = sym (before_last_map f xs)
with_acts_map (Err (settle.Range blame)) f xs = refl
with_acts_map (Err (settle.Solver e)) f xs = refl
with_acts_map (Err (settle.ControlLimit acts)) f xs = refl
with_acts_map (Err settle.NoMemory) f xs = refl
with_acts_map (Ok t) f xs = refl

-- what the blocks are to claim by the acts that are kept is what they are to claim by the rounds
pub claimed_made : {T F : Type 0} (ended : Result T (SettleFault F)) (kept : List (Vec Made Global)) (made : List Round)
    → kept ≡ map (λ r. r.acts) made
    → map acts_claimed (with_acts ended kept) ≡ map acts_made (with_acts ended made)
claimed_made ended kept made h =
    ap (λ (xs : List (Vec Made Global)). map acts_claimed (with_acts ended xs)) h
    ∙ ap (map acts_claimed) (with_acts_map ended (λ (r : Round). r.acts) made)
    ∙ map-map acts_claimed (λ (r : Round). r.acts) (with_acts ended made)
