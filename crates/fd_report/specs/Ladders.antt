-- What a ladder sweep comes to beside a certified state, and its record, as a list of fields.
use Rattle.std.specs.Prelude.{ℕ, List, [], ◌∷◌, codes}
use Rattle.std.specs.Fmt.{decimal}
use Rattle.dss_script.specs.dss_model.Names.{bytes}
use Rattle.dss_script.specs.fd_decimal.Decimals.{size_text}
use Rattle.fd_report.specs.declared.ladders.Ladder.{Ladder}
use Rattle.fd_report.specs.declared.ladders.Ladder.TheVariants as ladder

abbrev pub ladder_fields : Ladder → List (List ℕ)
ladder_fields (ladder.OutOfRange unknown sweep) = codes "ladder" ∷ codes "out of range" ∷ bytes unknown ∷ decimal sweep ∷ []
ladder_fields (ladder.NotConverged sweeps) = codes "ladder" ∷ codes "not converged" ∷ decimal sweeps ∷ []
ladder_fields (ladder.Apart unknown) = codes "ladder" ∷ codes "apart" ∷ bytes unknown ∷ []
ladder_fields (ladder.Wide unknown) = codes "ladder" ∷ codes "wide" ∷ bytes unknown ∷ []
ladder_fields (ladder.Agrees sweeps gap radius) =
    codes "ladder" ∷ codes "agrees" ∷ decimal sweeps ∷ size_text gap ∷ size_text radius ∷ []
