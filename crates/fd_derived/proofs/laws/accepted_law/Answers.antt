use Rattle.std.proofs.Common.{◌*◌, ◌^◌, length}
use Rattle.fd_derived.specs.Rows.{bound_of, bounding_row, coefficient, height_of, number_of_rows, radius, right_side_at, rows_of}
use Rattle.fd_derived.proofs.Lower.{lower_above, lower_bounded}
use Rattle.fd_derived.proofs.laws.accepted_law.Goals as goal

pub returns : goal.returns
returns c = λ es claim F box centre e v accepted over follows within sides.
    c.enclosure_law.ensures (length es) (number_of_rows claim) F box centre (coefficient es) (radius es) (rows_of claim) (bounding_row claim) e v
    (height_of claim) (bound_of claim) over follows within
    (λ i l. lower_above (length es) (number_of_rows claim) (2 ^ 40) (coefficient es) (radius es) (rows_of claim) (λ k. v * (2 * e k)) (right_side_at es)
    (height_of claim) (bound_of claim) sides i (accepted.above i l))
    (λ j l. lower_bounded (length es) (number_of_rows claim) (2 ^ 40) (coefficient es) (radius es) (rows_of claim) (λ k. v * (2 * e k)) (right_side_at es)
    (height_of claim) (bound_of claim) sides (bounding_row claim j) j (accepted.bounded j l))
