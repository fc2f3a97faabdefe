use Rattle.std.proofs.Common.{◌≡◌, ◌∙◌, ◌++◌, ◌∷◌, [], List, ℤ, FitsSigned, ap}
use Rattle.std.specs.Int.{w64}
use Rattle.std.proofs.lemmas.Int.{to_z-of_z}
use Rattle.fd_certfile.specs.Cells.{with_longs}
use Rattle.fd_certfile.proofs.NearCells.{short_more}
use Rattle.fd_certfile.proofs.cells.Cells.push_short.Goals as goal
use Rattle.fd_certfile.proofs.cells.Cells.push_short.Goals.{In_ok-push}

pushed : (c : In_ok-push) → c.push.new.self.items ≡ c.self.inside.shorts.items ++ c.args.number ∷ []
pushed c =
    let f : FitsSigned w64 c.args.number = c.ranges.number in
    c.in_ok-push.ensures.items ∙ ap (λ (z : ℤ). c.self.inside.shorts.items ++ z ∷ []) (to_z-of_z w64 c.args.number f)

pub returns : goal.returns
returns c =
    ap (λ (xs : List ℤ). with_longs xs c.self.inside.longs.items) (pushed c)
    ∙ short_more c.self.inside.shorts.items c.self.inside.longs.items c.self.invariant c.args.number
    ∙ ap (λ (xs : List ℤ). xs ++ c.args.number ∷ []) c.self.view_is
