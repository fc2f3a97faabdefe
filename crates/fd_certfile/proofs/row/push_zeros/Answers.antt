use Rattle.std.proofs.Common.{ℤ, pos, List, [], ◌∷◌, ◌++◌, sym, ◌∙◌, ap, append_assoc}
use Rattle.fd_certfile.specs.Readings.{zeros}
use Rattle.fd_certfile.proofs.PairReading.{zeros_more}
use Rattle.fd_certfile.proofs.row.push_zeros.Goals as goal

pub loop-zero-preserved : goal.loop-zero-preserved
loop-zero-preserved c =
    c.in_ok-push.ensures
    ∙ ap (λ (l : List ℤ). l ++ pos 0 ∷ []) c.loop-zero.invariant
    ∙ append_assoc c.args.cells.now (zeros c.loop-zero._zero) (pos 0 ∷ [])
    ∙ ap (λ (l : List ℤ). c.args.cells.now ++ l) (sym (zeros_more c.loop-zero._zero))
