use Rattle.std.proofs.Common.{◌≡◌, sym, subst, ◌∙◌, arith, rules, to_z, of_z}
use Rattle.std.specs.Int.{w64, w128, FitsUnsigned}
use Rattle.std.specs.Option.{option_map}
use Rattle.std.proofs.lemmas.Int.{ints, to_z-of_z}
use Rattle.fd_lines.specs.Cuts.{texts_of}
use Rattle.fd_certfile.proofs.StepReading.{past_row}
use Rattle.fd_certfile.proofs.row.push_counted.Goals as goal

pub returns-in-Err : goal.returns-in-Err
returns-in-Err c =
    let same : to_z w128 (of_z w128 c.in-Some.pairs) ≡ c.in-Some.pairs = to_z-of_z w128 c.in-Some.pairs (search rules) in
    past_row c.args.count c.in-Some.pairs (λ k e l.
    c.in-Err.ensures (subst (FitsUnsigned w64) (sym (same ∙ e)) (omega (arith, ints), omega (arith, ints, l))))
    (texts_of (option_map (λ t. t.now) c.args.fields)) (texts_of (option_map (λ t. t.now) c.in-Some.named)) c.in-Some.ensures
