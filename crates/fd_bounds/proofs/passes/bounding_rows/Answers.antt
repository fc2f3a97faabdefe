use Rattle.std.proofs.Common.{◌≡◌, ◌∙◌, ◌<◌, length, replicate, arith, ap, subst, sym, rules}
use Rattle.std.proofs.lemmas.List.{length-replicate}
use Rattle.fd_bounds.proofs.passes.bounding_rows.Goals as goal

pub loop-row-init : goal.loop-row-init
loop-row-init c =
    let items : c.in_ok-list.list.items ≡ replicate (length c.args.equations.now) 0 = search rules in
    record {
      long = ap length items ∙ length-replicate (length c.args.equations.now) 0;
      each = λ t l. absurd (omega arith);
    }

pub returns : goal.returns
returns c =
    let all : c.loop-row.row ≡ length c.args.rows.now = omega (arith, c.loop-row.auto.row-end, c.loop-row-test.false) in
    record {
      long = c.loop-row.invariant.long;
      each = λ t l. c.loop-row.invariant.each t (subst (λ n. t < n) (sym all) l);
    }
