use Rattle.std.proofs.Common.{ℕ, ◌<◌, ◌≤◌, length, sym, arith}
use Rattle.fd_mat.proofs.Columns.{column_none, column_some}
use Rattle.fd_mat.proofs.dense.Dense.first_column_past.Goals as goal

pub returns-then-least-size-clause-first : goal.returns-then-least-size-clause-first
returns-then-least-size-clause-first c =
    let low : c.loop-row.least < length c.args.self.now = grind (arith, c.size-size.ensures.size, c.if-least-size.true) in
    let end : (row : ℕ) → row < length c.args.self.now → row < c.loop-row.row = λ row r. grind (arith, c.size-size.ensures.size, c.loop-row-test.false) in
    sym (column_some c.args.limit c.args.self.now c.loop-row.least low (c.loop-row.invariant.past low)
    (λ row earlier r k. c.loop-row.invariant.before row earlier (end row r) k))

pub returns-else-least-size-clause-first : goal.returns-else-least-size-clause-first
returns-else-least-size-clause-first c =
    let all : length c.args.self.now ≤ c.loop-row.least = grind (arith, c.size-size.ensures.size, c.if-least-size.false) in
    let end : (row : ℕ) → row < length c.args.self.now → row < c.loop-row.row = λ row r. grind (arith, c.size-size.ensures.size, c.loop-row-test.false) in
    sym (column_none c.args.limit c.args.self.now (λ row col r k. c.loop-row.invariant.before row col (end row r) (omega arith)))
