use Rattle.std.proofs.Common.{◌≡◌, ◌∙◌, suc, ◌+◌, ◌-◌, ap, sym, length, arith, false, true}
use Rattle.std.proofs.lemmas.Result.{err_from_is_err_and}
use Rattle.dss_script.specs.Cutting.{items_of, item_at, ends_line, skip_separators}
use Rattle.dss_model.proofs.CallerLemmas.dss_lexer.{after, after-nil, fails_further}
use Rattle.dss_script.proofs.Words.{items_none, items_end, items_more, items_fault}
use Rattle.dss_script.proofs.cutting.items.Goals as goal

pub returns-then-is_line_end : goal.returns-then-is_line_end
returns-then-is_line_end c =
    let ends : ends_line (skip_separators c.loop.rest.now) ≡ true =
    ap ends_line (sym c.without_separators-rest.ensures) ∙ sym c.is_line_end.ensures ∙ c.if-is_line_end.true in
    sym c.loop.invariant ∙ ap (after c.loop.found.items) (items_end _ c.loop.rest.now ends) ∙ after-nil c.loop.found.items

pub returns-in_err-pair : goal.returns-in_err-pair
returns-in_err-pair c =
    let p = err_from_is_err_and c.from_residual.result c.from_residual.ensures.1 in
    let goes : ends_line (skip_separators c.loop.rest.now) ≡ false =
    ap ends_line (sym c.without_separators-rest.ensures) ∙ sym c.is_line_end.ensures ∙ c.if-is_line_end.false in
    let left : length c.args.text.now - c.loop.counter ≡ suc (length c.args.text.now - (c.loop.counter + 1)) = omega arith in
    rw (p.1, p.2)
    (fails_further c.in_err-pair.field-0.0 (item_at c.without_separators-rest.result.now) (items_of (length c.args.text.now) c.args.text.now)
    (λ fault was. sym c.loop.invariant ∙ ap (λ n. after c.loop.found.items (items_of n c.loop.rest.now)) left
    ∙ items_fault _ c.loop.rest.now c.loop.found.items fault goes (ap item_at (sym c.without_separators-rest.ensures) ∙ was))
    c.in_err-pair.ensures)

pub loop-preserved : goal.loop-preserved
loop-preserved c =
    let goes : ends_line (skip_separators c.loop.rest.now) ≡ false =
    ap ends_line (sym c.without_separators-rest.ensures) ∙ sym c.is_line_end.ensures ∙ c.if-is_line_end.false in
    let left : suc (length c.args.text.now - (c.loop.counter + 1)) ≡ length c.args.text.now - c.loop.counter = omega arith in
    ap (λ found. after found (items_of (length c.args.text.now - (c.loop.counter + 1)) c.in_ok-pair.after.now))
    c.in_ok-push.ensures.items
    ∙ items_more _ c.loop.rest.now c.in_ok-pair.after.now c.in_ok-pair.pair c.loop.found.items goes
    (ap item_at (sym c.without_separators-rest.ensures) ∙ c.in_ok-pair.ensures)
    ∙ ap (λ n. after c.loop.found.items (items_of n c.loop.rest.now)) left
    ∙ c.loop.invariant

pub returns : goal.returns
returns c =
    let over : length c.args.text.now - c.loop.counter ≡ 0 = omega arith in
    sym c.loop.invariant ∙ ap (λ n. after c.loop.found.items (items_of n c.loop.rest.now)) over
    ∙ ap (after c.loop.found.items) (items_none c.loop.rest.now) ∙ after-nil c.loop.found.items
