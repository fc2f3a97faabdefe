use Rattle.std.proofs.Common.{◌∙◌, Some, None, sym}
use Rattle.fd_rowcert.proofs.Firsts.{far, large, last, unboxed, unsized}
use Rattle.fd_rowcert.proofs.rechecking.first_of_ranges.Goals as goal

pub returns-then-not-has_size : goal.returns-then-not-has_size
returns-then-not-has_size c =
    unsized c.args.size c.args.centre.now c.args.radius.now c.args.mismatch.now c.args.rows.now
    (sym c.has_size.ensures ∙ c.if-not-has_size.true)

pub returns-then-not-is_box : goal.returns-then-not-is_box
returns-then-not-is_box c =
    unboxed c.args.size c.args.centre.now c.args.radius.now c.args.mismatch.now c.args.rows.now
    (sym c.has_size.ensures ∙ c.if-not-has_size.false)
    (sym c.is_box.ensures ∙ c.if-not-is_box.true)

pub returns-in-Some : goal.returns-in-Some
returns-in-Some c =
    far c.args.size c.args.centre.now c.args.radius.now c.args.mismatch.now c.args.rows.now (sym c.has_size.ensures
    ∙ c.if-not-has_size.false)
    (sym c.is_box.ensures ∙ c.if-not-is_box.false) c.first_far.result c.first_far.ensures c.in-Some.unknown c.in-Some.is

pub returns-in-Some-first_large : goal.returns-in-Some-first_large
returns-in-Some-first_large c =
    large c.args.size c.args.centre.now c.args.radius.now c.args.mismatch.now c.args.rows.now
    (sym c.has_size.ensures ∙ c.if-not-has_size.false)
    (sym c.is_box.ensures ∙ c.if-not-is_box.false) c.first_far.result c.first_far.ensures c.in_default.is
    c.in-Some-first_large.row
    (sym c.first_large.ensures ∙ c.in-Some-first_large.is)

pub returns-in-Some-first_high : goal.returns-in-Some-first_high
returns-in-Some-first_high c =
    last c.args.size c.args.centre.now c.args.radius.now c.args.mismatch.now c.args.rows.now (sym c.has_size.ensures
    ∙ c.if-not-has_size.false)
    (sym c.is_box.ensures ∙ c.if-not-is_box.false) c.first_far.result c.first_far.ensures c.in_default.is
    (sym c.first_large.ensures ∙ c.in_default-first_large.is) c.deref.result.now c.deref.ensures.value
    c.first_high.result c.first_high.ensures
    (Some c.in-Some-first_high.unknown) c.in-Some-first_high.is

pub returns : goal.returns
returns c =
    last c.args.size c.args.centre.now c.args.radius.now c.args.mismatch.now c.args.rows.now (sym c.has_size.ensures
    ∙ c.if-not-has_size.false)
    (sym c.is_box.ensures ∙ c.if-not-is_box.false) c.first_far.result c.first_far.ensures c.in_default.is
    (sym c.first_large.ensures ∙ c.in_default-first_large.is) c.deref.result.now c.deref.ensures.value
    c.first_high.result c.first_high.ensures
    None c.in_default-first_high.is
