use Rattle.std.proofs.Common.{◌≡◌, ◌∙◌, true, false, length, sym, rules}
use Rattle.fd_derived.proofs.Whole.{accepted_iff, bounds_refused, rows_refused, size_refused}
use Rattle.fd_derived.proofs.checking.check.Goals as goal

pub returns-then-not-has_size-clause-first : goal.returns-then-not-has_size-clause-first
returns-then-not-has_size-clause-first c =
    let no : c.has_size.result ≡ false = search rules in
    size_refused c.args.equations.now c.args.claim.now (sym c.has_size.ensures ∙ no)

pub returns-then-is_some-clause-first : goal.returns-then-is_some-clause-first
returns-then-is_some-clause-first c =
    let ok : c.has_size.result ≡ true = search rules in
    rows_refused c.args.equations.now c.args.claim.now c.in_ok-refusal.refusal (sym c.has_size.ensures ∙ ok) c.in_ok-refusal.ensures
    (sym c.is_some.ensures ∙ c.if-is_some.true)

pub returns-then-is_some-clause-accepted : goal.returns-then-is_some-clause-accepted
returns-then-is_some-clause-accepted c =
    let ok : c.has_size.result ≡ true = search rules in
    accepted_iff c.args.equations.now c.args.claim.now c.in_ok-refusal.refusal
    (rows_refused c.args.equations.now c.args.claim.now c.in_ok-refusal.refusal (sym c.has_size.ensures ∙ ok) c.in_ok-refusal.ensures
    (sym c.is_some.ensures ∙ c.if-is_some.true))

pub returns-clause-first : goal.returns-clause-first
returns-clause-first c =
    let ok : c.has_size.result ≡ true = search rules in
    let long : length c.args.claim.now.bounds.items ≡ length c.args.equations.now = search rules in
    bounds_refused c.args.equations.now c.args.claim.now c.in_ok-refusal.refusal c.bounds_refusal.result (length c.args.claim.now.bounds.items)
    (sym c.has_size.ensures ∙ ok) c.in_ok-refusal.ensures (sym c.is_some.ensures ∙ c.if-is_some.false) long c.bounds_refusal.ensures

pub returns-clause-accepted : goal.returns-clause-accepted
returns-clause-accepted c =
    let ok : c.has_size.result ≡ true = search rules in
    let long : length c.args.claim.now.bounds.items ≡ length c.args.equations.now = search rules in
    accepted_iff c.args.equations.now c.args.claim.now c.bounds_refusal.result
    (bounds_refused c.args.equations.now c.args.claim.now c.in_ok-refusal.refusal c.bounds_refusal.result (length c.args.claim.now.bounds.items)
    (sym c.has_size.ensures ∙ ok) c.in_ok-refusal.ensures (sym c.is_some.ensures ∙ c.if-is_some.false) long c.bounds_refusal.ensures)
