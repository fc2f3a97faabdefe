use Rattle.std.proofs.Common.{◌≡◌, ◌∙◌, Some, None, length, ap, sym, subst, refl}
use Rattle.fd_cert.specs.fd_enclosure.Boxes.{part_boxes}
use Rattle.fd_rowcert.specs.Rechecks.{first_of_ranges, mismatch, numbers}
use Rattle.fd_rowcert.proofs.Numbered.{in_range, is_point, tight}
use Rattle.fd_rowcert.proofs.Tests.{sound_later, told_later, untrue_same}
use Rattle.fd_rowcert.proofs.rechecking.tested.Goals as goal

pub returns-in-Some-clause-told : goal.returns-in-Some-clause-told
returns-in-Some-clause-told c =
    let v = c.args.net.now in
    numbers c.in-Some.broken (subst (λ n. first_of_ranges n c.args.centre.now c.args.radius.now c.args.mismatch.now
    c.args.rows.now ≡ Some c.in-Some.broken)
    c.size.ensures.size (sym c.first_of_ranges.ensures ∙ c.in-Some.is)) refl

pub mismatches-requires : goal.mismatches-requires
mismatches-requires c =
    let v = c.args.net.now in
    let x = c.args.centre.now in
    let r = c.args.radius.now in
    let e = c.args.mismatch.now in
    let d = c.args.rows.now in
    let range = subst (λ n. first_of_ranges n x r e d ≡ None) c.size.ensures.size (sym c.first_of_ranges.ensures
    ∙ c.in_default.is) in
    is_point v x r e d range

pub first_untrue-requires-clause-long : goal.first_untrue-requires-clause-long
first_untrue-requires-clause-long c =
    let v = c.args.net.now in
    let x = c.args.centre.now in
    let r = c.args.radius.now in
    let e = c.args.mismatch.now in
    let d = c.args.rows.now in
    let range = subst (λ n. first_of_ranges n x r e d ≡ None) c.size.ensures.size (sym c.first_of_ranges.ensures
    ∙ c.in_default.is) in
    let i = in_range v.size x r e d range in
    i.sizes.mismatches ∙ sym (ap length c.deref.ensures.value ∙ c.in_ok-own.ensures.long)

pub returns-in-Some-first_untrue-clause-told : goal.returns-in-Some-first_untrue-clause-told
returns-in-Some-first_untrue-clause-told c =
    let v = c.args.net.now in
    let x = c.args.centre.now in
    let r = c.args.radius.now in
    let e = c.args.mismatch.now in
    let d = c.args.rows.now in
    let range = subst (λ n. first_of_ranges n x r e d ≡ None) c.size.ensures.size (sym c.first_of_ranges.ensures
    ∙ c.in_default.is) in
    let own = untrue_same v x e c.deref.result.now (c.deref.ensures.value ∙ c.in_ok-own.ensures.mismatches) in
    mismatch c.in-Some-first_untrue.row range (sym own ∙ sym c.first_untrue.ensures ∙ c.in-Some-first_untrue.is) refl

pub tested_at_state-requires-clause-point : goal.tested_at_state-requires-clause-point
tested_at_state-requires-clause-point c =
    let v = c.args.net.now in
    let x = c.args.centre.now in
    let r = c.args.radius.now in
    let e = c.args.mismatch.now in
    let d = c.args.rows.now in
    let range = subst (λ n. first_of_ranges n x r e d ≡ None) c.size.ensures.size (sym c.first_of_ranges.ensures
    ∙ c.in_default.is) in
    is_point v x r e d range

pub tested_at_state-requires-clause-parts : goal.tested_at_state-requires-clause-parts
tested_at_state-requires-clause-parts c =
    let v = c.args.net.now in
    let x = c.args.centre.now in
    let r = c.args.radius.now in
    let e = c.args.mismatch.now in
    let d = c.args.rows.now in
    let range = subst (λ n. first_of_ranges n x r e d ≡ None) c.size.ensures.size (sym c.first_of_ranges.ensures
    ∙ c.in_default.is) in
    let i = in_range v.size x r e d range in i.box

pub tested_at_state-requires-clause-long : goal.tested_at_state-requires-clause-long
tested_at_state-requires-clause-long c =
    let v = c.args.net.now in
    let x = c.args.centre.now in
    let r = c.args.radius.now in
    let e = c.args.mismatch.now in
    let d = c.args.rows.now in
    let range = subst (λ n. first_of_ranges n x r e d ≡ None) c.size.ensures.size (sym c.first_of_ranges.ensures
    ∙ c.in_default.is) in
    let i = in_range v.size x r e d range in i.sizes.mismatches

pub tested_at_state-requires-clause-radii : goal.tested_at_state-requires-clause-radii
tested_at_state-requires-clause-radii c =
    let v = c.args.net.now in
    let x = c.args.centre.now in
    let r = c.args.radius.now in
    let e = c.args.mismatch.now in
    let d = c.args.rows.now in
    let range = subst (λ n. first_of_ranges n x r e d ≡ None) c.size.ensures.size (sym c.first_of_ranges.ensures
    ∙ c.in_default.is) in
    let i = in_range v.size x r e d range in i.sizes.radii

pub tested_at_state-requires-clause-bounds : goal.tested_at_state-requires-clause-bounds
tested_at_state-requires-clause-bounds c =
    let v = c.args.net.now in
    let x = c.args.centre.now in
    let r = c.args.radius.now in
    let e = c.args.mismatch.now in
    let d = c.args.rows.now in
    let range = subst (λ n. first_of_ranges n x r e d ≡ None) c.size.ensures.size (sym c.first_of_ranges.ensures
    ∙ c.in_default.is) in
    let i = in_range v.size x r e d range in i.sizes.bounds

pub tested_at_state-requires-clause-small : goal.tested_at_state-requires-clause-small
tested_at_state-requires-clause-small c =
    let v = c.args.net.now in
    let x = c.args.centre.now in
    let r = c.args.radius.now in
    let e = c.args.mismatch.now in
    let d = c.args.rows.now in
    let range = subst (λ n. first_of_ranges n x r e d ≡ None) c.size.ensures.size (sym c.first_of_ranges.ensures
    ∙ c.in_default.is) in
    let i = in_range v.size x r e d range in i.radii

pub tested_at_state-requires-clause-tight : goal.tested_at_state-requires-clause-tight
tested_at_state-requires-clause-tight c =
    let v = c.args.net.now in
    let x = c.args.centre.now in
    let r = c.args.radius.now in
    let e = c.args.mismatch.now in
    let d = c.args.rows.now in
    let range = subst (λ n. first_of_ranges n x r e d ≡ None) c.size.ensures.size (sym c.first_of_ranges.ensures
    ∙ c.in_default.is) in
    let own = untrue_same v x e c.deref.result.now (c.deref.ensures.value ∙ c.in_ok-own.ensures.mismatches) in
    let none = sym own ∙ sym c.first_untrue.ensures ∙ c.in_default-first_untrue.is in
    tight v x r e d range none

pub returns-clause-told : goal.returns-clause-told
returns-clause-told c =
    let v = c.args.net.now in
    let x = c.args.centre.now in
    let r = c.args.radius.now in
    let e = c.args.mismatch.now in
    let d = c.args.rows.now in
    let range = subst (λ n. first_of_ranges n x r e d ≡ None) c.size.ensures.size (sym c.first_of_ranges.ensures
    ∙ c.in_default.is) in
    let own = untrue_same v x e c.deref.result.now (c.deref.ensures.value ∙ c.in_ok-own.ensures.mismatches) in
    let none = sym own ∙ sym c.first_untrue.ensures ∙ c.in_default-first_untrue.is in
    told_later v x r e d range none (λ boxes. boxes.items ≡ part_boxes d.parts v x) c.tested_at_state.result
    c.tested_at_state.ensures.told

pub returns-clause-sound : goal.returns-clause-sound
returns-clause-sound c =
    let v = c.args.net.now in
    let x = c.args.centre.now in
    let r = c.args.radius.now in
    let e = c.args.mismatch.now in
    let d = c.args.rows.now in
    let range = subst (λ n. first_of_ranges n x r e d ≡ None) c.size.ensures.size (sym c.first_of_ranges.ensures
    ∙ c.in_default.is) in
    let own = untrue_same v x e c.deref.result.now (c.deref.ensures.value ∙ c.in_ok-own.ensures.mismatches) in
    let none = sym own ∙ sym c.first_untrue.ensures ∙ c.in_default-first_untrue.is in
    sound_later v x r e d range none c.tested_at_state.result c.tested_at_state.ensures.shown
