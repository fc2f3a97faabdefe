use Rattle.std.proofs.Common.{◌≡◌, ◌∙◌, ap, sym, subst, List, ℤ}
use Rattle.fd_enclosure.specs.fd_exact.States.{entry}
use Rattle.fd_enclosure.specs.fd_equations.Rounded.{jacobian_entry}
use Rattle.fd_enclosure.specs.fd_equations.Weights.{weight_at}
use Rattle.fd_enclosure.specs.Boxes.{boxes_of}
use Rattle.fd_enclosure.specs.Radii.{slope_radius}
use Rattle.fd_enclosure.specs.Sound.{by_inverse, inverse_in, number_at}
use Rattle.fd_cert.specs.Claims.{claim_in}
use Rattle.fd_cert.specs.Verdicts.{IsWidths}
use Rattle.fd_cert.specs.declared.certificate.Widths.{Widths}
use Rattle.fd_cert.proofs.Wider.{is_made, is_wide, made_sound, numbers_same, tight_from}
use Rattle.fd_cert.proofs.widening.widen.Goals as goal

pub judge-requires-clause-tight : goal.judge-requires-clause-tight
judge-requires-clause-tight c =
    tight_from c.args.net.now.size c.args.mismatch.items c.deref-2.result.now c.deref-2.ensures.value c.requires.mismatches.long
    c.requires.mismatches.most

pub returns-in-Refused-clause-widened : goal.returns-in-Refused-clause-widened
returns-in-Refused-clause-widened c =
    let v = c.args.net.now in
    let m = claim_in c.args.certified.now in
    let e = c.args.mismatch.items in
    let At = λ (i : List (List ℤ)) (y : List ℤ) (w : Widths).
    IsWidths v.size (entry i) (jacobian_entry v y) (slope_radius v y) (weight_at v y) (number_at e) w in
    let read = subst (λ (i : List (List ℤ)). At i m.centre c.in_ok-judged.judged.widths) c.inverse-inverse.ensures
    (subst (λ (y : List ℤ). At c.inverse-inverse.result.now y c.in_ok-judged.judged.widths) c.deref.ensures.value
    (c.in_ok-judged.ensures.widths (number_at e) (numbers_same v.size e c.deref-2.result.now c.deref-2.ensures.value))) in
    is_wide v m e c.in-Refused.place c.in-Refused.sum (subst (At (inverse_in m.support) m.centre) c.in-Refused.is read)

pub returns-in-Refused-clause-sound : goal.returns-in-Refused-clause-sound
returns-in-Refused-clause-sound c =
    let v = c.args.net.now in
    let m = claim_in c.args.certified.now in
    let e = c.args.mismatch.items in
    let At = λ (i : List (List ℤ)) (y : List ℤ) (w : Widths).
    IsWidths v.size (entry i) (jacobian_entry v y) (slope_radius v y) (weight_at v y) (number_at e) w in
    let read = subst (λ (i : List (List ℤ)). At i m.centre c.in_ok-judged.judged.widths) c.inverse-inverse.ensures
    (subst (λ (y : List ℤ). At c.inverse-inverse.result.now y c.in_ok-judged.judged.widths) c.deref.ensures.value
    (c.in_ok-judged.ensures.widths (number_at e) (numbers_same v.size e c.deref-2.result.now c.deref-2.ensures.value))) in
    (subst (At (inverse_in m.support) m.centre) c.in-Refused.is read).inside

pub returns-in_ok-copy_of-in-Within-clause-widened : goal.returns-in_ok-copy_of-in-Within-clause-widened
returns-in_ok-copy_of-in-Within-clause-widened c =
    let v = c.args.net.now in
    let m = claim_in c.args.certified.now in
    let e = c.args.mismatch.items in
    let At = λ (i : List (List ℤ)) (y : List ℤ) (w : Widths).
    IsWidths v.size (entry i) (jacobian_entry v y) (slope_radius v y) (weight_at v y) (number_at e) w in
    let read = subst (λ (i : List (List ℤ)). At i m.centre c.in_ok-judged.judged.widths) c.inverse-inverse.ensures
    (subst (λ (y : List ℤ). At c.inverse-inverse.result.now y c.in_ok-judged.judged.widths) c.deref.ensures.value
    (c.in_ok-judged.ensures.widths (number_at e) (numbers_same v.size e c.deref-2.result.now c.deref-2.ensures.value))) in
    is_made v m e _ c.in-Within.radius.items c.in_ok-judged.judged.boxes.items (subst (At (inverse_in m.support) m.centre) c.in-Within.is read)
    (λ i. record {
      centre = c.in_ok-numbers_of-in-Within.ensures i;
      radii = c.in-Within.radius.items;
      mismatches = e;
      boxes = c.in_ok-judged.judged.boxes.items;
      support = by_inverse ((c.in_ok-copy_of-in-Within.ensures ∙ c.inverse-inverse.ensures) i);
    })
    (c.in_ok-judged.ensures.boxes ∙ ap (boxes_of v) c.deref.ensures.value)

pub returns-in_ok-copy_of-in-Within-clause-sound : goal.returns-in_ok-copy_of-in-Within-clause-sound
returns-in_ok-copy_of-in-Within-clause-sound c =
    let v = c.args.net.now in
    let m = claim_in c.args.certified.now in
    let e = c.args.mismatch.items in
    let At = λ (i : List (List ℤ)) (y : List ℤ) (w : Widths).
    IsWidths v.size (entry i) (jacobian_entry v y) (slope_radius v y) (weight_at v y) (number_at e) w in
    let read = subst (λ (i : List (List ℤ)). At i m.centre c.in_ok-judged.judged.widths) c.inverse-inverse.ensures
    (subst (λ (y : List ℤ). At c.inverse-inverse.result.now y c.in_ok-judged.judged.widths) c.deref.ensures.value
    (c.in_ok-judged.ensures.widths (number_at e) (numbers_same v.size e c.deref-2.result.now c.deref-2.ensures.value))) in
    made_sound v m e _ c.requires.point c.requires.mismatches
    (is_made v m e _ c.in-Within.radius.items c.in_ok-judged.judged.boxes.items (subst (At (inverse_in m.support) m.centre) c.in-Within.is read)
    (λ i. record {
      centre = c.in_ok-numbers_of-in-Within.ensures i;
      radii = c.in-Within.radius.items;
      mismatches = e;
      boxes = c.in_ok-judged.judged.boxes.items;
      support = by_inverse ((c.in_ok-copy_of-in-Within.ensures ∙ c.inverse-inverse.ensures) i);
    })
    (c.in_ok-judged.ensures.boxes ∙ ap (boxes_of v) c.deref.ensures.value))
