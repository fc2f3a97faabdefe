use Rattle.std.proofs.Common.{◌≡◌, ◌∙◌, ◌<◌, length, replicate, ap, sym, subst, rules}
use Rattle.std.proofs.lemmas.List.{get_or_read}
use Rattle.fd_enclosure.specs.fd_exact.States.{entry}
use Rattle.fd_enclosure.specs.fd_equations.Rounded.{jacobian_entry}
use Rattle.fd_enclosure.specs.fd_equations.Weights.{weight_at}
use Rattle.fd_enclosure.specs.Boxes.{boxes_of}
use Rattle.fd_enclosure.specs.Radii.{slope_radius}
use Rattle.fd_enclosure.specs.Sound.{mismatch_at, mismatches_of, number_at}
use Rattle.fd_cert.specs.Claims.{claim_in}
use Rattle.fd_cert.specs.Verdicts.{IsWidths}
use Rattle.fd_cert.proofs.Certificates.{claim_is, is_certified, is_loose, is_uncertain, numbers_at, numbers_in, tried_is, zeros_are}
use Rattle.fd_cert.proofs.certificate.certify.Goals as goal

pub returns-in-Some-clause-fault : goal.returns-in-Some-clause-fault
returns-in-Some-clause-fault c =
    let v = c.args.net.now in
    let x = c.args.point.x.items in
    let row = c.in-Some.row in
    let ms = c.deref-2.result.now in
    let items = c.in_ok-mismatch.mismatch.items in
    let is = c.deref-2.ensures.value ∙ c.in_ok-mismatch.ensures.mismatches ∙ ap (mismatches_of v) c.deref.ensures.value in
    let inside : row < length ms = c.in-Some.ensures.inside in
    let within : row < length items = subst (λ xs. row < length xs) c.deref-2.ensures.value inside in
    let size = ap length c.deref-2.ensures.value ∙ c.in_ok-mismatch.ensures.long in
    let read = get_or_read items row c.index.result.now within c.index.ensures 0 in
    is_loose v x c.args.point.inverse ms is row c.index.result.now c.in-Some.ensures.first
    (subst (λ n. row < n) size inside) (read ∙ ap (λ xs. number_at xs row) (sym c.deref-2.ensures.value))

pub returns-in-Within-clause-certified : goal.returns-in-Within-clause-certified
returns-in-Within-clause-certified c =
    let v = c.args.net.now in
    let x = c.args.point.x.items in
    let inverse = c.args.point.inverse in
    let ms = c.deref-2.result.now in
    let items = c.in_ok-mismatch.mismatch.items in
    let of_items = c.in_ok-mismatch.ensures.mismatches ∙ ap (mismatches_of v) c.deref.ensures.value in
    let is = c.deref-2.ensures.value ∙ of_items in
    let judged = c.deref-4.ensures.value ∙ of_items in
    let at =
    subst (IsWidths v.size (entry inverse) (jacobian_entry v x) (slope_radius v x) (weight_at v x) (mismatch_at v x))
    c.in-Within.is (subst (λ y. IsWidths v.size (entry inverse) (jacobian_entry v y) (slope_radius v y)
    (weight_at v y) (mismatch_at v x) c.in_ok-judged.judged.widths) c.deref-3.ensures.value
    (c.in_ok-judged.ensures.widths (mismatch_at v x) (numbers_at v x inverse c.deref-4.result.now judged))) in
    let in_list = subst (IsWidths v.size (entry inverse) (jacobian_entry v x) (slope_radius v x) (weight_at v x)
    (number_at (mismatches_of v x))) c.in-Within.is (subst (λ y. IsWidths v.size (entry inverse) (jacobian_entry v y)
    (slope_radius v y) (weight_at v y) (number_at (mismatches_of v x)) c.in_ok-judged.judged.widths)
    c.deref-3.ensures.value (c.in_ok-judged.ensures.widths (number_at (mismatches_of v x))
    (numbers_in v x inverse c.deref-4.result.now judged))) in
    let boxes = c.in_ok-judged.ensures.boxes ∙ ap (boxes_of v) c.deref-3.ensures.value in
    is_certified v x inverse ms is c.in_default.ensures.first (claim_in c.certified.result) at.refusal
    (claim_is v x inverse (claim_in c.certified.result) c.in-Within.radius.items items
    c.in_ok-judged.judged.boxes.items c.certified.ensures of_items boxes in_list.radii)

pub returns-in_ok-radius-in-Refused-clause-fault : goal.returns-in_ok-radius-in-Refused-clause-fault
returns-in_ok-radius-in-Refused-clause-fault c =
    let v = c.args.net.now in
    let x = c.args.point.x.items in
    let inverse = c.args.point.inverse in
    let ms = c.deref-2.result.now in
    let items = c.in_ok-mismatch.mismatch.items in
    let of_items = c.in_ok-mismatch.ensures.mismatches ∙ ap (mismatches_of v) c.deref.ensures.value in
    let is = c.deref-2.ensures.value ∙ of_items in
    let judged = c.deref-4.ensures.value ∙ of_items in
    let at =
    subst (IsWidths v.size (entry inverse) (jacobian_entry v x) (slope_radius v x) (weight_at v x) (mismatch_at v x))
    c.in-Refused.is (subst (λ y. IsWidths v.size (entry inverse) (jacobian_entry v y) (slope_radius v y)
    (weight_at v y) (mismatch_at v x) c.in_ok-judged.judged.widths) c.deref-3.ensures.value
    (c.in_ok-judged.ensures.widths (mismatch_at v x) (numbers_at v x inverse c.deref-4.result.now judged))) in
    let boxes = c.in_ok-judged.ensures.boxes ∙ ap (boxes_of v) c.deref-3.ensures.value in
    let zeros : c.in_ok-radius-in-Refused.radius.items ≡ replicate c.len.result 0 = search rules in
    let long : c.len.result ≡ v.size = search (rules, c.in_ok-mismatch.ensures.long) in
    record {
      refusal = is_uncertain v x inverse ms is c.in_default.ensures.first c.in-Refused.place c.in-Refused.sum at.refusal;
      tried = tried_is v x inverse (claim_in c.certified-in-Refused.result) c.in_ok-radius-in-Refused.radius.items
          items c.in_ok-judged.judged.boxes.items c.certified-in-Refused.ensures of_items boxes
          (zeros_are v.size c.len.result c.in_ok-radius-in-Refused.radius.items zeros long);
    }

pub returns-in_ok-radius-in-Refused-clause-within : goal.returns-in_ok-radius-in-Refused-clause-within
returns-in_ok-radius-in-Refused-clause-within c =
    let v = c.args.net.now in
    let x = c.args.point.x.items in
    let inverse = c.args.point.inverse in
    let judged = c.deref-4.ensures.value ∙ c.in_ok-mismatch.ensures.mismatches ∙ ap (mismatches_of v) c.deref.ensures.value in
    let at = subst (IsWidths v.size (entry inverse) (jacobian_entry v c.deref-3.result.now)
    (slope_radius v c.deref-3.result.now) (weight_at v c.deref-3.result.now) (mismatch_at v x)) c.in-Refused.is
    (c.in_ok-judged.ensures.widths (mismatch_at v x) (numbers_at v x inverse c.deref-4.result.now judged)) in
    at.inside
