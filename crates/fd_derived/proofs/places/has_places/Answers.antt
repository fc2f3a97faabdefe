use Rattle.std.proofs.Common.{◌≡◌, ◌∙◌, ◌<◌, ◌≤◌, false, length, arith, subst, inl, inr, rules}
use Rattle.std.proofs.lemmas.Bool.{cases_lt}
use Rattle.std.proofs.lemmas.List.{length-set}
use Rattle.fd_derived.specs.Refusals.{is_misplaced}
use Rattle.fd_derived.specs.Rows.{entries_of}
use Rattle.fd_derived.proofs.Fronts.{in_row}
use Rattle.fd_derived.proofs.Named.{low_more, marked_more, misplaced_found, named_twice, none_misplaced, past_the_end, well_placed}
use Rattle.fd_derived.proofs.places.has_places.Goals as goal
use Rattle.fd_derived.proofs.places.has_places.Goals.{then-entry-marks-via-then-entry-marks, then-entry-marks-via-else-entry-marks+then-marks-entry}

pub returns-then-entry-marks-clause-places : goal.returns-then-entry-marks-clause-places
returns-then-entry-marks-clause-places c =
    let k = c.loop-entry.entry-index in
    let row = c.args.row.now in
    let n = length c.args.marks.now in
    let k_in = c.loop-entry-test.true in
    let long = c.loop-entry.invariant.long in
    misplaced_found n row k k_in c.loop-entry.invariant.placed
    (elim c.then-entry-marks.branch [
      | then-entry-marks-via-then-entry-marks w ↦
          let out : n ≤ (in_row row k).place = omega (arith, w.if-entry-marks.true, long) in past_the_end n row k k_in out
      | then-entry-marks-via-else-entry-marks+then-marks-entry w ↦
          let p_in : (in_row row k).place < length c.loop-entry.marks = omega (arith, w.if-entry-marks.false) in
          named_twice n c.args.mark c.loop-entry.marks row k k_in (c.loop-entry.invariant.marked (in_row row k).place p_in) (search rules)
    ])

pub loop-entry-preserved : goal.loop-entry-preserved
loop-entry-preserved c =
    let k = c.loop-entry.entry-index in
    let row = c.args.row.now in
    let n = length c.args.marks.now in
    let marks = c.loop-entry.marks in
    let p = (in_row row k).place in
    let k_in = c.loop-entry-test.true in
    let long = c.loop-entry.invariant.long in
    let p_in : p < length marks = omega (arith, c.if-entry-marks.false) in
    let below : p < n = omega arith in
    let same = length-set marks p c.args.mark in
    let well = well_placed n c.args.mark marks row k k_in (c.loop-entry.invariant.marked p p_in) below (search (rules, c.if-marks-entry.false)) in
    record {
      long = same ∙ long;
      low = λ q l. low_more c.args.mark marks p p_in c.loop-entry.invariant.low q (subst (λ m. q < m) same l);
      marked = λ q l. marked_more c.args.mark marks row k k_in p_in c.loop-entry.invariant.marked q (subst (λ m. q < m) same l);
      placed = λ i l. elim (cases_lt i k) [
        | inl s ↦ c.loop-entry.invariant.placed i s
        | inr s ↦ let q : k ≡ i = omega arith in subst (λ j. is_misplaced n (entries_of row) j ≡ false) q well
      ];
    }

pub returns-clause-places : goal.returns-clause-places
returns-clause-places c =
    none_misplaced (length c.args.marks.now) c.args.row.now (λ i l. c.loop-entry.invariant.placed i (omega (arith, l, c.loop-entry-test.false)))
