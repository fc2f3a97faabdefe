use Rattle.std.proofs.Common.{◌≡◌, ◌∙◌, ◌++◌, ap, length, refl, slice_get, subst, sym}
use Rattle.std.specs.Prelude.{OnOk}
use Rattle.std.specs.Map.Iter.{deref_pair}
use Rattle.std.specs.Option.{option_map}
use Rattle.std.proofs.lemmas.Option.{slice_get_past, slice_get_read}
use Rattle.fd_outcome.specs.fd_outside.Emitted.{pieces_of}
use Rattle.fd_outcome.specs.fd_report.Lines.{lines_of}
use Rattle.fd_outcome.specs.fd_sample.Probes.{positions_in}
use Rattle.fd_pages.specs.Places.{tap_rows_of}
use Rattle.fd_pages.proofs.Recorded.{control_at, is_found, no_control, no_rows}
use Rattle.fd_pages.proofs.records.add_tap.Goals as goal

pub unwrap-requires : goal.unwrap-requires
unwrap-requires c =
    let look = c.in-Some.ensures.lookup in
    let at = slice_get_read c.args.controls.now
    (length c.args.controls.now) c.args.number c.in-Some.place.now refl look.3.0 look.1 in
    let entries = c.as_slice-entries.ensures.entries ∙ c.elements.ensures.entries in
    is_found c.args.circuit.now.elements c.args.controls.now c.args.number c.in-Some.place.now deref_pair _
    c.requires.controls at (c.get_index.ensures.entry ∙ ap (λ es. slice_get es c.in-Some.place.now) entries)

pub returns-in-None-clause-rows : goal.returns-in-None-clause-rows
returns-in-None-clause-rows c =
    let look = c.in-None.ensures.lookup in
    let none = no_control c.args.circuit.now.elements c.args.controls.now c.args.number c.requires.controls
    (slice_get_past c.args.controls.now c.args.number look.3) in
    no_rows (pieces_of c.args.into.now.items) _
    (ap (λ o. tap_rows_of (positions_in c.args.at.now) o c.args.probe.now) none)

pub returns-in-Some-clause-rows : goal.returns-in-Some-clause-rows
returns-in-Some-clause-rows c =
    let look = c.in-Some.ensures.lookup in
    let at = slice_get_read c.args.controls.now
    (length c.args.controls.now) c.args.number c.in-Some.place.now refl look.3.0 look.1 in
    let entries = c.as_slice-entries.ensures.entries ∙ c.elements.ensures.entries in
    let here =
    ap (λ es. slice_get es c.in-Some.place.now) (sym entries) ∙ sym c.get_index.ensures.entry
    ∙ ap (option_map deref_pair) c.unwrap.ensures in
    let control =
    control_at c.args.circuit.now.elements c.args.controls.now c.args.number c.in-Some.place.now
    c.requires.controls at ∙ here in
    subst (λ o.
    OnOk c.push_tap.result (pieces_of c.push_tap.new.into.items
    ≡ pieces_of c.args.into.now.items ++ lines_of (tap_rows_of (positions_in c.args.at.now) o c.args.probe.now)))
    (sym control) c.push_tap.ensures.rows
