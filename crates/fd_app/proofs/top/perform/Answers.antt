use Rattle.std.proofs.Common.{◌≡◌, ◌∙◌, ◌⊎◌, ℕ, true, None, Some, inl, inr, sym, ap, map, string_bytes, arith}
use Rattle.std.specs.Option.{option_map}
use Rattle.fd_checking.specs.fd_report.declared.faults.Fault.TheVariants as fault
use Rattle.fd_bench.proofs.CallerLemmas.fd_outside.{later_same}
use Rattle.fd_checking.specs.fd_outcome.Calls.{report}
use Rattle.fd_checking.specs.fd_outcome.Untold.{CutsShort}
use Rattle.fd_checking.proofs.CallerLemmas.fd_outcome.{fault_alone, fault_answers, fault_code, untold_last}
use Rattle.fd_bench.specs.Bench.{IsBenchHistory, lines_alone, script_written}
use Rattle.fd_bench.proofs.CallerLemmas.{alone_runs, printed_alone}
use Rattle.fd_words.specs.declared.words.Form.{Form as Words}
use Rattle.fd_words.specs.Words.{Cert, Check, Solve, form_in, form_of, Bench, Fault, Gen, Ladder, Upgrade}
use Rattle.fd_app.proofs.Runs.{form_short}
use Rattle.fd_app.proofs.top.perform.Goals as goal

never_read : (code : ℕ) → (code ≡ 2) ⊎ CutsShort code → code ≡ 4 → ⊥
never_read code is four = elim is [
  | inl two ↦ omega (arith, two, four)
  | inr cut ↦ elim cut [ inl memory ↦ omega (arith, memory, four) | inr write ↦ omega (arith, write, four) ]
]

pub returns-in_default-clause-run : goal.returns-in_default-clause-run
returns-in_default-clause-run g c files agrees =
    let form = form_of (map string_bytes c.args.words.now) in
    form_short g.L.Library.answers g.S.Sink.taken g.S.Sink.calls files form c.args.lib.now c.args.out.now

pub returns-in_default-clause-later : goal.returns-in_default-clause-later
returns-in_default-clause-later g c = later_same g.L.Library.answers g.L.Library.holds c.args.lib.now

pub returns-in-None-clause-run : goal.returns-in-None-clause-run
returns-in-None-clause-run g c files agrees =
    let form : form_of (map string_bytes c.args.words.now) ≡ None =
    sym c.in-Ok.ensures.form ∙ ap (option_map form_in) c.in-None.is in
    rw form (fault_alone g.L.Library.answers g.S.Sink.taken g.S.Sink.calls report true
    c.args.lib.now c.args.out.now c.print_fault.new.out fault.Usage c.print_fault.result c.print_fault.ensures.prints)

pub returns-in-None-clause-statuses : goal.returns-in-None-clause-statuses
returns-in-None-clause-statuses g c =
    inr (fault_answers g.S.Sink.taken g.S.Sink.calls c.args.out.now c.print_fault.new.out fault.Usage
    c.print_fault.result c.print_fault.ensures.prints)

pub returns-in-None-clause-usage : goal.returns-in-None-clause-usage
returns-in-None-clause-usage g c two = sym c.in-Ok.ensures.form ∙ ap (option_map form_in) c.in-None.is

pub returns-in-None-clause-last : goal.returns-in-None-clause-last
returns-in-None-clause-last g c four =
    absurd (never_read c.print_fault.result (fault_code g.S.Sink.taken g.S.Sink.calls c.args.out.now
    c.print_fault.new.out fault.Usage c.print_fault.result c.print_fault.ensures.prints)
    four)

pub returns-in-None-clause-later : goal.returns-in-None-clause-later
returns-in-None-clause-later g c = later_same g.L.Library.answers g.L.Library.holds c.args.lib.now

pub returns-in-Some-Solve-clause-run : goal.returns-in-Some-Solve-clause-run
returns-in-Some-Solve-clause-run g c files =
    let form : form_of (map string_bytes c.args.words.now) ≡ Some (Solve c.in-Some-Solve.file.now) =
    sym c.in-Ok.ensures.form ∙ ap (option_map form_in) c.in-Some-Solve.is
    ∙ ap (λ (w : Words). Some (form_in w)) (rw c.in-Some-Solve.is at c.in-Some-Solve.field-0-is) in
    rw form (c.solve.ensures.run files)

pub returns-in-Some-Solve-clause-usage : goal.returns-in-Some-Solve-clause-usage
returns-in-Some-Solve-clause-usage g c two = absurd (c.solve.ensures.untold.usage two)

pub returns-in-Some-Cert-clause-run : goal.returns-in-Some-Cert-clause-run
returns-in-Some-Cert-clause-run g c files =
    let form : form_of (map string_bytes c.args.words.now) ≡ Some (Cert c.in-Some-Cert.file.now) =
    sym c.in-Ok.ensures.form ∙ ap (option_map form_in) c.in-Some-Cert.is
    ∙ ap (λ (w : Words). Some (form_in w)) (rw c.in-Some-Cert.is at c.in-Some-Cert.field-0-is) in
    rw form (c.solve-in-Some-Cert.ensures.run files)

pub returns-in-Some-Cert-clause-usage : goal.returns-in-Some-Cert-clause-usage
returns-in-Some-Cert-clause-usage g c two = absurd (c.solve-in-Some-Cert.ensures.untold.usage two)

pub returns-in-Some-Check-clause-run : goal.returns-in-Some-Check-clause-run
returns-in-Some-Check-clause-run g c files =
    let form : form_of (map string_bytes c.args.words.now)
    ≡ Some (Check c.in-Some-Check.script.now c.in-Some-Check.certificate.now) =
    sym c.in-Ok.ensures.form ∙ ap (option_map form_in) c.in-Some-Check.is
    ∙ ap (λ (w : Words). Some (form_in w)) (rw c.in-Some-Check.is at c.in-Some-Check.field-0-is) in
    rw form (c.check.ensures.run files)

pub returns-in-Some-Check-clause-usage : goal.returns-in-Some-Check-clause-usage
returns-in-Some-Check-clause-usage g c two = absurd (c.check.ensures.untold.usage two)

pub write_script-requires : goal.write_script-requires
write_script-requires g c =
    let found = rw c.in-Some-Gen.is at c.in-Some-Gen.field-0-is in
    rw (c.in-Some-Gen.is, found) at c.in-Ok.ensures.some

pub returns-in-Some-Gen-clause-run : goal.returns-in-Some-Gen-clause-run
returns-in-Some-Gen-clause-run g c files agrees =
    let number = c.in-Some-Gen.number in
    let sections = c.in-Some-Gen.sections in
    let form : form_of (map string_bytes c.args.words.now) ≡ Some (Gen number sections) =
    sym c.in-Ok.ensures.form ∙ ap (option_map form_in) c.in-Some-Gen.is
    ∙ ap (λ (w : Words). Some (form_in w)) (rw c.in-Some-Gen.is at c.in-Some-Gen.field-0-is) in
    rw form
    (alone_runs g.L.Library.answers g.S.Sink.taken g.S.Sink.calls c.args.lib.now c.args.out.now
    c.write_script.new.out (λ h. h ≡ script_written number sections) report true c.write_script.result
    (printed_alone g.S.Sink.taken g.S.Sink.calls c.args.out.now c.write_script.new.out
    (script_written number sections) report true c.write_script.result
    c.write_script.ensures.prints))

pub returns-in-Some-Gen-clause-statuses : goal.returns-in-Some-Gen-clause-statuses
returns-in-Some-Gen-clause-statuses g c =
    (untold_last g.L.Library.answers g.L.Library.holds g.S.Sink.faults g.S.Sink.taken g.S.Sink.calls true
    c.args.lib.now c.args.out.now c.write_script.new.out _ c.write_script.result c.write_script.ensures.prints
    c.write_script.ensures.write).statuses

pub returns-in-Some-Gen-clause-usage : goal.returns-in-Some-Gen-clause-usage
returns-in-Some-Gen-clause-usage g c two =
    absurd ((untold_last g.L.Library.answers g.L.Library.holds g.S.Sink.faults g.S.Sink.taken g.S.Sink.calls true
    c.args.lib.now c.args.out.now c.write_script.new.out _ c.write_script.result c.write_script.ensures.prints
    c.write_script.ensures.write).usage two)

pub returns-in-Some-Gen-clause-last : goal.returns-in-Some-Gen-clause-last
returns-in-Some-Gen-clause-last g c =
    (untold_last g.L.Library.answers g.L.Library.holds g.S.Sink.faults g.S.Sink.taken g.S.Sink.calls true
    c.args.lib.now c.args.out.now c.write_script.new.out _ c.write_script.result c.write_script.ensures.prints
    c.write_script.ensures.write).last

pub returns-in-Some-Gen-clause-later : goal.returns-in-Some-Gen-clause-later
returns-in-Some-Gen-clause-later g c = later_same g.L.Library.answers g.L.Library.holds c.args.lib.now

pub bench-requires : goal.bench-requires
bench-requires g c =
    let found = rw c.in-Some-Bench.is at c.in-Some-Bench.field-0-is in
    rw (c.in-Some-Bench.is, found) at c.in-Ok.ensures.some

pub returns-in-Some-Bench-clause-run : goal.returns-in-Some-Bench-clause-run
returns-in-Some-Bench-clause-run g c files agrees =
    let number = c.in-Some-Bench.number in
    let sections = c.in-Some-Bench.sections in
    let form : form_of (map string_bytes c.args.words.now) ≡ Some (Bench number sections) =
    sym c.in-Ok.ensures.form ∙ ap (option_map form_in) c.in-Some-Bench.is
    ∙ ap (λ (w : Words). Some (form_in w)) (rw c.in-Some-Bench.is at c.in-Some-Bench.field-0-is) in
    rw form
    (alone_runs g.L.Library.answers g.S.Sink.taken g.S.Sink.calls c.args.lib.now c.args.out.now
    c.bench.new.out (λ h. IsBenchHistory number sections h) lines_alone true c.bench.result c.bench.ensures.run)

pub returns-in-Some-Bench-clause-usage : goal.returns-in-Some-Bench-clause-usage
returns-in-Some-Bench-clause-usage g c two = absurd (c.bench.ensures.usage two)

pub returns-in-Some-Bench-clause-last : goal.returns-in-Some-Bench-clause-last
returns-in-Some-Bench-clause-last g c four = absurd (c.bench.ensures.read four)

pub returns-in-Some-Bench-clause-later : goal.returns-in-Some-Bench-clause-later
returns-in-Some-Bench-clause-later g c = later_same g.L.Library.answers g.L.Library.holds c.args.lib.now

pub returns-in-Some-Upgrade-clause-run : goal.returns-in-Some-Upgrade-clause-run
returns-in-Some-Upgrade-clause-run g c files =
    let form : form_of (map string_bytes c.args.words.now) ≡ Some (Upgrade c.in-Some-Upgrade.certificate.now) =
    sym c.in-Ok.ensures.form ∙ ap (option_map form_in) c.in-Some-Upgrade.is
    ∙ ap (λ (w : Words). Some (form_in w)) (rw c.in-Some-Upgrade.is at c.in-Some-Upgrade.field-0-is) in
    rw form (c.upgrade.ensures.run files)

pub returns-in-Some-Upgrade-clause-usage : goal.returns-in-Some-Upgrade-clause-usage
returns-in-Some-Upgrade-clause-usage g c two = absurd (c.upgrade.ensures.untold.usage two)

pub returns-in-Some-Fault-clause-run : goal.returns-in-Some-Fault-clause-run
returns-in-Some-Fault-clause-run g c files =
    let form : form_of (map string_bytes c.args.words.now)
    ≡ Some (Fault c.in-Some-Fault.master.now c.in-Some-Fault.bus.now c.in-Some-Fault.kind) =
    sym c.in-Ok.ensures.form ∙ ap (option_map form_in) c.in-Some-Fault.is
    ∙ ap (λ (w : Words). Some (form_in w)) (rw c.in-Some-Fault.is at c.in-Some-Fault.field-0-is) in
    rw (form, sym c.kind_of.ensures) (c.fault.ensures.run files)

pub returns-in-Some-Fault-clause-usage : goal.returns-in-Some-Fault-clause-usage
returns-in-Some-Fault-clause-usage g c two = absurd (c.fault.ensures.untold.usage two)

pub returns-in-Some-Ladder-clause-run : goal.returns-in-Some-Ladder-clause-run
returns-in-Some-Ladder-clause-run g c files =
    let form : form_of (map string_bytes c.args.words.now) ≡ Some (Ladder c.in-Some-Ladder.master.now) =
    sym c.in-Ok.ensures.form ∙ ap (option_map form_in) c.in-Some-Ladder.is
    ∙ ap (λ (w : Words). Some (form_in w)) (rw c.in-Some-Ladder.is at c.in-Some-Ladder.field-0-is) in
    rw form (c.ladder.ensures.run files)

pub returns-in-Some-Ladder-clause-usage : goal.returns-in-Some-Ladder-clause-usage
returns-in-Some-Ladder-clause-usage g c two = absurd (c.ladder.ensures.untold.usage two)
