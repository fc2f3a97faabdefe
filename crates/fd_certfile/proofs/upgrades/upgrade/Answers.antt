use Rattle.std.proofs.Common.{◌∷◌, ◌++◌, ℕ, List, [], Some, None, ap, refl, sym, subst, ◌∙◌}
use Rattle.fd_lines.specs.fd_outside.declared.bytes.Record.{Record}
use Rattle.fd_lines.specs.fd_outside.Emitted.{pieces_of}
use Rattle.fd_certfile.specs.Certificates.{behind_first}
use Rattle.fd_certfile.specs.Lines.{lines_of}
use Rattle.fd_certfile.specs.Upgrade.{IsOutside, IsRefusal}
use Rattle.fd_certfile.specs.Views.{view}
use Rattle.fd_certfile.proofs.Lines.{of_last}
use Rattle.fd_certfile.proofs.Outside.{refused_first, refused_line, refused_rest, version_named}
use Rattle.fd_certfile.proofs.Reading.{lines_cut}
use Rattle.fd_certfile.proofs.Upgrading.{lines_known, upgraded_is}
use Rattle.fd_certfile.proofs.Writing.{pieces_pushed}
use Rattle.fd_certfile.proofs.upgrades.upgrade.Goals as goal

pub returns-in_default-clause-refused : goal.returns-in_default-clause-refused
returns-in_default-clause-refused c =
    subst (IsRefusal (lines_of c.args.bytes.now)) (sym c.outside_grammar.ensures)
    (refl, refused_rest c.args.bytes.now (lines_of c.args.bytes.now) (of_last c.args.bytes.now c.in_default.ensures.none))

pub returns-in_default-version_named-clause-refused : goal.returns-in_default-version_named-clause-refused
returns-in_default-version_named-clause-refused c =
    let lines = lines_cut c.args.bytes.now c.in-Some.text.now c.in-Some.rest.now c.in-Some.ensures.before c.in-Some.ensures.whole
    ∙ ap (λ l. l ∷ lines_of c.in-Some.rest.now) (sym c.read_line.ensures) in
    subst (IsRefusal (lines_of c.args.bytes.now)) (sym c.outside_grammar-in_default-version_named.ensures) (
      refl,
      refused_first (lines_of c.args.bytes.now)
          (version_named (lines_of c.args.bytes.now) (view c.read_line.result) (lines_of c.in-Some.rest.now) None lines c.in_default-version_named.ensures),
    )

pub returns-in-Some-2-clause-refused : goal.returns-in-Some-2-clause-refused
returns-in-Some-2-clause-refused c =
    let lines = lines_cut c.args.bytes.now c.in-Some.text.now c.in-Some.rest.now c.in-Some.ensures.before c.in-Some.ensures.whole
    ∙ ap (λ l. l ∷ lines_of c.in-Some.rest.now) (sym c.read_line.ensures) in
    subst (IsRefusal (lines_of c.args.bytes.now)) (sym c.outside_grammar-in-Some-2.ensures) (
      refl,
      refused_line (lines_of c.args.bytes.now) c.in-Some-version_named.version (lines_of c.in-Some.rest.now) c.in-Some-2.line
          (version_named (lines_of c.args.bytes.now) (view c.read_line.result) (lines_of c.in-Some.rest.now) (Some c.in-Some-version_named.version)
          lines c.in-Some-version_named.ensures)
          (ap behind_first lines)
          (subst (IsOutside c.in-Some-version_named.version (lines_of c.in-Some.rest.now)) c.in-Some-2.is c.in_ok-line.ensures),
    )

pub push_lines-requires : goal.push_lines-requires
push_lines-requires c =
    lines_known c.in-Some-version_named.version c.in-Some.rest.now
    (subst (IsOutside c.in-Some-version_named.version (lines_of c.in-Some.rest.now)) c.in_default-2.is c.in_ok-line.ensures)

pub returns-clause-text : goal.returns-clause-text
returns-clause-text c =
    let lines = lines_cut c.args.bytes.now c.in-Some.text.now c.in-Some.rest.now c.in-Some.ensures.before c.in-Some.ensures.whole
    ∙ ap (λ l. l ∷ lines_of c.in-Some.rest.now) (sym c.read_line.ensures) in
    upgraded_is (lines_of c.args.bytes.now) c.in-Some-version_named.version c.in-Some.rest.now
    (version_named (lines_of c.args.bytes.now) (view c.read_line.result) (lines_of c.in-Some.rest.now) (Some c.in-Some-version_named.version)
    lines c.in-Some-version_named.ensures)
    (ap behind_first lines)
    (subst (IsOutside c.in-Some-version_named.version (lines_of c.in-Some.rest.now)) c.in_default-2.is c.in_ok-line.ensures)
    (pieces_of c.push.new.self.items) (pieces_of c.push_lines.new.records.items)
    (pieces_pushed c.new-records.result.items c.push.new.self.items c.in_ok-header_record.field-0 c.in_ok-push.ensures.items
    ∙ ap (λ (rs : List Record). pieces_of rs ++ c.in_ok-header_record.field-0.bytes ∷ []) c.new-records.ensures.items
    ∙ ap (λ (b : List ℕ). b ∷ []) c.in_ok-header_record.ensures)
    c.in_ok-push_lines.ensures
