use Rattle.std.proofs.Common.{◌∷◌, length, sym, ◌∙◌, ap, arith, length-append}
use Rattle.std.specs.Prelude.{map}
use Rattle.fd_certfile.specs.Lines.{lines_of}
use Rattle.fd_certfile.specs.Reader.{given_block}
use Rattle.fd_certfile.specs.Views.{view}
use Rattle.fd_certfile.proofs.BlockReading.{length-lines_of}
use Rattle.fd_certfile.proofs.Endings.{opened_some, opened_none, opened_rest}
use Rattle.fd_certfile.proofs.Lines.{of_last}
use Rattle.fd_certfile.proofs.Reading.{lines_cut}
use Rattle.fd_certfile.proofs.reader.CertReader.open.Goals as goal

pub invariant_of-result : goal.invariant_of-result
invariant_of-result c = (
  omega (
    arith,
    length-lines_of c.in-Some.rest.now,
    ap length c.in-Some.ensures.whole,
    length-append c.in-Some.text.now (10 ∷ c.in-Some.rest.now),
  ),
  omega arith,
)

pub returns-in-Some-version_named : goal.returns-in-Some-version_named
returns-in-Some-version_named c =
    opened_some (lines_of c.args.bytes.now) (view c.read_line.result) (lines_of c.in-Some.rest.now)
    (map given_block c.new.result.items) c.in-Some-version_named.version
    (lines_cut c.args.bytes.now c.in-Some.text.now c.in-Some.rest.now c.in-Some.ensures.before c.in-Some.ensures.whole
    ∙ ap (λ l. l ∷ lines_of c.in-Some.rest.now) (sym c.read_line.ensures))
    c.in-Some-version_named.ensures (ap (map given_block) c.new.ensures.items)

pub returns-in_default : goal.returns-in_default
returns-in_default c =
    opened_none (lines_of c.args.bytes.now) (view c.read_line.result) (lines_of c.in-Some.rest.now)
    (lines_cut c.args.bytes.now c.in-Some.text.now c.in-Some.rest.now c.in-Some.ensures.before c.in-Some.ensures.whole
    ∙ ap (λ l. l ∷ lines_of c.in-Some.rest.now) (sym c.read_line.ensures))
    c.in_default.ensures

pub returns-in-None : goal.returns-in-None
returns-in-None c = opened_rest (lines_of c.args.bytes.now) c.args.bytes.now (of_last c.args.bytes.now c.in-None.ensures.none)
