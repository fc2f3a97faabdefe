use Rattle.std.proofs.Common.{◌∷◌, [], sym, ◌∙◌, ap, refl}
use Rattle.std.specs.Prelude.{map}
use Rattle.fd_certfile.specs.Lines.{lines_of}
use Rattle.fd_certfile.specs.Blocks.{part_at}
use Rattle.fd_certfile.specs.Readings.{as_they_are}
use Rattle.fd_certfile.specs.Views.{view, part}
use Rattle.fd_certfile.proofs.Lines.{of_last}
use Rattle.fd_certfile.proofs.Reading.{kept_start, kept_more, kept_all, line_refused, end_refused, lines_cut}
use Rattle.fd_certfile.proofs.block.parts.Goals as goal

pub loop-place-init : goal.loop-place-init
loop-place-init c = kept_start part_at as_they_are c.args.keep c.args.count (lines_of c.args.bytes.now)
    (map part c.new-found.result.items) (ap (map part) c.new-found.ensures.items) refl

pub loop-place-preserved : goal.loop-place-preserved
loop-place-preserved c =
    kept_more part_at as_they_are c.args.keep c.args.count (lines_of c.args.bytes.now) c.loop-place.place
    (map part c.loop-place.found.items) (lines_of c.loop-place.rest.now) c.loop-place.invariant c.loop-place-test.true
    (view c.read_line.result) (lines_of c.in-Some.more.now) (part c.in-Some-part_of.part)
    (part c.in-Some-part_of.part ∷ []) (map part c.push_kept.new.found.items)
    (lines_cut c.loop-place.rest.now c.in-Some.text.now c.in-Some.more.now c.in-Some.ensures.before
    c.in-Some.ensures.whole
    ∙ ap (λ l. l ∷ lines_of c.in-Some.more.now) (sym c.read_line.ensures))
    c.in-Some-part_of.ensures refl c.in_ok-push_kept-in-Some-part_of.ensures

pub returns-in-None-part_of : goal.returns-in-None-part_of
returns-in-None-part_of c =
    line_refused part_at as_they_are c.args.keep c.args.count (lines_of c.args.bytes.now) c.loop-place.place
    (map part c.loop-place.found.items) (lines_of c.loop-place.rest.now) c.loop-place.invariant c.loop-place-test.true
    (view c.read_line.result) (lines_of c.in-Some.more.now)
    (lines_cut c.loop-place.rest.now c.in-Some.text.now c.in-Some.more.now c.in-Some.ensures.before
    c.in-Some.ensures.whole
    ∙ ap (λ l. l ∷ lines_of c.in-Some.more.now) (sym c.read_line.ensures))
    c.in-None-part_of.ensures

pub returns-in-None : goal.returns-in-None
returns-in-None c =
    end_refused part_at as_they_are c.args.keep c.args.count (lines_of c.args.bytes.now) c.loop-place.place
    (map part c.loop-place.found.items) (lines_of c.loop-place.rest.now) c.loop-place.invariant
    c.loop-place-test.true
    c.loop-place.rest.now (λ j. refl) (of_last c.loop-place.rest.now c.in-None.ensures.none)

pub returns : goal.returns
returns c = kept_all part_at as_they_are c.args.keep c.args.count (lines_of c.args.bytes.now) c.loop-place.place
    (map part c.loop-place.found.items) (lines_of c.loop-place.rest.now) c.loop-place.invariant c.loop-place-test.false
