use Rattle.std.proofs.Common.{ap, ◌∙◌}
use Rattle.std.specs.Option.{option_map}
use Rattle.fd_lines.specs.Cuts.{texts_of}
use Rattle.fd_certfile.proofs.UpgradedRows.{written_all, written_more, written_start}
use Rattle.fd_certfile.proofs.upgrades.push_entries.Goals as goal

pub loop-rest-init : goal.loop-rest-init
loop-rest-init c = written_start c.args.text.now.items (texts_of (option_map (λ t. t.now) c.args.entries)) c.requires.numbers

pub loop-rest-preserved : goal.loop-rest-preserved
loop-rest-preserved c =
    written_more c.args.text.now.items c.loop-rest.text.items (texts_of (option_map (λ t. t.now) c.args.entries))
    c.loop-rest.place c.loop-rest.count (texts_of (option_map (λ t. t.now) c.loop-rest.rest)) c.parted.result.0.now
    (texts_of (option_map (λ t. t.now) c.parted.result.1)) c.push_entry.new.text.items c.in_ok-count.field-0
    (ap (λ r. texts_of (option_map (λ t. t.now) r)) c.in-Some.is ∙ c.parted.ensures) c.loop-rest.invariant
    c.in_ok-count.ensures.text c.in_ok-count.ensures.count

pub returns : goal.returns
returns c =
    written_all c.args.text.now.items c.loop-rest.text.items (texts_of (option_map (λ t. t.now) c.args.entries))
    c.loop-rest.place c.loop-rest.count (texts_of (option_map (λ t. t.now) c.loop-rest.rest))
    (ap (λ r. texts_of (option_map (λ t. t.now) r)) c.in_default.is) c.loop-rest.invariant
