use Rattle.std.proofs.Common.{◌≡◌, ◌∙◌, ◌+◌, ◌∷◌, ap, sym, reverse, length, arith}
use Rattle.std.specs.Str.Lines.{lines}
use Rattle.dss_script.specs.Sessions.{remaining, entered}
use Rattle.dss_script.specs.contracts.session.Session.{the_view}
use Rattle.dss_script.proofs.Steps.{says_long, says_entered, placed}
use Rattle.dss_script.proofs.session.Session.stand_at.Goals as goal

pub returns-then-self-len-gt-MOST_BYTES-clause-enters : goal.returns-then-self-len-gt-MOST_BYTES-clause-enters
returns-then-self-len-gt-MOST_BYTES-clause-enters c = λ files.
    rw c.script_fault.ensures (says_long files c.args.self.now c.args.place c.args.name c.args.bytes.items (omega (
      arith,
      ap (λ s. s.standing.read) c.self.view_is,
    )))

pub returns-clause-enters : goal.returns-clause-enters
returns-clause-enters c =
    λ files.
    let count : c.self.inside.read + c.len-count.result ≡ c.self.inside.read + length c.args.bytes.items = omega arith in
    says_entered files c.args.self.now c.args.place c.args.name c.args.bytes.items
    (omega (arith, ap (λ s. s.standing.read) c.self.view_is))
    ∙ ap (remaining files)
    (sym (ap (λ fs. placed (the_view c.self.inside) fs (c.self.inside.read + c.len-count.result))
    (c.in_ok-push_frame.ensures ∙ ap (λ r. r ∷ reverse c.self.inside.frames.items) c.new.ensures)
    ∙ ap (placed (the_view c.self.inside) (record {
      file = c.args.name;
      line = 0;
      lines = lines c.args.bytes.items;
    } ∷ reverse c.self.inside.frames.items)) count
    ∙ ap (λ s. entered s c.args.name c.args.bytes.items) c.self.view_is))
