use Rattle.std.proofs.Common.{refl}
use Rattle.fd_words.proofs.Taken.{unlike}
use Rattle.fd_words.proofs.lines.form_of_words.Goals as goal

pub returns-in_default-clause-form : goal.returns-in_default-clause-form
returns-in_default-clause-form c =
    let d = c.in_default in
    let word = c.args.name.now in
    rw (
      unlike _ word d.not-solve,
      unlike _ word d.not-cert,
      unlike _ word d.not-check,
      unlike _ word d.not-gen,
      unlike _ word d.not-bench,
      unlike _ word d.not-upgrade,
      unlike _ word d.not-fault,
      unlike _ word d.not-ladder,
    ) refl
