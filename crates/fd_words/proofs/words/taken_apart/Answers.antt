use Rattle.std.proofs.Common.{◌∙◌, ap, map, string_bytes}
use Rattle.clap.specs.Words.{is_simple, subcommand_of, takes}
use Rattle.fd_words.proofs.Taken.{read, is_read, is_taken}
use Rattle.fd_words.proofs.words.taken_apart.Goals as goal

pub returns-in-Ok-clause-form : goal.returns-in-Ok-clause-form
returns-in-Ok-clause-form c =
    c.form_of_matches.ensures.form
    ∙ (ap read ((c.in-Ok.ensures.matches (ap is_simple c.in_ok-command.ensures)).1
    ∙ ap (λ a. subcommand_of a (map string_bytes c.args.words.now)) c.in_ok-command.ensures)
    ∙ is_read (map string_bytes c.args.words.now) c.requires)

pub unreachable-requires : goal.unreachable-requires
unreachable-requires c =
    absurd (c.in_default.not-OutOfMemory (c.kind.ensures
    ∙ c.in-Err.ensures.passes (ap (λ a. takes a (map string_bytes c.args.words.now)) c.in_ok-command.ensures
    ∙ is_taken (map string_bytes c.args.words.now) c.requires)))
