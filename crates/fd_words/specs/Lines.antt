-- The command that takes the words of a form apart, as `clap` reads it: a subcommand for each row of the table, with one
-- required positional of as many values as words stand behind the first.
use Rattle.std.specs.Prelude.{ℕ, true, List, [], ◌∷◌, Option, Some, codes, fold, length, option_and_then}
use Rattle.clap.specs.Simple.{new_shape}
use Rattle.clap.specs.Words.{App, Row as Found, Rule, Text, all_of, new_rule, with_subcommand}
use Rattle.clap.specs.declared.builder.action.ArgAction.TheVariants.{Set}
use Rattle.fd_words.specs.Words.{Form, form_of, rows}

-- a positional of so many values
abbrev pub words_rule : ℕ → Rule
words_rule count = record (new_rule (codes "words")) {
  required = true;
  action = Some Set;
  range = Some (record { start_inclusive = count; end_inclusive = count });
}

-- the command with one line more
abbrev pub with_line : App → Text → ℕ → App
with_line app word count = with_subcommand app (record (new_shape word) { rules = words_rule count ∷ [] })

-- the command with no subcommand: it takes neither `help` nor `--help`
abbrev pub no_lines : App
no_lines = record {
  top = record (new_shape (codes "feeder")) { no_binary_name = true; disable_help_flag = true; disable_help_subcommand = true };
  subs = [];
}

abbrev pub lines_app : App
lines_app = fold (λ app row. with_line app row.word (length row.kinds)) no_lines rows

-- the form of a line's matches
abbrev pub form_of_rows : Text → List Found → Option Form
form_of_rows name found = option_and_then (λ words. form_of (name ∷ words)) (all_of (codes "words") found)
