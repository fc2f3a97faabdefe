use Rattle.std.proofs.Common.{rules, ◌≡◌, ◌∙◌, ℕ, Bor, List, Option, None, Some, is_some, refl, subst, sym, ap}
use Rattle.std.specs.Option.{option_map}
use Rattle.fd_words.specs.Words.{value_as}
use Rattle.fd_words.proofs.usage.is_word.Goals as goal

some_as : (o : Option (Bor (List ℕ))) → is_some o ≡ is_some (option_map (λ word. word.now) o)
some_as None = refl
some_as (Some word) = refl

pub returns-in-File : goal.returns-in-File
returns-in-File c =
    subst (λ kind. c.is_some.result ≡ is_some (value_as kind c.args.word.now)) (sym c.in-File.is)
    (c.is_some.ensures ∙ some_as c.file_of.result ∙ ap is_some c.file_of.ensures)

pub returns-in-Number : goal.returns-in-Number
returns-in-Number c = subst (λ kind. c.is_some-in-Number.result ≡ is_some (value_as kind c.args.word.now)) (sym c.in-Number.is) (search rules)

pub returns-in-Sections : goal.returns-in-Sections
returns-in-Sections c = subst (λ kind. c.is_some-in-Sections.result ≡ is_some (value_as kind c.args.word.now)) (sym c.in-Sections.is) (search rules)

pub returns-in-Bus : goal.returns-in-Bus
returns-in-Bus c =
    subst (λ kind. c.is_some-in-Bus.result ≡ is_some (value_as kind c.args.word.now)) (sym c.in-Bus.is)
    (c.is_some-in-Bus.ensures ∙ some_as c.bus_of.result ∙ ap is_some c.bus_of.ensures)

pub returns-in-Short : goal.returns-in-Short
returns-in-Short c = subst (λ kind. c.is_some-in-Short.result ≡ is_some (value_as kind c.args.word.now)) (sym c.in-Short.is) (search rules)
