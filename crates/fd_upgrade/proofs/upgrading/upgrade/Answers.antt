use Rattle.std.proofs.Common.{◌∙◌, ℕ, List, Option, append-nil, subst, sym}
use Rattle.fd_solving.specs.dss_model.Names.{bytes}
use Rattle.fd_solving.specs.fd_outside.Answers.{answered, names_asked}
use Rattle.fd_solving.proofs.CallerLemmas.fd_outcome.{asked_for, asked_none, ends_failed, held_is, later_read, untold_first}
use Rattle.fd_upgrade.specs.Upgrading.{IsUpgradeOf}
use Rattle.fd_upgrade.proofs.Asking.{answered_runs, answered_untold, named_runs, short_runs, unread_runs, unread_untold}
use Rattle.fd_upgrade.proofs.upgrading.upgrade.Goals as goal

pub returns-in_default-clause-run : goal.returns-in_default-clause-run
returns-in_default-clause-run g c files agrees =
    short_runs g.L.Library.answers g.L.Library.holds g.S.Sink.faults g.S.Sink.taken g.S.Sink.calls files _
    c.args.lib.now c.args.lib.now c.args.out.now (sym (append-nil (names_asked (g.L.Library.answers c.args.lib.now))))

pub returns-in_default-clause-untold : goal.returns-in_default-clause-untold
returns-in_default-clause-untold g c =
    untold_first g.L.Library.answers g.L.Library.holds g.S.Sink.faults g.S.Sink.taken g.S.Sink.calls c.args.lib.now c.args.out.now

pub returns-clause-run : goal.returns-clause-run
returns-clause-run g c files agrees =
    let answers = g.L.Library.answers in
    let a = c.answer_found.ensures.answers in
    let asks = asked_for (answers c.args.lib.now) (answers c.read.new.self) c.as_str.result.now c.in-Ok.name c.read.result
    (λ e. let no = sym c.in-Ok-read.is ∙ e in cc no) c.as_str.ensures.bytes c.read.ensures.answers in
    let there = held_is files c.as_str.result.now (bytes c.in-Ok.name) c.read.result c.in-Ok-read.found c.in-Ok-read.is c.as_str.ensures.bytes
    (agrees.agree (answered c.as_str.result.now c.read.result) c.read.ensures.answers) in
    named_runs answers g.S.Sink.taken g.S.Sink.calls files c.in-Ok.name _ c.args.lib.now c.read.new.self c.args.out.now c.answer_found.new.out
    c.answer_found.result c.in-Ok.ensures
    (answered_runs answers g.L.Library.holds g.S.Sink.faults g.S.Sink.taken g.S.Sink.calls files c.in-Ok.name c.args.lib.now c.read.new.self a.more
    (subst (λ (f : Option (List ℕ)). IsUpgradeOf f a.more) (sym there) a.right) c.args.out.now c.answer_found.new.out c.answer_found.result asks a.prints)

pub returns-clause-untold : goal.returns-clause-untold
returns-clause-untold g c =
    let a = c.answer_found.ensures.answers in
    let later = later_read g.L.Library.answers g.L.Library.holds c.args.lib.now c.read.new.self c.as_str.result.now c.read.result
    c.read.ensures.answers c.read.ensures.holds c.read.ensures.held in
    answered_untold g.L.Library.answers g.L.Library.holds g.S.Sink.faults g.S.Sink.taken g.S.Sink.calls c.args.lib.now c.read.new.self _ a.more
    a.right c.args.out.now c.answer_found.new.out c.answer_found.result later a.prints c.answer_found.ensures.write

pub returns-in-Err-Failed-clause-run : goal.returns-in-Err-Failed-clause-run
returns-in-Err-Failed-clause-run g c files agrees =
    let answers = g.L.Library.answers in
    let failed = rw c.in-Err-Failed.field-0-is at c.in-Err-Failed.is in
    let asks = asked_for (answers c.args.lib.now) (answers c.read.new.self) c.as_str.result.now c.in-Ok.name c.read.result
    (λ e. let no = sym failed ∙ e in cc no) c.as_str.ensures.bytes c.read.ensures.answers in
    let last = ends_failed (answers c.args.lib.now) (answers c.read.new.self) c.as_str.result.now c.in-Ok.name c.read.result failed
    c.as_str.ensures.bytes c.read.ensures.answers in
    named_runs answers g.S.Sink.taken g.S.Sink.calls files c.in-Ok.name _ c.args.lib.now c.read.new.self c.args.out.now c.print_unread.new.out
    c.print_unread.result c.in-Ok.ensures
    (unread_runs answers g.L.Library.holds g.S.Sink.faults g.S.Sink.taken g.S.Sink.calls files c.in-Ok.name c.args.lib.now c.read.new.self
    c.args.out.now c.print_unread.new.out c.print_unread.result asks last c.print_unread.ensures.prints)

pub returns-in-Err-Failed-clause-untold : goal.returns-in-Err-Failed-clause-untold
returns-in-Err-Failed-clause-untold g c =
    let answers = g.L.Library.answers in
    let failed = rw c.in-Err-Failed.field-0-is at c.in-Err-Failed.is in
    let later = later_read answers g.L.Library.holds c.args.lib.now c.read.new.self c.as_str.result.now c.read.result
    c.read.ensures.answers c.read.ensures.holds c.read.ensures.held in
    let last = ends_failed (answers c.args.lib.now) (answers c.read.new.self) c.as_str.result.now c.in-Ok.name c.read.result failed
    c.as_str.ensures.bytes c.read.ensures.answers in
    unread_untold answers g.L.Library.holds g.S.Sink.faults g.S.Sink.taken g.S.Sink.calls c.args.lib.now c.read.new.self c.in-Ok.name
    c.args.out.now c.print_unread.new.out c.print_unread.result later last c.print_unread.ensures.prints c.print_unread.ensures.write

pub returns-in-Err-NoMemory-clause-run : goal.returns-in-Err-NoMemory-clause-run
returns-in-Err-NoMemory-clause-run g c files agrees =
    let answers = g.L.Library.answers in
    let short = rw c.in-Err-NoMemory.field-0-is at c.in-Err-NoMemory.is in
    let none = asked_none (answers c.args.lib.now) (answers c.read.new.self) c.as_str.result.now c.read.result short c.read.ensures.answers in
    short_runs answers g.L.Library.holds g.S.Sink.faults g.S.Sink.taken g.S.Sink.calls files _ c.args.lib.now c.read.new.self c.args.out.now none
