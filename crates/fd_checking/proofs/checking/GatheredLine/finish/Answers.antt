use Rattle.std.proofs.Common.{◌∙◌, List, Option, ℕ, subst, sym}
use Rattle.fd_check.specs.dss_model.declared.command.Command.{Command}
use Rattle.fd_solving.specs.dss_script.Sessions.{found_bytes}
use Rattle.fd_check.specs.dss_model.Names.{bytes}
use Rattle.fd_check.specs.fd_outside.Answers.{answered}
use Rattle.fd_check.specs.fd_outside.Files.{held}
use Rattle.fd_checking.specs.Checks.{IsJudged, gathered}
use Rattle.fd_checking.specs.Gathered.{solved_by}
use Rattle.fd_checking.specs.Judged.{IsAnsweredSo, history_in}
use Rattle.fd_solving.proofs.CallerLemmas.fd_outcome.{asked_for, asked_none, ends_failed, held_is, later_read}
use Rattle.fd_checking.proofs.Judging.{judged_told, judged_untold, short_untold, told_as, unasked_told, unread_told, unread_untold}
use Rattle.fd_checking.proofs.checking.GatheredLine.finish.Goals as goal

pub returns-clause-told : goal.returns-clause-told
returns-clause-told g c files agrees =
    let answers = g.L.Library.answers in
    let s = gathered c.self.inside.circuit (solved_by c.self.inside.commands.items) c.self.inside.certificate in
    let a = subst (λ (cs : List Command). IsAnsweredSo g.S.Sink.taken g.S.Sink.calls c.args.out.now
    c.answer_found.new.out (gathered c.self.inside.circuit (solved_by cs) c.self.inside.certificate)
    (found_bytes c.in-Ok.found) c.answer_found.result)
    c.as_slice.ensures.value (c.answer_found.ensures.answers c.self.inside.circuit c.self.inside.certificate) in
    let asks = asked_for (answers c.args.lib.now) (answers c.read.new.self) c.as_str.result.now
    c.self.inside.certificate c.read.result (λ e. let no = sym c.in-Ok.is ∙ e in cc no) c.as_str.ensures.bytes
    c.read.ensures.answers in
    let there = held_is files c.as_str.result.now (bytes c.self.inside.certificate) c.read.result c.in-Ok.found
    c.in-Ok.is c.as_str.ensures.bytes
    (agrees.agree (answered c.as_str.result.now c.read.result) c.read.ensures.answers) in
    told_as answers g.S.Sink.taken g.S.Sink.calls (λ n. held files (bytes n))
    c.args.lib.now c.read.new.self c.args._begun s c.args.self.now c.args.out.now c.answer_found.new.out
    c.answer_found.result c.self.view_is (judged_told answers g.L.Library.holds g.S.Sink.faults
    g.S.Sink.taken g.S.Sink.calls s c.args.lib.now c.read.new.self (λ n. held files (bytes n)) c.args._begun a.judged
    (subst (λ (f : Option (List ℕ)). IsJudged s f (history_in a.judged)) (sym there) a.right) c.args.out.now
    c.answer_found.new.out c.answer_found.result asks a.prints)

pub returns-clause-untold : goal.returns-clause-untold
returns-clause-untold g c =
    let s = gathered c.self.inside.circuit (solved_by c.self.inside.commands.items) c.self.inside.certificate in
    let a = c.answer_found.ensures.answers c.self.inside.circuit c.self.inside.certificate in
    let later = later_read g.L.Library.answers g.L.Library.holds c.args.lib.now c.read.new.self c.as_str.result.now
    c.read.result c.read.ensures.answers c.read.ensures.holds c.read.ensures.held in
    judged_untold g.L.Library.answers g.L.Library.holds g.S.Sink.faults g.S.Sink.taken g.S.Sink.calls s c.args.lib.now
    c.read.new.self a.judged a.of_check c.args.out.now c.answer_found.new.out c.answer_found.result later a.prints
    c.answer_found.ensures.write

pub returns-in-Err-Failed-clause-told : goal.returns-in-Err-Failed-clause-told
returns-in-Err-Failed-clause-told g c files agrees =
    let answers = g.L.Library.answers in
    let s = gathered c.self.inside.circuit (solved_by c.self.inside.commands.items) c.self.inside.certificate in
    let failed = rw c.in-Err-Failed.field-0-is at c.in-Err-Failed.is in
    let asks = asked_for (answers c.args.lib.now) (answers c.read.new.self) c.as_str.result.now
    c.self.inside.certificate c.read.result (λ e. let no = sym failed ∙ e in cc no) c.as_str.ensures.bytes
    c.read.ensures.answers in
    let last = ends_failed (answers c.args.lib.now) (answers c.read.new.self) c.as_str.result.now
    c.self.inside.certificate c.read.result failed c.as_str.ensures.bytes c.read.ensures.answers in
    told_as answers g.S.Sink.taken g.S.Sink.calls (λ n. held files (bytes n))
    c.args.lib.now c.read.new.self c.args._begun s c.args.self.now c.args.out.now c.print_unread.new.out
    c.print_unread.result c.self.view_is
    (unread_told answers g.L.Library.holds g.S.Sink.faults g.S.Sink.taken g.S.Sink.calls s c.args.lib.now
    c.read.new.self (λ n. held files (bytes n)) c.args._begun c.args.out.now c.print_unread.new.out
    c.print_unread.result asks (bytes c.self.inside.certificate, last) c.print_unread.ensures.prints)

pub returns-in-Err-Failed-clause-untold : goal.returns-in-Err-Failed-clause-untold
returns-in-Err-Failed-clause-untold g c =
    let answers = g.L.Library.answers in
    let s = gathered c.self.inside.circuit (solved_by c.self.inside.commands.items) c.self.inside.certificate in
    let failed = rw c.in-Err-Failed.field-0-is at c.in-Err-Failed.is in
    let later = later_read answers g.L.Library.holds c.args.lib.now c.read.new.self c.as_str.result.now
    c.read.result c.read.ensures.answers c.read.ensures.holds c.read.ensures.held in
    let last = ends_failed (answers c.args.lib.now) (answers c.read.new.self) c.as_str.result.now
    c.self.inside.certificate c.read.result failed c.as_str.ensures.bytes c.read.ensures.answers in
    unread_untold answers g.L.Library.holds g.S.Sink.faults g.S.Sink.taken g.S.Sink.calls s c.args.lib.now
    c.read.new.self c.args.out.now c.print_unread.new.out c.print_unread.result later last
    c.print_unread.ensures.prints c.print_unread.ensures.write

pub returns-in-Err-NoMemory-clause-told : goal.returns-in-Err-NoMemory-clause-told
returns-in-Err-NoMemory-clause-told g c files agrees =
    let answers = g.L.Library.answers in
    let s = gathered c.self.inside.circuit (solved_by c.self.inside.commands.items) c.self.inside.certificate in
    let short = rw c.in-Err-NoMemory.field-0-is at c.in-Err-NoMemory.is in
    let none = asked_none (answers c.args.lib.now) (answers c.read.new.self) c.as_str.result.now c.read.result short
    c.read.ensures.answers in
    told_as answers g.S.Sink.taken g.S.Sink.calls (λ n. held files (bytes n))
    c.args.lib.now c.read.new.self c.args._begun s c.args.self.now c.args.out.now c.args.out.now 1 c.self.view_is
    (unasked_told answers g.L.Library.holds g.S.Sink.faults g.S.Sink.taken g.S.Sink.calls s c.args.lib.now
    c.read.new.self (λ n. held files (bytes n)) c.args._begun c.args.out.now none)

pub returns-in-Err-NoMemory-clause-untold : goal.returns-in-Err-NoMemory-clause-untold
returns-in-Err-NoMemory-clause-untold g c =
    let s = gathered c.self.inside.circuit (solved_by c.self.inside.commands.items) c.self.inside.certificate in
    let later = later_read g.L.Library.answers g.L.Library.holds c.args.lib.now c.read.new.self c.as_str.result.now
    c.read.result c.read.ensures.answers c.read.ensures.holds c.read.ensures.held in
    short_untold g.L.Library.answers g.L.Library.holds g.S.Sink.faults g.S.Sink.taken g.S.Sink.calls s c.args.lib.now
    c.read.new.self c.args.out.now later
