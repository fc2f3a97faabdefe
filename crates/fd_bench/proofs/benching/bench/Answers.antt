use Rattle.std.proofs.Common.{◌∙◌, Some, ap}
use Rattle.std.specs.FinMap.{from_entries}
use Rattle.fd_gen.specs.fd_outside.Files.{held}
use Rattle.fd_solving.specs.dss_model.Names.{bytes}
use Rattle.fd_solving.specs.dss_script.Said.{end_in, said_in}
use Rattle.fd_solving.specs.dss_script.Sessions.{remaining}
use Rattle.fd_solving.specs.fd_outcome.History.{IsFrom}
use Rattle.fd_bench.specs.Bench.{feeder_files}
use Rattle.fd_bench.specs.Benching.{IsBenchLast, IsBenchStep, no_bench_name}
use Rattle.fd_bench.proofs.Alone.{agrees_held}
use Rattle.fd_bench.proofs.Benched.{bench_history, none_failed, short_alone, without_library}
use Rattle.fd_bench.proofs.benching.bench.Goals as goal

pub returns-in_default-clause-run : goal.returns-in_default-clause-run
returns-in_default-clause-run g c =
    short_alone g.S.Sink.taken g.S.Sink.calls c.args.out.now c.args.number c.args.sections

pub returns-in_default-open-clause-run : goal.returns-in_default-open-clause-run
returns-in_default-open-clause-run g c =
    short_alone g.S.Sink.taken g.S.Sink.calls c.args.out.now c.args.number c.args.sections

pub returns-clause-run : goal.returns-clause-run
returns-clause-run g c =
    let files = feeder_files c.args.number c.args.sections in
    let script = remaining files c.in-Ok-open.session in
    let told = c.new-lib.ensures.holds ∙ ap (λ entries. Some (from_entries entries)) c.in-Ok.ensures in
    let agrees = agrees_held _ _ files c.new-lib.result c.run_script.new.lib told c.run_script.ensures.untold.later in
    without_library _ g.S.Sink.taken g.S.Sink.calls c.new-lib.result c.run_script.new.lib c.args.out.now
    c.run_script.new.out c.args.number c.args.sections (λ h. IsFrom IsBenchStep no_bench_name IsBenchLast (λ n. held files (bytes n)) (record {
      left = said_in script;
      end = end_in script;
      state = c.new-line.result;
    }) h) (bench_history c.said_law.ensures c.args.number
    c.args.sections script c.new-line.result (c.in-Ok-open.ensures.script files) c.new-line.ensures)
    c.run_script.result (none_failed _ _ c.run_script.new.lib.unfailing) (c.run_script.ensures.run files agrees)

pub returns-clause-read : goal.returns-clause-read
returns-clause-read g c four =
    let end = c.run_script.ensures.untold.last four in
    none_failed _ _ c.run_script.new.lib.unfailing (bytes end.name, end.asks)
