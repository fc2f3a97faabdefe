-- Lemmas that callers cite.
pub use Rattle.fd_solving.proofs.Beside.{bases_with, ends_with, goes_with, nothing_beside, one_with}
pub use Rattle.fd_solving.proofs.Handed.{answer_of, bases_tally, cut_never, ends_as, ends_cut, ends_refused}
pub use Rattle.fd_solving.proofs.Handed.{ends_without_memory, goes_printed, goes_silent, never_read, never_usage}
pub use Rattle.fd_solving.proofs.Handed.{printed_as, printed_cut}
pub use Rattle.fd_solving.proofs.Points.{IsSolutionPoint, solution_point}
pub use Rattle.fd_solving.proofs.Scripts.{not_begun, of_script, one_script, report_asks}
pub use Rattle.fd_solving.proofs.Solutions.{meets_round, network_size, others, same_box, sizes_of_others}
pub use Rattle.fd_solving.proofs.Steadiness.{alike}
pub use Rattle.fd_solving.proofs.Tests.{one_solution, one_step, test_once, tests_answer}
pub use Rattle.fd_solving.proofs.Weaker.{if_some_weaker, none_goes}
pub use Rattle.fd_solving.proofs.Weights.{Reaches, Takes, reached_takes, verb_takes}
pub use Rattle.dss_commands.proofs.CallerLemmas as dss_commands
pub use Rattle.fd_daily.proofs.CallerLemmas.fd_enclosure as fd_enclosure
pub use Rattle.fd_daily.proofs.CallerLemmas.fd_equations as fd_equations
pub use Rattle.fd_daily.proofs.CallerLemmas.fd_settle.{its_certificate, nothing_due}
pub use Rattle.fd_pages.proofs.CallerLemmas.{all_last, first_round, of_first_round}
pub use Rattle.fd_pages.proofs.CallerLemmas.fd_outside as fd_outside
pub use Rattle.fd_pages.proofs.CallerLemmas.fd_certfile as fd_certfile
pub use Rattle.fd_pages.proofs.CallerLemmas.fd_outcome as fd_outcome
