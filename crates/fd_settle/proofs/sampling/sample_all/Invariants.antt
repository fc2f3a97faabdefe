use Rattle.std.proofs.Common.{◌≡◌, ◌≤◌, map, drop, length, vec_capacity}
use Rattle.fd_sample.specs.fd_queue.Verdicts.{decision}
use Rattle.fd_sample.specs.Probes.{positions_in}
use Rattle.fd_settle.specs.Acting.{AreDecided, sampled_over}
use Rattle.fd_settle.specs.Sampling.{sampling_of}
use Rattle.fd_settle.proofs.Samplings.{before, samples_of}
use Rattle.fd_settle.proofs.sampling.sample_all.Given as goal

abbrev pub invariant-loop-control : goal.invariant-loop-control
invariant-loop-control l = record {
  sampled : before (map decision l.verdicts.items)
      (sampling_of l.control (samples_of (drop l.control l.states) (positions_in l.at) l.centre l.radii))
      ≡ sampled_over l.states (positions_in l.at) l.centre l.radii;
  decided : AreDecided l.verdicts.items;
  each : length l.verdicts.items ≡ l.control;
  capacity : vec_capacity l.fn.verdicts ≤ vec_capacity l.verdicts;
}
