use Rattle.std.proofs.Common.{◌≡◌, ◌++◌, ◌∷◌, [], rules, true, SFits, ◌+◌, ap, ◌∙◌}
use Rattle.std.proofs.lemmas.List.{length_push}
use Rattle.std.specs.Int.{w128}
use Rattle.std.proofs.lemmas.Int.{to_z-of_z}
use Rattle.fd_sample.specs.fd_queue.Verdicts.{is_decided}
use Rattle.fd_sample.specs.Probes.{HasDevice, IsProbe, positions_in}
use Rattle.fd_settle.proofs.Samplings.{all_decided, at_control, decided_by, one_decided, one_unclear, push_decided, unclear_same}
use Rattle.fd_settle.proofs.sampling.sample_all.Goals as goal

pub sample-verdict-requires-clause-probe : goal.sample-verdict-requires-clause-probe
sample-verdict-requires-clause-probe c =
    at_control (IsProbe _) _ _ _ c.requires.probes c.loop-control-test.true c.index-states-control.is

pub sample-verdict-requires-clause-device : goal.sample-verdict-requires-clause-device
sample-verdict-requires-clause-device c =
    at_control (HasDevice (positions_in c.args.at.now)) _ _ _ c.requires.devices c.loop-control-test.true c.index-states-control.is

pub returns-in-Undecided-clause-sampled : goal.returns-in-Undecided-clause-sampled
returns-in-Undecided-clause-sampled c =
    let low : SFits w128 c.in-Undecided.low = search rules in
    let high : SFits w128 c.in-Undecided.high = search rules in
    let edge : SFits w128 c.in-Undecided.edge = search rules in
    one_unclear c.loop-control.control _ _ _ _ c.loop-control.verdicts.items _ _ c.loop-control-test.true
    c.index-states-control.is c.in-Undecided.ensures c.loop-control.invariant.sampled
    ∙ unclear_same _ _ _ _ _ _ _ (to_z-of_z w128 c.in-Undecided.low low) (to_z-of_z w128 c.in-Undecided.high high)
    (to_z-of_z w128 c.in-Undecided.edge edge)

pub loop-control-preserved : goal.loop-control-preserved
loop-control-preserved c =
    let pushed : c.push.new.self.items ≡ c.loop-control.verdicts.items ++ c.sample-verdict.result ∷ [] = search rules in
    let decides : is_decided c.sample-verdict.result ≡ true = decided_by _ c.in_default.not-Undecided in
    let so_far = one_decided c.loop-control.control _ _ _ _ c.loop-control.verdicts.items _ _ c.loop-control-test.true
    c.index-states-control.is c.sample-verdict.ensures decides c.loop-control.invariant.sampled in
    record {
      sampled = rw pushed so_far;
      decided = rw pushed (push_decided _ _ c.loop-control.invariant.decided decides);
      each = rw pushed (length_push _ _ ∙ ap (λ n. n + 1) c.loop-control.invariant.each);
      capacity = search rules;
    }

pub returns-clause-sampled : goal.returns-clause-sampled
returns-clause-sampled c = (
  all_decided c.loop-control.control _ _ _ _ c.loop-control.verdicts.items c.loop-control-test.false c.loop-control.invariant.sampled,
  c.loop-control.invariant.decided,
)
