use Rattle.std.proofs.Common.{◌≡◌, map, drop}
use Rattle.dss_model.specs.Answers.{each}
use Rattle.dss_values.specs.Forms.{node_of}
use Rattle.dss_model.proofs.CallerLemmas.dss_lexer.{after}
use Rattle.dss_values.proofs.bus.nodes.Given as goal

abbrev pub invariant-loop-part : goal.invariant-loop-part
invariant-loop-part l = after l.nodes.items (each node_of (map (λ part. part.now) (drop l.part-index l.parts))) ≡ each node_of (map (λ part. part.now) l.parts)
