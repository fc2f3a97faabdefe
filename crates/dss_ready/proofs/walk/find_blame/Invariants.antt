use Rattle.std.proofs.Common.{◌≡◌, [], map}
use Rattle.std.specs.Map.Iter.{deref_pair}
use Rattle.dss_ready.specs.Noted.{Notes}
use Rattle.dss_ready.specs.Walk.{first_blame}
use Rattle.dss_ready.proofs.walk.find_blame.Given as goal

-- what is noted is what those before name, and the first to blame among the rest is the first of all
abbrev pub invariant-loop-name : goal.invariant-loop-name
invariant-loop-name l = record {
  noted : Notes l.seen (map deref_pair l.yielded);
  rest : first_blame l.hertz l.elements.entries (map deref_pair l.yielded) l.name-iterator ≡ first_blame l.hertz l.elements.entries [] l.elements.entries;
}
