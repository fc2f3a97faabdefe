use Rattle.std.proofs.Common.{◌≡◌, ◌++◌, map}
use Rattle.std.specs.Map.Iter.{deref_pair}
use Rattle.dss_ready.specs.Noted.{Notes}
use Rattle.dss_ready.proofs.mention.all_mentions.Given as goal

-- what is noted is what those before name
abbrev pub invariant-loop-name : goal.invariant-loop-name
invariant-loop-name l = record {
  noted : Notes l.mentions (map deref_pair l.yielded);
  all : map deref_pair l.yielded ++ l._name-iterator ≡ l.elements.entries;
}
