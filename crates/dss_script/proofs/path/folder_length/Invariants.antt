use Rattle.std.proofs.Common.{◌≡◌, ◌-◌, ◌≤◌, length, take}
use Rattle.std.specs.List.{suffix_len}
use Rattle.dss_script.specs.Paths.{is_no_slash}
use Rattle.dss_script.proofs.path.folder_length.Given as goal

abbrev pub invariant-loop-end : goal.invariant-loop-end
invariant-loop-end l = (l.end ≤ length l.name) × (length l.name - suffix_len is_no_slash l.name ≡ l.end - suffix_len is_no_slash (take l.end l.name))

abbrev pub decreases-loop-end : goal.decreases-loop-end
decreases-loop-end l = l.end
