-- What a copy of a network takes.
use Rattle.std.specs.Prelude.{ℕ, ◌+◌, ◌*◌, length}
use Rattle.fd_pattern.specs.Views.{NetworkView}

-- the bytes of the lists of a network: constants, contributions and part loads
abbrev pub copy_bytes : NetworkView → ℕ
copy_bytes v = 32 * length v.stamp.constants + 48 * length v.stamp.terms + 128 * length v.stamp.loads
