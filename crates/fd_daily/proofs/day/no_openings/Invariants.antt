use Rattle.std.proofs.Common.{◌≡◌, ◌++◌, replicate, None}
use Rattle.fd_settle.specs.fd_exact.Sums.{list_n}
use Rattle.fd_settings.specs.fd_devices.Settings.{bank_count}
use Rattle.fd_daily.proofs.day.no_openings.Given as goal

-- with those of the elements that are left, all of them
abbrev pub invariant-loop-name : goal.invariant-loop-name
invariant-loop-name l =
    l.opened.items ++ replicate (list_n (λ e. bank_count e.1) l._name-iterator) None
    ≡ replicate (list_n (λ e. bank_count e.1) l.circuit.elements) None
