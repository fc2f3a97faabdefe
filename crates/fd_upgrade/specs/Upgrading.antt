-- What `upgrade` does: the name of a certificate is asked, and its lines in version 2 are written, or why it is refused.
use Rattle.std.specs.Prelude.{◌≡◌, ◌⊎◌, ℕ, List, [], ◌∷◌, map, Option, Some, None}
use Rattle.fd_solving.specs.dss_model.Names.{bytes}
use Rattle.fd_solving.specs.fd_outside.Files.{Files, held}
use Rattle.fd_solving.specs.fd_cert.declared.rule.Rule.TheVariants.{Absent, Grammar}
use Rattle.fd_solving.specs.fd_certfile.declared.version.Version.TheVariants.{Sparse}
use Rattle.fd_solving.specs.fd_certfile.Certificates.{Certificate, blocks_of, certificate_lines}
use Rattle.fd_solving.specs.fd_certfile.Lines.{lines_of, text_of}
use Rattle.fd_solving.specs.fd_certfile.Upgrade.{IsFirstOutside, IsUpgraded}
use Rattle.fd_solving.specs.fd_report.declared.faults.Fault.TheVariants as fault
use Rattle.fd_solving.specs.fd_outcome.Events.{History, asked, ended, finishes, line}
use Rattle.fd_solving.specs.fd_outcome.Work.{After}

-- the lines of version 2 of a certificate's blocks, and nothing else
abbrev pub lines_written : Certificate → History
lines_written certificate = finishes (map line (map text_of (certificate_lines Sparse (blocks_of certificate))))

-- the bytes are in the grammar of the version that they name, and the lines of their blocks are written
pub record IsWritten (held : List ℕ) (h : History) : Type 0 where
  pub pieces : List (List ℕ)
  pub upgraded : IsUpgraded (lines_of held) pieces
  pub h_is : h ≡ lines_written upgraded.certificate

-- the grammar refuses this line first
pub record IsRefused (held : List ℕ) (h : History) : Type 0 where
  pub outside : ℕ
  pub first : IsFirstOutside (lines_of held) outside
  pub h_is : h ≡ ended [] (fault.Certificate outside Grammar)

-- what comes of what is held under the name
abbrev pub IsUpgradeOf : Option (List ℕ) → History → Type 0
IsUpgradeOf None h = h ≡ ended [] (fault.Certificate 0 Absent)
IsUpgradeOf (Some held) h = IsWritten held h ⊎ IsRefused held h

-- the history of `upgrade` of the certificate of this name
abbrev pub IsUpgradeHistory : Files → List ℕ → History → Type 0
IsUpgradeHistory files name h = After (asked name ∷ []) (IsUpgradeOf (held files (bytes name))) h
