-- A report as data, and as it is read.
use Rattle.std.specs.Prelude.{ℕ, List, [], Option, None}
use Rattle.fd_picture.specs.declared.report.Base.{Base}
use Rattle.fd_picture.specs.declared.report.Entry.{Entry}
use Rattle.fd_picture.specs.declared.report.Panel.{Panel}

-- the last round of each settle, the rows of the table, the voltage bases, and the line of the fault that ends the report
pub record ReportView : Type 0 where
  pub panels : List Panel
  pub entries : List Entry
  pub bases : List Base
  pub fault : Option (List ℕ)

-- the same while it is read: `current` is the panel that the next round may yet replace
pub record DraftView : Type 0 where
  pub done : List Panel
  pub current : Option Panel
  pub entries : List Entry
  pub bases : List Base
  pub fault : Option (List ℕ)

abbrev pub empty_draft : DraftView
empty_draft = record { done = []; current = None; entries = []; bases = []; fault = None }
