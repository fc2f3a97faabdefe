use Rattle.std.proofs.Math.Logic.{∥∥₁_map}
use Rattle.fd_outside.proofs.Turns.{reads_more}
use Rattle.fd_outside.proofs.folder.FolderLibraryLibrary.read.Goals as goal

pub invariant_of-self : goal.invariant_of-self
invariant_of-self g c = record {
  right = ∥∥₁_map c.args.self.now.tapes.right (λ k. reads_more _ _ _ _ _ _ k c.read_told.ensures.told c.read_told.ensures.system);
}
