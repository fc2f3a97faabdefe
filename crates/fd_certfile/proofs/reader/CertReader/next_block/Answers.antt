use Rattle.std.proofs.Common.{Ok, ap, ◌∙◌}
use Rattle.fd_settle.specs.fd_mat.Rows.{square}
use Rattle.fd_certfile.specs.Reader.{ReaderView}
use Rattle.fd_certfile.proofs.NextBlock.{ahead_square}
use Rattle.fd_certfile.proofs.reader.CertReader.next_block.Goals as goal

pub returns : goal.returns
returns c =
    let h = c.in_ok-ahead.ensures in
    record {
      block = h.block;
      next = h.next ∙ ap (λ (w : ReaderView). Ok (h.block, w)) (c.in_ok-pass.ensures h.block _ h.next);
      parts = h.parts;
      inverse = ap (square c.args.size) c.in_ok-cells.ensures ∙ ahead_square c.args.self.now c.args.size c.in_ok-ahead.ahead h;
    }
