use Rattle.std.proofs.Common.{◌∙◌, append_assoc, refl}
use Rattle.fd_picture.specs.Panels.{head_text}
use Rattle.fd_picture.proofs.Appends.{on_ok}
use Rattle.fd_picture.proofs.panel.push_head.Goals as goal

pub returns : goal.returns
unfolding head_text
returns c = on_ok c.push_between-3.result (λ added. added ∙ rw (
  c.in_ok-push_between-2.ensures,
  c.in_ok-push_between.ensures,
  c.settle.ensures,
  c.hour.ensures,
  c.round.ensures,
) (simp append_assoc refl)) c.push_between-3.ensures
