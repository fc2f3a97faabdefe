use Rattle.std.proofs.Common.{◌∙◌, append_assoc, refl}
use Rattle.fd_picture.specs.Pages.{entry_text}
use Rattle.fd_picture.proofs.Appends.{on_ok}
use Rattle.fd_picture.proofs.page.push_entry.Goals as goal

pub returns : goal.returns
unfolding entry_text
returns c = on_ok c.push-3.result (λ added. added ∙ rw (
  c.in_ok-push_field_cells.ensures,
  c.in_ok-push_round_cells.ensures,
  c.in_ok-push-2.ensures,
  c.in_ok-push_attribute.ensures,
  c.in_ok-push.ensures,
) (simp append_assoc refl)) c.push-3.ensures
