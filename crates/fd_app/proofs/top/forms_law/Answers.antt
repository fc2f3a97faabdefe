use Rattle.fd_app.proofs.Runs.{forms}
use Rattle.fd_app.proofs.top.forms_law.Goals as goal

pub returns : goal.returns
returns c files form = forms files form
