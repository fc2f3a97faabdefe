use Rattle.fd_words.specs.Words.{form_of}
use Rattle.fd_app.proofs.Runs.{due}
use Rattle.fd_app.proofs.top.due_law.Goals as goal

pub returns : goal.returns
returns c files words h o code right promised = due files (form_of words) h o code right promised
