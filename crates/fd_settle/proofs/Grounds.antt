-- A claim on the network of a circuit's definition is one on a network with the circuit's equations.
use Rattle.fd_sample.specs.fd_network.Laws.{NetworkLaw}
use Rattle.fd_settle.specs.Kept.{SoundAtLaw}
use Rattle.fd_settle.specs.Plant.{blame_at, network_at, settings_at}

pub sound_at : NetworkLaw → SoundAtLaw
unfolding network_at blame_at
sound_at law c powers at m passed limits positions modest none sound =
    let is = law c (settings_at powers at) passed limits positions.counts positions.taps modest none in
    record { positions = positions; agrees = is.agrees; network = is.network; sound = sound }
