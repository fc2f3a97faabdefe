use Rattle.fd_devices.proofs.DeviceRows.{devices_agree}
use Rattle.fd_devices.proofs.devices.device_law.Goals as goal

pub returns : goal.returns
returns c = devices_agree
