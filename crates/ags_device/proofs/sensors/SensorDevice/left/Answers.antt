use Rattle.std.proofs.Common.{ap, sym, ◌∙◌, ◌-◌, length}
use Rattle.ags_device.specs.Record.{DeviceRecord}
use Rattle.ags_device.proofs.PlanLemmas.{length-readings}
use Rattle.ags_device.proofs.sensors.SensorDevice.left.Goals as goal

pub returns : goal.returns
returns c =
    let sensor = c.self.inside in
    c.from.ensures ∙ sym (length-readings sensor.first sensor.by sensor.given (sensor.count - sensor.given)) ∙ ap (λ (d : DeviceRecord). length d.plan) c.self.view_is
