use Rattle.std.proofs.Common.{ap, ◌∙◌}
use Rattle.std.specs.Prelude.{Some}
use Rattle.ags_device.proofs.PlanLemmas.{sensor_first, sensor_given}
use Rattle.ags_device.proofs.sensors.SensorDevice.next.Goals as goal

pub returns-then-self-clause-word : goal.returns-then-self-clause-word
returns-then-self-clause-word c =
    let sensor = c.self.inside in
    ap (λ word. Some word) c.reading_at-word.ensures ∙ sensor_first sensor.address sensor.first sensor.by sensor.given sensor.count _ c.if-self.true c.self.view_is

pub returns-then-self-clause-rest : goal.returns-then-self-clause-rest
returns-then-self-clause-rest c =
    let sensor = c.self.inside in
    sensor_given sensor.address sensor.first sensor.by sensor.given sensor.count _ c.if-self.true c.self.view_is
