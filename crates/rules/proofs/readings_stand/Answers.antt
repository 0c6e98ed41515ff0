use Rattle.rules.proofs.Readings.{readings_right}
use Rattle.rules.proofs.readings_stand.Goals as goal

pub returns : goal.returns
returns c = readings_right
