-- Worked moves and starts come out of the definitions as they must: the tables of specs/Cases.antt, by computation. Assumes nothing.
use mathlib.Core.Path.{refl}
use Rattle.number.specs.Table.{tabulate, every}
use Rattle.text.specs.Put.{each}
use Rattle.schedule.specs.Schedule.{steps_from}
use Rattle.start.specs.Cases.{CasesHold}

pub cases_hold : CasesHold
unfolding tabulate every each steps_from
cases_hold = record { moves_hold = refl; moved_holds = refl; starts_hold = refl }
