-- The numbers of events and the way back belong together. Assumes nothing.
use mathlib.Core.Path.{◌≡◌, refl}
use mathlib.Core.Bool.{true, false}
use Rattle.number.specs.Numbering.{Inverse3}
use Rattle.number.proofs.Laws.{inverse3}
use Rattle.store.proofs.Numbers.{record_numbers}
use Rattle.event.specs.Types.{Decision, Event}
use Rattle.event.specs.Event.{event_number, detail_number, answer_number, event_of}

event_back : (e : Event) → event_of (event_number e) (detail_number e) (answer_number e) ≡ e
event_back (Event.Request true) = refl
event_back (Event.Request false) = refl
event_back (Event.Decided Decision.Commit) = refl
event_back (Event.Decided Decision.Abort) = refl
event_back Event.Timeout = refl
event_back Event.Crash = refl
event_back Event.Restart = refl
event_back (Event.Answer log r) = rw (record_numbers.decoded r) refl

pub event_numbers : Inverse3 event_number detail_number answer_number event_of
event_numbers = inverse3 event_number detail_number answer_number event_of event_back
