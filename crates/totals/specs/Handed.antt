-- What each case of an answer hands over: 0 and the figures; or the refusal's number and its place, and no figures. Assumes nothing.
use Rattle.std.specs.Prelude.{Result, Ok, Err}
use Rattle.number.specs.Refusal.{accepted, refusal_number}
use Rattle.figures.specs.Figures.{no_totals, no_column, ClassHanded}
use Rattle.totals.specs.Types.{Refused, Figures}

abbrev pub figures_hands : Result Figures Refused → ClassHanded
figures_hands (Ok f) = record { number = accepted; place = 0; figures = f }
figures_hands (Err r) =
    record {
      number = refusal_number r.refusal;
      place = r.value;
      figures = record { totals = no_totals; column = no_column; calls = 0; mean = 0; remainder = 0 };
    }
