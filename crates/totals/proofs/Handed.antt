-- What the entry answers of a file hands over what the file must. Assumes nothing.
use mathlib.Core.Path.{◌≡◌, refl}
use mathlib.Core.List.{List}
use Prim.Native.Nat.{ℕ}
use Rattle.figures.specs.Class.{ClassReading, Class, NoClass, read_class}
use Rattle.figures.specs.Figures.{class_answer, class_answers, reading_hands, class_hands}
use Rattle.totals.specs.Handed.{figures_hands}

pub hands : (file : List ℕ) → figures_hands (class_answers file) ≡ class_hands file
hands file = go (read_class file)
  where
    go : (x : ClassReading) → figures_hands (class_answer x) ≡ reading_hands x
    go (Class ss) = refl
    go (NoClass k place) = refl
