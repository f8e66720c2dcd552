-- A sheet is a class file: cut at its headers it gives back its schedules, and each is read to its steps. Assumes nothing.
use mathlib.Core.Path.{◌≡◌, sym, ap, ◌∙◌}
use mathlib.Core.List.{List, [], ◌∷◌, map, flatten, map-map}
use Prim.Native.Nat.{ℕ, ◌≤◌, ◌<◌}
use native.Mathlib.Omega.{arith}
use lib.ListN.{length, length-map}
use Rattle.schedule.specs.Record.{longest}
use Rattle.schedule.specs.Schedule.{schedule_bytes}
use Rattle.passes.specs.Pass.{fresh_of}
use Rattle.parts.specs.Parts.{parts}
use Rattle.figures.specs.Class.{Schedule, read_class, bytes_of, class_bytes, AllSchedulesInRange}
use Rattle.figures.proofs.Kept.{class_kept, parts_bytes}
use Rattle.exercises.specs.Types.{Step, Header}
use Rattle.exercises.specs.Sheet.{candidates, due_lists, sheet, sheet_bytes, header_for}
use Rattle.exercises.specs.Promises.{schedules_of, IsClass, SheetIsClass}
use Rattle.exercises.proofs.Lists.{All}
use Rattle.exercises.proofs.DueLists.{Listed, lists_sound}
use Rattle.exercises.proofs.Candidates.{all_ranged}
use Rattle.exercises.proofs.Holds.{Bounds, bounds}
use Rattle.exercises.proofs.Fits.{sheet_fits}

module _ {n votes k : ℕ} (b : Bounds n votes k) where
  abbrev h : Header
  h = header_for n votes

  abbrev as_schedule : List Step → Schedule
  as_schedule steps = record { header = h; steps = steps }

  in_range_lem : (lists : List (List Step)) → All (Listed (candidates n) k (fresh_of h)) lists → AllSchedulesInRange (map as_schedule lists)
  in_range_lem [] l = tt
  in_range_lem (ss ∷ lists) l = ((b.header, all_ranged n ss l.0.ours), in_range_lem lists l.1)

  abbrev lists : List (List Step)
  lists = due_lists (candidates n) k (fresh_of h)

  all_in_range : AllSchedulesInRange (schedules_of h k)
  all_in_range = in_range_lem lists (lists_sound (candidates n) k (fresh_of h))

  same_parts : map bytes_of (schedules_of h k) ≡ sheet h k
  same_parts = map-map bytes_of as_schedule lists

  same_bytes : class_bytes (schedules_of h k) ≡ sheet_bytes h k
  same_bytes = ap flatten same_parts

  is_class : 0 < length (sheet h k) → length (sheet_bytes h k) ≤ longest → IsClass h k
  is_class some fits =
      let count : length (schedules_of h k) ≡ length (sheet h k) = length-map lists as_schedule ∙ sym (length-map lists (schedule_bytes h)) in
      record {
        cut = ap parts (sym same_bytes) ∙ parts_bytes (schedules_of h k) all_in_range ∙ same_parts;
        read = ap read_class (sym same_bytes) ∙ class_kept.schedules_kept (schedules_of h k) all_in_range (omega (arith, count, some)) (omega (arith, ap length same_bytes, fits));
      }

pub sheet_is_class : SheetIsClass
sheet_is_class n votes k q = is_class (bounds n votes k q) (sheet_fits.some n votes k q) (omega (arith, sheet_fits.fits n votes k q))
