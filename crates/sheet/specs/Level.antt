-- A sheet as the code puts it: the schedules that begin with the same steps, one step fewer at each level. Assumes nothing.
use Rattle.std.specs.Prelude.{◌≡◌, Bool, true, cond, ◌&&◌, ℕ, suc, ◌+◌, ◌*◌, ◌/◌, ◌%◌, ◌≤◌, ◌<◌, leb, length, take}
use mathlib.Core.List.{List, [], ◌++◌, map, flatten}
use Rattle.number.specs.Table.{tabulate}
use Rattle.mask.specs.Mask.{full}
use Rattle.store.specs.Log.{places}
use Rattle.schedule.specs.Record.{header_record, record_by_numbers, header_in_range, record_in_range, record_length, record_bytes}
use Rattle.schedule.specs.Context.{context_of, context_in_range}
use Rattle.schedule.specs.Schedule.{steps_bytes}
use Rattle.rules.specs.Run.{count_limit}
use Rattle.state.specs.Fields.{fields, n_in, count_in, release_in}
use Rattle.exercises.specs.Sheet.{candidates, due_lists, in_bounds, most_sites, most_steps}
use Rattle.sheet.specs.Types.{Kind, Step, Header, Context, Record, Store, Release, Prefix}

-- Kinds 2 to 10, first numbers 0 to 5 and second numbers 0 to 2, each a choice by its number: in ascending order of their bytes. Steps for two sites have
-- no others

abbrev pub choices : List ℕ
choices = tabulate 162 (λ c. c)

abbrev pub record_for : ℕ → Record
record_for c = record_by_numbers (c / 18 + 2) (c / 3 % 6) (c % 3)

-- the bytes of a choice, if the reader yields it under n
abbrev pub choice_bytes : ℕ → ℕ → List ℕ
choice_bytes n c = cond (record_in_range n (record_for c)) (record_bytes (record_for c)) []

-- those of two sites have so many bytes
abbrev pub longest_steps : ℕ
longest_steps = 145

-- a header and three steps have at most so many bytes
abbrev pub longest_exercise : ℕ
longest_exercise = 12

-- the first bytes of a schedule
abbrev pub text_of : Prefix → List ℕ
text_of p = take p.len p.bytes

-- with one step more
pub record Extends (p : Prefix) (added : List ℕ) (next : Prefix) : Type 0 where
  pub size : length next.bytes ≡ longest_exercise
  pub long : next.len ≡ p.len + length added
  pub text : text_of next ≡ text_of p ++ added

-- the bytes of the schedules that begin with some bytes and go on with k of these steps, each due when its turn comes from a release on
unfoldable pub going_on : List Step → ℕ → Release → List ℕ → List ℕ
going_on steps k r bytes = flatten (map (λ ss. bytes ++ steps_bytes ss) (due_lists steps k r))

abbrev pub level_bytes : Prefix → List ℕ → Store → Context → ℕ → List ℕ
level_bytes p l store c left = going_on (candidates c.header.n) left (release_in l store) (text_of p)

-- what a level starts from: room for the steps that are left, numbers and a store that represent a release with the header's n, the records of all steps under
-- it, and counts with room for a call at each step
pub record Reached (p : Prefix) (l : List ℕ) (store : Store) (steps : List ℕ) (c : Context) (left : ℕ) : Type 0 where
  pub size : length p.bytes ≡ longest_exercise
  pub short : p.len + 3 * left ≤ longest_exercise
  pub header : header_in_range c.header ≡ true
  pub mask : c.all ≡ full c.header.n
  pub records : steps ≡ steps_bytes (candidates c.header.n)
  pub numbers : l ≡ fields (release_in l store)
  pub same_n : n_in l ≡ c.header.n
  pub countable : (q : ℕ) → q < suc places → count_in l q + left < count_limit

-- a schedule without a step: its header
pub record Begins (h : Header) (p : Prefix) : Type 0 where
  pub size : length p.bytes ≡ longest_exercise
  pub long : p.len ≡ record_length (header_record h)
  pub text : text_of p ≡ record_bytes (header_record h)

-- what is asked of a sheet, by its header with the mask of all participants

abbrev pub in_bounds_with : Context → ℕ → Bool
in_bounds_with c k = context_in_range c && (leb c.header.n most_sites && leb k most_steps)

pub record InBounds (c : Context) (k : ℕ) : Type 0 where
  pub kind : c.header.kind ≡ Kind.Header
  pub context : c ≡ context_of c.header
  pub within : in_bounds c.header.n c.header.votes k ≡ true
