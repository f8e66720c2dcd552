-- The two passes over a schedule. The first answers its header, with the mask of all participants, and how many steps there are, or the first refusal
-- from the left; the second gives a byte a step and the release that the steps leave. Assumes nothing.
use Rattle.std.specs.Prelude.{◌≡◌, true, List, [], map, ℕ, suc, ◌+◌, ◌-◌, ◌*◌, ◌≤◌, ◌<◌, length, drop, Some, None, Result, Ok, Err}
use Rattle.std.proofs.lemmas.List.Edits.{sets}
use Rattle.number.specs.Refusal.{refused}
use Rattle.mask.specs.Mask.{full}
use Rattle.store.specs.Log.{places}
use Rattle.schedule.specs.Record.{header_in_range}
use Rattle.schedule.specs.Reader.{reader_answers}
use Rattle.schedule.specs.Context.{context_of, first_of, read_with}
use Rattle.schedule.specs.Schedule.{Reading, Accepted, Refused, steps_from, read_schedule}
use Rattle.rules.specs.State.{fresh}
use Rattle.rules.specs.Report.{step_byte}
use Rattle.rules.specs.Run.{reports, after, count_limit}
use Rattle.state.specs.Fields.{fields, n_in, count_in, release_in}
use Rattle.passes.specs.Types.{Step, Header, Context, Store, Release}
use Rattle.passes.specs.Types as types

-- a schedule's header, with the mask of all participants, and how many steps it has; or a refusal and its place
abbrev pub Validated : Type 0
Validated = Result (Context × ℕ) types.Refused

-- the first pass, beside the steps counted before
abbrev pub validated_after : ℕ → Reading → Validated
validated_after before (Accepted h steps) = Ok (context_of h, before + length steps)
validated_after before (Refused k place) = Err (refused k place)

abbrev pub validated : Reading → Validated
validated x = validated_after 0 x

-- the reading of what stands from a place on, after its header
abbrev pub reading_from : List ℕ → Header → ℕ → Reading
reading_from schedule h place = steps_from h place (drop place schedule) 0

-- the second pass: the steps that were read, the release that their header begins, and one byte a step

abbrev pub steps_of : Reading → List Step
steps_of (Accepted h steps) = steps
steps_of (Refused k place) = []

abbrev pub fresh_of : Header → Release
fresh_of h = fresh places h.n h.votes

abbrev pub step_bytes : Release → List Step → List ℕ
step_bytes r steps = map step_byte (reports r steps)

-- Request 2026-05: what the first pass hands on, to the reading of each record and to each step. The mask is that of the header's n, and a record at any
-- place is read with it as the reader reads it under that header
pub record HandsOn (bytes : List ℕ) (c : Context) : Type 0 where
  pub mask : c.all ≡ full c.header.n
  pub reads : (place : ℕ) → read_with (drop place bytes) c ≡ reader_answers (drop place bytes) (Some c.header)

-- So it is from the header of a schedule on, also where a later record is refused; and in the answer of the first pass. Proved in proofs/Passed.antt
pub record RunMask : Type 0 where
  pub header : (bytes : List ℕ) (c : Context) → first_of (reader_answers bytes None) ≡ Ok c → HandsOn bytes c
  pub answer : (bytes : List ℕ) (c : Context) (count : ℕ) → validated (read_schedule bytes) ≡ Ok (c, count) → HandsOn bytes c

-- What the second pass starts from: `count` steps from a place on, with the mask that the first pass handed on, and numbers and a store that
-- represent a release with the header's n. A counted call has a record of three bytes: every count has room for a call in each three of the bytes left
pub record Ready (s : List ℕ) (start : ℕ) (c : Context) (count : ℕ) (l : List ℕ) (store : Store) : Type 0 where
  pub within : start ≤ length s
  pub header : header_in_range c.header ≡ true
  pub steps : validated (reading_from s c.header start) ≡ Ok (c, count)
  pub numbers : l ≡ fields (release_in l store)
  pub same_n : n_in l ≡ c.header.n
  pub countable : (p : ℕ) → p < suc places → 3 * count_in l p + (length s - start) < 3 * count_limit

-- What it leaves of a release and a report: the store and the numbers of the release after the steps, and a byte for each step in the report
pub record Leaves (r : Release) (steps : List Step) (before : List ℕ) (s : Store) (l report : List ℕ) : Type 0 where
  pub store : s ≡ (after r steps).store
  pub numbers : l ≡ fields (after r steps)
  pub bytes : report ≡ sets before 0 (step_bytes r steps)
