-- What the first pass tells of what it accepts: a reading by its count, the steps from a place on, and a whole schedule. Assumes nothing.
use mathlib.Core.Path.{◌≡◌, refl, sym, ap, ap₂, subst, ◌∙◌}
use mathlib.Core.Bool.{true}
use mathlib.Core.List.{List, [], ◌∷◌}
use Prim.Native.Nat.{ℕ, suc, ◌-◌, ◌≤◌}
use native.Mathlib.Omega.{arith}
use lib.ListN.{length, drop, length-drop}
use Rattle.std.specs.Prelude.{None, Ok, Err}
use Rattle.number.specs.Refusal as number
use Rattle.mask.specs.Mask.{full}
use Rattle.number.proofs.Laws.{and_left, and_right}
use Rattle.kind.specs.Kind.{is_header}
use Rattle.kind.specs.Step.{AllInRange}
use Rattle.schedule.specs.Record.{header_in_range, header_record, record_length, longest}
use Rattle.schedule.specs.Reader.{reader_answers}
use Rattle.schedule.specs.Context.{context_of}
use Rattle.schedule.specs.Schedule.{Reading, Accepted, Refused, read_schedule, steps_bytes}
use Rattle.schedule.proofs.Records.{read_yielded}
use Rattle.schedule.proofs.Reading.{Says, SaysWhole, read_from_lem, read_says, header_more, steps_few}
use Rattle.schedule.proofs.WithMask.{handed_on, read_same, begins_with}
use Rattle.rules.specs.Step.{step}
use Rattle.passes.specs.Types.{Step, Header, Context, Refusal, Release}
use Rattle.passes.specs.Types as types
use Rattle.passes.specs.Pass.{Validated, validated, reading_from, steps_of, step_bytes, HandsOn, RunMask}
use Rattle.passes.proofs.Reading.{count_same}

-- a byte a step
pub bytes_length : (r : Release) (steps : List Step) → length (step_bytes r steps) ≡ length steps
bytes_length r [] = refl
bytes_length r (s ∷ ss) = ap suc (bytes_length (step r s).next ss)

context_same : (c d : Context) (a b : ℕ) → ◌≡◌ {A = Validated} (Ok (c, a)) (Ok (d, b)) → c ≡ d
context_same c d a b e = let p : ◌≡◌ {A = Context × ℕ} (c, a) (d, b) = cc in ap (λ (x : Context × ℕ). x.0) p

-- what is handed on under a header in range
pub hands_on : (bytes : List ℕ) (h : Header) → header_in_range h ≡ true → HandsOn bytes (context_of h)
hands_on bytes h q = record { mask = handed_on h q; reads = λ place. read_same (drop place bytes) h }

-- a reading whose steps were counted: what is handed on is its header, with the mask of the header's n

pub record Counted (x : Reading) (c : Context) (count : ℕ) : Type 0 where
  pub accepted : x ≡ Accepted c.header (steps_of x)
  pub context : c ≡ context_of c.header
  pub long : length (steps_of x) ≡ count

pub counted : (x : Reading) (c : Context) (count : ℕ) → validated x ≡ Ok (c, count) → Counted x c count
counted (Accepted h steps) c count e =
    let same : context_of h ≡ c = context_same (context_of h) c _ count e in
    record {
      accepted = ap (λ (d : Context). Accepted d.header steps) same;
      context = sym same ∙ ap (λ (d : Context). context_of d.header) same;
      long = omega (arith, count_same (context_of h) c _ count e);
    }
counted (Refused k p) c count e = let z : ◌≡◌ {A = ℕ} 0 1 = cc in absurd (omega arith)

-- which is the full set where the header is in range
pub counted_mask : (x : Reading) (c : Context) (count : ℕ) → validated x ≡ Ok (c, count) → header_in_range c.header ≡ true → c.all ≡ full c.header.n
counted_mask x c count e q = ap (λ (d : Context). d.all) (counted x c count e).context ∙ handed_on c.header q

-- a reading that was refused
pub refused : (x : Reading) (k : Refusal) (place : ℕ) → validated x ≡ Err (number.refused k place) → x ≡ Refused k place
refused (Accepted h steps) k place c = let z : ◌≡◌ {A = ℕ} 0 1 = cc in absurd (omega arith)
refused (Refused j at) k place c =
    let p : number.refused j at ≡ number.refused k place = cc in
    ap₂ Refused (ap (λ (r : types.Refused). r.refusal) p) (ap (λ (r : types.Refused). r.value) p)

-- the steps from a place on, all of which were read

pub record Stand (s : List ℕ) (start : ℕ) (h : Header) (count : ℕ) : Type 0 where
  pub ranged : AllInRange h.n (steps_of (reading_from s h start))
  pub bytes : length (steps_bytes (steps_of (reading_from s h start))) ≡ length s - start
  pub few : count ≤ length s - start

pub stand : (s : List ℕ) (start : ℕ) (c : Context) (count : ℕ) → validated (reading_from s c.header start) ≡ Ok (c, count) → Stand s start c.header count
stand s start c count e =
    let h : Header = c.header in
    let x = counted (reading_from s h start) c count e in
    let y = subst (Says h start (drop start s)) x.accepted (read_from_lem h start (drop start s)) in
    let all = y.2 ∙ length-drop start s in
    record { ranged = y.1; bytes = all; few = omega (arith, x.long, steps_few (steps_of (reading_from s h start)), all) }

-- a whole schedule: its header, after which the steps begin

pub record Passed (s : List ℕ) (h : Header) : Type 0 where
  pub header : header_in_range h ≡ true
  pub short : length s ≤ longest
  pub begins : record_length (header_record h) ≤ length s
  pub after_header : reading_from s h (record_length (header_record h)) ≡ read_schedule s

pub passed : (s : List ℕ) (c : Context) (count : ℕ) → validated (read_schedule s) ≡ Ok (c, count) → Passed s c.header
passed s c count e =
    let x = counted (read_schedule s) c count e in
    let y = subst (SaysWhole s) x.accepted (read_says s) in
    record {
      header = y.header;
      short = y.short;
      begins = omega (arith, y.long, header_more c.header (steps_bytes (steps_of (read_schedule s))));
      after_header = y.after ∙ sym x.accepted;
    }

-- the header that is read first

read_in_range : (s : List ℕ) (h : Header) → reader_answers s None ≡ Ok (header_record h, record_length (header_record h)) → header_in_range h ≡ true
read_in_range s h e =
    let follows = (read_yielded s None (header_record h) (record_length (header_record h)) e).follows in
    rw (and_left (is_header h.kind) _ follows) at (and_right (is_header h.kind) _ follows)

pub run_mask : RunMask
run_mask =
    record {
      header = λ s c e. let b = begins_with s c e in rw b.context (hands_on s c.header (read_in_range s c.header b.read));
      answer = λ s c count e. rw (counted (read_schedule s) c count e).context (hands_on s c.header (passed s c count e).header);
    }
