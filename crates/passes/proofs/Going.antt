-- What holds while the steps run: the rest of the schedule, from the release and the report as they are, gives what the whole gives from the
-- start. Assumes nothing.
use mathlib.Core.Path.{◌≡◌, refl, sym, ap, ap₂, ◌∙◌}
use mathlib.Core.Bool.{Bool, true}
use mathlib.Core.List.{List, ◌∷◌}
use Prim.Native.Nat.{ℕ, suc, ◌+◌, ◌-◌, ◌*◌, ◌≤◌, ◌<◌}
use native.Mathlib.Omega.{arith}
use native.Mathlib.Numerals.{add-one}
use lib.ListN.{length, get_or, set, drop, length-set}
use lib.Seq.{sets}
use Rattle.std.specs.Prelude.{Some, Ok, Err}
use Rattle.number.proofs.Table.{get_d_tabulate}
use Rattle.mask.specs.Mask.{full}
use Rattle.store.specs.Log.{places}
use Rattle.kind.specs.Step.{in_range}
use Rattle.schedule.specs.Record.{record_step, header_in_range}
use Rattle.schedule.specs.Reader.{Read, reader_answers, step_at, length_at}
use Rattle.schedule.specs.Schedule.{with_step}
use Rattle.kind.proofs.Numbers.{more_steps}
use Rattle.schedule.proofs.Laws.{header_size}
use Rattle.schedule.proofs.Records.{read_untested}
use Rattle.rules.specs.Report.{report_byte, step_byte}
use Rattle.rules.specs.Step.{step}
use Rattle.rules.specs.Run.{after, count_limit}
use Rattle.state.specs.Fields.{fields, HasPlaces, count_in, release_in}
use Rattle.state.proofs.Parts.{count_in_lem}
use Rattle.state.proofs.Filling.{step_places}
use Rattle.call.specs.Steps.{Steps, CanCount}
use Rattle.rules.proofs.Causes.{cause}
use Rattle.rules.proofs.Counts.{calls_by_bytes}
use Rattle.rules.proofs.Room.{caused_room}
use Rattle.passes.specs.Types.{Step, Header, Context, Record, Refused, Store, Release, Outcome}
use Rattle.passes.specs.Pass.{reading_from, validated_after, steps_of, step_bytes, Ready, Leaves}
use Rattle.passes.proofs.Passed.{counted_mask}
use Rattle.passes.proofs.Begun.{in_places}
use Rattle.passes.proofs.Reading.{First, read_first, read_refused, none_left, count_more, one_more_lem, step_first}

-- before step i, whose record begins at `at`, from a release r₀ on: `l` are the numbers of the release then, beside its store. Three times a count
-- and the bytes left stay below three times the limit, since a counted call has a record of three bytes
pub record Going (s : List ℕ) (c : Context) (start count : ℕ) (r₀ : Release) (out₀ out : List ℕ) (at i : ℕ) (l : List ℕ) (store : Store) : Type 0 where
  pub within : at ≤ length s
  pub few : i ≤ at
  pub same : length out ≡ length out₀
  pub room : count ≤ length out₀
  pub header : header_in_range c.header ≡ true
  pub mask : c.all ≡ full c.header.n
  pub release : Release
  pub numbers : l ≡ fields release
  pub stored : store ≡ release.store
  pub has_places : HasPlaces release
  pub same_n : release.n ≡ c.header.n
  pub calls : (p : ℕ) → p < suc places → 3 * get_or release.calls p 0 + (length s - at) < 3 * count_limit
  pub left : validated_after i (reading_from s c.header at) ≡ Ok (c, count)
  pub ends : after release (steps_of (reading_from s c.header at)) ≡ after r₀ (steps_of (reading_from s c.header start))
  pub report : sets out i (step_bytes release (steps_of (reading_from s c.header at))) ≡ sets out₀ 0 (step_bytes r₀ (steps_of (reading_from s c.header start)))

pub set_out : (s : List ℕ) (start : ℕ) (c : Context) (count : ℕ) (out l : List ℕ) (store : Store) → Ready s start c count l store
    → count ≤ length out → Going s c start count (release_in l store) out out start 0 l store
set_out s start c count out l store g enough =
    record {
      within = g.within;
      few = omega arith;
      same = refl;
      room = enough;
      header = g.header;
      mask = counted_mask (reading_from s c.header start) c count g.steps g.header;
      release = release_in l store;
      numbers = g.numbers;
      stored = refl;
      has_places = in_places l store;
      same_n = g.same_n;
      calls = λ p h. rw (get_d_tabulate (suc places) (count_in l) p 0 h) (g.countable p h);
      left = g.steps;
      ends = refl;
      report = refl;
    }

module _ {s : List ℕ} {c : Context} {start count : ℕ} {r₀ : Release} {out₀ out : List ℕ} {at i : ℕ} {l : List ℕ} {store : Store} (g : Going s c start count r₀ out₀ out at i l store) (some : at < length s) where
  abbrev h : Header
  h = c.header

  -- a step may be taken: the mask is that of the release's n, and every count has room for one call more
  same_mask : full g.release.n ≡ c.all
  same_mask = ap full g.same_n ∙ sym g.mask

  pub countable : CanCount l
  countable p q = rw (g.numbers, count_in_lem g.release g.has_places p q) (omega (arith, g.calls p q))

  module _ (x : Record) (size : ℕ) (e : reader_answers (drop at s) (Some h) ≡ Ok (x, size)) where
    first : First s h at x size
    first = read_first s h at some x size e

    pub ranged : in_range places (record_step x) ≡ true
    ranged = more_steps h.n places (header_size h g.header).1 (record_step x) first.ranged

    pub fits : at + size ≤ length s
    fits = first.within

    here : validated_after i (with_step (record_step x) (reading_from s h (at + size))) ≡ Ok (c, count)
    here = ap (validated_after i) (sym first.first) ∙ g.left

    pub has_room : i < length out
    has_room = omega (arith, one_more_lem i count c (record_step x) (reading_from s h (at + size)) here, g.room, g.same)

    steps : steps_of (reading_from s h at) ≡ record_step x ∷ steps_of (reading_from s h (at + size))
    steps = ap steps_of first.first ∙ step_first i count c (record_step x) (reading_from s h (at + size)) here

    -- one turn
    pub go_on : (o : Outcome) (b : Bool) (k : List ℕ) (t : Store) → Steps c.all (λ r. step r (record_step x)) l store o b k t
        → Going s c start count r₀ out₀ (set out i (report_byte o b)) (at + size) (i + 1) k t
    go_on o b k t leads =
        let r : Release = g.release in
        let led = leads r g.has_places same_mask g.numbers g.stored in
        let next : Release = (step r (record_step x)).next in
        let byte : ℕ = step_byte (step r (record_step x)) in
        let rest : List Step = steps_of (reading_from s h (at + size)) in
        record {
          within = first.within;
          few = omega (arith, g.few, first.some);
          same = length-set out i (report_byte o b) ∙ g.same;
          room = g.room;
          header = g.header;
          mask = g.mask;
          release = next;
          numbers = led.1;
          stored = led.2;
          has_places = step_places r (record_step x) g.has_places;
          same_n = (caused_room r (cause r (record_step x))).same_n ∙ g.same_n;
          calls = λ p q. omega (arith, calls_by_bytes r (record_step x) p, g.calls p q, first.size, first.within);
          left = sym (count_more i (record_step x) (reading_from s h (at + size))) ∙ here;
          ends = ap (after r) (sym steps) ∙ g.ends;
          report =
              ap₂ (λ (y : Outcome) (z : Bool). sets (set out i (report_byte y z)) (i + 1) (step_bytes next rest)) led.0 led.3
              ∙ ap (λ j. sets (set out i byte) j (step_bytes next rest)) (add-one i)
              ∙ ap (λ y. sets out i (step_bytes r y)) (sym steps)
              ∙ g.report;
        }

  -- no refusal comes
  pub no_refusal : (k : Refused) → reader_answers (drop at s) (Some h) ≡ Err k → ⊥
  no_refusal k e =
      let z : ◌≡◌ {A = ℕ} 0 1 = cc (sym (ap (validated_after i) (read_refused s h at some k e)) ∙ g.left) in
      omega arith

  -- so a record is there, and its step and length are those that the bytes begin with
  pub record Here : Type 0 where
    pub found : Record
    pub size : ℕ
    pub read : reader_answers (drop at s) (Some h) ≡ Ok (found, size)
    pub same_step : step_at (drop at s) ≡ record_step found
    pub same_size : length_at (drop at s) ≡ size

  pub here_read : Here
  here_read = go (reader_answers (drop at s) (Some h)) refl
    where
      go : (x : Read) → reader_answers (drop at s) (Some h) ≡ x → Here
      go (Ok (x, l)) e =
          let y = read_untested (drop at s) (Some h) x l e in
          record { found = x; size = l; read = e; same_step = sym y.0; same_size = sym y.1 }
      go (Err k) e = absurd (no_refusal k e)

-- at the end
pub arrived : {s : List ℕ} {c : Context} {start count : ℕ} {r₀ : Release} {out₀ out : List ℕ} {at i : ℕ} {l : List ℕ} {store : Store} → Going s c start count r₀ out₀ out at i l store
    → length s ≤ at → Leaves r₀ (steps_of (reading_from s c.header start)) out₀ store l out
arrived {s} {c} {start} {count} {r₀} {out₀} {out} {at} {i} {l} {store} g end =
    let e = none_left s c.header at end in
    let r : Release = g.release in
    let ends : r ≡ after r₀ (steps_of (reading_from s c.header start)) = sym (ap (λ x. after r (steps_of x)) e) ∙ g.ends in
    record {
      store = g.stored ∙ ap (λ (t : Release). t.store) ends;
      numbers = g.numbers ∙ ap fields ends;
      bytes = sym (ap (λ x. sets out i (step_bytes r (steps_of x))) e) ∙ g.report;
    }
