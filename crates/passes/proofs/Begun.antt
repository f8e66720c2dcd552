-- What the second pass starts from and leaves: of any release, and of the fresh one of a schedule's header. Assumes nothing.
use mathlib.Core.Path.{◌≡◌, refl, sym, ap, ap₂, ◌∙◌}
use mathlib.Core.List.{List, [], ◌∷◌, flatten}
use Prim.Native.Nat.{ℕ, suc, ◌+◌, ◌*◌, ◌≤◌, ◌<◌}
use native.Mathlib.Omega.{arith}
use native.Mathlib.Decide.{dec_lt}
use lib.ListN.{length, get_or, get_or-eq_default}
use Rattle.std.specs.Prelude.{Ok}
use Rattle.number.proofs.Table.{length_tabulate, get_d_tabulate}
use Rattle.store.specs.Log.{places}
use Rattle.schedule.specs.Record.{header_record, step_record, record_length}
use Rattle.schedule.specs.Schedule.{read_schedule, steps_bytes}
use Rattle.schedule.proofs.Records.{front_length}
use Rattle.rules.specs.State.{types}
use Rattle.rules.specs.Step.{step}
use Rattle.rules.specs.Run.{after, count_limit, calls_made}
use Rattle.rules.proofs.Agreement.{replicate_all}
use Rattle.rules.proofs.Counts.{calls_counted, calls_by_bytes}
use Rattle.rules.proofs.Room.{after_room}
use Rattle.state.specs.Fields.{fields, HasPlaces, n_in, message_in, site_in, count_in, release_in}
use Rattle.state.proofs.Parts.{count_in_lem}
use Rattle.state.proofs.Filling.{fresh_places, release_in_lem}
use Rattle.passes.specs.Types.{Step, Header, Context, Release, Store}
use Rattle.passes.specs.Pass.{validated, reading_from, steps_of, fresh_of, Ready, Leaves}
use Rattle.passes.proofs.Passed.{passed, stand}

-- Of any release

pub after_places : (r : Release) → HasPlaces r → (steps : List Step) → HasPlaces (after r steps)
after_places r has steps =
    let same = after_room r steps in
    record { sites = same.sites ∙ has.sites; messages = same.messages ∙ has.messages; calls = same.calls ∙ has.calls }

-- a counted call has a record of three bytes
pub calls_most : (r : Release) (steps : List Step) (p : ℕ) → 3 * get_or (after r steps).calls p 0 ≤ 3 * get_or r.calls p 0 + length (steps_bytes steps)
calls_most r [] p = omega arith
calls_most r (s ∷ ss) p = omega (arith, calls_most (step r s).next ss p, calls_by_bytes r s p, front_length (step_record s) (steps_bytes ss))

-- numbers and a store represent a release with a place for each
pub in_places : (l : List ℕ) (store : Store) → HasPlaces (release_in l store)
in_places l store =
    record { sites = length_tabulate places (site_in l); messages = length_tabulate types (message_in l); calls = length_tabulate (suc places) (count_in l) }

module _ {s : List ℕ} {start : ℕ} {c : Context} {count : ℕ} {l : List ℕ} {store : Store} (g : Ready s start c count l store) where
  abbrev steps : List Step
  steps = steps_of (reading_from s c.header start)

  abbrev left : Release
  left = after (release_in l store) steps

  pub left_places : HasPlaces left
  left_places = after_places (release_in l store) (in_places l store) steps

  -- every count stays below its limit
  pub left_calls : (p : ℕ) → get_or left.calls p 0 < count_limit
  left_calls p = go (dec_lt p (suc places))
    where
      go : Dec (p < suc places) → get_or left.calls p 0 < count_limit
      go (yes q) =
          omega (
            arith,
            calls_most (release_in l store) steps p,
            (stand s start c count g.steps).bytes,
            get_d_tabulate (suc places) (count_in l) p 0 q,
            g.countable p q,
          )
      go (no ne) = rw (get_or-eq_default left.calls 0 {n = p} (omega (arith, left_places.calls))) (omega arith)

  -- the numbers and the store that are left represent the release that the steps lead to
  pub left_release : {before : List ℕ} {end : Store} {numbers report : List ℕ} → Leaves (release_in l store) steps before end numbers report → release_in numbers end ≡ left
  left_release leaves = ap₂ release_in leaves.numbers leaves.store ∙ release_in_lem left left_places (λ p. omega (arith, left_calls p))

-- Of a schedule that was validated, from the fresh release of its header

module _ (h : Header) where
  pub no_calls_lem : (p : ℕ) → get_or (fresh_of h).calls p 0 ≡ 0
  no_calls_lem p = replicate_all (λ k. k ≡ 0) (suc places) p 0 refl

  -- so its counts are the calls that the rules count
  pub run_counted : (steps : List Step) (p : ℕ) → p < suc places → get_or (after (fresh_of h) steps).calls p 0 ≡ calls_made p (fresh_of h) steps
  run_counted steps p g = omega (arith, calls_counted (fresh_of h) steps p (omega arith), no_calls_lem p)

  -- the numbers of the fresh release represent it
  pub fresh_back : release_in (fields (fresh_of h)) (fresh_of h).store ≡ fresh_of h
  fresh_back = release_in_lem (fresh_of h) (fresh_places h.n h.votes) (λ p. omega (arith, no_calls_lem p))

  same_n : n_in (fields (fresh_of h)) ≡ h.n
  unfolding fields flatten
  same_n = refl

  -- the release after some steps has its places, and no count is more than a third of their bytes

  pub run_places : (steps : List Step) → HasPlaces (after (fresh_of h) steps)
  run_places steps = after_places (fresh_of h) (fresh_places h.n h.votes) steps

  pub run_calls : (steps : List Step) (p : ℕ) → 3 * get_or (after (fresh_of h) steps).calls p 0 ≤ length (steps_bytes steps)
  run_calls steps p = omega (arith, calls_most (fresh_of h) steps p, no_calls_lem p)

-- the second pass starts from it, with what the first pass handed on
pub begun : (c : Context) (s : List ℕ) (count : ℕ) → validated (read_schedule s) ≡ Ok (c, count)
    → Ready s (record_length (header_record c.header)) c count (fields (fresh_of c.header)) (fresh_of c.header).store
begun c s count e =
    let h : Header = c.header in
    let x = passed s c count e in
    record {
      within = x.begins;
      header = x.header;
      steps = ap validated x.after_header ∙ e;
      numbers = ap fields (sym (fresh_back h));
      same_n = same_n h;
      countable = λ p g. omega (arith, ap (λ (r : Release). get_or r.calls p 0) (fresh_back h), count_in_lem (fresh_of h) (fresh_places h.n h.votes) p g, no_calls_lem h p, x.short);
    }
