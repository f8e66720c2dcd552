-- The levels of a sheet: what one goes on to, step by step, and what holds while its steps are tried one after another. Assumes nothing.
use mathlib.Core.Path.{◌≡◌, refl, sym, ap, ap₂, subst, ◌∙◌}
use mathlib.Core.Logic.{◌≢◌}
use mathlib.Core.Bool.{Bool, true, false, cond}
use mathlib.Core.List.{List, [], ◌∷◌, ◌++◌, map, flatten, append_assoc, append-nil, map-map}
use Prim.Native.Nat.{ℕ, zero, suc, ◌+◌, ◌-◌, ◌≤◌, ◌<◌}
use native.Mathlib.Omega.{arith}
use native.Mathlib.Decide.{dec_lt}
use native.Mathlib.Numerals.{add-one, sub-one}
use lib.ListN.{length, get_or, take, drop, length-drop, drop_of_length-le, get_or-eq_default}
use lib.Seq.{drop-cons, drop_at, take_at, drop-drop}
use Rattle.std.specs.Prelude.{Some}
use Rattle.number.proofs.Table.{get_d_tabulate}
use Rattle.mask.specs.Mask.{full}
use Rattle.store.specs.Log.{places}
use Rattle.text.specs.Put.{Put, each}
use Rattle.text.proofs.Putting.{Putting, put_none, put_room, put_next, put_all}
use Rattle.kind.specs.Step.{in_range}
use Rattle.kind.proofs.Numbers.{more_steps, kind_decoded}
use Rattle.schedule.specs.Record.{header_in_range, step_record, record_length, record_bytes}
use Rattle.schedule.specs.Reader.{step_at, length_at}
use Rattle.schedule.specs.Schedule.{steps_bytes}
use Rattle.schedule.proofs.Laws.{header_size}
use Rattle.schedule.proofs.Records.{record_length_lem, front_length, read_front, read_untested, step_follows}
use Rattle.rules.specs.Report.{moves}
use Rattle.rules.specs.Step.{step, is_due}
use Rattle.rules.specs.Run.{count_limit}
use Rattle.rules.proofs.Actions.{not_due_stays}
use Rattle.rules.proofs.Causes.{cause}
use Rattle.rules.proofs.Counts.{one_call_more}
use Rattle.rules.proofs.Room.{caused_room}
use Rattle.state.specs.Fields.{fields, HasPlaces, count_in, release_in}
use Rattle.state.proofs.Parts.{count_in_lem}
use Rattle.state.proofs.Filling.{step_places, release_in_lem}
use Rattle.call.specs.Steps.{Steps, CanCount}
use Rattle.passes.proofs.Begun.{in_places}
use Rattle.passes.proofs.Reading.{tail_part}
use Rattle.exercises.specs.Sheet.{candidates, if_due, due_lists}
use Rattle.exercises.proofs.Lists.{all_at, gather_gather, map_same}
use Rattle.exercises.proofs.Candidates.{Ranged, candidates_ranged}
use Rattle.exercises.proofs.Holds.{step_short}
use Rattle.sheet.specs.Types.{Step, Header, Context, Store, Release, Outcome, Report, Prefix}
use Rattle.sheet.specs.Level.{text_of, Extends, going_on, level_bytes, Reached}

-- What a level goes on to

-- no step is left: the schedule is whole
pub none_left : (steps : List Step) (k : ℕ) (r : Release) (bytes : List ℕ) → k ≡ 0 → going_on steps k r bytes ≡ bytes
unfolding going_on due_lists flatten
none_left steps zero r bytes e = append-nil (bytes ++ []) ∙ append-nil bytes
none_left steps (suc k) r bytes e = absurd (omega arith)

-- what a step goes on to, if it is due
abbrev pub branch : List Step → ℕ → Release → List ℕ → Step → List ℕ
branch steps k r bytes s = cond (is_due r s) (going_on steps k (step r s).next (bytes ++ record_bytes (step_record s))) []

each_flatten : {A : Type 0} (f : A → List ℕ) (l : List A) → flatten (map f l) ≡ each f l
unfolding flatten each
each_flatten f [] = refl
each_flatten f (x ∷ l) = ap (λ w. f x ++ w) (each_flatten f l)

one_branch : (bytes : List ℕ) (s : Step) (b : Bool) (l : List (List Step))
    → flatten (map (λ ss. bytes ++ steps_bytes ss) (cond b (map (λ ss. s ∷ ss) l) [])) ≡ cond b (flatten (map (λ ss. (bytes ++ record_bytes (step_record s)) ++ steps_bytes ss) l)) []
unfolding flatten
one_branch bytes s true l =
    ap flatten
    (map-map (λ ss. bytes ++ steps_bytes ss) (λ ss. s ∷ ss) l
    ∙ map_same (λ ss. bytes ++ (record_bytes (step_record s) ++ steps_bytes ss)) (λ ss. (bytes ++ record_bytes (step_record s)) ++ steps_bytes ss)
    (λ ss. sym (append_assoc bytes (record_bytes (step_record s)) (steps_bytes ss))) l)
one_branch bytes s false l = refl

one_more_lem : (steps : List Step) (k : ℕ) (r : Release) (bytes : List ℕ) → going_on steps (suc k) r bytes ≡ each (branch steps k r bytes) steps
unfolding going_on due_lists
one_more_lem steps k r bytes =
    gather_gather (λ ss. bytes ++ steps_bytes ss) (λ s. if_due r s (due_lists steps k (step r s).next)) steps
    ∙ ap flatten
    (map_same (λ s. flatten (map (λ ss. bytes ++ steps_bytes ss) (if_due r s (due_lists steps k (step r s).next)))) (branch steps k r bytes)
    (λ s. one_branch bytes s (is_due r s) (due_lists steps k (step r s).next)) steps)
    ∙ each_flatten (branch steps k r bytes) steps

some_left : (steps : List Step) (k : ℕ) (r : Release) (bytes : List ℕ) → k ≢ 0 → going_on steps k r bytes ≡ each (branch steps (k - 1) r bytes) steps
some_left steps zero r bytes ne = absurd (ne refl)
some_left steps (suc k) r bytes ne = one_more_lem steps k r bytes ∙ ap (λ j. each (branch steps j r bytes) steps) (sym (sub-one (suc k)))

-- a step in range is the one that its bytes begin with
first_is : (h : Header) → header_in_range h ≡ true → (s : Step) → in_range h.n s ≡ true → (rest : List ℕ)
    → (step_at (record_bytes (step_record s) ++ rest) ≡ s) × (length_at (record_bytes (step_record s) ++ rest) ≡ record_length (step_record s))
first_is h g s q rest =
    let x = read_untested (record_bytes (step_record s) ++ rest) (Some h) (step_record s) (record_length (step_record s)) (read_front (Some h) (step_record s) rest (step_follows h s g q)) in
    (sym x.0 ∙ kind_decoded s, sym x.1)

-- What holds while the steps are tried: `p` is the place of the next one's record, and `index` its own. The numbers are those that the level started from

module _ (e : Prefix) (l : List ℕ) (store : Store) (steps : List ℕ) (c : Context) (left : ℕ) where
  abbrev pub goes : Step → List ℕ
  goes = branch (candidates c.header.n) (left - 1) (release_in l store) (text_of e)

  pub record Trying (out₀ : List ℕ) (at : ℕ) (out numbers : List ℕ) (place p : ℕ) : Type 0 where
    pub index : ℕ
    pub within : p ≤ length steps
    pub here : drop p steps ≡ steps_bytes (drop index (candidates c.header.n))
    pub same_numbers : numbers ≡ l
    pub putting : Putting goes (candidates c.header.n) out₀ at out place index

module _ {e : Prefix} {l : List ℕ} {store : Store} {steps : List ℕ} {c : Context} {left : ℕ} (g : Reached e l store steps c left) (some : left ≢ 0) where
  abbrev all : List Step
  all = candidates c.header.n

  abbrev r : Release
  r = release_in l store

  abbrev tries : Step → List ℕ
  tries = goes e l store steps c left

  whole : level_bytes e l store c left ≡ each tries all
  whole = some_left all left r (text_of e) some

  pub begins : (out : List ℕ) (at : ℕ) → Trying e l store steps c left out at out l at 0
  begins out at = record { index = 0; within = omega arith; here = g.records; same_numbers = refl; putting = put_none tries all out at }

  pub arrived : {out₀ out numbers : List ℕ} {at place p : ℕ} → Trying e l store steps c left out₀ at out numbers place p → length steps ≤ p → Put out₀ at (level_bytes e l store c left) place out
  arrived {out₀} {out} {numbers} {at} {place} {p} t end = rw whole (put_all tries all out₀ at out place t.index t.putting done)
    where
      none : length (steps_bytes (drop t.index all)) ≡ 0
      none = sym (ap length t.here) ∙ ap length (drop_of_length-le steps end)

      none_of : (ss : List Step) → length (steps_bytes ss) ≡ 0 → length ss ≡ 0
      none_of [] q = refl
      none_of (s ∷ ss) q = absurd (omega (arith, q, front_length (step_record s) (steps_bytes ss)))

      done : length all ≤ t.index
      done = omega (arith, none_of (drop t.index all) none, length-drop t.index all)

  -- the release that the level starts from
  same_mask : full r.n ≡ c.all
  same_mask = ap full g.same_n ∙ sym g.mask

  has : HasPlaces r
  has = in_places l store

  calls_of_lem : (p : ℕ) → p < suc places → get_or r.calls p 0 + left < count_limit
  calls_of_lem p q = rw (get_d_tabulate (suc places) (count_in l) p 0 q) (g.countable p q)

  -- One turn

  module _ {out₀ out numbers : List ℕ} {at place p : ℕ} (t : Trying e l store steps c left out₀ at out numbers place p) (more : p < length steps) where
    pub there : t.index < length all
    there = go (dec_lt t.index (length all))
      where
        go : Dec (t.index < length all) → t.index < length all
        go (yes l) = l
        go (no l) =
            let none : drop t.index all ≡ [] = drop_of_length-le all {i = t.index} (omega (arith, l)) in
            absurd (omega (arith, length-drop p steps, ap length (t.here ∙ ap steps_bytes none), more))

    -- the step that is tried
    abbrev pub tried : Step
    tried = get_or all t.index Step.Start

    abbrev later : List Step
    later = drop (suc t.index) all

    ranged : in_range c.header.n tried ≡ true
    ranged = all_at (Ranged c.header.n) all Step.Start (candidates_ranged c.header.n) t.index there

    first : drop p steps ≡ record_bytes (step_record tried) ++ steps_bytes later
    first = t.here ∙ ap steps_bytes (drop-cons all t.index Step.Start there)

    -- what the code takes from the rest of the records

    pub step_here : step_at (take (length steps - p) (drop p steps)) ≡ tried
    step_here = ap step_at (tail_part steps p ∙ first) ∙ (first_is c.header g.header tried ranged (steps_bytes later)).0

    pub size_here : length_at (take (length steps - p) (drop p steps)) ≡ record_length (step_record tried)
    size_here = ap length_at (tail_part steps p ∙ first) ∙ (first_is c.header g.header tried ranged (steps_bytes later)).1

    added_here : take (record_length (step_record tried)) (drop p steps) ≡ record_bytes (step_record tried)
    added_here = ap (take (record_length (step_record tried))) first ∙ take_at (record_bytes (step_record tried)) (steps_bytes later) (record_length (step_record tried)) (record_length_lem (step_record tried))

    -- and what is added to the schedule
    pub extends_here : (size : ℕ) → size ≡ record_length (step_record tried) → {f : Prefix} → Extends e (take (p + size - p) (drop p steps)) f
        → Extends e (record_bytes (step_record tried)) f
    extends_here size q {f} x =
        let cut : p + size - p ≡ record_length (step_record tried) = omega (arith, q) in
        subst (λ b. Extends e b f) (ap (λ j. take j (drop p steps)) cut ∙ added_here) x

    pub fits : p + record_length (step_record tried) ≤ length steps
    fits = omega (arith, length-drop p steps, ap length first, front_length (step_record tried) (steps_bytes later), more)

    pub short : record_length (step_record tried) ≤ 3
    short = omega (arith, step_short tried, record_length_lem (step_record tried))

    pub in_places_too : in_range places tried ≡ true
    in_places_too = more_steps c.header.n places (header_size c.header g.header).1 tried ranged

    represented : numbers ≡ fields r
    represented = t.same_numbers ∙ g.numbers

    pub can_count : CanCount numbers
    can_count q h = rw (represented, count_in_lem r has q h) (omega (arith, calls_of_lem q h))

    here_next : drop (p + record_length (step_record tried)) steps ≡ steps_bytes later
    here_next =
        sym (drop-drop (record_length (step_record tried)) p steps) ∙ ap (drop (record_length (step_record tried))) first
        ∙ drop_at (record_bytes (step_record tried)) (steps_bytes later) (record_length (step_record tried)) (record_length_lem (step_record tried))

    -- what the step puts, and then the next one is tried
    next_one : {out' : List ℕ} {place' : ℕ} (bytes : List ℕ) → bytes ≡ tries tried → Put out place bytes place' out' → (numbers' : List ℕ) → numbers' ≡ l
        → Trying e l store steps c left out₀ at out' numbers' place' (p + record_length (step_record tried))
    next_one {out'} {place'} bytes same put numbers' q =
        record {
          index = t.index + 1;
          within = fits;
          here = here_next ∙ ap (λ j. steps_bytes (drop j all)) (sym (add-one t.index));
          same_numbers = q;
          putting =
              rw (put.leaves, put.ends, same) (put_next tries all out₀ at out place t.index t.putting Step.Start there);
        }

    module _ {o : Outcome} {b : Bool} {k : List ℕ} {left-store : Store} (leads : Steps c.all (λ r. step r tried) numbers store o b k left-store) where
      led : (o ≡ (step r tried).outcome) × (k ≡ fields (step r tried).next) × (left-store ≡ (step r tried).next.store) × (b ≡ (step r tried).closed)
      led = leads r has same_mask represented refl

      -- a step that is not due
      pub stayed : moves o ≡ false → Trying e l store steps c left out₀ at out k place (p + record_length (step_record tried))
      stayed idle =
          let no : is_due r tried ≡ false = sym (ap moves led.0) ∙ idle in
          let same = led.1 ∙ ap (λ (x : Report). fields x.next) (not_due_stays r tried no) ∙ sym g.numbers in
          next_one [] (sym (ap (λ d. cond d (going_on all (left - 1) (step r tried).next (text_of e ++ record_bytes (step_record tried))) []) no)) (record { ends = omega arith; leaves = refl }) k same

      -- a step that is due, and the schedule with it
      module _ (due : moves o ≡ true) {f : Prefix} (x : Extends e (record_bytes (step_record tried)) f) where
        release_is : release_in k left-store ≡ (step r tried).next
        release_is =
            ap₂ release_in led.1 led.2
            ∙ release_in_lem (step r tried).next (step_places r tried has) (λ q. small q (dec_lt q (suc places)))
          where
            small : (q : ℕ) → Dec (q < suc places) → get_or (step r tried).next.calls q 0 < 65536
            small q (yes h) = omega (arith, one_call_more r tried q, calls_of_lem q h)
            small q (no h) = rw (get_or-eq_default (step r tried).next.calls 0 {n = q} (omega (arith, h, (step_places r tried has).calls))) (omega arith)

        goes_on : level_bytes f k left-store c (left - 1) ≡ tries tried
        goes_on =
            ap₂ (λ (y : Release) (b : List ℕ). going_on all (left - 1) y b) release_is x.text
            ∙ sym (ap (λ d. cond d (going_on all (left - 1) (step r tried).next (text_of e ++ record_bytes (step_record tried))) []) (sym (ap moves led.0) ∙ due))

        pub reaches : Reached f k left-store steps c (left - 1)
        reaches =
            record {
              size = x.size;
              short = omega (arith, x.long, g.short, short, record_length_lem (step_record tried), some);
              header = g.header;
              mask = g.mask;
              records = g.records;
              numbers = led.1 ∙ ap fields (sym release_is);
              same_n = ap (λ (y : Release). y.n) release_is ∙ (caused_room r (cause r tried)).same_n ∙ g.same_n;
              countable = λ q h. omega (arith, sym (get_d_tabulate (suc places) (count_in k) q 0 h) ∙ ap (λ (y : Release). get_or y.calls q 0) release_is, one_call_more r tried q, calls_of_lem q h, some);
            }

        pub has_room : at + length (level_bytes e l store c left) ≤ length out₀ → place + length (level_bytes f k left-store c (left - 1)) ≤ length out
        has_room enough =
            omega (arith, ap length goes_on, put_room tries all out₀ at out place t.index t.putting Step.Start there, ap length whole, t.putting.same, enough)

        pub went : {out' : List ℕ} {place' : ℕ} → Put out place (level_bytes f k left-store c (left - 1)) place' out' → Trying e l store steps c left out₀ at out' l place' (p + record_length (step_record tried))
        went put = next_one (level_bytes f k left-store c (left - 1)) goes_on put l refl
