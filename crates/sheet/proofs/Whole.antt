-- The whole sheet: what the first level starts from, and what it goes on to. Assumes nothing.
use mathlib.Core.Path.{◌≡◌, refl, sym, ap, ap₂, subst, ◌∙◌}
use mathlib.Core.Bool.{Bool, true, ◌&&◌}
use mathlib.Core.List.{List}
use Prim.Native.Nat.{ℕ, suc, ◌≤◌, ◌<◌}
use native.Mathlib.Omega.{arith}
use lib.Dec.{leb}
use lib.Seq.{length-sets, length-take-le}
use lib.ListN.{length, get_or, take}
use Rattle.std.specs.Prelude.{Result}
use Rattle.number.proofs.Table.{get_d_tabulate}
use Rattle.store.specs.Log.{places}
use Rattle.text.specs.Put.{Put, each}
use Rattle.kind.specs.Kind.{body_length}
use Rattle.schedule.specs.Record.{header_in_range}
use Rattle.schedule.specs.Schedule.{steps_bytes}
use Rattle.schedule.specs.Context.{context_of}
use Rattle.schedule.proofs.Laws.{header_size}
use Rattle.schedule.proofs.WithMask.{handed_on, context_ranged}
use Rattle.writer.specs.Writer.{text_answer, text_left}
use Rattle.state.specs.Fields.{fields, count_in, release_in}
use Rattle.passes.specs.Pass.{fresh_of}
use Rattle.passes.proofs.Begun.{no_calls_lem, fresh_back}
use Rattle.exercises.specs.Sheet.{candidates, sheet_bytes, header_for, in_bounds, most_sites, most_steps, sheet_answers, sheet_leaves}
use Rattle.exercises.specs.Promises.{longest_sheet}
use Rattle.exercises.proofs.Holds.{Bounds, bounds}
use Rattle.exercises.proofs.Fits.{sheet_fits}
use Rattle.sheet.specs.Types.{Kind, Header, Context, Store, Release, Prefix, Refused}
use Rattle.sheet.specs.Level.{choices, choice_bytes, going_on, level_bytes, Begins, Reached, in_bounds_with, InBounds}
use Rattle.sheet.proofs.Bytes.{all_steps, steps_most}

module _ {c : Context} {k : ℕ} (b : InBounds c k) where
  abbrev h : Header
  h = c.header

  -- the bounds, of the header that it is
  same_header : header_for h.n h.votes ≡ h
  same_header = ap (λ (x : Kind). record { kind = x; n = h.n; votes = h.votes }) (sym b.kind)

  within : Bounds h.n h.votes k
  within = bounds h.n h.votes k b.within

  ranged : header_in_range h ≡ true
  ranged = subst (λ (x : Header). header_in_range x ≡ true) same_header within.header

  pub sites : h.n ≤ most_sites
  sites = within.sites

  -- the records of all steps
  pub records : (steps : List ℕ) → steps ≡ each (choice_bytes h.n) choices → steps ≡ steps_bytes (candidates h.n)
  records steps e = e ∙ all_steps h.n (header_size h ranged).0 sites

  -- the fresh release

  module _ {l : List ℕ} {store : Store} (numbers : l ≡ fields (fresh_of h)) (stored : store ≡ (fresh_of h).store) where
    fresh_is : release_in l store ≡ fresh_of h
    fresh_is = ap₂ release_in numbers stored ∙ fresh_back h

    calls_none : (q : ℕ) → q < suc places → count_in l q ≡ 0
    calls_none q g = sym (get_d_tabulate (suc places) (count_in l) q 0 g) ∙ ap (λ (r : Release). get_or r.calls q 0) fresh_is ∙ no_calls_lem h q

    module _ {p : Prefix} (begins : Begins h p) where
      pub starts : (steps : List ℕ) → steps ≡ steps_bytes (candidates h.n) → Reached p l store steps c k
      starts steps all =
          record {
            size = begins.size;
            short = omega (arith, begins.long, ap body_length b.kind, within.few);
            header = ranged;
            mask = ap (λ (x : Context). x.all) b.context ∙ handed_on h ranged;
            records = all;
            numbers = numbers ∙ ap fields (sym fresh_is);
            same_n = ap (λ (r : Release). r.n) fresh_is;
            countable = λ q g. omega (arith, calls_none q g, within.few);
          }

      pub whole : level_bytes p l store c k ≡ sheet_bytes h k
      unfolding going_on
      whole = ap₂ (λ (r : Release) (bytes : List ℕ). going_on (candidates h.n) k r bytes) fresh_is begins.text

-- what was put at the front, and where it ends
pub front_ends : {before after bytes : List ℕ} {end : ℕ} → Put before 0 bytes end after → length bytes ≤ length before → end ≤ length after
front_ends {before} {after} {bytes} {end} p fits = omega (arith, p.ends, ap length p.leaves, length-sets before 0 bytes, fits)

pub front_long : {before after bytes : List ℕ} {end : ℕ} → Put before 0 bytes end after → length bytes ≤ length before → length (take end after) ≡ end
front_long {after} {end} p fits = length-take-le end after (front_ends p fits)

-- what the goals of the first level ask for
pub ruleset first_level = (front_ends, front_long, steps_most, sites, whole)

-- The entry: its test is passed

module _ {n votes : ℕ} {c : Context} (is : c ≡ context_of (header_for n votes)) (k : ℕ) (passed : in_bounds_with c k ≡ true) where
  asked : in_bounds n votes k ≡ true
  asked =
      sym (ap (λ (b : Bool). b && (leb n most_sites && leb k most_steps)) (context_ranged (header_for n votes)))
      ∙ sym (ap (λ (x : Context). in_bounds_with x k) is)
      ∙ passed

  pub there_is : InBounds c k
  there_is = subst (λ (x : Context). InBounds x k) (sym is) (record { kind = refl; context = refl; within = asked })

  pub sheet_short : length (sheet_bytes c.header k) ≤ longest_sheet
  sheet_short = subst (λ (x : Context). length (sheet_bytes x.header k) ≤ longest_sheet) (sym is) (sheet_fits.fits n votes k asked)

  -- the sheet, with what is answered and what is left
  pub written : (buffer : List ℕ) {left sheet : List ℕ} {x : Result ℕ Refused} → sheet ≡ sheet_bytes c.header k
      → (x ≡ text_answer (length buffer) sheet) × (left ≡ text_left buffer sheet)
      → (x ≡ sheet_answers (length buffer) n votes k) × (left ≡ sheet_leaves buffer n votes k)
  written buffer {left} {sheet} {x} same w =
      let bytes : sheet ≡ sheet_bytes (header_for n votes) k = same ∙ ap (λ (y : Context). sheet_bytes y.header k) is in
      rw asked (w.0 ∙ ap (text_answer (length buffer)) bytes, w.1 ∙ ap (text_left buffer) bytes)

-- what the goals of the entry ask for
pub ruleset entry = (front_ends, front_long, there_is, sheet_short)
