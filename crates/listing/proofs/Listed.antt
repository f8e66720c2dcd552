-- What is left in a text, by the parts put into it and by what the first pass answered. Assumes nothing.
use mathlib.Core.Path.{◌≡◌, sym, ap, ap₂, ◌∙◌}
use mathlib.Core.List.{List, ◌++◌}
use Prim.Native.Nat.{ℕ, ◌+◌, ◌≤◌}
use native.Mathlib.Omega.{arith}
use lib.ListN.{length, take, replicate, length-replicate, length-append}
use Rattle.std.specs.Prelude.{Result, Ok}
use Rattle.text.specs.Put.{Put}
use Rattle.text.proofs.Putting.{put_front, put_then}
use Rattle.store.specs.Log.{places}
use Rattle.schedule.specs.Record.{longest}
use Rattle.schedule.specs.Schedule.{Reading}
use Rattle.schedule.proofs.Laws.{header_size}
use Rattle.writer.specs.Writer.{text_answer, text_left, written_hands}
use Rattle.writer.proofs.Texts.{text_fits}
use Rattle.rules.specs.Run.{reports, after}
use Rattle.rules.proofs.Room.{after_room}
use Rattle.state.specs.Fields.{release_in}
use Rattle.passes.specs.Pass.{validated, reading_from, steps_of, step_bytes, Ready, Leaves}
use Rattle.passes.proofs.Passed.{counted, stand, bytes_length}
use Rattle.passes.proofs.Begun.{left_calls, left_release}
use Rattle.listing.specs.Types.{Header, Context, Release, Store, Refused}
use Rattle.listing.specs.Listing.{end_lines, reading_text}
use Rattle.lines.specs.Lines.{byte_lines}
use Rattle.listing.proofs.Laws.{lines_reports, end_few}

-- Steps that were validated, from any release: what a run of them leaves in its buffers

abbrev pub step_room : List ℕ
step_room = replicate {A = ℕ} longest 0

abbrev pub last_room : List ℕ
last_room = replicate {A = ℕ} 320 0

module _ {s : List ℕ} {start : ℕ} {d : Context} {m : ℕ} {l : List ℕ} {store : Store} (g : Ready s start d m l store)
    (short : length s ≤ longest) where
  abbrev r : Release
  r = release_in l store

  abbrev x : Reading
  x = reading_from s d.header start

  pub run_room : m ≤ length step_room
  run_room = omega (arith, (stand s start d m g.steps).few, length-replicate {A = ℕ} longest 0)

  module _ {end : Store} {numbers report : List ℕ} (left : Leaves r (steps_of x) step_room end numbers report) where
    -- the step bytes, at the front of a buffer
    run_bytes : take m report ≡ step_bytes r (steps_of x)
    run_bytes =
        let long = bytes_length r (steps_of x) ∙ (counted x d m g.steps).long in
        let p : Put step_room 0 (step_bytes r (steps_of x)) m report = record { ends = omega arith; leaves = left.bytes } in
        put_front p (omega (arith, run_room))

    pub run_long : length (take m report) ≡ m
    run_long = ap length run_bytes ∙ bytes_length r (steps_of x) ∙ (counted x d m g.steps).long

    module _ {e : Release} (is : e ≡ release_in numbers end) where
      run_end : e ≡ after r (steps_of x)
      run_end = is ∙ left_release g left

      -- the release that the steps leave has short last lines
      pub run_small : (e.n ≤ places) × (length (end_lines e) ≤ 305)
      run_small =
          let small : (after r (steps_of x)).n ≤ places =
          omega (arith, (after_room r (steps_of x)).same_n, g.same_n, header_size d.header g.header) in
          rw run_end (small, end_few (after r (steps_of x)) small (λ p. omega (arith, left_calls g p)))

      module _ {k : ℕ} {last : List ℕ} (p : Put last_room 0 (end_lines e) k last) where
        run_last : take k last ≡ end_lines e
        run_last = put_front p (omega (arith, run_small.1))

        pub run_few : length (take k last) ≤ 305
        run_few = omega (arith, ap length run_last, run_small.1)

        pub run_listed : byte_lines 1 (take m report) ++ take k last ≡ reading_text (λ _. r) x
        run_listed =
            ap₂ (λ (a b : List ℕ). byte_lines 1 a ++ b) run_bytes (run_last ∙ ap end_lines run_end)
            ∙ ap (λ l. l ++ end_lines (after r (steps_of x))) (lines_reports 1 (reports r (steps_of x)))
            ∙ sym (ap (reading_text (λ _. r)) (counted x d m g.steps).accepted)

-- the lines and then the last ones, in a text that has room for them
pub parts_fit : {text between after lines last : List ℕ} {at end needed : ℕ} → needed ≡ length lines + length last → needed ≤ length text
    → Put text 0 lines at between → Put between at last end after
    → (Ok needed ≡ text_answer (length text) (lines ++ last)) × (after ≡ text_left text (lines ++ last))
parts_fit {text} {between} {after} {lines} {last} {at} {end} {needed} e h p q =
    text_fits text (lines ++ last) needed (omega (arith, e, length-append lines last)) h (put_then p q)

-- Equal texts are answered and left alike

pub same_text : {a b : List ℕ} → a ≡ b → (text : List ℕ) {after : List ℕ} {y : Result ℕ Refused}
    → (y ≡ text_answer (length text) a) × (after ≡ text_left text a)
    → (y ≡ text_answer (length text) b) × (written_hands y ≡ written_hands (text_answer (length text) b)) × (after ≡ text_left text b)
same_text e text w =
    let answer = w.0 ∙ ap (text_answer (length text)) e in
    (answer, ap written_hands answer, w.1 ∙ ap (text_left text) e)

-- a run from the release that is there already has the same text
pub text_from : (start : Header → Release) (x : Reading) (d : Context) (m : ℕ) → validated x ≡ Ok (d, m) → (r : Release) → r ≡ start d.header
    → reading_text (λ _. r) x ≡ reading_text start x
text_from start x d m c r e =
    let a = (counted x d m c).accepted in
    ap (λ (s : Release). reading_text (λ _. s) x) e ∙ ap (reading_text (λ _. start d.header)) a ∙ sym (ap (reading_text start) a)
