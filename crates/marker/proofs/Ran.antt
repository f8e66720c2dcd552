-- What a run answers and leaves, by what the first pass answered. Assumes nothing.
use mathlib.Core.Path.{◌≡◌, sym, ap, ◌∙◌}
use mathlib.Core.Bool.{cond}
use mathlib.Core.List.{List}
use Prim.Native.Nat.{ℕ, ◌+◌}
use native.Mathlib.Omega.{arith}
use lib.Dec.{ltb}
use lib.ListN.{length}
use lib.Seq.{sets}
use Rattle.std.specs.Prelude.{Ok}
use Rattle.number.proofs.Lists.{sets_append}
use Rattle.schedule.specs.Schedule.{Reading}
use Rattle.writer.specs.Writer.{room_answer}
use Rattle.rules.specs.Run.{after}
use Rattle.tail.specs.Tail.{tail_of}
use Rattle.passes.specs.Pass.{validated, steps_of, step_bytes}
use Rattle.passes.proofs.Passed.{counted, bytes_length}
use Rattle.form.specs.Form.{form_of, tail_bytes}
use Rattle.marker.specs.Types.{Header, Context, Release}
use Rattle.marker.specs.Report.{report_bytes, tail_size}
use Rattle.marker.specs.Run.{reading_answer, reading_leaves}

module _ (start : Header → Release) (x : Reading) where
  module _ (d : Context) (m : ℕ) (c : validated x ≡ Ok (d, m)) where
    abbrev h : Header
    h = d.header

    pub answered : (room : ℕ) → reading_answer room x ≡ room_answer room (m + tail_size h)
    answered room =
        ap (reading_answer room) (counted x d m c).accepted ∙ ap (λ l. room_answer room (l + tail_size h)) (counted x d m c).long

    pub left : (out : List ℕ) → reading_leaves start out x ≡ cond (ltb (length out) (m + tail_size h)) out (sets out 0 (report_bytes h.kind (start h) (steps_of x)))
    left out =
        ap (reading_leaves start out) (counted x d m c).accepted
        ∙ ap (λ l. cond (ltb (length out) (l + tail_size h)) out (sets out 0 (report_bytes h.kind (start h) (steps_of x)))) (counted x d m c).long

    -- the step bytes, and then the tail
    pub whole : (out : List ℕ)
        → sets (sets out 0 (step_bytes (start h) (steps_of x))) m (tail_bytes (form_of h.kind) (tail_of (after (start h) (steps_of x))))
        ≡ sets out 0 (report_bytes h.kind (start h) (steps_of x))
    whole out =
        let bytes : List ℕ = step_bytes (start h) (steps_of x) in
        let tail : List ℕ = tail_bytes (form_of h.kind) (tail_of (after (start h) (steps_of x))) in
        let there : m ≡ 0 + length bytes = omega (arith, bytes_length (start h) (steps_of x), (counted x d m c).long) in
        ap (λ j. sets (sets out 0 bytes) j tail) there ∙ sym (sets_append out 0 bytes tail)

    -- a run from the release that is there already leaves the same
    pub left_from : (r : Release) → r ≡ start h → (out : List ℕ) → reading_leaves (λ _. r) out x ≡ reading_leaves start out x
    left_from r e out =
        let a = (counted x d m c).accepted in
        ap (λ (s : Release). reading_leaves (λ _. s) out x) e ∙ ap (reading_leaves (λ _. start h) out) a ∙ sym (ap (reading_leaves start out) a)
