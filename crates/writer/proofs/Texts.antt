-- A whole text in a buffer that has room for it. Assumes nothing.
use mathlib.Core.Path.{◌≡◌, refl, ap, ◌∙◌}
use mathlib.Core.Bool.{false, cond}
use mathlib.Core.List.{List}
use Prim.Native.Nat.{ℕ, ◌≤◌, ◌<◌}
use native.Mathlib.Omega.{arith}
use lib.Dec.{ltb}
use lib.ListN.{length, take}
use lib.Seq.{sets, length-sets}
use borrow.Author.Tests.{lt-ltb, le-ltb}
use Rattle.std.specs.Prelude.{Result, Ok, Err}
use Rattle.std.specs.Result.{result_unwrap_or}
use Rattle.number.specs.Refusal.{refused}
use Rattle.text.specs.Put.{Put}
use Rattle.text.proofs.Putting.{put_front}
use Rattle.writer.specs.Types.{Refusal, Refused}
use Rattle.writer.specs.Writer.{text_answer, text_left}

module _ (text bytes : List ℕ) (needed : ℕ) (e : needed ≡ length bytes) where
  pub text_fits : needed ≤ length text → {end : ℕ} {after : List ℕ} → Put text 0 bytes end after
      → (Ok needed ≡ text_answer (length text) bytes) × (after ≡ text_left text bytes)
  text_fits h p = rw e (simp (le-ltb (length text) (length bytes) (omega arith)) (refl, p.leaves))

-- In a buffer with room for every such text none is refused, and it stands at the front

module _ (text bytes : List ℕ) {most : ℕ} (few : length bytes ≤ most) (room : most ≤ length text) where
  fits : ltb (length text) (length bytes) ≡ false
  fits = le-ltb (length text) (length bytes) (omega arith)

  done : text_answer (length text) bytes ≡ Ok (length bytes)
  done = ap (λ b. cond b (Err (refused Refusal.TooShort (length bytes))) (Ok (length bytes))) fits

  pub never_refused : (k : Refused) → Err k ≡ text_answer (length text) bytes → ⊥
  never_refused k answer =
      let other : ◌≡◌ {A = Result ℕ Refused} (Err k) (Ok (length bytes)) = answer ∙ done in
      let z : ◌≡◌ {A = ℕ} 0 1 = cc (other) in
      omega arith

  pub text_put : (after : List ℕ) (end : ℕ) → Ok end ≡ text_answer (length text) bytes → after ≡ text_left text bytes → Put text 0 bytes end after
  text_put after end answer left =
      let same : ◌≡◌ {A = Result ℕ Refused} (Ok end) (Ok (length bytes)) = answer ∙ done in
      let long : end ≡ length bytes = cc (same) in
      record { ends = omega arith; leaves = left ∙ ap (λ b. cond b text (sets text 0 bytes)) fits }

  pub text_whole : (after : List ℕ) (end : ℕ) → Ok end ≡ text_answer (length text) bytes → after ≡ text_left text bytes
      → (end ≤ length after) × (take end after ≡ bytes)
  text_whole after end answer left =
      let put = text_put after end answer left in
      (omega (arith, put.ends, ap length put.leaves ∙ length-sets text 0 bytes), put_front put (omega arith))

  -- the same by the answer, of whom a refusal would be 0
  pub answer_whole : (after : List ℕ) (y : Result ℕ Refused) → y ≡ text_answer (length text) bytes → after ≡ text_left text bytes
      → (result_unwrap_or y 0 ≤ length after) × (take (result_unwrap_or y 0) after ≡ bytes)
  answer_whole after (Ok end) answer left = text_whole after end answer left
  answer_whole after (Err k) answer left = absurd (never_refused k answer)
