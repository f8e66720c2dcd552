-- What the proofs of this crate use of the definitions: the lengths of their parts, and a line a step by bytes and by outcomes. Assumes nothing.
use mathlib.Core.Path.{◌≡◌, refl, ap, ap₂}
use mathlib.Core.Bool.{Bool}
use mathlib.Core.List.{List, [], ◌∷◌, ◌++◌, map, append_assoc}
use Prim.Native.Nat.{ℕ, suc, ◌+◌, ◌^◌, ◌≤◌, ◌<◌}
use native.Mathlib.Omega.{arith}
use lib.ListN.{length, get_or, take, length-append}
use Rattle.number.specs.Refusal.{refusal_number}
use Rattle.text.specs.Text.{ascii, decimal, refusal_line}
use Rattle.text.specs.Put.{Put, each}
use Rattle.text.proofs.Laws.{decimal_length, refusal_length}
use Rattle.text.proofs.Putting.{each_few, put_then}
use Rattle.rules.specs.Report.{step_byte}
use Rattle.rules.proofs.Bytes.{byte_says}
use Rattle.store.specs.Log.{empty, places}
use Rattle.lines.specs.Lines.{outcome_text, closed_text, report_text, count_text, log_text, byte_text, byte_lines}
use Rattle.lines.proofs.Laws.{log_three}
use Rattle.listing.specs.Types.{Release, Outcome, Report, Refusal}
use Rattle.listing.specs.Listing.{step_lines, calls_line, logs_line, end_lines}

-- A byte's line is its report's

byte_report : (t : Report) → byte_text (step_byte t) ≡ report_text t
byte_report t = ap₂ (λ (o : Outcome) (closed : Bool). outcome_text o ++ closed_text closed) (byte_says t).0 (byte_says t).1

pub lines_reports : (k : ℕ) (ts : List Report) → byte_lines k (map step_byte ts) ≡ step_lines k ts
unfolding byte_lines step_lines
lines_reports k [] = refl
lines_reports k (t ∷ ts) = ap₂ (λ (x y : List ℕ). decimal k ++ (x ++ y)) (byte_report t) (lines_reports (suc k) ts)

-- Lengths, and parts put one after the other

number_few : (k : Refusal) → refusal_number k ≤ 10
number_few Refusal.EmptyOrTooLong = omega arith
number_few Refusal.UnknownKind = omega arith
number_few Refusal.BodyCutShort = omega arith
number_few Refusal.HeaderMisplaced = omega arith
number_few Refusal.OutOfRange = omega arith
number_few Refusal.TooShort = omega arith
number_few Refusal.NotDue = omega arith
number_few Refusal.WrongRecord = omega arith
number_few Refusal.RefusedByRule = omega arith
number_few Refusal.WrongLength = omega arith

pub refusal_few : (k : Refusal) (place : ℕ) → place < 10 ^ 20 → length (refusal_line (refusal_number k) place) ≤ 35
refusal_few k place h =
    omega (
      arith,
      number_few k,
      refusal_length (refusal_number k) place,
      decimal_length 2 (refusal_number k) (omega arith) (omega (arith, number_few k)),
      decimal_length 20 place (omega arith) h,
    )

module _ (r : Release) where
  -- the five parts that are put
  end_parts : end_lines r
      ≡ ascii "calls" ++ (each count_text (take (suc r.n) r.calls) ++ (ascii "\nlogs" ++ (each log_text (take r.n r.store.logs) ++ ascii "\n")))
  end_parts = ap (λ l. ascii "calls" ++ l) (append_assoc (each count_text (take (suc r.n) r.calls)) (ascii "\n") (logs_line r))

  pub end_long : length (end_lines r) ≡ 11 + length (each count_text (take (suc r.n) r.calls)) + length (each log_text (take r.n r.store.logs))
  end_long =
      let counts : List ℕ = each count_text (take (suc r.n) r.calls) in
      let logs : List ℕ = each log_text (take r.n r.store.logs) in
      omega (arith, length-append (calls_line r) (logs_line r), length-append counts (ascii "\n"), length-append logs (ascii "\n"))

  pub end_put : {t₀ t₁ t₂ t₃ t₄ t₅ : List ℕ} {a b c d e : ℕ}
      → Put t₀ 0 (ascii "calls") a t₁ → Put t₁ a (each count_text (take (suc r.n) r.calls)) b t₂
      → Put t₂ b (ascii "\nlogs") c t₃ → Put t₃ c (each log_text (take r.n r.store.logs)) d t₄
      → Put t₄ d (ascii "\n") e t₅ → Put t₀ 0 (end_lines r) e t₅
  end_put p q s t u = rw end_parts (put_then p (put_then q (put_then s (put_then t u))))

  -- the last lines are short where the counts have at most five digits
  pub end_few : r.n ≤ places → ((p : ℕ) → get_or r.calls p 0 < 100000) → length (end_lines r) ≤ 305
  end_few small few =
      omega (
        arith,
        end_long,
        each_few count_text 0 6 (suc r.n) r.calls (λ p. omega (arith, decimal_length 5 (get_or r.calls p 0) (omega arith) (few p))),
        each_few log_text empty 3 r.n r.store.logs (λ i. omega (arith, log_three (get_or r.store.logs i empty))),
      )
