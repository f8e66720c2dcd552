-- What a log entry hands over says whether its call wrote the first record: the statement of specs/Entry.antt. Assumes nothing.
use mathlib.Core.Path.{◌≡◌, refl, sym, ◌∙◌}
use mathlib.Core.Logic.{◌≢◌}
use mathlib.Core.Bool.{Bool, true, false, true≢false, false≢true, cond}
use Prim.Native.Nat.{ℕ}
use native.Mathlib.Omega.{arith}
use Rattle.std.specs.Prelude.{Option}
use Rattle.store.specs.Types.{LogRecord, None, Yes, Abort, Commit, LogPair, Logged, Refusal}
use Rattle.store.specs.Log.{is_allowed, log_once, log}
use Rattle.store.specs.Entry.{EntryHanded, done, refused, log_once_takes, log_hands, log_takes, SaysWrote, WroteAsWritten}
use Rattle.store.proofs.Laws.{once_cases, log_cases}

-- the first record is written, and it is as it was

written : (l : LogPair) (h : EntryHanded) → h.wrote ≡ true → l.first ≡ None → h.log.first ≢ None → SaysWrote l h
written l h w e n = record { wrote = λ x. (e, n); not_wrote = λ x. absurd (true≢false (sym w ∙ x)) }

same : (l : LogPair) (h : EntryHanded) → h.wrote ≡ false → h.log.first ≡ l.first → SaysWrote l h
same l h w e = record { wrote = λ x. absurd (false≢true (sym w ∙ x)); not_wrote = λ x. e }

refused_says : (k : Refusal) (l : LogPair) → SaysWrote l (refused k l)
refused_says k l = same l (refused k l) refl refl

-- LogOnce of yes or abort

once_says : (r : LogRecord) (l : LogPair) → r ≢ None → SaysWrote l (done (log_once r l))
once_says r l n = once_cases (λ x. SaysWrote l (done x)) r l (λ e. written l _ refl e n) (same l _ refl refl)

once_takes : (r : LogRecord) (l : LogPair) → SaysWrote l (log_once_takes r l)
once_takes None l = refused_says Refusal.WrongRecord l
once_takes Yes l = once_says Yes l (λ e. let z : ◌≡◌ {A = ℕ} 0 1 = cc in omega arith)
once_takes Abort l = once_says Abort l (λ e. let z : ◌≡◌ {A = ℕ} 0 1 = cc in omega arith)
once_takes Commit l = refused_says Refusal.WrongRecord l

-- Log of abort or commit

log_says : (r : LogRecord) (l : LogPair) → SaysWrote l (log_hands (log r l) l)
log_says r l = log_cases (λ (p : Option Logged). SaysWrote l (log_hands p l)) r l (refused_says Refusal.RefusedByRule l) (same l _ refl refl)

log_takes_lem : (r : LogRecord) (l : LogPair) → SaysWrote l (log_takes r l)
log_takes_lem None l = refused_says Refusal.WrongRecord l
log_takes_lem Yes l = refused_says Refusal.WrongRecord l
log_takes_lem Abort l = log_says Abort l
log_takes_lem Commit l = log_says Commit l

entry_says : (l : LogPair) (b : Bool) (x : EntryHanded) → SaysWrote l x → SaysWrote l (cond b x (refused Refusal.OutOfRange l))
entry_says l true x p = p
entry_says l false x p = refused_says Refusal.OutOfRange l

pub wrote_as_written : WroteAsWritten
wrote_as_written l r = (entry_says l (is_allowed l) (log_once_takes r l) (once_takes r l), entry_says l (is_allowed l) (log_takes r l) (log_takes_lem r l))
