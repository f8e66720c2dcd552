-- What the parts of a release claim about first records, and that a claim stays true as logs are written. Assumes nothing.
use mathlib.Core.Path.{◌≡◌}
use mathlib.Core.Bool.{Bool, true, false}
use Prim.Native.Nat.{ℕ, ◌<◌}
use native.Mathlib.Omega.{arith}
use Rattle.mask.specs.Mask.{has, insert, full}
use Rattle.mask.proofs.Laws.{has_insert_cases, has_full, has_zero}
use Rattle.rules.specs.Demand.{EveryYes, SomeAbort}
use Rattle.rules.specs.Types.{LogRecord, Yes, Abort, Commit, LogPair}

-- constructors differ
pub true_false : {b : Bool} → b ≡ true → b ≡ false → ⊥
true_false p q = let z : ◌≡◌ {A = ℕ} 0 1 = cc in omega arith

pub yes_abort : {r : LogRecord} → r ≡ Yes → r ≡ Abort → ⊥
yes_abort p q = let z : ◌≡◌ {A = ℕ} 0 1 = cc in omega arith

-- who is heard voted yes
pub record Heard (n : ℕ) (F : ℕ → LogRecord) (h : ℕ) : Type 0 where
  pub each : (j : ℕ) → j < n → has j h ≡ true → F j ≡ Yes

pub excluded : {n : ℕ} {F : ℕ → LogRecord} → EveryYes n F → SomeAbort n F → ⊥
excluded y a = yes_abort (y.each a.at a.below) a.aborted

pub heard_none : (n : ℕ) (F : ℕ → LogRecord) → Heard n F 0
heard_none n F = record { each = λ j h b. absurd (true_false b (has_zero j)) }

pub heard_insert : {n : ℕ} {F : ℕ → LogRecord} {h : ℕ} (i : ℕ) → F i ≡ Yes → Heard n F h → Heard n F (insert i h)
heard_insert {n} {F} {h} i y k = record { each = λ j l b. has_insert_cases (λ x. F x ≡ Yes) i j h y (k.each j l) b }

pub heard_full : {n : ℕ} {F : ℕ → LogRecord} {h : ℕ} → Heard n F h → h ≡ full n → EveryYes n F
heard_full {n} {F} {h} k e = record { each = λ j l. k.each j l (rw e (has_full j n l)) }

-- a log that is written keeps a vote as its first record and a decision as its last
pub record Keep (old new : LogPair) : Type 0 where
  pub yes : old.first ≡ Yes → new.first ≡ Yes
  pub abort : old.first ≡ Abort → new.first ≡ Abort
  pub last_commit : old.last ≡ Commit → new.last ≡ Commit
  pub last_abort : old.last ≡ Abort → new.last ≡ Abort

pub record Keeps (L M : ℕ → LogPair) : Type 0 where
  pub each : (j : ℕ) → Keep (L j) (M j)

pub keep_refl : (l : LogPair) → Keep l l
keep_refl l = record { yes = λ e. e; abort = λ e. e; last_commit = λ e. e; last_abort = λ e. e }

pub keeps_refl : (L : ℕ → LogPair) → Keeps L L
keeps_refl L = record { each = λ j. keep_refl (L j) }

keep_trans : {a b c : LogPair} → Keep a b → Keep b c → Keep a c
keep_trans p q =
    record {
      yes = λ e. q.yes (p.yes e);
      abort = λ e. q.abort (p.abort e);
      last_commit = λ e. q.last_commit (p.last_commit e);
      last_abort = λ e. q.last_abort (p.last_abort e);
    }

pub keeps_trans : {L M N : ℕ → LogPair} → Keeps L M → Keeps M N → Keeps L N
keeps_trans p q = record { each = λ j. keep_trans (p.each j) (q.each j) }

-- a participant that terminates has its own yes in its log, and has not heard itself
pub record Termination (n : ℕ) (F : ℕ → LogRecord) (i h : ℕ) : Type 0 where
  pub own : F i ≡ Yes
  pub others : has i h ≡ false
  pub heard : Heard n F h

pub record Recording (n : ℕ) (F : ℕ → LogRecord) (i : ℕ) : Type 0 where
  pub own : F i ≡ Yes
  pub some : SomeAbort n F

-- what a part of a release may claim
pub data Claim : Type 0 where
  nothing : Claim
  never : Claim
  voted_yes : ℕ → Claim
  every_yes : Claim
  some_abort : Claim
  hears : ℕ → Claim
  terminates : ℕ → ℕ → Claim
  records_abort : ℕ → Claim

abbrev pub Stated : ℕ → (ℕ → LogRecord) → Claim → Type 0
Stated n F nothing = Unit {0}
Stated n F never = ⊥
Stated n F (voted_yes i) = F i ≡ Yes
Stated n F every_yes = EveryYes n F
Stated n F some_abort = SomeAbort n F
Stated n F (hears h) = Heard n F h
Stated n F (terminates i h) = Termination n F i h
Stated n F (records_abort i) = Recording n F i

-- the first records
abbrev pub firsts : (ℕ → LogPair) → ℕ → LogRecord
firsts L j = (L j).first

still_abort : {n : ℕ} {L M : ℕ → LogPair} → Keeps L M → SomeAbort n (firsts L) → SomeAbort n (firsts M)
still_abort k a = record { at = a.at; below = a.below; aborted = (k.each a.at).abort a.aborted }

still_heard : {n : ℕ} {L M : ℕ → LogPair} {h : ℕ} → Keeps L M → Heard n (firsts L) h → Heard n (firsts M) h
still_heard k a = record { each = λ j l b. (k.each j).yes (a.each j l b) }

-- a claim stays true as logs are written
pub still : (n : ℕ) {L M : ℕ → LogPair} → Keeps L M → (c : Claim) → Stated n (firsts L) c → Stated n (firsts M) c
still n k nothing a = tt
still n k never a = a
still n k (voted_yes i) a = (k.each i).yes a
still n k every_yes a = record { each = λ j l. (k.each j).yes (a.each j l) }
still n k some_abort a = still_abort k a
still n k (hears h) a = still_heard k a
still n k (terminates i h) a = record { own = (k.each i).yes a.own; others = a.others; heard = still_heard k a.heard }
still n k (records_abort i) a = record { own = (k.each i).yes a.own; some = still_abort k a.some }
