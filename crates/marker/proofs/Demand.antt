-- Demand 3 and atomic commitment about the marker's own bytes, from those of the rules: the statements of specs/Demand.antt. Assumes nothing.
use mathlib.Core.Path.{◌≡◌, refl, sym, ap₂, subst, subst₂, ◌∙◌}
use mathlib.Core.Bool.{true}
use mathlib.Core.List.{List, [], ◌∷◌, ◌++◌, map, Memᴰ}
use Prim.Native.Nat.{ℕ, zero, suc, ◌<◌}
use native.Mathlib.Omega.{arith}
use lib.ListN.{length, get_or, take, drop}
use lib.Seq.{split_at}
use Rattle.store.specs.Log.{places}
use Rattle.kind.specs.Step.{AllInRange}
use Rattle.schedule.specs.Record.{header_in_range}
use Rattle.schedule.specs.Schedule.{read_schedule}
use Rattle.schedule.proofs.Laws.{header_size, header_votes}
use Rattle.schedule.proofs.RoundTrip.{steps_kept, read_in_range, few_bytes}
use Rattle.rules.specs.State.{first_of}
use Rattle.rules.specs.Report.{step_byte, outcome_in}
use Rattle.rules.specs.Step.{step}
use Rattle.rules.specs.Run.{outcomes, after, Countable}
use Rattle.rules.specs.Demand.{Demand, EveryYes, SomeAbort}
use Rattle.rules.proofs.Bytes.{byte_says}
use Rattle.rules.proofs.Demand.{demand_holds}
use Rattle.rules.proofs.History.{commitment_holds}
use Rattle.state.proofs.Filling.{fresh_places}
use Rattle.tail.specs.Tail.{tail_of}
use Rattle.passes.specs.Pass.{fresh_of, step_bytes}
use Rattle.passes.proofs.Passed.{bytes_length}
use Rattle.form.specs.Form.{form_of, tail_bytes}
use Rattle.marker.specs.Types.{Step, Header, Release, Outcome, Report}
use Rattle.marker.specs.Demand.{Says, BytesHold, CommitmentSeen, ReportHolds, Marked, MarkedHolds, ListMarked}
use Rattle.marker.proofs.Left.{ran, answers, steps_left_lem, tail_is_left}
use Rattle.marker.proofs.Steps.{byte_at, after_one_more}
use Rattle.marker.proofs.Closed.{closed_holds}
use Rattle.marker.proofs.Counts.{counts_hold}
use Rattle.marker.proofs.TailBytes.{run_few}

byte_outcome : (o : Outcome) (t : Report) → Says o (step_byte t) → t.outcome ≡ o
byte_outcome o t e = sym (byte_says t).0 ∙ e

-- the outcome that a byte says was reported
reported : (r : Release) (steps : List Step) (o : Outcome) (i : ℕ) → i < length steps → Says o (get_or (step_bytes r steps) i 0) → Memᴰ o (outcomes r steps)
reported r [] o i h e = absurd (omega arith)
reported r (s ∷ ss) o zero h e = Memᴰ.head (sym (byte_outcome o (step r s) e))
reported r (s ∷ ss) o (suc i) h e = Memᴰ.tail (reported (step r s).next ss o i (omega arith) e)

module _ (h : Header) (steps : List Step) (d : Demand places h.n h.votes steps) where
  -- what is claimed of the step with that byte
  backed : (o : Outcome) (P : Release → Type 0)
      → ((xs : List Step) (s : Step) (ys : List Step) → steps ≡ xs ++ (s ∷ ys) → (step (after (fresh_of h) xs) s).outcome ≡ o → P (step (after (fresh_of h) xs) s).next)
      → (i : ℕ) → i < length steps → Says o (get_or (step_bytes (fresh_of h) steps) i 0) → P (after (fresh_of h) (take (suc i) steps))
  backed o P claim i l e =
      let s : Step = get_or steps i Step.Start in
      let xs : List Step = take i steps in
      let out : (step (after (fresh_of h) xs) s).outcome ≡ o = byte_outcome o (step (after (fresh_of h) xs) s) (subst (Says o) (byte_at (fresh_of h) steps i Step.Start l) e) in
      subst P (sym (after_one_more (fresh_of h) steps i Step.Start l)) (claim xs s (drop (suc i) steps) (split_at steps i Step.Start l) out)

  of_steps : BytesHold h steps (step_bytes (fresh_of h) steps)
  of_steps =
      let long = bytes_length (fresh_of h) steps in
      record {
        reported = refl;
        agree = λ i j l k c a. d.claims.agree (reported (fresh_of h) steps Outcome.Commit i (omega (arith, long)) c) (reported (fresh_of h) steps Outcome.Abort j (omega (arith, long)) a);
        commit_backed = λ i l e. backed Outcome.Commit (λ (r : Release). EveryYes h.n (first_of r)) d.claims.commit_backed i (omega (arith, long)) e;
        abort_backed = λ i l e. backed Outcome.Abort (λ (r : Release). SomeAbort h.n (first_of r)) d.claims.abort_backed i (omega (arith, long)) e;
        decides = d.claims.decides;
        no_abort = λ yes calm i l e. d.no_abort yes calm (reported (fresh_of h) steps Outcome.Abort i (omega (arith, long)) e);
      }

-- the bytes say what was reported
outcomes_said : (r : Release) (steps : List Step) → map outcome_in (step_bytes r steps) ≡ outcomes r steps
outcomes_said r [] = refl
outcomes_said r (s ∷ ss) = ap₂ (λ (o : Outcome) (os : List Outcome). o ∷ os) (byte_says (step r s)).0 (outcomes_said (step r s).next ss)

seen : (h : Header) (steps : List Step) → header_in_range h ≡ true → AllInRange h.n steps → CommitmentSeen h steps (step_bytes (fresh_of h) steps)
seen h steps g q =
    rw (outcomes_said (fresh_of h) steps) (commitment_holds places h.n h.votes (header_size h g).1 (header_votes h g) steps q)

-- all of it, of the bytes that a run from fresh gives
pub run_holds : (h : Header) (steps : List Step) → header_in_range h ≡ true → AllInRange h.n steps → Countable (after (fresh_of h) steps).calls
    → ReportHolds h steps (step_bytes (fresh_of h) steps) (tail_bytes (form_of h.kind) (tail_of (after (fresh_of h) steps)))
run_holds h steps g q few =
    record {
      demand = of_steps h steps (demand_holds places h.n h.votes (header_size h g).1 steps q);
      commitment = seen h steps g q;
      closed = closed_holds h steps (header_size h g).1 q;
      counts = counts_hold h steps g q few;
    }

pub marked_holds : MarkedHolds
marked_holds report schedule written e =
    let x = ran report (read_schedule schedule) written e in
    let h : Header = x.header in
    let q = read_in_range schedule h x.steps x.accepted in
    let has = fresh_places h.n h.votes in
    let few = run_few h x.steps (few_bytes schedule h x.steps x.accepted) in
    subst (Marked report schedule) (sym x.length_written) (record {
      header = h;
      steps = x.steps;
      accepted = x.accepted;
      length_written = refl;
      holds =
          subst₂ (ReportHolds h x.steps) (sym (steps_left_lem fresh_of report x.accepted has x.room)) (sym (tail_is_left fresh_of report x.accepted has x.room))
          (run_holds h x.steps q.0 q.1 few);
    })

pub list_marked : ListMarked
list_marked h steps g q fits report room =
    let e = steps_kept h steps g q fits in
    let has = fresh_places h.n h.votes in
    (answers fresh_of report e has room, steps_left_lem fresh_of report e has room)
