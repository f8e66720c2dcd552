-- Frames: what some bytes begin with, told by their first two; frames one after the other, with their lines; frames determine their lines; and
-- what is marked of an input is determined. Assumes nothing.
use mathlib.Core.Path.{◌≡◌, refl, sym, ap, ap₂, subst, ◌∙◌}
use mathlib.Core.Logic.{◌⊎◌, ⊎_elim}
use mathlib.Core.List.{List, [], ◌∷◌, ◌++◌, append_assoc}
use Prim.Native.Nat.{ℕ, ◌+◌, ◌-◌, ◌/◌, ◌%◌, ◌≤◌, ◌<◌}
use native.Mathlib.Omega.{arith}
use lib.ListN.{length, get_or, take, drop, length-append, length-drop, take-append-drop}
use lib.Seq.{sets, length-sets, length-take-le, take_at, drop_at, take-add, drop-drop, drop-cons, get_or-drop}
use Rattle.std.specs.Prelude.{Option}
use Rattle.std.proofs.Common.{Fits, w8}
use Rattle.number.specs.Low.{low_number}
use Rattle.text.specs.Put.{Put, each}
use Rattle.text.proofs.Putting.{put_then, put_same, put_front, each_append, each_more}
use Rattle.marker.specs.Run.{run_leaves}
use Rattle.passes.proofs.Reading.{tail_part}
use Rattle.frame.specs.Frame.{frame_of, line_of, longest_line, WholeFrame, NoFrame, BeginsWith, frames_of, lines_of, LinesOf, LinesDetermined}
use Rattle.frame.specs.Frame.{FramesThen, reports_left, EachHasRoom, MarkedUpTo, MarkedDetermined}

-- What the first two bytes tell

pub whole : (bytes : List ℕ) (size : ℕ) → ((k : ℕ) → Fits w8 (get_or bytes k 0)) → size ≡ low_number 2 bytes → 2 + size ≤ length bytes
    → WholeFrame bytes size
whole bytes size small e enough =
    let high : get_or (drop 1 bytes) 0 0 ≡ get_or bytes 1 0 = get_or-drop 1 bytes 0 0 in
    let schedule : List ℕ = take size (drop 2 bytes) in
    let long : length schedule ≡ size = length-take-le size (drop 2 bytes) (simp length-drop (omega arith)) in
    let low-byte : get_or bytes 0 0 ≡ length schedule % 256 = omega (arith, long, e, high, small 0) in
    let high-byte : get_or bytes 1 0 ≡ length schedule / 256 = omega (arith, long, e, high, small 0) in
    record {
      schedule = schedule;
      rest = drop size (drop 2 bytes);
      long = long;
      split =
          drop-cons bytes 0 0 (omega arith)
          ∙ ap (λ l. get_or bytes 0 0 ∷ l) (drop-cons bytes 1 0 (omega arith))
          ∙ ap₂ (λ (a : ℕ) (b : ℕ). a ∷ b ∷ drop 2 bytes) low-byte high-byte
          ∙ ap (λ l. length schedule % 256 ∷ length schedule / 256 ∷ l) (sym (take-append-drop size (drop 2 bytes)));
    }

-- the frame that was found in the part from a place on
pub found_in : (input : List ℕ) (at : ℕ) {f g : Option ℕ} → f ≡ g → BeginsWith f (take (length input - at) (drop at input))
    → BeginsWith g (drop at input)
found_in input at {f} {g} e b =
    subst (λ l. BeginsWith g l) (tail_part input at) (subst (λ x. BeginsWith x (take (length input - at) (drop at input))) e b)

-- While frames are marked: those that were used have their lines in the text, and the report is as their runs leave it

pub record Marking (input text₀ report₀ : List ℕ) (used filled : ℕ) (text report : List ℕ) : Type 0 where
  pub schedules : List (List ℕ)
  pub framed : take used input ≡ frames_of schedules
  pub lined : Put text₀ 0 (lines_of schedules) filled text
  pub leaves : report ≡ reports_left report₀ schedules
  pub room : EachHasRoom (length text₀) schedules

pub mark_none : (input text report : List ℕ) → Marking input text report 0 0 text report
unfolding each reports_left
mark_none input text report = record {
  schedules = [];
  framed = refl;
  lined = record { ends = refl; leaves = refl };
  leaves = refl;
  room = λ before after schedule e. absurd (omega (arith, ap length e, length-append before (schedule ∷ after)));
}

-- one schedule more: its run comes after the others, and the lines before any of them are no longer than those before it

left_more : (report : List ℕ) (schedules : List (List ℕ)) (schedule : List ℕ)
    → reports_left report (schedules ++ (schedule ∷ [])) ≡ run_leaves (reports_left report schedules) schedule
unfolding reports_left
left_more report [] schedule = refl
left_more report (s ∷ ss) schedule = left_more (run_leaves report s) ss schedule

lines_before : (schedules before after : List (List ℕ)) (last schedule : List ℕ) → schedules ++ (last ∷ []) ≡ before ++ (schedule ∷ after)
    → length (lines_of before) ≤ length (lines_of schedules)
unfolding each
lines_before schedules [] after last schedule e = omega arith
lines_before [] (b ∷ bs) after last schedule e = absurd (omega (arith, ap length e, length-append bs (schedule ∷ after)))
lines_before (s ∷ ss) (b ∷ bs) after last schedule e =
    let same : s ≡ b = ap (λ l. get_or l 0 []) e in
    omega (
      arith,
      ap (λ x. length (line_of x)) same,
      length-append (line_of b) (lines_of bs),
      length-append (line_of s) (lines_of ss),
      lines_before ss bs after last schedule (ap (drop 1) e),
    )

-- A whole frame in the input, after some bytes that were used

module _ (input : List ℕ) (used size : ℕ) (w : WholeFrame (drop used input) size) where
  split_length : length (drop used input) ≡ 2 + size + length w.rest
  split_length = omega (arith, ap length w.split, length-append w.schedule w.rest, w.long)

  pub frame_within : used + 2 + size ≤ length input
  frame_within = omega (arith, split_length, length-drop used input)

  frame_there : take (2 + size) (drop used input) ≡ frame_of w.schedule
  frame_there = ap (take (2 + size)) w.split ∙ take_at (frame_of w.schedule) w.rest (2 + size) (omega (arith, w.long))

  pub schedule_there : take (used + 2 + size - (used + 2)) (drop (used + 2) input) ≡ w.schedule
  schedule_there =
      ap₂ (λ (n : ℕ) (l : List ℕ). take n l)
      (let z : used + 2 + size - (used + 2) ≡ size = omega arith in z)
      (sym (drop-drop 2 used input) ∙ ap (drop 2) w.split)
      ∙ take_at w.schedule w.rest size w.long

  pub rest_there : drop (used + 2 + size) input ≡ w.rest
  rest_there =
      ap (λ n. drop n input) (let z : used + 2 + size ≡ used + (2 + size) = omega arith in z)
      ∙ sym (drop-drop (2 + size) used input)
      ∙ ap (drop (2 + size)) w.split
      ∙ drop_at (frame_of w.schedule) w.rest (2 + size) (omega (arith, w.long))

  -- its line goes after those before, and its run after theirs
  pub mark_next : {text₀ report₀ text report after left : List ℕ} {filled end : ℕ} → Marking input text₀ report₀ used filled text report
      → filled + longest_line ≤ length text₀
      → Put text filled (line_of (take (used + 2 + size - (used + 2)) (drop (used + 2) input))) end after
      → left ≡ run_leaves report (take (used + 2 + size - (used + 2)) (drop (used + 2) input))
      → Marking input text₀ report₀ (used + 2 + size) end after left
  mark_next {report₀ = report₀} g room p l = record {
    schedules = g.schedules ++ (w.schedule ∷ []);
    framed =
        ap (λ n. take n input) (let z : used + 2 + size ≡ used + (2 + size) = omega arith in z)
        ∙ take-add used (2 + size) input
        ∙ ap₂ (λ (a : List ℕ) (b : List ℕ). a ++ b) g.framed frame_there
        ∙ sym (each_more frame_of g.schedules w.schedule);
    lined = put_same (sym (each_more line_of g.schedules w.schedule)) (put_then g.lined (put_same (ap line_of schedule_there) p));
    leaves = l ∙ ap₂ run_leaves g.leaves schedule_there ∙ sym (left_more report₀ g.schedules w.schedule);
    room = λ before later schedule e. omega (arith, g.lined.ends, lines_before g.schedules before later w.schedule schedule e);
  }

pub marked : {input text₀ report₀ text report : List ℕ} {used filled : ℕ} → Marking input text₀ report₀ used filled text report → used ≤ length input
    → filled ≤ length text → NoFrame (drop used input) ⊎ (length text₀ < filled + longest_line)
    → MarkedUpTo input text₀ report₀ used filled text report
marked g taken fits stops = record {
  schedules = g.schedules;
  taken = taken;
  fits = fits;
  framed = g.framed;
  lined = g.lined;
  leaves = g.leaves;
  room = g.room;
  stops = stops;
}

-- Frames determine their lines

frame_first : (s t rest rest' : List ℕ) → frame_of s ++ rest ≡ frame_of t ++ rest' → (s ≡ t) × (rest ≡ rest')
frame_first s t rest rest' e =
    let long : length s ≡ length t = omega (arith, ap (λ l. get_or l 0 0) e, ap (λ l. get_or l 1 0) e) in
    let after : s ++ rest ≡ t ++ rest' = ap (drop 2) e in (
      sym (take_at s rest (length s) refl) ∙ ap (take (length s)) after ∙ take_at t rest' (length s) (sym long),
      sym (drop_at s rest (length s) refl) ∙ ap (drop (length s)) after ∙ drop_at t rest' (length s) (sym long),
    )

frames_same : (xs ys : List (List ℕ)) → frames_of xs ≡ frames_of ys → xs ≡ ys
unfolding each
frames_same [] [] e = refl
frames_same [] (y ∷ ys) e = absurd (omega (arith, ap length e))
frames_same (x ∷ xs) [] e = absurd (omega (arith, ap length e))
frames_same (x ∷ xs) (y ∷ ys) e =
    let first = frame_first x y (frames_of xs) (frames_of ys) e in
    ap₂ (λ (s : List ℕ) (ss : List (List ℕ)). s ∷ ss) first.0 (frames_same xs ys first.1)

pub lines_determined : LinesDetermined
lines_determined frames text text' a b =
    a.lined ∙ ap lines_of (frames_same a.schedules b.schedules (sym a.framed ∙ b.framed)) ∙ sym b.lined

-- What is marked is determined

-- some schedules are the first of others, and the rest begins with the frame of the next of them
record More (xs ys : List (List ℕ)) (rest : List ℕ) : Type 0 where
  next : List ℕ
  after : List (List ℕ)
  further : List ℕ
  split : ys ≡ xs ++ (next ∷ after)
  begins : rest ≡ frame_of next ++ further

more_after : {x y : List ℕ} {xs ys : List (List ℕ)} {rest : List ℕ} → x ≡ y → More xs ys rest → More (x ∷ xs) (y ∷ ys) rest
more_after e m = record {
  next = m.next;
  after = m.after;
  further = m.further;
  split = ap₂ (λ (s : List ℕ) (ss : List (List ℕ)). s ∷ ss) (sym e) m.split;
  begins = m.begins;
}

none_more : (xs ys : List (List ℕ)) (rest rest' : List ℕ) → frames_of xs ++ rest ≡ frames_of ys ++ rest' → (More xs ys rest → ⊥)
    → (More ys xs rest' → ⊥) → xs ≡ ys
unfolding each
none_more [] [] rest rest' e f g = refl
none_more [] (y ∷ ys) rest rest' e f g =
    let begins = e ∙ append_assoc (frame_of y) (frames_of ys) rest' in
    absurd (f (record { next = y; after = ys; further = frames_of ys ++ rest'; split = refl; begins = begins }))
none_more (x ∷ xs) [] rest rest' e f g =
    let begins = sym e ∙ append_assoc (frame_of x) (frames_of xs) rest in
    absurd (g (record { next = x; after = xs; further = frames_of xs ++ rest; split = refl; begins = begins }))
none_more (x ∷ xs) (y ∷ ys) rest rest' e f g =
    let split = sym (append_assoc (frame_of x) (frames_of xs) rest) ∙ e ∙ append_assoc (frame_of y) (frames_of ys) rest' in
    let first = frame_first x y (frames_of xs ++ rest) (frames_of ys ++ rest') split in
    ap₂ (λ (s : List ℕ) (ss : List (List ℕ)). s ∷ ss) first.0
    (none_more xs ys rest rest' first.1 (λ m. f (more_after first.0 m)) (λ m. g (more_after (sym first.0) m)))

module _ {input text₀ report₀ : List ℕ} where
  module _ {used filled : ℕ} {text report : List ℕ} (m : MarkedUpTo input text₀ report₀ used filled text report) where
    used_length : used ≡ length (frames_of m.schedules)
    used_length = sym (length-take-le used input m.taken) ∙ ap length m.framed

    input_split : input ≡ frames_of m.schedules ++ drop used input
    input_split = sym (take-append-drop used input) ∙ ap (λ l. l ++ drop used input) m.framed

    -- no other outcome goes further
    no_further : {used' filled' : ℕ} {text' report' : List ℕ} (m' : MarkedUpTo input text₀ report₀ used' filled' text' report')
        → More m.schedules m'.schedules (drop used input) → ⊥
    no_further m' x =
        ⊎_elim (λ n. n.none x.next x.further x.begins) (λ full. omega (arith, full, m'.room m.schedules x.after x.next x.split, m.lined.ends)) m.stops

pub marked_determined : MarkedDetermined
marked_determined input text₀ report₀ used filled text report used' filled' text' report' m m' =
    let split = sym (input_split m) ∙ input_split m' in
    let same : m.schedules ≡ m'.schedules =
    none_more m.schedules m'.schedules (drop used input) (drop used' input) split (no_further m m') (no_further m' m) in (
      used_length m ∙ ap (λ ss. length (frames_of ss)) same ∙ sym (used_length m'),
      m.lined.ends ∙ ap (λ ss. 0 + length (lines_of ss)) same ∙ sym m'.lined.ends,
      m.lined.leaves ∙ ap (λ ss. sets text₀ 0 (lines_of ss)) same ∙ sym m'.lined.leaves,
      m.leaves ∙ ap (reports_left report₀) same ∙ sym m'.leaves,
    )

-- Whole frames that were passed over, and what is marked after them

pub record Framed (bytes : List ℕ) : Type 0 where
  pub schedules : List (List ℕ)
  pub framed : bytes ≡ frames_of schedules

pub framed_none : Framed []
unfolding each
framed_none = record { schedules = []; framed = refl }

module _ (input : List ℕ) (at : ℕ) {text₀ report₀ : List ℕ} {used filled : ℕ} {text report : List ℕ}
    (m : MarkedUpTo (take (length input - at) (drop at input)) text₀ report₀ used filled text report) where
  left : MarkedUpTo (drop at input) text₀ report₀ used filled text report
  left = subst (λ l. MarkedUpTo l text₀ report₀ used filled text report) (tail_part input at) m

  same_room : length text ≡ length text₀
  same_room = ap length left.lined.leaves ∙ length-sets text₀ 0 (lines_of left.schedules)

  pub part_within : at ≤ length input → at + used ≤ length input
  part_within h = omega (arith, left.taken, length-drop at input)

  pub part_length_lem : length (take (at + used - at) (drop at input)) ≡ used
  part_length_lem =
      ap (λ n. length (take n (drop at input))) (let z : at + used - at ≡ used = omega arith in z)
      ∙ length-take-le used (drop at input) left.taken

  pub part_lines : LinesOf (take (at + used - at) (drop at input)) (take filled text)
  part_lines = record {
    schedules = left.schedules;
    framed = ap (λ n. take n (drop at input)) (let z : at + used - at ≡ used = omega arith in z) ∙ left.framed;
    lined = put_front left.lined (omega (arith, left.lined.ends, left.fits, same_room));
  }

  none_filled : used ≡ 0 → filled ≡ 0
  unfolding each
  none_filled nothing =
      let none : left.schedules ≡ [] = frames_same left.schedules [] (sym left.framed ∙ ap (λ u. take u (drop at input)) nothing) in
      left.lined.ends ∙ ap (λ ss. 0 + length (lines_of ss)) none

  module _ (g : Framed (take at input)) where
    pub framed_more : Framed (take (at + used) input)
    framed_more = record {
      schedules = g.schedules ++ left.schedules;
      framed =
          take-add at used input
          ∙ ap₂ (λ (a : List ℕ) (b : List ℕ). a ++ b) g.framed left.framed
          ∙ sym (each_append frame_of g.schedules left.schedules);
    }

    -- where there is room and nothing more is marked, no whole frame is left
    pub framed_all : used ≡ 0 → longest_line ≤ length text → FramesThen input (drop at input)
    framed_all nothing room = record {
      schedules = g.schedules;
      split = sym (take-append-drop at input) ∙ ap (λ l. l ++ drop at input) g.framed;
      none =
          ⊎_elim (λ n. subst NoFrame (ap (λ u. drop u (drop at input)) nothing) n)
          (λ full. absurd (omega (arith, none_filled nothing, same_room)))
          left.stops;
    }
