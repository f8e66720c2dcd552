-- Worked sheets: request 2026-08's own, and how many schedules and bytes each sheet has. One theorem covers the table: proofs/Cases.antt. Assumes nothing.
use Rattle.std.specs.Prelude.{◌≡◌, List, [], ◌∷◌, map, ℕ, length, Result}
use Rattle.number.specs.Refusal.{Handed, hands}
use Rattle.number.specs.Table.{tabulate}
use Rattle.writer.specs.Writer.{written_hands}
use Rattle.exercises.specs.Types.{Refused}
use Rattle.exercises.specs.Sheet.{sheet, sheet_bytes, header_for, sheet_answers}

-- for n = 1 and mask 01: for k = 0 the header alone, for k = 1 `02`, `08 01`, `09 00`, `09 01` after the header

abbrev pub sheets : List (List (List ℕ))
sheets = sheet (header_for 1 0x01) 0 ∷ sheet (header_for 1 0x01) 1 ∷ []

abbrev pub written : List (List (List ℕ))
written =
    ((0x01 ∷ 0x01 ∷ 0x01 ∷ []) ∷ [])
    ∷ (
    (0x01 ∷ 0x01 ∷ 0x01 ∷ 0x02 ∷ [])
    ∷ (0x01 ∷ 0x01 ∷ 0x01 ∷ 0x08 ∷ 0x01 ∷ [])
    ∷ (0x01 ∷ 0x01 ∷ 0x01 ∷ 0x09 ∷ 0x00 ∷ [])
    ∷ (0x01 ∷ 0x01 ∷ 0x01 ∷ 0x09 ∷ 0x01 ∷ [])
    ∷ []
    )
    ∷ []

-- how many schedules there are for k = 0 to 3, and how many bytes

abbrev pub counts : ℕ → ℕ → List ℕ
counts n votes = tabulate 4 (λ k. length (sheet (header_for n votes) k))

abbrev pub lengths : ℕ → ℕ → List ℕ
lengths n votes = tabulate 4 (λ k. length (sheet_bytes (header_for n votes) k))

-- outside the bounds: nobody, three sites, a vote beyond n, four steps. That comes before a short buffer, which gets 6 with the length needed

abbrev pub answers : List (Result ℕ Refused)
answers =
    sheet_answers 4000 0 0x00 0
    ∷ sheet_answers 4000 3 0x00 0
    ∷ sheet_answers 4000 1 0x02 0
    ∷ sheet_answers 4000 2 0x04 3
    ∷ sheet_answers 4000 1 0x01 4
    ∷ sheet_answers 0 3 0x00 4
    ∷ sheet_answers 3038 2 0x03 3
    ∷ sheet_answers 3039 2 0x03 3
    ∷ sheet_answers 2 1 0x00 0
    ∷ []

abbrev pub answered : List Handed
answered =
    hands 5 0
    ∷ hands 5 0
    ∷ hands 5 0
    ∷ hands 5 0
    ∷ hands 5 0
    ∷ hands 5 0
    ∷ hands 6 3039
    ∷ hands 0 3039
    ∷ hands 6 3
    ∷ []

pub record CasesHold : Type 0 where
  pub as_written : sheets ≡ written
  pub refusals : map written_hands answers ≡ answered
  -- under each vote mask
  pub one_site : tabulate 2 (counts 1) ≡ tabulate 2 (λ votes. 1 ∷ 4 ∷ 18 ∷ 94 ∷ [])
  pub two_sites : tabulate 4 (counts 2) ≡ tabulate 4 (λ votes. 1 ∷ 6 ∷ 41 ∷ 334 ∷ [])
  pub one_site_bytes : tabulate 2 (lengths 1) ≡ tabulate 2 (λ votes. 3 ∷ 19 ∷ 122 ∷ 852 ∷ [])
  pub two_sites_bytes : tabulate 4 (lengths 2) ≡ tabulate 4 (λ votes. 3 ∷ 29 ∷ 281 ∷ 3039 ∷ [])
