-- What the code of a step is held to: whatever release the numbers and the store before represent, what is answered, the numbers and the store after
-- are those that a definition of the rules gives for it. Assumes nothing.
use Rattle.std.specs.Prelude.{◌≡◌, Bool, List, ℕ, suc, ◌+◌, ◌<◌, get_or, set}
use Rattle.mask.specs.Mask.{full}
use Rattle.store.specs.Log.{empty, places}
use Rattle.rules.specs.Run.{count_limit}
use Rattle.state.specs.Fields.{fields, counts_from, HasPlaces}
use Rattle.call.specs.Types.{LogPair, Store, Outcome, Release, Report}

-- a step that takes the mask of all participants, with the store before and after it, and whether it closed another's log
abbrev pub Steps : ℕ → (Release → Report) → List ℕ → Store → Outcome → Bool → List ℕ → Store → Type 0
Steps all f before store o closed after next =
    (r : Release) → HasPlaces r → full r.n ≡ all → before ≡ fields r → store ≡ r.store
    → (o ≡ (f r).outcome) × (after ≡ fields (f r).next) × (next ≡ (f r).next.store) × (closed ≡ (f r).closed)

-- the same of a call on log j, by that log alone: with any store that has it, the store after has what the call left
abbrev pub Calls : ℕ → ℕ → (Release → Report) → List ℕ → LogPair → Outcome → Bool → List ℕ → LogPair → Type 0
Calls all j f before log o closed after next =
    (s : Store) → get_or s.logs j empty ≡ log → Steps all f before s o closed after (record { logs = set s.logs j next })

-- every count has room for one call more
abbrev pub CanCount : List ℕ → Type 0
CanCount l = (p : ℕ) → p < suc places → get_or l (counts_from + p) 0 < count_limit
