-- What code that changes the numbers of a release in place is held to: whatever release the numbers before represent, what is answered and the
-- numbers after are those that a definition of the rules gives for it. Assumes nothing.
use Rattle.std.specs.Prelude.{◌≡◌, false, List, ℕ}
use Rattle.mask.specs.Mask.{full}
use Rattle.state.specs.Fields.{fields, HasPlaces}
use Rattle.effect.specs.Types.{Outcome, Release, Report}

-- a change of the release that takes the mask of all its participants
abbrev pub PutsUnder : ℕ → (Release → Release) → List ℕ → List ℕ → Type 0
PutsUnder all f before after = (r : Release) → HasPlaces r → full r.n ≡ all → before ≡ fields r → after ≡ fields (f r)

-- a step that leaves the store as it was, so that it closes no log, and one that takes that mask

abbrev pub Leads : (Release → Report) → List ℕ → Outcome → List ℕ → Type 0
Leads f before o after = (r : Release) → HasPlaces r → before ≡ fields r → (o ≡ (f r).outcome) × (after ≡ fields (f r).next) × (r.store ≡ (f r).next.store) × ((f r).closed ≡ false)

abbrev pub LeadsUnder : ℕ → (Release → Report) → List ℕ → Outcome → List ℕ → Type 0
LeadsUnder all f before o after =
    (r : Release) → HasPlaces r → full r.n ≡ all → before ≡ fields r → (o ≡ (f r).outcome) × (after ≡ fields (f r).next) × (r.store ≡ (f r).next.store) × ((f r).closed ≡ false)
