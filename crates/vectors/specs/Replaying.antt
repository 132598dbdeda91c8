-- What replaying a list of vectors gives.
use Rattle.std.specs.Prelude.{ℕ, zero, suc, ◌≡◌, Bool, not, ⊤, List, [], ◌∷◌, Result, Ok, Err}
use Rattle.std.specs.List.{count_by}
use Rattle.std.specs.Borrow.{Bor}
use Rattle.vectors.specs.Reading.{Read}
pub use Rattle.vectors.specs.Reading.{words_of}
use Rattle.vectors.specs.declared.Counts.{Counts}
use Rattle.vectors.specs.declared.ReplayError.{ReplayError}
use Rattle.vectors.specs.declared.ReplayError.TheVariants.{Flawed, Memory, Io}

-- what a function returned is what reading gives, unless memory ran out; it reads no input, so no
-- read fails
abbrev pub Replays : Result (Bool × Bor (List ℕ)) ReplayError → Read Bool → Type 0
Replays (Ok x) read = read ≡ Ok (x.0, x.1.now)
Replays (Err (Flawed flaw)) read = read ≡ Err flaw
Replays (Err (Memory error)) read = ⊤
Replays (Err (Io error)) read = ⊥

-- for each of so many vectors whether it agrees, up to the first that cannot be read
abbrev pub agreements : (List ℕ → Read Bool) → ℕ → List ℕ → List Bool
agreements agreement zero ws = []
agreements agreement (suc n) ws =
    elim (agreement ws) [ Ok x ↦ x.0 ∷ agreements agreement n x.1 | Err flaw ↦ [] ]

-- the same of a list that begins with the number of its vectors
abbrev pub agreements_in : (List ℕ → Read Bool) → List ℕ → List Bool
agreements_in agreement [] = []
agreements_in agreement (count ∷ ws) = agreements agreement count ws

-- how many agree, and how many differ
abbrev pub counts_of : List Bool → Counts
counts_of agree = record { agree = count_by (λ b. b) agree; differ = count_by not agree }
