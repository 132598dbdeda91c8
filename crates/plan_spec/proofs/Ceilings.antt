-- 02, CR 4: ceilings at their limits. Each head and each program of the two tables has the answer beside it, by computation. `tests/reference/edges.txt` has more such
-- programs, which the oracle's second reading answers.
use mathlib.Core.Path.{◌≡◌, refl}
use mathlib.Core.List.{List, [], ◌∷◌, ◌++◌, map}
use Prim.Native.Nat.{ℕ, ◌-◌, ◌/◌, ◌^◌}
use lib.ListN.{length}
use Rattle.refusals.specs.Answer.{completed, refused_at}
use Rattle.plan_spec.specs.Plan.{Result, plan_of}
use Rattle.plan_spec.specs.Circuits.{enough}

-- an answer, for a reader: a refusal's number and index, or the dense peak and the longest sizes
pub data Told : Type 0 where
  refusal : (number index : ℕ) → Told
  plan : (dense_peak : ℕ) → (sizes : List ℕ) → Told

abbrev told : Result → Told
told (completed p) = plan p.dense_peak p.sizes
told (refused_at number index) = refusal number index

pub record Case : Type 0 where
  pub ceiling : ℕ
  pub max_k : ℕ
  pub answer : Told

-- ---- heads

-- no records, and buffers that are long enough for none
abbrev bare : Case → Told
bare c = told (plan_of (record { initial_k = 0; max_k = c.max_k; nexpvals = 0; ceiling = c.ceiling }) [] (enough 0))

-- an expectation value, so that nothing is read; initial_k, words and buffers would all be refused
abbrev unread_head : Case → Told
unread_head c =
    told
    (plan_of (record { initial_k = 513; max_k = c.max_k; nexpvals = 1; ceiling = c.ceiling }) (9 ∷ [])
    (record { steps = 0; merges = 0; sizes = 0; rotations = 0; promotions = 0; measurements = 0; groups = 0 }))

-- max_k below, at and above each ceiling
abbrev heads : List Case
heads =
    record { ceiling = 0; max_k = 0; answer = refusal 24 0 }
    ∷ record { ceiling = 0; max_k = 1; answer = refusal 24 0 }
    ∷ record { ceiling = 0; max_k = 62; answer = refusal 24 0 }
    ∷ record { ceiling = 1; max_k = 0; answer = plan (2 ^ 0) [] }
    ∷ record { ceiling = 1; max_k = 1; answer = refusal 1 0 }
    ∷ record { ceiling = 1; max_k = 2; answer = refusal 1 0 }
    ∷ record { ceiling = 8; max_k = 7; answer = plan (2 ^ 7) [] }
    ∷ record { ceiling = 8; max_k = 8; answer = refusal 1 0 }
    ∷ record { ceiling = 8; max_k = 9; answer = refusal 1 0 }
    ∷ record { ceiling = 9; max_k = 8; answer = plan (2 ^ 8) [] }
    ∷ record { ceiling = 9; max_k = 9; answer = refusal 1 0 }
    ∷ record { ceiling = 9; max_k = 10; answer = refusal 1 0 }
    ∷ record { ceiling = 61; max_k = 60; answer = plan (2 ^ 60) [] }
    ∷ record { ceiling = 61; max_k = 61; answer = refusal 1 0 }
    ∷ record { ceiling = 61; max_k = 62; answer = refusal 1 0 }
    ∷ record { ceiling = 62; max_k = 61; answer = plan (2 ^ 61) [] }
    ∷ record { ceiling = 62; max_k = 62; answer = refusal 1 0 }
    ∷ record { ceiling = 62; max_k = 63; answer = refusal 1 0 }
    ∷ record { ceiling = 63; max_k = 62; answer = refusal 24 0 }
    ∷ record { ceiling = 63; max_k = 63; answer = refusal 24 0 }
    ∷ record { ceiling = 63; max_k = 64; answer = refusal 24 0 }
    ∷ record { ceiling = 2 ^ 64 - 1; max_k = 0; answer = refusal 24 0 }
    ∷ record { ceiling = 2 ^ 64 - 1; max_k = 2 ^ 64 - 2; answer = refusal 24 0 }
    ∷ record { ceiling = 2 ^ 64 - 1; max_k = 2 ^ 64 - 1; answer = refusal 24 0 } ∷ []

pub heads_hold : map bare heads ≡ map (λ (c : Case). c.answer) heads
unfolding plan_of
heads_hold = refl

-- where nothing is read the ceiling decides the same
pub unread_heads_hold : map unread_head heads ≡ map (λ (c : Case). c.answer) heads
unfolding plan_of
unread_heads_hold = refl

-- ---- programs, with max_k 8

abbrev rotation : (width x : ℕ) → List ℕ
rotation width x = 0 ∷ width ∷ x ∷ 0 ∷ 0 ∷ 0 ∷ 0 ∷ 0x3ff0_0000_0000_0000 ∷ []

abbrev measurement : (width x pivot : ℕ) → List ℕ
measurement width x pivot = 4 ∷ width ∷ x ∷ 0 ∷ 0 ∷ pivot ∷ 0 ∷ 0 ∷ []

pub record Program : Type 0 where
  pub initial : ℕ
  pub ceiling : ℕ
  pub words : List ℕ
  pub answer : Told

abbrev walked : Program → Told
walked p = told (plan_of (record { initial_k = p.initial; max_k = 8; nexpvals = 0; ceiling = p.ceiling }) p.words (enough (length p.words / 8)))

abbrev programs : List Program
programs =
    -- a rotation that joins as many as the ceiling, and one fewer; at 10 the nine are one fewer
    record { initial = 10; ceiling = 9; words = rotation 10 0x1ff; answer = refusal 14 0 }
    ∷ record { initial = 10; ceiling = 9; words = rotation 10 0xff; answer = plan 256 (8 ∷ 1 ∷ 1 ∷ 1 ∷ 1 ∷ 1 ∷ 1 ∷ 1 ∷ 1 ∷ 1 ∷ []) }
    ∷ record { initial = 10; ceiling = 10; words = rotation 10 0x1ff; answer = plan 256 (9 ∷ 1 ∷ 1 ∷ 1 ∷ 1 ∷ 1 ∷ 1 ∷ 1 ∷ 1 ∷ 1 ∷ []) }
    -- a measurement likewise; 14 comes before 15 and 16, and 12 before 14
    ∷ record { initial = 10; ceiling = 9; words = measurement 10 0x1ff 0; answer = refusal 14 0 }
    ∷ record { initial = 10; ceiling = 9; words = measurement 10 0xff 0; answer = plan 256 (8 ∷ 1 ∷ 1 ∷ 1 ∷ 1 ∷ 1 ∷ 1 ∷ 1 ∷ 1 ∷ 1 ∷ []) }
    ∷ record { initial = 10; ceiling = 9; words = measurement 10 0x1ff 10; answer = refusal 14 0 }
    ∷ record { initial = 10; ceiling = 9; words = measurement 10 0xff 10; answer = refusal 15 0 }
    ∷ record { initial = 10; ceiling = 9; words = measurement 10 0x1ff 9; answer = refusal 14 0 }
    ∷ record { initial = 10; ceiling = 9; words = measurement 11 0x1ff 0; answer = refusal 12 0 }
    -- the second join comes to the ceiling
    ∷ record { initial = 12; ceiling = 10; words = rotation 12 0x1f ++ rotation 12 0x3f0; answer = refusal 14 1 }
    -- the record pass goes by 62: a width above the ceiling is accepted, and 63 refused as 6
    ∷ record { initial = 11; ceiling = 9; words = rotation 11 0x600; answer = plan 256 (1 ∷ 1 ∷ 1 ∷ 1 ∷ 1 ∷ 1 ∷ 1 ∷ 1 ∷ 1 ∷ 2 ∷ 1 ∷ []) }
    ∷ record { initial = 11; ceiling = 9; words = rotation 63 0x600; answer = refusal 6 0 }
    -- at 61 a join of 61 is too large, which 62 has a plan for
    ∷ record { initial = 61; ceiling = 61; words = rotation 61 (2 ^ 61 - 1); answer = refusal 14 0 } ∷ []

pub programs_hold : map walked programs ≡ map (λ (p : Program). p.answer) programs
unfolding plan_of
programs_hold = refl
