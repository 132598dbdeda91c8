-- Operations as tables of cases write them.
use Rattle.std.specs.Prelude.{ℕ, ◌+◌, ◌^◌, List, [], ◌∷◌, ◌++◌, length, take, replicate}
use Rattle.std.specs.List.{flat_map}
use Rattle.pending.specs.Operation.{Operation}

-- n words, zeros behind those that are given
abbrev pub filled : ℕ → List ℕ → List ℕ
filled n words = take n (words ++ replicate n 0)

-- constant, count and conditions
abbrev pub sign : (constant : ℕ) → (conditions : List ℕ) → List ℕ
sign constant conditions = constant ∷ length conditions ∷ filled 8 conditions

-- with no conditions
abbrev pub plain : List ℕ
plain = sign 0 []

abbrev pub opposite : List ℕ
opposite = sign 1 []

abbrev pub none : List ℕ
none = 0 ∷ 0 ∷ []

abbrev pub some : ℕ → List ℕ
some value = 1 ∷ value ∷ []

abbrev pub rotation : (angle x z phase : ℕ) → (sign : List ℕ) → Operation
rotation angle x z phase s = filled 32 (0 ∷ angle ∷ x ∷ z ∷ phase ∷ s)

abbrev pub measurement : (x z phase : ℕ) → (sign place condition expectation : List ℕ) → Operation
measurement x z phase s place condition expectation = filled 32 (1 ∷ x ∷ z ∷ phase ∷ (s ++ (place ++ (condition ++ expectation))))

abbrev pub classical : (outcome place condition : List ℕ) → Operation
classical outcome place condition = filled 32 (2 ∷ (outcome ++ (place ++ condition)))

-- a list's words
abbrev pub words_of : List Operation → List ℕ
words_of os = flat_map (λ o. o) os

-- ---- angles by their bits

abbrev pub half : ℕ
half = 0x3FE0_0000_0000_0000

abbrev pub quarter : ℕ
quarter = 0x3FD0_0000_0000_0000

abbrev pub eighth : ℕ
eighth = 0x3FC0_0000_0000_0000

-- 2^20
abbrev pub most : ℕ
most = 0x4130_0000_0000_0000

-- negative, and -0 of 0
abbrev pub minus : ℕ → ℕ
minus bits = 2 ^ 63 + bits
