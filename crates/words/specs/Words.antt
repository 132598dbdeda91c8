-- What a word of 64 bits may hold: a number below 2 ^ 64, a flag, or the bits of a float.
use Rattle.std.specs.Prelude.{ℕ, ◌<◌, ◌^◌, List, [], ◌∷◌, Bool, not, if◌then◌else◌, ◌==◌, Float}
use Rattle.std.specs.Float.{binary64}
use Rattle.std.specs.Float.Ieee.{to_bits}

-- every entry stands below n
abbrev pub AreBelow : ℕ → List ℕ → Type 0
AreBelow n [] = Unit
AreBelow n (w ∷ ws) = (w < n) × AreBelow n ws

-- every entry is a word of 64 bits
abbrev pub AreWords : List ℕ → Type 0
AreWords ws = AreBelow (2 ^ 64) ws

-- every entry is a byte
abbrev pub AreBytes : List ℕ → Type 0
AreBytes bs = AreBelow 256 bs

-- a flag's word, 0 or 1
abbrev pub flag_word : Bool → ℕ
flag_word b = if b then 1 else 0

-- and the flag of a word: any but 0 counts as set
abbrev pub flag_in : ℕ → Bool
flag_in w = not (w == 0)

-- a float's word, which is its bits
abbrev pub bits_word : Float → ℕ
bits_word x = to_bits binary64 x
