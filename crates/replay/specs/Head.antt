-- What is asked of a vector's first twelve words.
use Rattle.std.specs.Prelude.{ℕ, Bool, List, nat_lt}
use Rattle.std.specs.List.{list_any}

-- the most words that the records or a buffer may have
abbrev pub longest : ℕ
longest = 4096

-- whether one of the number of record words and the seven buffer lengths is more than that
abbrev pub too_long : List ℕ → Bool
too_long lengths = list_any (nat_lt longest) lengths
