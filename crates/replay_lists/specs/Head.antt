-- What is asked of a vector's first five words.
use Rattle.std.specs.Prelude.{ℕ, Bool, List, nat_lt}
use Rattle.std.specs.List.{list_any}

-- the most words that a list, its prefixes, the lent list or the map may have
abbrev pub longest : ℕ
longest = 65536

-- whether one of the numbers of words is more than that
abbrev pub too_long : List ℕ → Bool
too_long lengths = list_any (nat_lt longest) lengths
