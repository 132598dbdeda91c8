-- `records::within` meets its contract: its two tests are the two of `within`.
use mathlib.Core.Path.{◌≡◌}
use mathlib.Core.Bool.{Bool, true, false, ◌&&◌}
use lib.Ieee.{le}
use Rattle.records.specs.Pass.{within}
use Rattle.records.proofs.within.Goals as goal

second : (a b : Bool) → a ≡ true → b ≡ (a && b)
second a b e = rw e

first : (a b : Bool) → a ≡ false → a ≡ (a && b)
first a b e = rw e

pub returns-then-low-x : goal.returns-then-low-x
unfolding within
returns-then-low-x c = second (le c.args.low c.args.x) (le c.args.x c.args.high) c.if-low-x.true

pub returns-else-low-x : goal.returns-else-low-x
unfolding within
returns-else-low-x c = first (le c.args.low c.args.x) (le c.args.x c.args.high) c.if-low-x.false
