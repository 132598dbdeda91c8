-- `bits::is_odd_popcount` meets its contract: all ones of a 64-bit word are among its 64 lowest digits.
use mathlib.Core.Path.{sym, ap}
use Prim.Native.Nat.{ℕ, ◌%◌}
use lib.Dec.{eqb}
use Rattle.kernels.specs.Bits.{odd_ones}
use Rattle.kernels.proofs.Laws.{ones_in_width}
use Rattle.kernels.proofs.bits.is_odd_popcount.Goals as goal

pub returns : goal.returns
unfolding odd_ones
returns c = ap (λ (n : ℕ). eqb (n % 2) 1) (sym (ones_in_width 64 c.args.value c.ranges.value.fits))
