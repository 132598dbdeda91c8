-- `bits::without_bit` meets its contract: a bit is 0 or 1, and where it is 1 its power is at most the word.
use mathlib.Core.Path.{◌≡◌, ◌∙◌}
use Prim.Native.Nat.{◌<◌}
use Rattle.kernels.specs.Bits.{bit_at}
use Rattle.kernels.proofs.Laws.{bit_below}
use Rattle.kernels.proofs.bits.without_bit.Goals as goal

pub overflow_shl-result : goal.overflow_shl-result
overflow_shl-result c =
    let is_set : bit_at c.args.value c.args.place ≡ 0 → ⊥ = λ e. c.if-bit_at-eq0.false (c.bit_at.ensures ∙ e) in
    let in-word : c.args.place < 64 = bit_below 64 c.args.value c.args.place c.ranges.value.fits is_set in
    in-word
