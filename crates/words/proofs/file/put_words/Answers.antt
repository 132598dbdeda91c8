-- `words::file::put_words` meets its contract: each turn writes the eight bytes of one word behind those of the words before it.
use Rattle.std.proofs.Common.{arith, ◌∙◌}
use Rattle.words.proofs.file.put_words.Goals as goal
use Rattle.words.proofs.Bytes.{turn_writes}

pub loop-i-preserved : goal.loop-i-preserved
loop-i-preserved c =
    turn_writes c.args.words.now c.args.file.now c.args.at c.loop-i.i _ c.loop-i.file c.copy_from_slice.new.self (omega arith) c.requires (omega arith)
    (c.copy_from_slice.ensures.after ∙ c.to_le_bytes.ensures) c.loop-i.invariant
