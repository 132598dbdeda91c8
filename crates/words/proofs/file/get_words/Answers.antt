-- `words::file::get_words` meets its contract: each turn reads one word behind those before it.
use Rattle.std.proofs.Common.{arith, ◌∙◌, refl, sym}
use Rattle.std.proofs.lemmas.Grind.{take-set_at}
use Rattle.words.proofs.file.get_words.Goals as goal
use Rattle.words.proofs.Bytes.{words_more}

pub loop-i-preserved : goal.loop-i-preserved
loop-i-preserved c =
    take-set_at c.loop-i.words c.loop-i.i _ c.word_at.result refl (omega arith)
    ∙ rw (c.loop-i.invariant, c.word_at.ensures) (sym (words_more c.args.file.now c.args.at c.loop-i.i))
