-- The word that was read stood in front of those that were left.
use Rattle.vectors.proofs.Words.{word_added, one_longer}
use Rattle.vectors.proofs.next_words.Goals as goal

pub loop-preserved : goal.loop-preserved
loop-preserved g c =
    let xs = c.loop.words.items in
    record {
      many = rw c.in_default.ensures.items (one_longer xs _ _ c.loop.invariant.many);
      read = λ known.
          let was = c.loop.invariant.read known in
          let word = c.in_ok-word.ensures was.0 in
          (word.0, rw c.in_default.ensures.items (word_added _ xs _ _ c.in_ok-word.word was.1 word.1));
    }
