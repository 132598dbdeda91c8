-- Where there is not one word, no vector is counted.
use Rattle.std.proofs.Common.{◌≡◌, ap, ◌∙◌, List, ℕ}
use Rattle.vectors.specs.declared.Counts.{Counts}
use Rattle.vectors.specs.Reading.{words_of}
use Rattle.vectors.specs.Replaying.{agreements_in, counts_of}
use Rattle.vectors.proofs.Counting.{none_counted, of_known}
use Rattle.vectors.proofs.in_memory.replay_vectors.Goals as goal

pub returns : goal.returns
returns g c =
    let f = g.V.Vector.agreement in
    let none : ◌≡◌ {A = Counts} (record { agree = 0; differ = 0 }) (counts_of (agreements_in f c.deref.result.now)) = none_counted f c.deref.result.now c.in-Err.flaw c.in-Err.ensures in
    of_known (g.R.Read.remaining c.args.input.now)
    (λ bytes. c.in_ok-words.words.items ≡ words_of bytes)
    (λ bytes. ◌≡◌ {A = Counts} (record { agree = 0; differ = 0 }) (counts_of (agreements_in f (words_of bytes))))
    (λ bytes e. none ∙ ap (λ (ws : List ℕ). counts_of (agreements_in f ws)) (c.deref.ensures.value ∙ e))
    c.in_ok-words.ensures
