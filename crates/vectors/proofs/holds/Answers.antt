-- A buffer that has been passed is the used words and zeros behind them, and one that is left is not.
use Rattle.std.proofs.Common.{◌≡◌, refl, sym, ap, ◌∙◌, arith, ℕ, List, length, get_or, rules}
use Rattle.std.proofs.lemmas.List.{ext_get_or}
use Rattle.words.specs.Lists.{padded}
use Rattle.words.proofs.Padded.{zeroed_at, padded_length}
use Rattle.vectors.proofs.Same.{same, other}
use Rattle.vectors.proofs.holds.Goals as goal

pub returns-then-buffer-used : goal.returns-then-buffer-used
returns-then-buffer-used c =
    let n : ℕ = length c.args.buffer.now in
    let used = c.args.used.now in
    let long = padded_length n used in
    other c.args.buffer.now (padded n used) (λ e. omega (arith, long, ap (λ (l : List ℕ). length l) e))

pub returns-then-word-unwrap_or : goal.returns-then-word-unwrap_or
returns-then-word-unwrap_or c =
    let n : ℕ = length c.args.buffer.now in
    let used = c.args.used.now in
    let at : ℕ = c.loop-at.at in
    let word : get_or used at 0 ≡ c.unwrap_or.result = search rules in
    let held : (c.args.buffer.now ≡ padded n used) → get_or c.args.buffer.now at 0 ≡ get_or used at 0 = λ e. ap (λ (l : List ℕ). get_or l at 0) e ∙ zeroed_at used (padded n used) at (n, refl) in
    other c.args.buffer.now (padded n used) (λ e. c.if-word-unwrap_or.true (held e ∙ word))

pub returns : goal.returns
returns c =
    let n : ℕ = length c.args.buffer.now in
    let used = c.args.used.now in
    let long = padded_length n used in
    same c.args.buffer.now (padded n used) (ext_get_or 0 c.args.buffer.now (padded n used) (omega arith) (λ k h. c.loop-at.invariant k (omega arith) ∙ sym (zeroed_at used (padded n used) k (n, refl))))
