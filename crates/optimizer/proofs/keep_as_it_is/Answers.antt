-- `optimizer::keep_as_it_is` meets its contract: the list is copied, and each boundary is its place.
use Rattle.std.proofs.Common.{◌≡◌, ℕ, suc, ◌+◌, ◌/◌, List, [], ◌∷◌, length, take, ap, sym, arith}
use Rattle.std.specs.List.{range_with_len}
use mathlib.Core.Path.{◌∙◌}
use Rattle.std.proofs.lemmas.List.{length-take}
use Rattle.std.proofs.lemmas.List.FromFn.{length-range_with_len}
use Rattle.pending.specs.Operation.{operations_of}
use Rattle.pending.proofs.Chunks.{count, joined_operations}
use Rattle.optimizer.specs.Answer.{held}
use Rattle.optimizer.proofs.Holding.{zeros_behind}
use Rattle.optimizer.proofs.keep_as_it_is.Goals as goal

pub returns : goal.returns
returns c =
    let n = length c.args.operations.now / 32 in
    let total = length c.args.map.now in
    let room = c.requires.map_room in
    let count_is : n ≡ length (operations_of c.args.operations.now) = sym (count c.args.operations.now) in
    let kept = c.clear_from.auto.words in
    let size : length (take (n + 1) c.clear_from.new.words) ≡ n + 1 = omega (arith, length-take (n + 1) c.clear_from.new.words) in
    let numbered : c.number.new.words ≡ range_with_len 0 (n + 1) = c.number.ensures ∙ ap (range_with_len 0) size in
    let long : length c.number.new.words ≡ n + 1 = ap (λ (ws : List ℕ). length ws) numbered ∙ length-range_with_len 0 (n + 1) in
    let next : n + 1 ≡ suc n = omega arith in
    record {
      counts = ap (λ (k : ℕ). k ∷ k ∷ 0 ∷ 0 ∷ 0 ∷ []) count_is;
      list = c.put_front.ensures ∙ ap (held (length c.args.optimized.now)) (sym (joined_operations c.args.operations.now c.requires.whole));
      map =
          zeros_behind c.clear_from.new.words c.args.map.now c.number.new.words (n + 1) (omega arith) c.clear_from.ensures long
          ∙ ap (held total) (numbered ∙ ap (range_with_len 0) (next ∙ ap suc count_is));
    }
