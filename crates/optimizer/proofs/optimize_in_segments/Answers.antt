-- `optimizer::optimize_in_segments` meets its contract: the copied list is optimized in place, its boundaries are the map's first words, and zeros stand behind both.
use Rattle.std.proofs.Common.{◌≡◌, ℕ, suc, ◌+◌, ◌-◌, ◌*◌, ◌/◌, ◌≤◌, List, [], ◌∷◌, ◌++◌, length, get_or, take, drop, replicate, refl, ap, sym, arith}
use Rattle.std.specs.List.{range_with_len, concat}
use Rattle.std.specs.Prelude.{map}
use mathlib.Core.Path.{◌∙◌, ap₂, subst}
use Rattle.std.proofs.lemmas.List.{length-take, length-drop, length-append, take-append-le, take_at, drop_at}
use Rattle.pending.specs.Operation.{operations_of}
use Rattle.pending.proofs.Chunks.{count, joined_take}
use Rattle.optimizer_spec.specs.Optimizing.{ends_of, segments_of, mapped, operations_in, in_segments}
use Rattle.optimizer.specs.Working.{bare, mark, Finished}
use Rattle.optimizer.specs.Answer.{held}
use Rattle.optimizer.proofs.Holding.{by_entries, zeros_behind}
use Rattle.optimizer.proofs.optimize_in_segments.Goals as goal

pub returns : goal.returns
unfolding in_segments
returns c =
    let words = c.args.operations.now in
    let prefixes = c.args.prefixes.now in
    let os = operations_of words in
    let ss = segments_of os prefixes in
    let n = length words / 32 in
    let progress = c.optimize_segments-progress.result in
    let list = c.optimize_segments-progress.new.list in
    let room = c.requires.map_room in
    let kept = c.clear_from.auto.words in
    let map_long : length (take (n + 1) c.clear_from.new.words) ≡ n + 1 = omega (arith, length-take (n + 1) c.clear_from.new.words) in
    let copied : take (length words) c.put_front.new.output ≡ words =
    ap (take (length words)) c.put_front.ensures ∙ take_at words (replicate (length c.args.optimized.now - length words) 0) (length words) refl in
    let copied_count : length (take (length words) c.put_front.new.output) / 32 ≡ n = ap (λ (ws : List ℕ). length ws / 32) copied in
    let marked = c.mark_ends.new.map in
    let marked_long : length marked ≡ n + 1 = c.mark_ends.ensures.length ∙ map_long in
    let behind = drop (n + 1) c.clear_from.new.words in
    let finished : Finished os prefixes (operations_of list) c.optimize_segments-progress.new.map progress =
    subst (λ (ws : List ℕ). Finished (operations_of ws) prefixes (operations_of list) c.optimize_segments-progress.new.map progress) copied
    (c.optimize_segments-progress.ensures.finished prefixes λ q small.
    let last : length (take (n + 1) c.clear_from.new.words) - 1 ≡ length (take (length words) c.put_front.new.output) / 32 = omega arith in
    ap (λ (ws : List ℕ). get_or ws q 0) (take_at marked behind (n + 1) marked_long)
    ∙ c.mark_ends.ensures.marks q (omega arith)
    ∙ ap (λ (k : ℕ). mark k prefixes q) last) in
    let map_kept : length c.optimize_segments-progress.new.map ≡ n + 1 =
    c.optimize_segments-progress.ensures.map_length ∙ ap (λ (ws : List ℕ). length ws) (take_at marked behind (n + 1) marked_long) ∙ marked_long in
    let whole = c.requires.whole in
    let output = progress.output in
    let list_kept = c.optimize_segments-progress.ensures.list_length ∙ ap (λ (ws : List ℕ). length ws) copied in
    let few : 32 * output ≤ length list = (let h = c.optimize_segments-progress.ensures.going.output in let g = c.optimize_segments-progress.ensures.going.start in omega arith) in
    let front : take (32 * output) (list ++ drop (length words) c.put_front.new.output) ≡ take (32 * output) list =
    take-append-le (32 * output) list (drop (length words) c.put_front.new.output) few in
    let operations : take (32 * output) list ≡ concat (bare (operations_in ss)) =
    sym (joined_take output list (omega arith)) ∙ ap concat finished.front in
    let long : length (take (32 * output) list) ≡ 32 * output = omega (arith, length-take (32 * output) list) in
    let total : length (list ++ drop (length words) c.put_front.new.output) - 32 * output ≡ length c.args.optimized.now - length (take (32 * output) list) =
    (let g = c.put_front.auto.output in let room = c.requires.room in omega (arith, length-append list (drop (length words) c.put_front.new.output), length-drop (length words) c.put_front.new.output)) in
    let ends = ends_of (length os) prefixes in
    let last_next : n + 1 ≡ suc (length os) = omega (arith, count words) in
    record {
      counts = λ i. sym (count words) i ∷ finished.output i ∷ finished.fused i ∷ finished.cancelled i ∷ finished.swaps i ∷ [];
      list =
          c.clear_from-2.ensures
          ∙ ap₂ (λ (ws : List ℕ) (k : ℕ). ws ++ replicate k 0) front total
          ∙ ap (held (length c.args.optimized.now)) operations;
      map =
          ap (λ (ws : List ℕ). c.optimize_segments-progress.new.map ++ ws) (drop_at marked behind (n + 1) marked_long)
          ∙ zeros_behind c.clear_from.new.words c.args.map.now c.optimize_segments-progress.new.map (n + 1) (omega arith) c.clear_from.ensures map_kept
          ∙ ap (held (length c.args.map.now))
          (by_entries (mapped ends ss) (n + 1) c.optimize_segments-progress.new.map map_kept (λ q small. finished.boundaries q (omega (arith, count words)))
          ∙ ap (λ (k : ℕ). map (mapped ends ss) (range_with_len 0 k)) last_next);
    }
