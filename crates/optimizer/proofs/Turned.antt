-- Words turned by an operation are the list with that operation moved: each part of the words is a part of the list.
use Rattle.std.proofs.Common.{◌≡◌, ℕ, suc, ◌+◌, ◌-◌, ◌*◌, ◌/◌, ◌<◌, ◌≤◌, List, [], ◌∷◌, ◌++◌, length, get_or, take, drop, ap, sym, arith}
use mathlib.Core.Path.{◌∙◌, ap₂}
use borrow.Rule.Slice.PartMut.{put_mid}
use Rattle.std.proofs.lemmas.List.{drop-drop, length-drop, length-take, length-append, take-take, drop-take}
use Rattle.pending.specs.Operation.{Operation, operations_of}
use Rattle.pending.proofs.Chunks.{operation_in, operation_length, operations_append, one_operation, operations_take, operations_drop}
use Rattle.optimizer.specs.Working.{moved_to}

module _ (ws : List ℕ) (t n : ℕ) (small : t + n < length ws / 32) where
  abbrev pub os : List Operation
  os = operations_of ws

  abbrev pub operation : Operation
  operation = get_or os (t + n) []

  abbrev pub between : List ℕ
  between = take (32 * n) (drop (32 * t) ws)

  -- the last operation of the part that is turned
  last_is : drop (32 * n) (take (32 * n + 32) (drop (32 * t) ws)) ≡ operation
  last_is =
      let at : 32 * t + 32 * n ≡ 32 * (t + n) = omega arith in
      drop-take (32 * n) 32 (drop (32 * t) ws)
      ∙ ap (λ (rest : List ℕ). take 32 rest) (drop-drop (32 * n) (32 * t) ws ∙ ap (λ (m : ℕ). drop m ws) at)
      ∙ sym (operation_in ws (t + n) small)

  -- those in front of it
  rest_is : take (32 * n) (take (32 * n + 32) (drop (32 * t) ws)) ≡ between
  rest_is = take-take (32 * n) (32 * n + 32) (drop (32 * t) ws) (omega arith)

  back_is : drop (32 * n + 32) (drop (32 * t) ws) ≡ drop (32 * suc (t + n)) ws
  back_is =
      let at : 32 * t + (32 * n + 32) ≡ 32 * suc (t + n) = omega arith in
      drop-drop (32 * n + 32) (32 * t) ws ∙ ap (λ (m : ℕ). drop m ws) at

  -- the operations of the words that are turned
  pub moved : operations_of (take (32 * t) ws ++ ((operation ++ between) ++ drop (32 * suc (t + n)) ws)) ≡ moved_to t (t + n) os
  moved =
      let rest = drop (32 * suc (t + n)) ws in
      let whole : length operation ≡ 32 = operation_length ws (t + n) small in
      let behind : length (drop (32 * t) ws) / 32 ≡ length ws / 32 - t = omega (arith, length-drop (32 * t) ws) in
      let front = operations_take t ws (omega arith) in
      let middle = operations_take n (drop (32 * t) ws) (omega arith) ∙ ap (take n) (operations_drop t ws (omega arith)) in
      let back = operations_drop (suc (t + n)) ws small in
      let long : length between ≡ 32 * n = omega (arith, length-take (32 * n) (drop (32 * t) ws), length-drop (32 * t) ws) in
      let distance : n ≡ t + n - t = omega arith in
      operations_append t (take (32 * t) ws) ((operation ++ between) ++ rest) (omega (arith, length-take (32 * t) ws))
      ∙ ap (λ (xs : List Operation). operations_of (take (32 * t) ws) ++ xs)
      (operations_append (suc n) (operation ++ between) rest (omega (arith, length-append operation between))
      ∙ ap (λ (xs : List Operation). xs ++ operations_of rest) (operations_append 1 operation between whole))
      ∙ ap₂ (λ (a b : List Operation). a ++ ((operations_of operation ++ operations_of between) ++ b)) front back
      ∙ ap₂ (λ (a b : List Operation). take t os ++ ((a ++ b) ++ drop (suc (t + n)) os)) (one_operation operation whole) middle
      ∙ ap (λ (m : ℕ). take t os ++ (operation ∷ (take m (drop t os) ++ drop (suc (t + n)) os))) distance

-- a part that is lent and turned to the right by 32 words
pub turned : (ws part now : List ℕ) (t i k : ℕ) → t ≤ i → i < length ws / 32 → k ≡ 32 * (i - t) + 32 → part ≡ take k (drop (32 * t) ws) →
    now ≡ drop (length part - 32) part ++ take (length part - 32) part → operations_of (put_mid (32 * t) k ws now) ≡ moved_to t i (operations_of ws)
turned ws part now t i k earlier small k_is part_is now_is =
    let n = i - t in
    let at : t + n ≡ i = omega arith in
    let inside : t + n < length ws / 32 = omega arith in
    let p = take (32 * n + 32) (drop (32 * t) ws) in
    let p_is : part ≡ p = part_is ∙ ap (λ (m : ℕ). take m (drop (32 * t) ws)) k_is in
    let long : length p - 32 ≡ 32 * n = omega (arith, length-take (32 * n + 32) (drop (32 * t) ws), length-drop (32 * t) ws) in
    let now_here = now_is ∙ ap (λ (q : List ℕ). drop (length q - 32) q ++ take (length q - 32) q) p_is
    ∙ ap (λ (m : ℕ). drop m p ++ take m p) long
    ∙ ap₂ (λ (a b : List ℕ). a ++ b) (last_is ws t n inside) (rest_is ws t n inside) in
    ap₂ (λ (m : ℕ) (part : List ℕ). operations_of (take (32 * t) ws ++ (part ++ drop m (drop (32 * t) ws)))) k_is now_here
    ∙ ap (λ (back : List ℕ). operations_of (take (32 * t) ws ++ ((operation ws t n inside ++ between ws t n inside) ++ back))) (back_is ws t n inside)
    ∙ moved ws t n inside
    ∙ ap (λ (m : ℕ). moved_to t m (operations_of ws)) at
