-- Parts of the words, lent or copied, are parts of the list: a part from operation a to operation b has the words from 32 a to 32 b.
use Rattle.std.proofs.Common.{◌≡◌, ℕ, ◌+◌, ◌-◌, ◌*◌, ◌/◌, ◌≤◌, List, ◌++◌, length, take, drop, ap, sym, arith, zero, suc, [], ◌∷◌, refl}
use mathlib.Core.Path.{◌∙◌, ap₂}
use borrow.Rule.Slice.PartMut.{put_mid}
use lib.Seq.{paste}
use Rattle.std.proofs.lemmas.List.{append_assoc, length-append, length-take, length-drop, drop-drop, take_at, drop_at}
use Rattle.pending.specs.Operation.{Operation, operations_of}
use Rattle.pending.proofs.Chunks.{count, operations_append, operations_take, operations_drop}

-- the first m + n entries are the first m and the n behind them
pub take_sum : {A : Type 0} (m n : ℕ) (xs : List A) → take (m + n) xs ≡ take m xs ++ take n (drop m xs)
take_sum zero n xs = ap (λ (k : ℕ). take k xs) (omega arith)
take_sum {A} (suc m) n [] = take_none (suc m + n) ∙ sym (take_none n)
  where
    take_none : (k : ℕ) → take {A = A} k [] ≡ []
    take_none zero = refl
    take_none (suc k) = refl
take_sum (suc m) n (x ∷ xs) =
    let all : suc m + n ≡ suc (m + n) = omega arith in
    ap (λ (k : ℕ). take k (x ∷ xs)) all ∙ ap (λ rest. x ∷ rest) (take_sum m n xs)

-- lists that are the same from one place on are the same from a later one on
pub drop_further : {A : Type 0} (a b : ℕ) (xs ys : List A) → a ≤ b → drop a xs ≡ drop a ys → drop b xs ≡ drop b ys
drop_further {A} a b xs ys up same =
    let whole : a + (b - a) ≡ b = omega arith in
    ap (λ (k : ℕ). drop k xs) (sym whole) ∙ sym (drop-drop (b - a) a xs) ∙ ap (drop (b - a)) same ∙ drop-drop (b - a) a ys ∙ ap (λ (k : ℕ). drop k ys) whole

module _ (ws : List ℕ) where
  abbrev pub os : List Operation
  os = operations_of ws

  -- a part that is lent
  pub part_is : (a b : ℕ) → a ≤ b → b ≤ length ws / 32 → operations_of (take (32 * b - 32 * a) (drop (32 * a) ws)) ≡ take (b - a) (drop a os)
  part_is a b up inside =
      let words : 32 * b - 32 * a ≡ 32 * (b - a) = omega arith in
      ap (λ (n : ℕ). operations_of (take n (drop (32 * a) ws))) words
      ∙ operations_take (b - a) (drop (32 * a) ws) (omega (arith, length-drop (32 * a) ws))
      ∙ ap (take (b - a)) (operations_drop a ws (omega arith))

  -- words in three parts
  three : (t n b : ℕ) (now : List ℕ) → t ≤ length ws / 32 → b ≤ length ws / 32 → length now ≡ 32 * n →
      operations_of (take (32 * t) ws ++ (now ++ drop (32 * b) ws)) ≡ take t os ++ (operations_of now ++ drop b os)
  three t n b now front back long =
      operations_append t (take (32 * t) ws) (now ++ drop (32 * b) ws) (omega (arith, length-take (32 * t) ws))
      ∙ ap (λ (xs : List Operation). operations_of (take (32 * t) ws) ++ xs) (operations_append n now (drop (32 * b) ws) long)
      ∙ ap₂ (λ (xs ys : List Operation). xs ++ (operations_of now ++ ys)) (operations_take t ws front) (operations_drop b ws back)

  -- the list when the part is handed back
  pub lent_part : (a b : ℕ) (now : List ℕ) → a ≤ b → b ≤ length ws / 32 → length now ≡ 32 * (b - a) →
      operations_of (put_mid (32 * a) (32 * b - 32 * a) ws now) ≡ take a os ++ (operations_of now ++ drop b os)
  lent_part a b now up inside long =
      let end : 32 * a + (32 * b - 32 * a) ≡ 32 * b = omega arith in
      ap (λ (back : List ℕ). operations_of (take (32 * a) ws ++ (now ++ back))) (drop-drop (32 * b - 32 * a) (32 * a) ws ∙ ap (λ (n : ℕ). drop n ws) end)
      ∙ three a (b - a) b now (omega arith) inside long

  -- the list when n operations from a on are copied to t
  pub copied_part : (a n t : ℕ) → a + n ≤ length ws / 32 → t ≤ a →
      operations_of (paste ws (32 * t) (drop (32 * a) ws) (32 * (a + n) - 32 * a)) ≡ take t os ++ (take n (drop a os) ++ drop (t + n) os)
  copied_part a n t inside earlier =
      let k = 32 * (a + n) - 32 * a in
      let end : 32 * t + k ≡ 32 * (t + n) = omega arith in
      let distance : a + n - a ≡ n = omega arith in
      let now = take k (drop (32 * a) ws) in
      let long : length now ≡ 32 * n = omega (arith, length-take k (drop (32 * a) ws), length-drop (32 * a) ws) in
      ap operations_of (append_assoc (take (32 * t) ws) now (drop (32 * t + k) ws) ∙ ap (λ (m : ℕ). take (32 * t) ws ++ (now ++ drop m ws)) end)
      ∙ three t n (t + n) now (omega arith) (omega arith) long
      ∙ ap (λ (xs : List Operation). take t os ++ (xs ++ drop (t + n) os)) (part_is a (a + n) (omega arith) inside ∙ ap (λ (m : ℕ). take m (drop a os)) distance)

  -- counts of the parts
  pub taken : (t : ℕ) → t ≤ length ws / 32 → length (take t os) ≡ t
  taken t inside = omega (arith, length-take t os, count ws)

  -- the list in three parts, read from the front and from behind
  module _ (t n b : ℕ) (now all : List Operation) (front : t ≤ length ws / 32) (long : length now ≡ n) (parts : all ≡ take t os ++ (now ++ drop b os)) where
    pub in_front : take t all ≡ take t os
    in_front = ap (take t) parts ∙ take_at (take t os) (now ++ drop b os) t (taken t front)

    pub from_front : drop t all ≡ now ++ drop b os
    from_front = ap (drop t) parts ∙ drop_at (take t os) (now ++ drop b os) t (taken t front)

    pub with_front : take (t + n) all ≡ take t os ++ now
    with_front =
        ap (take (t + n)) (parts ∙ sym (append_assoc (take t os) now (drop b os)))
        ∙ take_at (take t os ++ now) (drop b os) (t + n) (omega (arith, length-append (take t os) now, taken t front))

    pub behind : drop (t + n) all ≡ drop b os
    behind =
        ap (drop (t + n)) (parts ∙ sym (append_assoc (take t os) now (drop b os)))
        ∙ drop_at (take t os ++ now) (drop b os) (t + n) (omega (arith, length-append (take t os) now, taken t front))
