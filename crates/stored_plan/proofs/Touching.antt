-- Sections that touch, pair by pair: each pair's start is where the ones before it end, and the place only grows, so that once it has passed the end nothing
-- touches any more.
-- Assumes nothing.
use mathlib.Core.Path.{◌≡◌, refl, ap, ap₂, ◌∙◌}
use mathlib.Core.Bool.{Bool, true, false, ◌&&◌}
use mathlib.Core.List.{List, [], ◌∷◌, map}
use Prim.Native.Nat.{ℕ, suc, ◌+◌, ◌-◌, ◌*◌, ◌<◌}
use native.Mathlib.Omega.{arith}
use lib.Dec.{eqb}
use borrow.Author.Tests.{eqb-true, eq-eqb, ne_eqb}
use Rattle.words.specs.Lists.{numbers_from}
use Rattle.stored_plan.specs.Reading.{touch}

-- ---- one pair

and-true : (a b : Bool) → (a && b) ≡ true → (a ≡ true) × (b ≡ true)
and-true true b e = (refl, e)
and-true false b e = let z : ◌≡◌ {A = ℕ} 0 1 = cc in absurd (omega arith)

and-false : (a : Bool) → (a && false) ≡ false
and-false true = refl
and-false false = refl

-- the first pair is in place, and the rest goes on behind it
pub touch_next : (at end start count : ℕ) (rest : List ℕ) → touch at end (start ∷ count ∷ rest) ≡ true → (start ≡ at) × (touch (at + count) end rest ≡ true)
touch_next at end start count rest e =
    let both = and-true (eqb start at) (touch (at + count) end rest) e in
    (eqb-true start at both.0, both.1)

-- past the end nothing touches
pub touch_past : (at end : ℕ) (ps : List ℕ) → end < at → touch at end ps ≡ false
touch_past at end [] h = ne_eqb at end (λ e. omega arith)
touch_past at end (start ∷ []) h = refl
touch_past at end (start ∷ count ∷ rest) h =
    ap (λ (t : Bool). eqb start at && t) (touch_past (at + count) end rest (omega arith)) ∙ and-false (eqb start at)

-- ---- a turn of the loop over the pairs

module _ (word : ℕ → ℕ) (at end s : ℕ) (small : s < 7) where
  left : 14 - 2 * s ≡ suc (suc (14 - 2 * (s + 1)))
  left = omega arith

  -- what the pairs behind this one decide
  abbrev rest : Bool
  rest = touch (at + word (2 * s + 1)) end (map word (numbers_from (2 * (s + 1)) (14 - 2 * (s + 1))))

  -- the pair that the turn reads, and those
  opened : touch at end (map word (numbers_from (2 * s) (14 - 2 * s))) ≡ (eqb (word (2 * s)) at && rest)
  opened =
      let second : suc (2 * s) ≡ 2 * s + 1 = omega arith in
      let third : suc (suc (2 * s)) ≡ 2 * (s + 1) = omega arith in
      ap (λ (n : ℕ). touch at end (map word (numbers_from (2 * s) n))) left
      ∙ ap₂ (λ (p q : ℕ). eqb (word (2 * s)) at && touch (at + word p) end (map word (numbers_from q (14 - 2 * (s + 1))))) second third

  -- a count that passes the end
  pub turn_past : end < at + word (2 * s + 1) → touch at end (map word (numbers_from (2 * s) (14 - 2 * s))) ≡ false
  turn_past h =
      opened
      ∙ ap (λ (t : Bool). eqb (word (2 * s)) at && t) (touch_past (at + word (2 * s + 1)) end (map word (numbers_from (2 * (s + 1)) (14 - 2 * (s + 1)))) h)
      ∙ and-false (eqb (word (2 * s)) at)

  -- in place: the rest decides
  pub turn_touches : word (2 * s) ≡ at → touch at end (map word (numbers_from (2 * s) (14 - 2 * s)))
      ≡ touch (at + word (2 * s + 1)) end (map word (numbers_from (2 * (s + 1)) (14 - 2 * (s + 1))))
  turn_touches e = opened ∙ ap (λ (t : Bool). t && rest) (eq-eqb (word (2 * s)) at e)
