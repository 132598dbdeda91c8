-- Two numbers are the same or not, and numbers in order have their places.
use mathlib.Core.Path.{◌≡◌, refl, ap}
use mathlib.Core.Logic.{◌⊎◌, inl, inr}
use mathlib.Core.Bool.{Bool, true, false}
use Prim.Native.Nat.{ℕ, zero, suc, ◌+◌, ◌<◌}
use native.Mathlib.Omega.{arith}
use lib.Dec.{eqb}
use lib.ListN.{length, get_or}
use borrow.Author.Tests.{eqb-true, eqb-false}
use Rattle.words.specs.Lists.{numbers_from}

pub same_or_not : (a b : ℕ) → (a ≡ b) ⊎ (a ≡ b → ⊥)
same_or_not a b = go (eqb a b) refl
  where
    go : (t : Bool) → eqb a b ≡ t → (a ≡ b) ⊎ (a ≡ b → ⊥)
    go true e = inl (eqb-true a b e)
    go false e = inr (eqb-false a b e)

-- ---- numbers in order

pub length-numbers : (b n : ℕ) → length (numbers_from b n) ≡ n
length-numbers b zero = refl
length-numbers b (suc n) = ap suc (length-numbers (suc b) n)

pub numbers_at : (b n i d : ℕ) → i < n → get_or (numbers_from b n) i d ≡ b + i
numbers_at b zero i d h = absurd (omega arith)
numbers_at b (suc n) zero d h = omega arith
numbers_at b (suc n) (suc i) d h = let r = numbers_at (suc b) n i d (omega arith) in omega arith
