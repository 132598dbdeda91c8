-- Sums of floats that are whole numbers up to 2 ^ 53 are the floats of the sums: a whole number of that size has its value unchanged as a float, an addition rounds
-- the exact sum, and rounding goes by the fraction's value, not by how it is written.
use mathlib.Core.Path.{◌≡◌, refl, sym, ap, ◌∙◌, subst}
use mathlib.Core.Bool.{Bool, true, false, cond}
use mathlib.Core.List.{List, [], ◌∷◌}
use Prim.Native.Nat.{ℕ, ◌+◌, ◌*◌, ◌^◌, ◌≤◌}
use native.Mathlib.Nat.{zero-add, mul-pos}
use native.Mathlib.Omega.{arith}
use lib.Dec.{leb}
use lib.Pow.{pow_mono}
use lib.IntN.{pos}
use lib.Ieee.{Float, nan, inf, fin, binary64, up, down, sum, add, mul, of_int}
use lib.Ieee.Exact.{HasValue}
use lib.Ieee.Fits.{down_pos}
use lib.Ieee.Scale.{round_same}
use lib.Ieee.Back.{round_whole}
use borrow.Author.Tests.{leb-false}
use Rattle.kernels.specs.Bits.{exp2}
use Rattle.plan_spec.specs.Components.{size_of, float_two, cost_from, joining_cost}
use Rattle.plan_spec.specs.WholeWorks.{whole_cost_from, whole_joining_cost}

-- the float of a whole number
abbrev pub whole_float : ℕ → Float
whole_float n = of_int binary64 (pos n)

-- which has its value up to 2 ^ 53
whole_value : (n : ℕ) → n ≤ 2 ^ 53 → HasValue (whole_float n) false n 1
unfolding of_int
whole_value n h = round_whole binary64 false n h

-- so has what is equal to it
pub value_of : (x : Float) (n : ℕ) → x ≡ whole_float n → n ≤ 2 ^ 53 → HasValue x false n 1
value_of x n e h = subst (λ (y : Float). HasValue y false n 1) (sym e) (whole_value n h)

no : true ≡ false → ⊥
no e = let z : ◌≡◌ {A = ℕ} 0 1 = cc in absurd (omega arith)

-- a sum
pub add_whole : (x y : Float) (a b : ℕ) → HasValue x false a 1 → HasValue y false b 1 → add binary64 x y ≡ whole_float (a + b)
unfolding add sum of_int
add_whole nan y a b h k = absurd h
add_whole (inf s) y a b h k = absurd h
add_whole (fin s m e) nan a b h k = absurd k
add_whole (fin s m e) (inf t) a b h k = absurd k
add_whole (fin true m e) (fin t n d) a b h k = absurd (no h.0)
add_whole (fin false m e) (fin true n d) a b h k = absurd (no k.0)
add_whole (fin false m e) (fin false n d) a b h k =
    round_same binary64 false (m * up e * down d + n * up d * down e) (down e * down d) (a + b) 1 (mul-pos (down_pos e) (down_pos d)) (omega arith)
    (scaled (m * up e) (n * up d) (down e) (down d) a b h.1 k.1)
  where
    scaled : (x y e d a b : ℕ) → x * 1 ≡ a * e → y * 1 ≡ b * d → (x * d + y * e) * 1 ≡ (a + b) * (e * d)
    scaled x y e d a b h k =
        let p = ap (λ (n : ℕ). n * d) h in
        let q = ap (λ (n : ℕ). n * e) k in omega arith

-- twice
pub double_whole : (x : Float) (a : ℕ) → HasValue x false a 1 → mul binary64 float_two x ≡ whole_float (2 * a)
unfolding mul of_int
double_whole nan a h = absurd h
double_whole (inf s) a h = absurd h
double_whole (fin true m e) a h = absurd (no h.0)
double_whole (fin false m e) a h =
    round_same binary64 false (1 * up (pos 1) * (m * up e)) (down (pos 1) * down e) (2 * a) 1 (mul-pos (omega arith) (down_pos e)) (omega arith)
    (scaled (m * up e) (down e) h.1)
  where
    scaled : (x e : ℕ) → x * 1 ≡ a * e → 1 * 2 ^ 1 * x * 1 ≡ 2 * a * (1 * e)
    scaled x e k = omega arith

-- a power of two
pub power_value : (k : ℕ) → 2 ^ k ≤ 2 ^ 53 → HasValue (exp2 k) false (2 ^ k) 1
power_value k h = go (leb k 1023) refl
  where
    go : (t : Bool) → leb k 1023 ≡ t → HasValue (cond t (fin false 1 (pos k)) (inf false)) false (2 ^ k) 1
    go true e = (refl, omega arith)
    go false e = let l = leb-false k 1023 e in let p = pow_mono {i = 54} {j = k} (omega arith) in absurd (omega arith)

-- and twice it
pub double_value : (k : ℕ) → 2 * 2 ^ k ≤ 2 ^ 53 → HasValue (mul binary64 float_two (exp2 k)) false (2 * 2 ^ k) 1
double_value k h = value_of (mul binary64 float_two (exp2 k)) (2 * 2 ^ k) (double_whole (exp2 k) (2 ^ k) (power_value k (omega arith))) h

-- a joining cost, from any sum so far
cost_whole : (cs : List (List ℕ)) (size n : ℕ) (so_far : Float) (ss : List ℕ) → so_far ≡ whole_float n → n + whole_cost_from cs size ss ≤ 2 ^ 53
    → cost_from cs size so_far ss ≡ whole_float (n + whole_cost_from cs size ss)
cost_whole cs size n so_far [] e h = e ∙ ap whole_float (omega arith)
cost_whole cs size n so_far (s ∷ ss) e h =
    let grown = size + size_of cs s in
    cost_whole cs grown (n + 2 * 2 ^ grown) (add binary64 so_far (mul binary64 float_two (exp2 grown))) ss
    (add_whole so_far (mul binary64 float_two (exp2 grown)) n (2 * 2 ^ grown) (value_of so_far n e (omega arith)) (double_value grown (omega arith)))
    (omega arith)
    ∙ ap whole_float (omega arith)

pub joining_whole : (cs : List (List ℕ)) (ss : List ℕ) → whole_joining_cost cs ss ≤ 2 ^ 53 → joining_cost cs ss ≡ whole_float (whole_joining_cost cs ss)
unfolding joining_cost whole_joining_cost of_int
joining_whole cs [] h = refl
joining_whole cs (t ∷ others) h =
    cost_whole cs (size_of cs t) 0 (fin false 0 (pos 0)) others refl (omega arith) ∙ ap whole_float (zero-add (whole_cost_from cs (size_of cs t) others))
