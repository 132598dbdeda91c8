-- Sums over the sources of a join, one source more at a time: each sum over the sources from i on is source i's share and the sum over those behind it. And powers
-- of two and sums modulo 2 ^ 64.
use Rattle.std.proofs.Common.{◌≡◌, ℕ, ◌+◌, ◌-◌, ◌*◌, ◌%◌, ◌^◌, ◌<◌, ◌≤◌, Bool, true, false, cond, leb, List, [], length, get_or, drop, pos, sym, refl, ap, ◌∙◌, add_assoc, mod-eq_of_lt, arith, pow_mono, pow-add}
use native.Mathlib.Nat.{mod-add-mod, add-mod-mod, mul-mod_left}
use lib.Ieee.{Float, binary64, fin, add, mul}
use Rattle.kernels.specs.Bits.{exp2}
use Rattle.plan_spec.specs.Components.{float_two}
use Rattle.work_sums.specs.Tally.{sizes_of, powers, cost_in, whole_cost_in, power_left, joining_of}
use Rattle.work_sums.specs.declared.Joining.{Joining}
use Rattle.masks.proofs.Arrays.{rest_at}

-- the dimension without a member is no more than that with it
either_below : (b : Bool) (x y : ℕ) → x ≤ y → cond b 0 x ≤ y
either_below true x y h = omega arith
either_below false x y h = h

pub left_below : (s : ℕ) → power_left s ≤ 2 ^ s
left_below s = either_below (leb s 1) (2 ^ (s - 1)) (2 ^ s) (pow_mono (omega arith))

-- ---- modulo 2 ^ 64

-- nothing of a power of 64 or more is left
pub power_gone : (k : ℕ) → 64 ≤ k → 2 ^ k % 2 ^ 64 ≡ 0
power_gone k h =
    let same : k - 64 + 64 ≡ k = omega arith in
    ap (λ (n : ℕ). n % 2 ^ 64) (sym (ap (λ (n : ℕ). 2 ^ n) same) ∙ pow-add 2 (k - 64) 64) ∙ mul-mod_left (2 ^ (k - 64)) (2 ^ 64)

-- what is added may be taken modulo 2 ^ 64 before
pub wraps : (sum before more full : ℕ) → sum ≡ (before + more) % 2 ^ 64 → more ≡ full % 2 ^ 64 → sum ≡ (before + full) % 2 ^ 64
wraps sum before more full e m = e ∙ ap (λ (n : ℕ). (before + n) % 2 ^ 64) m ∙ add-mod-mod before full (2 ^ 64)

-- sums so far that are kept modulo 2 ^ 64, with more added
pub kept_sum : (kept full more : ℕ) → kept ≡ full % 2 ^ 64 → (kept + more) % 2 ^ 64 ≡ (full + more) % 2 ^ 64
kept_sum kept full more e = ap (λ (n : ℕ). (n + more) % 2 ^ 64) e ∙ mod-add-mod full (2 ^ 64) more

-- and with a joining cost, kept so too, before it
pub kept_joined : (kept full cost paid more : ℕ) → kept ≡ full % 2 ^ 64 → cost ≡ paid % 2 ^ 64 → ((kept + cost) % 2 ^ 64 + more) % 2 ^ 64 ≡ (full + (paid + more)) % 2 ^ 64
kept_joined kept full cost paid more e c =
    ap (λ (n : ℕ). (n + more) % 2 ^ 64) (kept_sum kept full cost e ∙ wraps ((full + cost) % 2 ^ 64) full cost paid refl c)
    ∙ mod-add-mod (full + paid) (2 ^ 64) more
    ∙ ap (λ (n : ℕ). n % 2 ^ 64) (add_assoc full paid more)

-- ---- sources

module _ (size sources : List ℕ) (i : ℕ) (inside : i < length sources) where
  pub sizes_at : sizes_of size (drop i sources) ≡ get_or size (get_or sources i 0) 0 + sizes_of size (drop (i + 1) sources)
  sizes_at = ap (λ (l : List ℕ). sizes_of size l) (rest_at sources i inside)

  pub powers_at : powers size (drop i sources) ≡ 2 ^ get_or size (get_or sources i 0) 0 + powers size (drop (i + 1) sources)
  powers_at = ap (λ (l : List ℕ). powers size l) (rest_at sources i inside)

  pub cost_next : (grown more : ℕ) (cost power : Float)
      → more ≡ get_or size (get_or sources i 0) 0
      → power ≡ exp2 (grown + more)
      → cost_in size (grown + more) (add binary64 cost (mul binary64 float_two power)) (drop (i + 1) sources)
      ≡ cost_in size grown cost (drop i sources)
  cost_next grown more cost power e p = rw (p, e) (sym (ap (λ (l : List ℕ). cost_in size grown cost l) (rest_at sources i inside)))

  -- the whole cost so far with that of the sources from i on, where one source more is paid modulo 2 ^ 64
  pub whole_next : (grown more whole power : ℕ)
      → more ≡ get_or size (get_or sources i 0) 0
      → power ≡ 2 * 2 ^ (grown + more) % 2 ^ 64
      → ((whole + power) % 2 ^ 64 + whole_cost_in size (grown + more) (drop (i + 1) sources)) % 2 ^ 64
      ≡ (whole + whole_cost_in size grown (drop i sources)) % 2 ^ 64
  whole_next grown more whole power e p =
      let rest = whole_cost_in size (grown + more) (drop (i + 1) sources) in
      let paid = 2 * 2 ^ (grown + more) in
      let parts : whole_cost_in size grown (drop i sources) ≡ paid + rest =
      ap (λ (l : List ℕ). whole_cost_in size grown l) (rest_at sources i inside) ∙ ap (λ (m : ℕ). 2 * 2 ^ (grown + m) + whole_cost_in size (grown + m) (drop (i + 1) sources)) (sym e) in
      ap (λ (m : ℕ). (m + rest) % 2 ^ 64) (ap (λ (m : ℕ). (whole + m) % 2 ^ 64) p ∙ add-mod-mod whole paid (2 ^ 64))
      ∙ mod-add-mod (whole + paid) (2 ^ 64) rest
      ∙ ap (λ (m : ℕ). m % 2 ^ 64) (add_assoc whole paid rest ∙ ap (λ (m : ℕ). whole + m) (sym parts))

-- where no source is left, the sums are those of the join
pub all_joined : (size sources left : List ℕ) (grown freed whole : ℕ) (cost : Float)
    → left ≡ []
    → grown + sizes_of size left ≡ sizes_of size sources
    → freed + powers size left ≡ powers size sources
    → cost_in size grown cost left ≡ cost_in size (get_or size (get_or sources 0 0) 0) (fin false 0 (pos 0)) (drop 1 sources)
    → whole < 2 ^ 64
    → (whole + whole_cost_in size grown left) % 2 ^ 64 ≡ whole_cost_in size (get_or size (get_or sources 0 0) 0) (drop 1 sources) % 2 ^ 64
    → ◌≡◌ {A = Joining}
    (record { count = length sources; target = get_or sources 0 0; size = grown; cost = cost; whole_cost = whole; freed = freed })
    (joining_of size sources)
unfolding joining_of
all_joined size sources left grown freed whole cost none sizes dims costs small wholes =
    let s : grown ≡ sizes_of size sources = omega (arith, ap (λ (l : List ℕ). sizes_of size l) none, sizes) in
    let f : freed ≡ powers size sources = omega (arith, ap (λ (l : List ℕ). powers size l) none, dims) in
    let paid : cost_in size grown cost left ≡ cost = ap (λ (l : List ℕ). cost_in size grown cost l) none in
    let all : whole + whole_cost_in size grown left ≡ whole = omega (arith, ap (λ (l : List ℕ). whole_cost_in size grown l) none) in
    let w = sym (ap (λ (n : ℕ). n % 2 ^ 64) all ∙ mod-eq_of_lt small) ∙ wholes in
    simp (s, f, sym paid ∙ costs, w)
