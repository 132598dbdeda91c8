-- A sine and a cosine whose squares sum to 1 are not both zero: a zero that binary64 holds is one of two, and of each pair of them the sum is 0.
-- Assumes nothing.
use mathlib.Core.Path.{◌≡◌, refl, sym, ap₂, ◌∙◌, subst}
use mathlib.Core.Bool.{Bool, true, false, not, ◌&&◌}
use Prim.Native.Nat.{zero, suc, ◌*◌, ◌^◌}
use native.Mathlib.Nat.{two-pow-succ, mul-pos, zero-lt-suc}
use native.Mathlib.Omega.{arith}
use lib.Dec.{T, eqb, eqb→eq}
use lib.IntN.{pos, negsuc}
use lib.Ieee.{Float, nan, inf, fin, binary64, up, down, add, mul, eq, le, fits}
use lib.Ieee.Fits.{and_l, and_r, up_pos}
use Rattle.records.specs.Pass.{within, square_sum, sums_to_one, least_sum, most_sum}
use Rattle.records.specs.Sound.{is_zero, IsUnitPair}

abbrev zero_of : Bool → Float
zero_of s = fin s 0 (pos 0)

abbrev sign_of : Float → Bool
sign_of nan = false
sign_of (inf s) = s
sign_of (fin s m e) = s

-- no zeros but these two
zero_is : (x : Float) → T (fits binary64 x) → T (is_zero x) → x ≡ zero_of (sign_of x)
unfolding fits eq
zero_is nan f z = absurd z
zero_is (inf s) f z = absurd z
zero_is (fin s zero (pos zero)) f z = refl
zero_is (fin s zero (pos (suc k))) f z = absurd (omega (arith, eqb→eq (2 ^ suc k * 1) 1 f, two-pow-succ k))
zero_is (fin s zero (negsuc k)) f z = absurd (omega (arith, eqb→eq (1 * 2 ^ suc k) 1 f, two-pow-succ k))
zero_is (fin s (suc m) e) f z =
    let nothing : suc m * up e * 1 ≡ 0 * 1 * down e = eqb→eq (suc m * up e * 1) (0 * 1 * down e) (and_l (eqb (suc m * up e * 1) (0 * 1 * down e)) _ z) in
    absurd (omega (arith, nothing, mul-pos {m = suc m} {n = up e} (zero-lt-suc m) (up_pos e)))

no_sum : (s t : Bool) → sums_to_one (zero_of s) (zero_of t) ≡ false
unfolding sums_to_one square_sum within add mul le
no_sum true true = refl
no_sum true false = refl
no_sum false true = refl
no_sum false false = refl

zeros_fail : (s c : Float) → T (fits binary64 s) → T (fits binary64 c) → T (is_zero s) → T (is_zero c) → sums_to_one s c ≡ false
zeros_fail s c s_fits c_fits s_zero c_zero =
    ap₂ sums_to_one (zero_is s s_fits s_zero) (zero_is c c_fits c_zero) ∙ no_sum (sign_of s) (sign_of c)

not_both : (s c : Float) → T (fits binary64 s) → T (fits binary64 c) → T (sums_to_one s c) → T (not (is_zero s && is_zero c))
not_both s c s_fits c_fits one = go (is_zero s && is_zero c) refl
  where
    go : (b : Bool) → (is_zero s && is_zero c) ≡ b → T (not b)
    go false e = tt
    go true e =
        let t : T (is_zero s && is_zero c) = subst T (sym e) tt in
        subst T (zeros_fail s c s_fits c_fits (and_l (is_zero s) (is_zero c) t) (and_r (is_zero s) (is_zero c) t)) one

pub pair_sound : (s c : Float) → T (fits binary64 s) → T (fits binary64 c) → T (sums_to_one s c) → IsUnitPair s c
unfolding sums_to_one within
pair_sound s c s_fits c_fits one =
    record {
      from = and_l (le least_sum (square_sum s c)) (le (square_sum s c) most_sum) one;
      to = and_r (le least_sum (square_sum s c)) (le (square_sum s c) most_sum) one;
      not_both_zero = not_both s c s_fits c_fits one;
    }
