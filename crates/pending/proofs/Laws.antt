-- Laws of words, operations and the form, for the code that reads them: a list's operation is its part of the words, and a list of tests is taken apart from the
-- front.
use Rattle.std.proofs.Common.{◌≡◌, ℕ, ◌+◌, ◌-◌, ◌^◌, ◌<◌, ◌≤◌, Bool, true, false, ◌&&◌, List, length, get_or, drop, refl, ap, sym, [], ◌∷◌, suc, zero, arith, ◌∙◌}
use native.Mathlib.Nat.{lt_of_lt_of_le, lt_of_le_of_lt}
use lib.Dec.{T, lt→ltb}
use lib.Bits.{and_le_l, and_le_r, or_add_and, bit_and, bit_or}
use lib.Dec.{eqb}
use borrow.Author.Tests.{eq-eqb, ne_eqb, eqb-true, eqb-false}
use lib.Count.{ones_in, ones}
use lib.Pow.{pow_mono}
use Rattle.kernels.proofs.Laws.{ones_in_width}
use Rattle.std.proofs.lemmas.List.{drop_more}
use Rattle.pending.specs.Operation.{Operation, kind}
use Rattle.pending.specs.Form.{all_zero, operation_fits, rotation_fits, measurement_fits, record_fits, mask_fits, condition_fits, conditions_fit}

-- a test that passes is true
pub passes : (b : Bool) → T b → b ≡ true
passes true h = refl
passes false h = absurd h

-- every word fits a width of 64 or more
pub word_fits : (width mask : ℕ) → 64 ≤ width → mask < 2 ^ 64 → mask_fits width mask ≡ true
word_fits width mask wide small = passes (mask_fits width mask) (lt→ltb mask (2 ^ width) (lt_of_lt_of_le small (pow_mono wide)))

-- the conditions from place i on: that one, and those behind it
pub conditions_step : (left last i : ℕ) (cs : List ℕ) → i < length cs →
    conditions_fit left last (drop i cs) ≡ condition_fits left last (get_or cs i 0) && conditions_fit (left - 1) (get_or cs i 0) (drop (i + 1) cs)
conditions_step left last i cs small = ap (conditions_fit left last) (drop_more cs i 0 small)

-- the places that two words have in common lie in the first one's 64 digits
pub ones_both : (a b : ℕ) → a < 2 ^ 64 → ones (bit_and a b) ≡ ones_in 64 (bit_and a b)
ones_both a b small = sym (ones_in_width 64 (bit_and a b) (lt_of_le_of_lt (and_le_l a b) small))

-- an operation that fits has one of three kinds
pub fits_kind : (width : ℕ) (o : Operation) → operation_fits width o ≡ true → kind o < 3
unfolding operation_fits
fits_kind width o fits = small (kind o) fits
  where
    small : (k : ℕ) → get_or (rotation_fits width o ∷ measurement_fits width o ∷ record_fits o ∷ []) k false ≡ true → k < 3
    small zero h = omega arith
    small (suc zero) h = omega arith
    small (suc (suc zero)) h = omega arith
    small (suc (suc (suc k))) h = cc

-- two words have no bit together exactly if neither has one
pub or_none : (a b : ℕ) → eqb (bit_or a b) 0 ≡ (eqb a 0 && eqb b 0)
or_none a b = go (eqb a 0) (eqb b 0) refl refl
  where
    go : (s t : Bool) → eqb a 0 ≡ s → eqb b 0 ≡ t → eqb (bit_or a b) 0 ≡ (s && t)
    go true true h g = let x = eqb-true a 0 h in let y = eqb-true b 0 g in eq-eqb (bit_or a b) 0 (omega (arith, or_add_and a b, and_le_l a b))
    go true false h g = let y = eqb-false b 0 g in ne_eqb (bit_or a b) 0 (λ e. y (omega (arith, or_add_and a b, and_le_l a b)))
    go false t h g = let x = eqb-false a 0 h in ne_eqb (bit_or a b) 0 (λ e. x (omega (arith, or_add_and a b, and_le_r a b)))

-- one word more has been seen
pub zeros_step : (seen i : ℕ) (ws : List ℕ) → i < length ws →
    (eqb seen 0 && all_zero (drop i ws)) ≡ (eqb (bit_or seen (get_or ws i 0)) 0 && all_zero (drop (i + 1) ws))
zeros_step seen i ws small =
    ap (λ (rest : List ℕ). eqb seen 0 && all_zero rest) (drop_more ws i 0 small)
    ∙ regroup (eqb seen 0) (eqb (get_or ws i 0) 0) (all_zero (drop (i + 1) ws))
    ∙ ap (λ (b : Bool). b && all_zero (drop (i + 1) ws)) (sym (or_none seen (get_or ws i 0)))
  where
    regroup : (a b c : Bool) → (a && (b && c)) ≡ ((a && b) && c)
    regroup true b c = refl
    regroup false b c = refl
