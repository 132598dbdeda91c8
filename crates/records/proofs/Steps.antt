-- The record pass one record at a time: its first record decides or is passed, and the coordinates grow by a promotion alone.
-- Assumes nothing.
use mathlib.Core.Path.{◌≡◌, refl, ap, sym, ◌∙◌}
use mathlib.Core.List.{List}
use Prim.Native.Nat.{ℕ, zero, suc, ◌+◌, ◌/◌, ◌≤◌, ◌<◌}
use native.Mathlib.Numerals.{add-one}
use native.Mathlib.Nat.{suc-ne-zero}
use native.Mathlib.Omega.{arith}
use lib.ListN.{length, drop, drop_of_length-le}
use borrow.Author.Tests.{ne_eqb, ltb-true}
use mathlib.Core.Bool.{Bool, true, false, cond}
use lib.Dec.{ltb, eqb}
use Rattle.std.specs.Prelude.{Result, Ok}
use Rattle.std.specs.Result.{result_eq}
use Rattle.refusals.specs.Answer.{refused_at}
use Rattle.refusals.specs.declared.Reason.{Reason}
use Rattle.records.specs.contracts.KindPartialEq.TheImpl.{eq-value}
use Rattle.records.specs.declared.Kind.{Kind}
use Rattle.records.specs.declared.Kind.TheVariants.{Promotion}
use Rattle.records.specs.Kinds.{kind_in}
use Rattle.records.specs.Record.{kind, record_at, records_of}
use Rattle.records.specs.Pass.{Checked, Passed, number_of, promotion_number, coordinates_after, refused_or, pass_from, record_pass}
use Rattle.records.proofs.Words.{records_length, records_drop}

pub pass_start : (k : ℕ) (ws : List ℕ) → record_pass k ws ≡ pass_from 0 k (records_of ws)
unfolding record_pass
pass_start k ws = refl

pub pass_step : (i c : ℕ) (ws : List ℕ) → i < length ws / 8
    → pass_from i c (drop i (records_of ws)) ≡ refused_or (number_of c (record_at ws i)) i (pass_from (suc i) (coordinates_after c (record_at ws i)) (drop (suc i) (records_of ws)))
unfolding pass_from
pass_step i c ws h = ap (pass_from i c) (records_drop ws i h)

pub pass_end : (i c : ℕ) (ws : List ℕ) → length ws / 8 ≤ i → pass_from i c (drop i (records_of ws)) ≡ Passed
unfolding pass_from
pass_end i c ws h = ap (pass_from i c) (drop_of_length-le (records_of ws) {i = i} (rw records_length h))

pub refused : (n i : ℕ) (rest : Checked) → (n ≡ 0 → ⊥) → refused_or n i rest ≡ refused_at n i
unfolding refused_or
refused zero i rest h = absurd (h refl)
refused (suc n) i rest h = refl

pub passed : (n i : ℕ) (rest : Checked) → n ≡ 0 → refused_or n i rest ≡ rest
unfolding refused_or
passed n i rest h = ap (λ (m : ℕ). refused_or m i rest) h

-- the code's test of a kind, by the kind's number
test_of : (F : Reason → Reason → Bool) (n : ℕ) → result_eq eq-value.it F (kind_in n) (Ok Promotion) ≡ eqb n 1
test_of F zero = refl
test_of F (suc zero) = refl
test_of F (suc (suc zero)) = refl
test_of F (suc (suc (suc zero))) = refl
test_of F (suc (suc (suc (suc zero)))) = refl
test_of F (suc (suc (suc (suc (suc zero))))) = refl
test_of F (suc (suc (suc (suc (suc (suc n)))))) = sym (ne_eqb _ 1 (λ e. absurd (omega (arith, e))))

pub promotion_told : (F : Reason → Reason → Bool) (r : List ℕ) {n : ℕ} {k : Result Kind Reason} {b : Bool}
    → b ≡ result_eq eq-value.it F k (Ok Promotion) → k ≡ kind_in n → n ≡ kind r → b ≡ eqb (kind r) 1
promotion_told F r told e same = told ∙ ap (λ (k : Result Kind Reason). result_eq eq-value.it F k (Ok Promotion)) (e ∙ ap kind_in same) ∙ test_of F (kind r)

pub after_promotion : (c : ℕ) (r : List ℕ) → eqb (kind r) 1 ≡ true → coordinates_after c r ≡ c + 1
after_promotion c r h = ap (λ (b : Bool). cond b (suc c) c) h ∙ sym (add-one c)

pub after_other : (c : ℕ) (r : List ℕ) → eqb (kind r) 1 ≡ false → coordinates_after c r ≡ c
after_other c r h = ap (λ (b : Bool). cond b (suc c) c) h

-- a choice between 0 and another number that came out as 0
pub cond-true : (b : Bool) (n : ℕ) → cond b 0 (suc n) ≡ 0 → b ≡ true
cond-true true n e = refl
cond-true false n e = absurd (suc-ne-zero n e)

pub cond-false : (b : Bool) (n m : ℕ) → cond b (suc n) m ≡ 0 → (b ≡ false) × (m ≡ 0)
cond-false true n m e = absurd (suc-ne-zero n e)
cond-false false n m e = (refl, e)

-- a promotion that passes finds fewer than 512 coordinates
pub room : (c : ℕ) (r : List ℕ) → number_of c r ≡ 0 → kind r ≡ 1 → c < 512
unfolding number_of promotion_number
room c r e k = ltb-true c 512 (cond-true (ltb c 512) 9 (rw k at e))

-- Record i of the words, with c coordinates before it and the number n, and all records before it passed
module _ (k : ℕ) (ws : List ℕ) (i c n : ℕ) (h : i < length ws / 8) (so_far : record_pass k ws ≡ pass_from i c (drop i (records_of ws)))
    (number : n ≡ number_of c (record_at ws i)) where
  pub decides : (n ≡ 0 → ⊥) → refused_at n i ≡ record_pass k ws
  decides refuses = sym (so_far ∙ pass_step i c ws h ∙ rw (← number) (refused n i _ refuses))

  pub goes_on : n ≡ 0 → {c' : ℕ} → c' ≡ coordinates_after c (record_at ws i) → record_pass k ws ≡ pass_from (i + 1) c' (drop (i + 1) (records_of ws))
  goes_on passes after = so_far ∙ pass_step i c ws h ∙ rw (← number, ← after, add-one) (passed n i _ passes)
