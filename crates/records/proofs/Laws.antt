-- What later crates use of the record pass and of reading, proved once: a record that passes is sound, since each test that it failed would have
-- given a number that is not 0; a refusal's number and index are in range; the instructions are the records', one by one.
-- Assumes nothing.
use mathlib.Core.Path.{◌≡◌, refl, sym, ap, ◌∙◌, subst}
use mathlib.Core.Bool.{Bool, true, false, not, ◌&&◌, ◌||◌, cond}
use mathlib.Core.Logic.{◌⊎◌, inl, inr}
use mathlib.Core.List.{List, [], ◌∷◌, map}
use Prim.Native.Nat.{ℕ, zero, suc, ◌+◌, ◌/◌, ◌≤◌, ◌<◌, zero-le, suc-le-suc, ◌^◌}
use native.Mathlib.Nat.{suc-ne-zero, not-suc-le-zero, le_of_suc-le-suc}
use native.Mathlib.Omega.{arith}
use lib.Dec.{T, leb, ltb, eqb, leb→le, eqb→eq}
use lib.ListN.{length, get_or, take, length-map}
use lib.Ieee.{Float, nan, inf, fin, binary64, is_nan, le, of_bits, to_bits}
use lib.Ieee.Scale.{finite}
use lib.Ieee.Fits.{and_l, and_r}
use lib.Ieee.Bits.{of_bits-fits, to_bits-of_bits}
use Rattle.refusals.specs.Answer.{refused_at}
use borrow.Author.Tests.{ltb-false, eqb-true}
use Rattle.records.specs.declared.Instruction.{Instruction}
use Rattle.records.specs.Record.{word_of, kind, width, phase, angle, sine, cosine, flag, record_at, records_of, instruction_of, instructions_of}
use Rattle.records.specs.Pass.{Checked, Passed, one, minus_one, within, within_one, action_number, floats_number, sums_to_one, squares_number, or_else, rotation_number, promotion_number, measurement_number, numbers_by_kind, number_of, coordinates_after, refused_or, pass_from, record_pass}
use Rattle.records.specs.Sound.{IsInUnitRange, IsSoundAction, IsSoundRotation, IsSoundMeasurement, IsSound, coordinates_through, IsPassNumber, IsPassRefusal}
use Rattle.records.proofs.Words.{records_length, records-at}
use Rattle.records.proofs.Pairs.{pair_sound}
use Rattle.records.proofs.Steps.{pass_start, cond-true, cond-false, room}

-- ---- one record that passes

-- an entry that is 0 is no default, which is not
listed : (t : List ℕ) (k d : ℕ) → get_or t k (suc d) ≡ 0 → k < length t
listed [] k d e = absurd (suc-ne-zero d e)
listed (x ∷ t) zero d e = suc-le-suc zero-le
listed (x ∷ t) (suc k) d e = suc-le-suc (listed t k d e)

both_zero : (m n : ℕ) → or_else m n ≡ 0 → (m ≡ 0) × (n ≡ 0)
unfolding or_else
both_zero zero n e = (refl, e)
both_zero (suc m) n e = absurd (suc-ne-zero m e)

action_sound : (r : List ℕ) → action_number r ≡ 0 → IsSoundAction r
unfolding action_number
action_sound r e =
    let w = cond-false (ltb 62 (width r)) 5 (cond (ltb 3 (phase r)) 7 0) e in
    let p = cond-false (ltb 3 (phase r)) 6 0 w.1 in
    record { width_small = ltb-false 62 (width r) w.0; phase_small = ltb-false 3 (phase r) p.0 }

finite_no_nan : (x : Float) → T (finite x) → T (not (is_nan x))
unfolding is_nan
finite_no_nan nan t = t
finite_no_nan (inf s) t = tt
finite_no_nan (fin s m e) t = tt

above_no_nan : (x : Float) → T (le minus_one x) → T (not (is_nan x))
unfolding is_nan le
above_no_nan nan t = t
above_no_nan (inf s) t = tt
above_no_nan (fin s m e) t = tt

range_sound : (x : Float) → T (within_one x) → IsInUnitRange x
unfolding within_one within
range_sound x t =
    let a = and_l (le minus_one x) (le x one) t in
    record { no_nan = above_no_nan x a; from = a; to = and_r (le minus_one x) (le x one) t }

rotation_sound : (r : List ℕ) → rotation_number r ≡ 0 → IsSoundRotation r
unfolding rotation_number floats_number squares_number
rotation_sound r e =
    let n = both_zero (action_number r) (or_else (floats_number r) (squares_number r)) e in
    let f = both_zero (floats_number r) (squares_number r) n.1 in
    let a = finite (angle r) in
    let s = within_one (sine r) in
    let c = within_one (cosine r) in
    let t : T (a && (s && c)) = subst T (sym (cond-true (a && (s && c)) 7 f.0)) tt in
    let u = and_r a (s && c) t in
    record {
      action = action_sound r n.0;
      angle_finite = and_l a (s && c) t;
      sine_range = range_sound (sine r) (and_l s c u);
      cosine_range = range_sound (cosine r) (and_r s c u);
      unit =
          pair_sound (sine r) (cosine r) (of_bits-fits binary64 (word_of r 6)) (of_bits-fits binary64 (word_of r 7))
          (subst T (sym (cond-true (sums_to_one (sine r) (cosine r)) 24 f.1)) tt);
    }

measurement_sound : (r : List ℕ) → measurement_number r ≡ 0 → IsSoundMeasurement r
unfolding measurement_number
measurement_sound r e =
    record {
      flag_small = le_of_suc-le-suc (listed (action_number r ∷ 0 ∷ []) (flag r) 8 e);
      action = λ f. action_sound r (rw f at e);
    }

number_sound : (c : ℕ) (r : List ℕ) → number_of c r ≡ 0 → IsSound r
unfolding number_of
number_sound c r e =
    record {
      kind_small = le_of_suc-le-suc (listed (numbers_by_kind c r) (kind r) 4 e);
      rotation = λ k. rotation_sound r (rw k at e);
      measurement = λ k. measurement_sound r (rw k at e);
    }

-- ---- all records, where the pass is passed

first_passed : (n i : ℕ) (rest : Checked) → refused_or n i rest ≡ Passed → (n ≡ 0) × (rest ≡ Passed)
unfolding refused_or
first_passed zero i rest e = (refl, e)
first_passed (suc n) i rest e = let z : ◌≡◌ {A = ℕ} 0 1 = cc in absurd (suc-ne-zero 0 (sym z))

sound_from : (rs : List (List ℕ)) (i c : ℕ) → pass_from i c rs ≡ Passed → (j : ℕ) (d : List ℕ) → j < length rs → IsSound (get_or rs j d)
unfolding pass_from
sound_from [] i c e j d h = absurd (not-suc-le-zero h)
sound_from (r ∷ rs) i c e zero d h = number_sound c r (first_passed (number_of c r) i (pass_from (suc i) (coordinates_after c r) rs) e).0
sound_from (r ∷ rs) i c e (suc j) d h =
    sound_from rs (suc i) (coordinates_after c r) (first_passed (number_of c r) i (pass_from (suc i) (coordinates_after c r) rs) e).1 j d (le_of_suc-le-suc h)

-- each record of words that pass is sound
pub passed_sound : (k : ℕ) (ws : List ℕ) → record_pass k ws ≡ Passed → (i : ℕ) → i < length ws / 8 → IsSound (record_at ws i)
passed_sound k ws e i h =
    rw (records-at ws i [] h) at (sound_from (records_of ws) 0 k (sym (pass_start k ws) ∙ e) i [] (rw records_length h))

after_bounded : (c : ℕ) (r : List ℕ) → number_of c r ≡ 0 → c ≤ 512 → coordinates_after c r ≤ 512
after_bounded c r e h = go (eqb (kind r) 1) refl
  where
    go : (b : Bool) → eqb (kind r) 1 ≡ b → cond b (suc c) c ≤ 512
    go true t = room c r e (eqb-true (kind r) 1 t)
    go false t = h

bounded_from : (rs : List (List ℕ)) (i c : ℕ) → pass_from i c rs ≡ Passed → c ≤ 512 → (n : ℕ) → coordinates_through c (take n rs) ≤ 512
unfolding pass_from
bounded_from [] i c e h zero = h
bounded_from [] i c e h (suc n) = h
bounded_from (r ∷ rs) i c e h zero = h
bounded_from (r ∷ rs) i c e h (suc n) =
    let p = first_passed (number_of c r) i (pass_from (suc i) (coordinates_after c r) rs) e in
    bounded_from rs (suc i) (coordinates_after c r) p.1 (after_bounded c r p.0 h) n

-- words that pass make no more than 512 coordinates, after any number n of their records
pub passed_coordinates : (k : ℕ) (ws : List ℕ) → k ≤ 512 → record_pass k ws ≡ Passed → (n : ℕ) → coordinates_through k (take n (records_of ws)) ≤ 512
passed_coordinates k ws h e n = bounded_from (records_of ws) 0 k (sym (pass_start k ws) ∙ e) h n

-- ---- the floats of a rotation that passes, by their bits

no_nan_at : (r : List ℕ) → IsSoundRotation r → (j : ℕ) → j < 3 → T (not (is_nan (of_bits binary64 (word_of r (5 + j)))))
no_nan_at r s zero h = finite_no_nan (angle r) s.angle_finite
no_nan_at r s (suc zero) h = s.sine_range.no_nan
no_nan_at r s (suc (suc zero)) h = s.cosine_range.no_nan
no_nan_at r s (suc (suc (suc j))) h = absurd (omega arith)

-- angle (j 0), sine (1) and cosine (2) have their words as their bits
pub rotation_bits : (r : List ℕ) → IsSoundRotation r → (j : ℕ) → j < 3 → word_of r (5 + j) < 2 ^ 64 → to_bits binary64 (of_bits binary64 (word_of r (5 + j))) ≡ word_of r (5 + j)
rotation_bits r s j h w = to_bits-of_bits binary64 (word_of r (5 + j)) w (no_nan_at r s j h)

-- ---- the instructions

map_at : {A B : Type 0} (f : A → B) (l : List A) (i : ℕ) (d : B) (a : A) → i < length l → get_or (map f l) i d ≡ f (get_or l i a)
map_at f [] i d a h = absurd (not-suc-le-zero h)
map_at f (x ∷ l) zero d a h = refl
map_at f (x ∷ l) (suc i) d a h = map_at f l i d a (le_of_suc-le-suc h)

pub instructions_length : (ws : List ℕ) → length (instructions_of ws) ≡ length ws / 8
unfolding instructions_of
instructions_length ws = length-map (records_of ws) instruction_of ∙ records_length ws

pub instruction_at : (ws : List ℕ) (i : ℕ) (d : Instruction) → i < length ws / 8 → get_or (instructions_of ws) i d ≡ instruction_of (record_at ws i)
unfolding instructions_of
instruction_at ws i d h =
    map_at instruction_of (records_of ws) i d [] (rw records_length h) ∙ ap instruction_of (records-at ws i [] h)

-- ---- a refusal

-- 0, which passes, or a refusal's number
abbrev allowed : ℕ → Bool
allowed n = eqb n 0 || ((leb 5 n && leb n 10) || eqb n 25)

cond_allowed : (b : Bool) (m n : ℕ) → T (allowed m) → T (allowed n) → T (allowed (cond b m n))
cond_allowed true m n s t = s
cond_allowed false m n s t = t

else_allowed : (m n : ℕ) → T (allowed m) → T (allowed n) → T (allowed (or_else m n))
unfolding or_else
else_allowed zero n s t = t
else_allowed (suc m) n s t = s

abbrev AllAllowed : List ℕ → Type 0
AllAllowed [] = Unit
AllAllowed (x ∷ t) = T (allowed x) × AllAllowed t

entry_allowed : (t : List ℕ) (k d : ℕ) → AllAllowed t → T (allowed d) → T (allowed (get_or t k d))
entry_allowed [] k d a s = s
entry_allowed (x ∷ t) zero d a s = a.0
entry_allowed (x ∷ t) (suc k) d a s = entry_allowed t k d a.1 s

action_allowed : (r : List ℕ) → T (allowed (action_number r))
unfolding action_number
action_allowed r = cond_allowed (ltb 62 (width r)) 6 (cond (ltb 3 (phase r)) 7 0) tt (cond_allowed (ltb 3 (phase r)) 7 0 tt tt)

number_allowed : (c : ℕ) (r : List ℕ) → T (allowed (number_of c r))
unfolding number_of rotation_number floats_number squares_number promotion_number measurement_number
number_allowed c r =
    entry_allowed (numbers_by_kind c r) (kind r) 5 (
      else_allowed (action_number r) (or_else (floats_number r) (squares_number r)) (action_allowed r)
          (else_allowed (floats_number r) (squares_number r)
          (cond_allowed (finite (angle r) && (within_one (sine r) && within_one (cosine r))) 0 8 tt tt)
          (cond_allowed (sums_to_one (sine r) (cosine r)) 0 25 tt tt)),
      (
        cond_allowed (ltb c 512) 0 10 tt tt,
        (tt, (tt, (entry_allowed (action_number r ∷ 0 ∷ []) (flag r) 9 (action_allowed r, (tt, tt)) tt, (tt, tt)))),
      ),
    )
    tt

range : (n : ℕ) → T (allowed n) → (n ≡ 0 → ⊥) → IsPassNumber n
range n t h = go (eqb n 0) refl (leb 5 n && leb n 10) refl t
  where
    go : (b : Bool) → eqb n 0 ≡ b → (d : Bool) → (leb 5 n && leb n 10) ≡ d → T (b || (d || eqb n 25)) → IsPassNumber n
    go true e d f t = absurd (h (eqb-true n 0 e))
    go false e true f t =
        let u : T (leb 5 n && leb n 10) = subst T (sym f) tt in
        inl (leb→le 5 n (and_l (leb 5 n) (leb n 10) u), leb→le n 10 (and_r (leb 5 n) (leb n 10) u))
    go false e false f t = inr (eqb→eq n 25 t)

-- the first record is refused, or a later one is
which : (n i : ℕ) (rest : Checked) (m j : ℕ) → refused_or n i rest ≡ refused_at m j → ((m ≡ n) × (j ≡ i) × (n ≡ 0 → ⊥)) ⊎ (rest ≡ refused_at m j)
unfolding refused_or
which zero i rest m j e = inr e
which (suc n) i rest m j e = inl ((cc), (cc), suc-ne-zero n)

refused_from : (rs : List (List ℕ)) (i c m j : ℕ) → pass_from i c rs ≡ refused_at m j → IsPassNumber m × (j < i + length rs)
unfolding pass_from
refused_from [] i c m j e = let z : ◌≡◌ {A = ℕ} 0 1 = cc in absurd (suc-ne-zero 0 (sym z))
refused_from (r ∷ rs) i c m j e = go (which (number_of c r) i (pass_from (suc i) (coordinates_after c r) rs) m j e) (refused_from rs (suc i) (coordinates_after c r) m j)
  where
    go : ((m ≡ number_of c r) × (j ≡ i) × (number_of c r ≡ 0 → ⊥)) ⊎ (pass_from (suc i) (coordinates_after c r) rs ≡ refused_at m j)
        → (pass_from (suc i) (coordinates_after c r) rs ≡ refused_at m j → IsPassNumber m × (j < suc i + length rs))
        → IsPassNumber m × (j < i + suc (length rs))
    go (inl f) later = (subst IsPassNumber (sym f.0) (range (number_of c r) (number_allowed c r) f.2), omega (arith, f.1))
    go (inr g) later =
        let b = later g in
        (b.0, omega (arith, b.1))

-- a refusal has a number 5 to 10 or 25 and a record of the words
pub refused_in : (k : ℕ) (ws : List ℕ) (n i : ℕ) → record_pass k ws ≡ refused_at n i → IsPassRefusal ws n i
refused_in k ws n i e =
    let b = refused_from (records_of ws) 0 k n i (sym (pass_start k ws) ∙ e) in
    record { number_of_pass = b.0; index_below = omega (arith, b.1, records_length ws) }
