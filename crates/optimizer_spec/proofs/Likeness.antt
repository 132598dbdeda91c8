-- An operation that a pair was fused into is like the input's operation at its place: it differs in its angle, phase and constant alone, and no test of the passes
-- reads these of a rotation. And commuting goes both ways, so an operation commutes with all that has a string of one that it commutes with.
use mathlib.Core.Path.{◌≡◌, refl, sym, ap, ap₂, ◌∙◌}
use mathlib.Core.Logic.{◌≢◌, ◌⊎◌, inl, inr, ⊎_elim}
use mathlib.Core.Bool.{Bool, true, false, cond, not, ◌&&◌, ◌||◌}
use mathlib.Core.List.{List, [], ◌∷◌}
use Prim.Native.Nat.{ℕ, suc, ◌+◌, ◌%◌}
use native.Mathlib.Omega.{arith}
use lib.Dec.{eqb, ltb}
use lib.ListN.{length, set, take}
use Rattle.std.specs.Float.{binary64}
use Rattle.std.specs.Float.Ieee.{to_bits}
use Rattle.std.specs.Int.Bits.{bit_and}
use Rattle.std.specs.Int.Count.{ones_in}
use Rattle.std.proofs.lemmas.Bool.{and_parts, or_cases, not-true, eqb-true, cond-true}
use Rattle.std.proofs.lemmas.List.{get_or-set_other, drop-set-lt, length-set}
use Rattle.std.proofs.lemmas.Nat.{and_comm}
use Rattle.pending.specs.Operation.{Operation, word, kind, is_rotation, string_at, has_string, x_of, z_of, commute, strings_commute, same_string, conditions_of, y_count, whole_sign}
use Rattle.optimizer_spec.specs.Passes.{can_cross, can_fuse, same_words, fused, fused_angle}

-- ---- commuting

even_sum : (m n : ℕ) → eqb ((m + n) % 2) 0 ≡ eqb ((n + m) % 2) 0
even_sum m n = let e : m + n ≡ n + m = omega arith in ap (λ (k : ℕ). eqb (k % 2) 0) e

pub commute_back : (x z x' z' : ℕ) → commute x z x' z' ≡ commute x' z' x z
unfolding commute
commute_back x z x' z' =
    ap₂ (λ (a b : ℕ). eqb ((ones_in 64 a + ones_in 64 b) % 2) 0) (and_comm x z') (and_comm z x')
    ∙ even_sum (ones_in 64 (bit_and z' x)) (ones_in 64 (bit_and x' z))

-- b commutes with what has the string of an a that commutes with it
pub commutes_with_same : (a b c : Operation) → strings_commute a b ≡ true → same_string a c ≡ true → strings_commute b c ≡ true
commutes_with_same a b c h s =
    let p = and_parts (eqb (x_of a) (x_of c)) (eqb (z_of a) (z_of c)) s in
    ap₂ (λ (x z : ℕ). commute (x_of b) (z_of b) x z) (sym (eqb-true _ _ p.0)) (sym (eqb-true _ _ p.1))
    ∙ commute_back (x_of b) (z_of b) (x_of a) (z_of a) ∙ h

-- ---- likeness

-- a is b but for its angle, phase and constant
pub record Like (a b : Operation) : Type 0 where
  pub words : (j : ℕ) → j ≢ 1 → j ≢ 4 → j ≢ 5 → word a j ≡ word b j
  pub x_same : x_of a ≡ x_of b
  pub z_same : z_of a ≡ z_of b
  pub conditions : conditions_of a ≡ conditions_of b
  pub size : length a ≡ length b

pub like_itself : (a b : Operation) → a ≡ b → Like a b
like_itself a b e = record {
  words = λ j p q r. ap (λ (o : Operation). word o j) e;
  x_same = ap x_of e;
  z_same = ap z_of e;
  conditions = ap conditions_of e;
  size = ap length e;
}

pub like_kind : (a b : Operation) → Like a b → kind a ≡ kind b
like_kind a b l = l.words 0 (omega arith) (omega arith) (omega arith)

pub like_crosses : (a b c d : Operation) → Like a b → Like c d → can_cross a c ≡ can_cross b d
like_crosses a b c d l m =
    ap₂ (λ (k : ℕ) (t : Bool). not (ltb k 2) || t) (like_kind c d m)
    (ap₂ (λ (x z : ℕ). commute x z (x_of c) (z_of c)) l.x_same l.z_same ∙ ap₂ (λ (x z : ℕ). commute (x_of b) (z_of b) x z) m.x_same m.z_same)

pub like_string : (a b c d : Operation) → Like a b → Like c d → same_string a c ≡ same_string b d
like_string a b c d l m =
    ap₂ (λ (s t : Bool). s && t) (ap₂ eqb l.x_same m.x_same) (ap₂ eqb l.z_same m.z_same)

pub like_fuses : (a b c d : Operation) → Like a b → Like c d → can_fuse a c ≡ can_fuse b d
unfolding can_fuse
like_fuses a b c d l m =
    ap₂ (λ (s t : Bool). s && t) (ap (λ (k : ℕ). eqb k 0) (like_kind c d m))
    (ap₂ (λ (s t : Bool). s && t) (like_string a b c d l m) (ap₂ same_words l.conditions m.conditions))

words_same : (xs ys : List ℕ) → same_words xs ys ≡ true → xs ≡ ys
unfolding same_words
words_same [] [] h = refl
words_same [] (y ∷ ys) h = cc
words_same (x ∷ xs) [] h = cc
words_same (x ∷ xs) (y ∷ ys) h =
    let p = and_parts (eqb x y) (same_words xs ys) h in ap₂ (λ (z : ℕ) (zs : List ℕ). z ∷ zs) (eqb-true x y p.0) (words_same xs ys p.1)

-- what fuses is a rotation about the same string with the same conditions
pub fuses_parts : (a b : Operation) → can_fuse a b ≡ true → (is_rotation b ≡ true) × (same_string a b ≡ true) × (conditions_of a ≡ conditions_of b)
unfolding can_fuse
fuses_parts a b h =
    let p = and_parts (is_rotation b) (same_string a b && same_words (conditions_of a) (conditions_of b)) h in
    let q = and_parts (same_string a b) (same_words (conditions_of a) (conditions_of b)) p.1 in (p.0, q.0, words_same (conditions_of a) (conditions_of b) q.1)

-- what is crossed has no string or commutes
pub crosses_parts : (a b : Operation) → can_cross a b ≡ true → (has_string b ≡ false) ⊎ (strings_commute a b ≡ true)
crosses_parts a b h = ⊎_elim (λ e. inl (not-true (has_string b) e)) (λ e. inr e) (or_cases (not (has_string b)) (strings_commute a b) h)

-- three words of an operation set
abbrev reset : Operation → (u v w : ℕ) → Operation
reset b u v w = set (set (set b 1 u) 4 v) 5 w

reset_words : (b : Operation) (u v w : ℕ) (j : ℕ) → j ≢ 1 → j ≢ 4 → j ≢ 5 → word (reset b u v w) j ≡ word b j
reset_words b u v w j p q r =
    get_or-set_other (set (set b 1 u) 4 v) 5 j w 0 r ∙ get_or-set_other (set b 1 u) 4 j v 0 q ∙ get_or-set_other b 1 j u 0 p

reset_like : (b : Operation) (u v w : ℕ) → is_rotation b ≡ true → Like (reset b u v w) b
reset_like b u v w e =
    let at : string_at b ≡ 2 = cond-true (is_rotation b) 2 1 e in
    let k : kind (reset b u v w) ≡ kind b = reset_words b u v w 0 (omega arith) (omega arith) (omega arith) in
    let at' : string_at (reset b u v w) ≡ 2 = ap (λ (n : ℕ). cond (eqb n 0) 2 1) k ∙ at in record {
      words = reset_words b u v w;
      x_same =
          ap (word (reset b u v w)) at' ∙ reset_words b u v w 2 (omega arith) (omega arith) (omega arith) ∙ sym (ap (word b) at);
      z_same =
          ap (λ (n : ℕ). word (reset b u v w) (suc n)) at' ∙ reset_words b u v w 3 (omega arith) (omega arith) (omega arith)
          ∙ sym (ap (λ (n : ℕ). word b (suc n)) at);
      conditions =
          ap (take 9) (drop-set-lt 6 (set (set b 1 u) 4 v) 5 w (omega arith) ∙ drop-set-lt 6 (set b 1 u) 4 v (omega arith) ∙ drop-set-lt 6 b 1 u (omega arith));
      size = length-set (set (set b 1 u) 4 v) 5 w ∙ length-set (set b 1 u) 4 v ∙ length-set b 1 u;
    }

pub like_trans : (a b c : Operation) → Like a b → Like b c → Like a c
like_trans a b c l m = record {
  words = λ j p q r. l.words j p q r ∙ m.words j p q r;
  x_same = l.x_same ∙ m.x_same;
  z_same = l.z_same ∙ m.z_same;
  conditions = l.conditions ∙ m.conditions;
  size = l.size ∙ m.size;
}

-- so what is left of a pair is like the later one
pub fused_like : (a b : Operation) → is_rotation b ≡ true → Like (fused a b) b
unfolding fused
fused_like a b e = reset_like b (to_bits binary64 (fused_angle a b)) (y_count b % 4) (whole_sign b) e
