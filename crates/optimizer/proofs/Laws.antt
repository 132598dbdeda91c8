-- Laws of the searches: a list is taken apart from the front, an entry a turn.
use Rattle.std.proofs.Common.{◌≡◌, ℕ, suc, ◌+◌, ◌-◌, ◌<◌, ◌≤◌, true, ◌&&◌, eqb, List, length, get_or, drop, ap, arith, sym, false, Bool, [], refl}
use Rattle.std.specs.Prelude.{◌||◌}
use Rattle.std.specs.List.{list_any, position_from}
use mathlib.Core.Path.{◌∙◌, ap₂}
use Rattle.std.proofs.lemmas.List.{drop_more, drop_all}
use Rattle.std.specs.Prelude.{◌%◌, Float, None}
use Rattle.pending.specs.Operation.{Operation, y_count, whole_sign}
use Rattle.optimizer_spec.specs.Passes.{same_words, fused_angle, cancels, fused}
use Rattle.optimizer.specs.Working.{partner_from, rewritten, met, turns}

-- two runs from place i on: these two words, and those behind
pub same_step : (i : ℕ) (vs ws : List ℕ) → i < length vs → i < length ws →
    same_words (drop i vs) (drop i ws) ≡ eqb (get_or vs i 0) (get_or ws i 0) && same_words (drop (i + 1) vs) (drop (i + 1) ws)
unfolding same_words
same_step i vs ws l m = ap₂ same_words (drop_more vs i 0 l) (drop_more ws i 0 m)

-- runs of no words are equal
pub same_ends : (i : ℕ) (vs ws : List ℕ) → length vs ≡ length ws → length vs ≡ i → same_words (drop i vs) (drop i ws) ≡ true
unfolding same_words
same_ends i vs ws same end = ap₂ same_words (drop_all i vs (omega arith)) (drop_all i ws (omega arith))

-- a rotation that has come to the end has no partner
pub partner_ends : (a : Operation) (at i : ℕ) (os : List Operation) → length os ≤ i → partner_from a at (drop i os) ≡ None
partner_ends a at i os end = ap (partner_from a at) (drop_all i os end)

-- what is written with the angle, phase and sign of two rotations is what they become
pub met_is : (a b later : Operation) (angle : Float) (phase constant : ℕ) → later ≡ b → angle ≡ fused_angle a b → phase ≡ y_count b → constant ≡ whole_sign b →
    rewritten angle (phase % 4) constant later ≡ met a b
unfolding cancels fused
met_is a b later angle phase constant later_is angle_is phase_is constant_is = λ i. rewritten (angle_is i) (phase_is i % 4) (constant_is i) (later_is i)

-- the turns that are left after one more
pub one_more : {S : Type 0} (turn : ℕ → S → S) (n i : ℕ) (s : S) → i < n → turns turn (n - (i + 1)) (i + 1) (turn i s) ≡ turns turn (n - i) i s
one_more turn n i s small =
    let next : i + 1 ≡ suc i = omega arith in
    let count : suc (n - (i + 1)) ≡ n - i = omega arith in
    ap (λ (k : ℕ). turns turn (n - (i + 1)) k (turn i s)) next ∙ ap (λ (m : ℕ). turns turn m i s) count

-- whether some operation passes a test: one that does not is passed over, and none is left at the end
pub none_here : (test : Operation → Bool) (i : ℕ) (os : List Operation) (o : Operation) → i < length os → o ≡ get_or os i [] → test o ≡ false →
    list_any test (drop i os) ≡ list_any test (drop (i + 1) os)
none_here test i os o small o_is h =
    ap (list_any test) (drop_more os i [] small) ∙ ap (λ (b : Bool). b || list_any test (drop (i + 1) os)) (ap test (sym o_is) ∙ h)

pub none_left : (test : Operation → Bool) (i : ℕ) (os : List Operation) → length os ≤ i → list_any test (drop i os) ≡ false
none_left test i os end = ap (list_any test) (drop_all i os end)

pub nowhere : (test : Operation → Bool) (at i : ℕ) (os : List Operation) → length os ≤ i → position_from test at (drop i os) ≡ None
nowhere test at i os end = ap (position_from test at) (drop_all i os end)

-- two tests that pass together, each by itself
pub both_front : (a b : Bool) → (a && b) ≡ true → a ≡ true
both_front true b h = refl
both_front false b h = h

pub both_behind : (a b : Bool) → (a && b) ≡ true → b ≡ true
both_behind true b h = h
both_behind false b h = cc
