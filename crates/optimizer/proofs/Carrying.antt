-- A rotation that is carried through a list meets the same operation as in the list with what cancelled still in it: marked operations are crossed and never fused with.
-- By induction on that list.
use Rattle.std.proofs.Common.{zero, ◌≡◌, ℕ, suc, ◌+◌, ◌<◌, ◌≤◌, Bool, true, false, cond, List, [], ◌∷◌, length, get_or, set, drop, refl, ap, sym, arith}
use Rattle.std.specs.Prelude.{◌%◌, ◌&&◌, ◌||◌, eqb, ltb, not, Option, Some, None}
use Rattle.std.specs.Float.{binary64}
use Rattle.std.specs.Float.Ieee.{to_bits}
use borrow.Author.Tests.{eqb-true}
use mathlib.Core.Path.{◌∙◌, ap₂, subst}
use Rattle.std.proofs.lemmas.List.{get_or-set_other}
use Rattle.pending.specs.Operation.{Operation, kind, strings_commute, same_string, conditions_of, y_count, whole_sign}
use Rattle.optimizer_spec.specs.Passes.{Placed, placed, same_words, fused_angle, can_cross, can_fuse, cancels, fused, Carried, stays, meets, behind, meeting, carry}
use Rattle.optimizer.specs.Working.{bare, marked, is_marked, live, partner_from, met}

-- a part of the operations, with their places or without
pub bare_drop : (k : ℕ) (ps : List Placed) → bare (drop k ps) ≡ drop k (bare ps)
bare_drop zero ps = refl
bare_drop (suc k) [] = refl
bare_drop (suc k) (p ∷ ps) = bare_drop k ps

-- both stay, or both meet operation k of the list
pub data Together (a : Operation) (at : ℕ) (ps : List Placed) (os : List Operation) : Carried → Option ℕ → Type 0 where
  both_stay : Together a at ps os stays None
  both_meet : (k later : ℕ) (cancelled : Bool) (rest : List Placed) → k < length os → cancelled ≡ cancels a (get_or os k []) →
      bare rest ≡ live (set os k (met a (get_or os k []))) → length rest ≤ length ps → Together a at ps os (meets later cancelled rest) (Some (at + k))

-- ---- one operation

marked_crossed : (a b : Operation) → is_marked b ≡ true → can_cross a b ≡ true
marked_crossed a b h = ap (λ (k : ℕ). not (ltb k 2) || strings_commute a b) (eqb-true (kind b) 3 h)

marked_apart : (a b : Operation) → is_marked b ≡ true → can_fuse a b ≡ false
unfolding can_fuse
marked_apart a b h = ap (λ (k : ℕ). eqb k 0 && (same_string a b && same_words (conditions_of a) (conditions_of b))) (eqb-true (kind b) 3 h)

-- a marked one is left out, and another is not
pub leaves : (b : Operation) (os : List Operation) → is_marked b ≡ true → live (b ∷ os) ≡ live os
leaves b os h = ap (λ (t : Bool). cond (not t) (b ∷ live os) (live os)) h

pub lives : (b : Operation) (os : List Operation) → is_marked b ≡ false → live (b ∷ os) ≡ b ∷ live os
lives b os h = ap (λ (t : Bool). cond (not t) (b ∷ live os) (live os)) h

-- fusing keeps the kind
fused_kind : (a b : Operation) → kind (fused a b) ≡ kind b
unfolding fused
fused_kind a b =
    get_or-set_other (set (set b 1 (to_bits binary64 (fused_angle a b))) 4 (y_count b % 4)) 5 0 (whole_sign b) 0 (omega arith)
    ∙ get_or-set_other (set b 1 (to_bits binary64 (fused_angle a b))) 4 0 (y_count b % 4) 0 (omega arith)
    ∙ get_or-set_other b 1 0 (to_bits binary64 (fused_angle a b)) 0 (omega arith)

-- what the later one becomes stands where the fused one does, or nowhere
met_live : (a b : Operation) (os : List Operation) (cancelled : Bool) → is_marked b ≡ false → cancels a b ≡ cancelled →
    live (met a b ∷ os) ≡ cond cancelled (live os) (fused a b ∷ live os)
met_live a b os true h e = ap (λ (t : Bool). live (cond t (marked b) (fused a b) ∷ os)) e
met_live a b os false h e =
    ap (λ (t : Bool). live (cond t (marked b) (fused a b) ∷ os)) e ∙ lives (fused a b) os (ap (λ (k : ℕ). eqb k 3) (fused_kind a b) ∙ h)

-- ---- one operation more in front

module _ (a : Operation) (at : ℕ) (os : List Operation) where
  -- a marked one
  past : (b : Operation) (ps : List Placed) (c : Carried) (o : Option ℕ) → is_marked b ≡ true → Together a (suc at) ps os c o → Together a at ps (b ∷ os) c o
  past b ps c o h both_stay = both_stay
  past b ps c o h (both_meet k later cancelled rest small cancelled_is rest_is short) =
      let next : at + suc k ≡ suc at + k = omega arith in
      subst (λ (n : ℕ). Together a at ps (b ∷ os) (meets later cancelled rest) (Some n)) next
      (both_meet (suc k) later cancelled rest (omega arith) cancelled_is (rest_is ∙ sym (leaves b (set os k (met a (get_or os k []))) h)) short)

  -- one that is crossed
  crossing : (p : Placed) (ps : List Placed) (c : Carried) (o : Option ℕ) → is_marked p.operation ≡ false →
      Together a (suc at) ps os c o → Together a at (p ∷ ps) (p.operation ∷ os) (behind p c) o
  crossing p ps c o h both_stay = both_stay
  crossing p ps c o h (both_meet k later cancelled rest small cancelled_is rest_is short) =
      let next : at + suc k ≡ suc at + k = omega arith in
      subst (λ (n : ℕ). Together a at (p ∷ ps) (p.operation ∷ os) (meets later cancelled (p ∷ rest)) (Some n)) next
      (both_meet (suc k) later cancelled (p ∷ rest) (omega arith) cancelled_is
      (ap (λ (xs : List Operation). p.operation ∷ xs) rest_is ∙ sym (lives p.operation (set os k (met a (get_or os k []))) h)) (omega arith))

  -- one that is met
  meeting_it : (p : Placed) (ps : List Placed) (cancelled : Bool) → is_marked p.operation ≡ false → bare ps ≡ live os → cancels a p.operation ≡ cancelled →
      Together a at (p ∷ ps) (p.operation ∷ os)
      (cond cancelled (meets p.place true ps) (meets p.place false (placed p.place (fused a p.operation) ∷ ps))) (Some at)
  meeting_it p ps true h same e =
      let here : at + 0 ≡ at = omega arith in
      subst (λ (n : ℕ). Together a at (p ∷ ps) (p.operation ∷ os) (meets p.place true ps) (Some n)) here
      (both_meet 0 p.place true ps (omega arith) (sym e) (same ∙ sym (met_live a p.operation os true h e)) (omega arith))
  meeting_it p ps false h same e =
      let here : at + 0 ≡ at = omega arith in
      let rest = placed p.place (fused a p.operation) ∷ ps in
      subst (λ (n : ℕ). Together a at (p ∷ ps) (p.operation ∷ os) (meets p.place false rest) (Some n)) here
      (both_meet 0 p.place false rest (omega arith) (sym e)
      (ap (λ (xs : List Operation). fused a p.operation ∷ xs) same ∙ sym (met_live a p.operation os false h e)) (omega arith))

  -- by whether it is crossed and fuses
  front : (p : Placed) (ps : List Placed) (cross fuses : Bool) → is_marked p.operation ≡ false → bare ps ≡ live os →
      Together a (suc at) ps os (carry a ps) (partner_from a (suc at) os) →
      Together a at (p ∷ ps) (p.operation ∷ os)
      (cond cross (cond fuses (meeting a p ps) (behind p (carry a ps))) stays)
      (cond cross (cond fuses (Some at) (partner_from a (suc at) os)) None)
  unfolding meeting
  front p ps false fuses h same rest = both_stay
  front p ps true true h same rest = meeting_it p ps (cancels a p.operation) h same refl
  front p ps true false h same rest = crossing p ps (carry a ps) (partner_from a (suc at) os) h rest

  -- by whether it is marked
  step : (b : Operation) (ps : List Placed) (mark : Bool) → is_marked b ≡ mark → bare ps ≡ live (b ∷ os) →
      ((qs : List Placed) → bare qs ≡ live os → Together a (suc at) qs os (carry a qs) (partner_from a (suc at) os)) →
      Together a at ps (b ∷ os) (carry a ps) (partner_from a at (b ∷ os))
  unfolding carry
  step b ps true h same more =
      subst (λ (o : Option ℕ). Together a at ps (b ∷ os) (carry a ps) o)
      (sym (ap₂ (λ (cross fuses : Bool). cond cross (cond fuses (Some at) (partner_from a (suc at) os)) None) (marked_crossed a b h) (marked_apart a b h)))
      (past b ps (carry a ps) (partner_from a (suc at) os) h (more ps (same ∙ leaves b os h)))
  step b [] false h same more = absurd (let long = ap (λ (xs : List Operation). length xs) (same ∙ lives b os h) in omega arith)
  step b (p ∷ ps) false h same more =
      let all = same ∙ lives b os h in
      let head : p.operation ≡ b = ap (λ (xs : List Operation). get_or xs 0 []) all in
      let tail : bare ps ≡ live os = ap (λ (xs : List Operation). drop 1 xs) all in
      subst (λ (o : Operation). Together a at (p ∷ ps) (o ∷ os) (carry a (p ∷ ps)) (partner_from a at (o ∷ os))) head
      (front p ps (can_cross a p.operation) (can_fuse a p.operation) (ap is_marked head ∙ h) tail (more ps tail))

pub together : (a : Operation) (at : ℕ) (ps : List Placed) (os : List Operation) → bare ps ≡ live os → Together a at ps os (carry a ps) (partner_from a at os)
unfolding carry
together a at [] [] same = both_stay
together a at (p ∷ ps) [] same = absurd (let long = ap (λ (xs : List Operation). length xs) same in omega arith)
together a at ps (b ∷ os) same = step a at os b ps (is_marked b) refl same (λ qs h. together a (suc at) qs os h)
