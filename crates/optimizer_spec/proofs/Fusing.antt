-- What fusing a segment gives, by induction on the rotations that are carried: each takes its own place from the list, and that of the one that it met if the two
-- cancelled. What one carrying leaves is held as before, so every pair is legal and what is left ascends.
use mathlib.Core.Path.{◌≡◌, refl, sym, ap, ◌∙◌}
use mathlib.Core.Logic.{⊎_elim}
use mathlib.Core.Bool.{Bool, true, cond}
use mathlib.Core.List.{List, [], ◌∷◌}
use Prim.Native.Nat.{ℕ, zero, suc, ◌+◌, ◌≤◌, ◌<◌}
use native.Mathlib.Omega.{arith}
use lib.Dec.{eqb}
use lib.ListN.{length}
use Rattle.std.specs.List.{AllByRecursion as Each}
use Rattle.std.proofs.lemmas.Bool.{cond_both}
use Rattle.pending.specs.Operation.{Operation, is_rotation}
use Rattle.optimizer_spec.specs.Passes.{Placed, Carried, stays, meets, carry, Pair, Fused, keeping, pairing, carried, fuse}
use Rattle.optimizer_spec.specs.Claims.{input, IsLegal}
use Rattle.optimizer_spec.proofs.Lists.{Pairs, total}
use Rattle.optimizer_spec.proofs.Likeness.{like_itself, like_kind, like_crosses, like_fuses, fuses_parts, crosses_parts}
use Rattle.optimizer_spec.proofs.Carrying.{Met, Meeting, carry_met, met_shorter, met_total, met_each, Mine, Held, held_below, met_fuses, met_between, met_held}

pub data Fuses : List Placed → Fused → Type 0 where
  ends : Fuses [] (record { left = []; pairs = [] })
  keeps : (o : Placed) {rest : List Placed} {f : Fused} → Fuses rest f → Fuses (o ∷ rest) (keeping o f)
  fuses : (o : Placed) {rest : List Placed} {later : ℕ} {cancelled : Bool} {after : List Placed} {f : Fused} → is_rotation o.operation ≡ true
      → Met o.operation rest later cancelled after → Fuses after f
      → Fuses (o ∷ rest) (pairing (record { earlier = o.place; later = later; cancelled = cancelled }) f)

carried_fuses : (on : List Placed → Fused) (o : Placed) (rest : List Placed) (c : Carried) → is_rotation o.operation ≡ true → Meeting o.operation rest c
    → ((xs : List Placed) → length xs ≤ length rest → Fuses xs (on xs)) → Fuses (o ∷ rest) (carried on o rest c)
carried_fuses on o rest stays e m f = keeps o (f rest (omega arith))
carried_fuses on o rest (meets later cancelled after) e m f = fuses o e m (f after (met_shorter m))

pub fuse_fuses : (n : ℕ) (os : List Placed) → length os ≤ n → Fuses os (fuse n os)
unfolding fuse
fuse_fuses zero [] h = ends
fuse_fuses zero (o ∷ rest) h = absurd (omega arith)
fuse_fuses (suc n) [] h = ends
fuse_fuses (suc n) (o ∷ rest) h =
    cond_both (is_rotation o.operation) _ _ (Fuses (o ∷ rest))
    (λ e. carried_fuses (fuse n) o rest (carry o.operation rest) e (carry_met o.operation rest) (λ xs l. fuse_fuses n xs (omega arith)))
    (λ e. keeps o (fuse_fuses n rest (omega arith)))

-- each place is that of an operation that is left, or of the earlier of a pair, or of the later of a cancelled one
pub fuses_total : (w : ℕ → ℕ) {os : List Placed} {f : Fused} → Fuses os f
    → total (λ o. w o.place) f.left + total (λ p. w p.earlier) f.pairs + total (λ p. cond p.cancelled (w p.later) 0) f.pairs ≡ total (λ o. w o.place) os
fuses_total w ends = refl
fuses_total w (keeps o k) = let r = fuses_total w k in omega arith
fuses_total w (fuses o e m k) = let r = fuses_total w k in let s = met_total w m in omega arith

pub fuses_each : (P : ℕ → Type 0) {os : List Placed} {f : Fused} → Fuses os f → Each (λ o. P o.place) os → Each (λ o. P o.place) f.left
fuses_each P ends h = tt
fuses_each P (keeps o k) h = (h.0, fuses_each P k h.1)
fuses_each P (fuses o e m k) h = fuses_each P k (met_each P m h.1).0

-- a legal pair with its two places from `low` up to `high`
abbrev pub Within : List Operation → List ℕ → (low high : ℕ) → Pair → Type 0
Within os prefixes low high p = (low ≤ p.earlier) × (p.later < high) × IsLegal os prefixes p

module _ (os : List Operation) (prefixes : List ℕ) (low high : ℕ) (fits : high ≤ length os) (Fresh : ℕ → Type 0) where
  pub record Done (f : Fused) : Type 0 where
    pub legal : Each (Within os prefixes low high) f.pairs
    pub mine : Each (Mine os prefixes low high Fresh) f.left
    pub rising : Pairs (λ a b. a.place < b.place) f.left

  -- fresh are only places to which nothing was fused
  pub fuses_done : {xs : List Placed} {f : Fused} → Fuses xs f → Held os prefixes low high Fresh xs → Each (λ p. Fresh p.later → ⊥) f.pairs → Done f
  fuses_done ends h stale = record { legal = tt; mine = tt; rising = tt }
  fuses_done (keeps o k) h stale =
      let d = fuses_done k h.3 stale in record {
        legal = d.legal;
        mine = (h.0, d.mine);
        rising = (fuses_each (λ p. o.place < p) k h.1, d.rising);
      }
  fuses_done (fuses o {later = later} e m k) h stale =
      let d = fuses_done k (met_held os prefixes low high Fresh m stale.0 h.3) stale.1 in
      let i = input os prefixes in
      let behind = (met_each (λ p. o.place < p) m h.1).1 in
      let below = (met_each (λ p. p < high) m (held_below os prefixes low high Fresh _ h.3)).1 in
      let own = h.0 in
      let itself = λ (p : ℕ). like_itself (i p) (i p) refl in
      let same = fuses_parts (i o.place) (i later) (sym (like_fuses _ _ (i later) (i later) own.like (itself later)) ∙ met_fuses os prefixes low high Fresh m h.3) in record {
        legal = (
          (
            own.from,
            below,
            record {
              ascending = behind;
              inside = omega arith;
              rotations = (ap (λ (n : ℕ). eqb n 0) (sym (like_kind _ _ own.like)) ∙ e, same.0);
              string = same.1;
              conditions = same.2;
              between = λ r l g. crosses_parts (i o.place) (i r)
                  (⊎_elim
                  (λ t. sym (like_crosses _ _ (i r) (i r) own.like (itself r)) ∙ met_between os prefixes low high Fresh m h.3 r t g)
                  (λ c. c)
                  (h.2 e r l (omega arith)));
            },
          ),
          d.legal,
        );
        mine = d.mine;
        rising = d.rising;
      }
