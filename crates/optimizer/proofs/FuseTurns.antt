-- The turns of the code's loop over a segment give what fusing gives: by induction on the turns that are left, each being one step of `fuse`, or none where an
-- operation cancelled before its turn came.
use Rattle.std.proofs.Common.{◌≡◌, ℕ, zero, suc, ◌+◌, ◌<◌, ◌≤◌, Bool, true, false, cond, List, [], ◌∷◌, ◌++◌, length, get_or, set, take, drop, refl, ap, sym, arith}
use Rattle.std.specs.Prelude.{Option, Some, None}
use mathlib.Core.Path.{◌∙◌, subst}
use Rattle.std.proofs.lemmas.List.{append-nil, append_assoc, length-set, drop_more, drop_all, drop-set-lt, drop-set-add, take-set-le, take_more_set, get_or-drop}
use Rattle.std.proofs.lemmas.List.Sums.{sum_by-cons}
use Rattle.pending.specs.Operation.{Operation, is_rotation}
use Rattle.optimizer_spec.specs.Passes.{Placed, cancels, Carried, stays, carry, Pair, Fused, keeping, pairing, carried, fuse}
use Rattle.optimizer.specs.Working.{bare, cancellations, is_marked, live, partner_of, partner_from, met, Fusing, fuse_on, fuse_turn, turns}
use Rattle.optimizer.proofs.Carrying.{Together, both_stay, both_meet, together, leaves, lives}

-- state t is state s when f's pairs were fused and what f leaves was put in front
pub record Reached (s t : Fusing) (f : Fused) : Type 0 where
  pub long : length t.operations ≡ length s.operations
  pub left : t.left ≡ s.left + length f.left
  pub front : take t.left t.operations ≡ take s.left s.operations ++ bare f.left
  pub fused : t.fused ≡ s.fused + length f.pairs
  pub cancelled : t.cancelled ≡ s.cancelled + cancellations f.pairs

-- nothing is left to do
nothing : (s : Fusing) → Reached s s (record { left = []; pairs = [] })
nothing s = record {
  long = refl;
  left = omega arith;
  front = sym (append-nil (take s.left s.operations));
  fused = omega arith;
  cancelled = omega arith;
}

-- one operation is kept
kept : (s t : Fusing) (i : ℕ) (p : Placed) (f : Fused) → s.left ≤ i → i < length s.operations → p.operation ≡ get_or s.operations i [] →
    Reached (fuse_on None i s) t f → Reached s t (keeping p f)
kept s t i p f front inside p_is r = record {
  long = r.long ∙ length-set s.operations s.left (get_or s.operations i []);
  left = (let h = r.left in omega arith);
  front =
      r.front
      ∙ ap (λ (xs : List Operation). xs ++ bare f.left) (take_more_set s.operations s.left (get_or s.operations i []) (omega arith))
      ∙ append_assoc (take s.left s.operations) (get_or s.operations i [] ∷ []) (bare f.left)
      ∙ ap (λ (o : Operation). take s.left s.operations ++ (o ∷ bare f.left)) (sym p_is);
  fused = r.fused;
  cancelled = r.cancelled;
}

-- one operation goes into its partner
paired : (s t : Fusing) (i j : ℕ) (pair : Pair) (f : Fused) → s.left ≤ j →
    pair.cancelled ≡ cancels (get_or s.operations i []) (get_or s.operations j []) → Reached (fuse_on (Some j) i s) t f → Reached s t (pairing pair f)
paired s t i j pair f front cancelled_is r =
    let a = get_or s.operations i [] in
    let b = get_or s.operations j [] in
    record {
      long = r.long ∙ length-set s.operations j (met a b);
      left = r.left;
      front = r.front ∙ ap (λ (xs : List Operation). xs ++ bare f.left) (take-set-le s.left s.operations j (met a b) front);
      fused = (let h = r.fused in omega arith);
      cancelled =
          (let h = r.cancelled in
          let one = ap (λ (t : Bool). cond {A = ℕ} t 1 0) cancelled_is in
          omega (arith, sum_by-cons (λ q. cond q.cancelled 1 0) pair f.pairs));
    }

-- no operation is left
nothing_fused : (fuel : ℕ) (ps : List Placed) → bare ps ≡ [] → record { left = []; pairs = [] } ≡ fuse fuel ps
unfolding fuse
nothing_fused zero ps none = refl
nothing_fused (suc fuel) [] none = refl
nothing_fused (suc fuel) (p ∷ ps) none = absurd (let size = ap (λ (xs : List Operation). length xs) none in omega arith)

-- ---- one turn

-- what an operation leaves in the list, and its own turn
module _ (n i : ℕ) (s : Fusing) (long : i + suc n ≡ length s.operations) (front : s.left ≤ i) where
  abbrev pub here : Operation
  here = get_or s.operations i []

  abbrev pub behind_it : List Operation
  behind_it = drop (suc i) s.operations

  abbrev pub ended : Fusing
  ended = turns fuse_turn (suc n) i s

  -- the list is the operation whose turn it is, and the rest
  rest_is : drop i s.operations ≡ here ∷ behind_it
  rest_is =
      let next : i + 1 ≡ suc i = omega arith in
      drop_more s.operations i [] (omega arith) ∙ ap (λ (k : ℕ). here ∷ drop k s.operations) next

  -- what the turns behind this one do
  abbrev pub Later : Type 0
  Later = (fuel : ℕ) (ps : List Placed) (s' : Fusing) → i + suc n ≡ length s'.operations → s'.left ≤ suc i →
      bare ps ≡ live (drop (suc i) s'.operations) → length ps ≤ fuel → Reached s' (turns fuse_turn n (suc i) s') (fuse fuel ps)

  -- a rotation's turn, by what carrying it gives
  turned : (fuel : ℕ) (p : Placed) (ps : List Placed) (c : Carried) (o : Option ℕ) → Later → p.operation ≡ here → bare ps ≡ live behind_it → length ps ≤ fuel →
      Together here (suc i) ps behind_it c o → Reached s (turns fuse_turn n (suc i) (fuse_on o i s)) (carried (fuse fuel) p ps c)
  turned fuel p ps c o later p_is same few both_stay =
      let s' = fuse_on None i s in
      let unread : drop (suc i) s'.operations ≡ behind_it = drop-set-lt (suc i) s.operations s.left here (omega arith) in
      kept s (turns fuse_turn n (suc i) s') i p (fuse fuel ps) front (omega arith) p_is
      (later fuel ps s' (long ∙ sym (length-set s.operations s.left here)) (omega arith) (same ∙ ap live (sym unread)) few)
  turned fuel p ps c o later p_is same few (both_meet k place cancelled rest small cancelled_is rest_is short) =
      let j = suc i + k in
      let b = get_or s.operations j [] in
      let s' = fuse_on (Some j) i s in
      let other : get_or behind_it k [] ≡ b = get_or-drop (suc i) s.operations k [] in
      let left : drop (suc i) s'.operations ≡ set behind_it k (met here b) = drop-set-add (suc i) s.operations k (met here b) in
      paired s (turns fuse_turn n (suc i) s') i j (record { earlier = p.place; later = place; cancelled = cancelled }) (fuse fuel rest) (omega arith)
      (cancelled_is ∙ ap (cancels here) other)
      (later fuel rest s' (long ∙ sym (length-set s.operations j (met here b))) (omega arith)
      (rest_is ∙ ap (λ (o : Operation). live (set behind_it k (met here o))) other ∙ ap live (sym left)) (omega arith))

  -- by whether it is a rotation
  by_kind : (fuel : ℕ) (p : Placed) (ps : List Placed) (r : Bool) → Later → p.operation ≡ here → bare ps ≡ live behind_it → length ps ≤ fuel →
      Reached s (turns fuse_turn n (suc i) (fuse_on (cond r (partner_from here (suc i) behind_it) None) i s))
      (cond r (carried (fuse fuel) p ps (carry here ps)) (keeping p (fuse fuel ps)))
  by_kind fuel p ps true later p_is same few =
      turned fuel p ps (carry here ps) (partner_from here (suc i) behind_it) later p_is same few (together here (suc i) ps behind_it same)
  by_kind fuel p ps false later p_is same few = turned fuel p ps stays None later p_is same few both_stay

  -- by whether it is marked
  by_mark : (fuel : ℕ) (ps : List Placed) (m : Bool) → is_marked here ≡ m → Later → bare ps ≡ live (here ∷ behind_it) → length ps ≤ fuel →
      Reached s (turns fuse_turn n (suc i) (cond m s (fuse_on (partner_of s.operations i) i s))) (fuse fuel ps)
  unfolding fuse
  by_mark fuel ps true h later same few = later fuel ps s long (omega arith) (same ∙ leaves here behind_it h) few
  by_mark fuel [] false h later same few = absurd (let size = ap (λ (xs : List Operation). length xs) (same ∙ lives here behind_it h) in omega arith)
  by_mark zero (p ∷ ps) false h later same few = absurd (omega arith)
  by_mark (suc fuel) (p ∷ ps) false h later same few =
      let all = same ∙ lives here behind_it h in
      let head : p.operation ≡ here = ap (λ (xs : List Operation). get_or xs 0 []) all in
      let tail : bare ps ≡ live behind_it = ap (λ (xs : List Operation). drop 1 xs) all in
      subst (λ (o : Operation). Reached s (turns fuse_turn n (suc i) (fuse_on (partner_of s.operations i) i s)) (cond (is_rotation o) (carried (fuse fuel) p ps (carry o ps)) (keeping p (fuse fuel ps))))
      (sym head) (by_kind fuel p ps (is_rotation here) later head tail (omega arith))

-- n turns from turn i on do what `fuse` does to the operations that are not marked by then
pub fused_by_turns : (n i : ℕ) (s : Fusing) (fuel : ℕ) (ps : List Placed) → i + n ≡ length s.operations → s.left ≤ i →
    bare ps ≡ live (drop i s.operations) → length ps ≤ fuel → Reached s (turns fuse_turn n i s) (fuse fuel ps)
fused_by_turns zero i s fuel ps long front same few =
    let none = same ∙ ap live (drop_all i s.operations (omega arith)) in
    subst (λ (f : Fused). Reached s s f) (nothing_fused fuel ps none) (nothing s)
fused_by_turns (suc n) i s fuel ps long front same few =
    by_mark n i s long front fuel ps (is_marked (get_or s.operations i [])) refl
    (λ fuel' ps' s' long' front' same' few'. fused_by_turns n (suc i) s' fuel' ps' (omega arith) front' same' few')
    (same ∙ ap live (rest_is n i s long front)) few
