-- What carrying a rotation gives: it has crossed all that stands in front of the one that it meets, and these stay. So it crosses all operations between the two, and
-- what commutes with it, a rotation that it has crossed, crosses the one that it met as well, which is about its string.
use mathlib.Core.Path.{◌≡◌, refl, sym, ap, ◌∙◌, subst}
use mathlib.Core.Logic.{◌⊎◌, inl, inr, ⊎_elim}
use mathlib.Core.Bool.{Bool, true, false, cond, not, ◌||◌}
use mathlib.Core.List.{List, [], ◌∷◌}
use Prim.Native.Nat.{ℕ, ◌+◌, ◌≤◌, ◌<◌}
use native.Mathlib.Omega.{arith}
use lib.ListN.{length}
use Rattle.std.specs.List.{AllByRecursion as Each}
use Rattle.std.proofs.lemmas.Bool.{cond_both, eqb-true, lt-ltb, or_right}
use Rattle.pending.specs.Operation.{Operation, kind, is_rotation, has_string, strings_commute}
use Rattle.optimizer_spec.specs.Passes.{Placed, placed, can_cross, can_fuse, cancels, fused, Carried, stays, meets, behind, meeting, carry}
use Rattle.optimizer_spec.specs.Claims.{input}
use Rattle.optimizer_spec.proofs.Lists.{total}
use Rattle.optimizer_spec.proofs.Likeness.{Like, like_itself, like_trans, like_crosses, like_fuses, fuses_parts, fused_like, commutes_with_same}

-- a, carried over a list, meets the operation at place `later`, and `after` is what is left
pub data Met (a : Operation) : List Placed → (later : ℕ) (cancelled : Bool) (after : List Placed) → Type 0 where
  joins : (b : Placed) (rest : List Placed) → can_cross a b.operation ≡ true → can_fuse a b.operation ≡ true → cancels a b.operation ≡ false
      → Met a (b ∷ rest) b.place false (placed b.place (fused a b.operation) ∷ rest)
  annuls : (b : Placed) (rest : List Placed) → can_cross a b.operation ≡ true → can_fuse a b.operation ≡ true → cancels a b.operation ≡ true
      → Met a (b ∷ rest) b.place true rest
  crosses : (b : Placed) {rest : List Placed} {later : ℕ} {cancelled : Bool} {after : List Placed} → can_cross a b.operation ≡ true
      → Met a rest later cancelled after → Met a (b ∷ rest) later cancelled (b ∷ after)

abbrev pub Meeting : Operation → List Placed → Carried → Type 0
Meeting a rest stays = Unit {0}
Meeting a rest (meets later cancelled after) = Met a rest later cancelled after

behind_met : (a : Operation) (b : Placed) (rest : List Placed) (c : Carried) → can_cross a b.operation ≡ true → Meeting a rest c
    → Meeting a (b ∷ rest) (behind b c)
behind_met a b rest stays h m = tt
behind_met a b rest (meets later cancelled after) h m = crosses b h m

pub carry_met : (a : Operation) (rest : List Placed) → Meeting a rest (carry a rest)
unfolding carry meeting
carry_met a [] = tt
carry_met a (b ∷ rest) =
    let m = carry_met a rest in
    cond_both (can_cross a b.operation) _ _ (Meeting a (b ∷ rest))
    (λ h. cond_both (can_fuse a b.operation) _ _ (Meeting a (b ∷ rest))
    (λ f. cond_both (cancels a b.operation) _ _ (Meeting a (b ∷ rest)) (λ e. annuls b rest h f e) (λ e. joins b rest h f e))
    (λ e. behind_met a b rest (carry a rest) h m))
    (λ e. tt)

-- ---- what becomes of the places

pub met_shorter : {a : Operation} {rest : List Placed} {later : ℕ} {cancelled : Bool} {after : List Placed} → Met a rest later cancelled after
    → length after ≤ length rest
met_shorter (joins b rest h f c) = omega arith
met_shorter (annuls b rest h f c) = omega arith
met_shorter (crosses b h m) = let r = met_shorter m in omega arith

pub met_total : (w : ℕ → ℕ) {a : Operation} {rest : List Placed} {later : ℕ} {cancelled : Bool} {after : List Placed} → Met a rest later cancelled after
    → total (λ o. w o.place) after + cond cancelled (w later) 0 ≡ total (λ o. w o.place) rest
met_total w (joins b rest h f c) = omega arith
met_total w (annuls b rest h f c) = omega arith
met_total w (crosses b h m) = let r = met_total w m in omega arith

-- what holds of all places holds of those that are left, and of the one that was met
pub met_each : (P : ℕ → Type 0) {a : Operation} {rest : List Placed} {later : ℕ} {cancelled : Bool} {after : List Placed} → Met a rest later cancelled after
    → Each (λ o. P o.place) rest → Each (λ o. P o.place) after × P later
met_each P (joins b rest h f c) e = (e, e.0)
met_each P (annuls b rest h f c) e = (e.1, e.0)
met_each P (crosses b h m) e = let r = met_each P m e.1 in ((e.0, r.0), r.1)

-- r is the place of an operation of the list
abbrev pub At : ℕ → List Placed → Type 0
At r [] = ⊥
At r (o ∷ rest) = (r ≡ o.place) ⊎ At r rest

pub at_each : (P : ℕ → Type 0) (r : ℕ) (xs : List Placed) → Each (λ o. P o.place) xs → At r xs → P r
at_each P r [] e t = absurd t
at_each P r (x ∷ xs) e (inl h) = subst P (sym h) e.0
at_each P r (x ∷ xs) e (inr t) = at_each P r xs e.1 t

pub met_at : (r : ℕ) {a : Operation} {rest : List Placed} {later : ℕ} {cancelled : Bool} {after : List Placed} → Met a rest later cancelled after
    → At r rest → At r after ⊎ (r ≡ later)
met_at r (joins b rest h f c) t = inl t
met_at r (annuls b rest h f c) (inl e) = inr e
met_at r (annuls b rest h f c) (inr t) = inl t
met_at r (crosses b h m) (inl e) = inl (inl e)
met_at r (crosses b h m) (inr t) = ⊎_elim (λ s. inl (inr s)) (λ e. inr e) (met_at r m t)

-- ---- what is held of a list in a segment from `low` to `high`

-- a rotation that crosses another commutes with it
rotations_commute : (a b : Operation) → is_rotation b ≡ true → can_cross a b ≡ true → strings_commute a b ≡ true
rotations_commute a b e h =
    let k = eqb-true (kind b) 0 e in
    let s : has_string b ≡ true = lt-ltb (kind b) 2 (omega arith) in
    sym (ap (λ (t : Bool). not t || strings_commute a b) s) ∙ h

module _ (os : List Operation) (prefixes : List ℕ) (low high : ℕ) (Fresh : ℕ → Type 0) where
  -- an operation that is left has its place in the segment and is like the input's there, and is that where nothing was fused into it
  pub record Mine (o : Placed) : Type 0 where
    pub from : low ≤ o.place
    pub below : o.place < high
    pub whole : Fresh o.place → o.operation ≡ input os prefixes o.place
    pub like : Like o.operation (input os prefixes o.place)

  -- what the rotation o does not find behind itself, of the input's operations behind it, it could cross
  abbrev pub Clear : Placed → List Placed → Type 0
  Clear o rest =
      is_rotation o.operation ≡ true → (r : ℕ) → o.place < r → r < high → At r rest ⊎ (can_cross (input os prefixes o.place) (input os prefixes r) ≡ true)

  abbrev pub Held : List Placed → Type 0
  Held [] = Unit {0}
  Held (o ∷ rest) = Mine o × Each (λ x. o.place < x.place) rest × Clear o rest × Held rest

  pub held_below : (xs : List Placed) → Held xs → Each (λ o. o.place < high) xs
  held_below [] h = tt
  held_below (x ∷ xs) h = (h.0.below, held_below xs h.3)

  module _ {a : Operation} where
    -- a could be fused with the input's operation
    pub met_fuses : {rest : List Placed} {later : ℕ} {cancelled : Bool} {after : List Placed} → Met a rest later cancelled after → Held rest
        → can_fuse a (input os prefixes later) ≡ true
    met_fuses (joins b rest h f c) k = sym (like_fuses a a b.operation _ (like_itself a a refl) k.0.like) ∙ f
    met_fuses (annuls b rest h f c) k = sym (like_fuses a a b.operation _ (like_itself a a refl) k.0.like) ∙ f
    met_fuses (crosses b h m) k = met_fuses m k.3

    -- and crosses what is left in front of it
    pub met_between : {rest : List Placed} {later : ℕ} {cancelled : Bool} {after : List Placed} → Met a rest later cancelled after → Held rest
        → (r : ℕ) → At r rest → r < later → can_cross a (input os prefixes r) ≡ true
    met_between (joins b rest h f c) k r (inl e) l = absurd (omega arith)
    met_between (joins b rest h f c) k r (inr t) l = absurd (let g = at_each (λ p. b.place < p) r rest k.1 t in omega arith)
    met_between (annuls b rest h f c) k r (inl e) l = absurd (omega arith)
    met_between (annuls b rest h f c) k r (inr t) l = absurd (let g = at_each (λ p. b.place < p) r rest k.1 t in omega arith)
    met_between (crosses b h m) k r (inl e) l =
        ap (λ (p : ℕ). can_cross a (input os prefixes p)) e ∙ sym (like_crosses a a b.operation _ (like_itself a a refl) k.0.like) ∙ h
    met_between (crosses b h m) k r (inr t) l = met_between m k.3 r t l

    -- what was crossed crosses the one that was met
    crossed_crosses : (b : Placed) {rest : List Placed} {later : ℕ} {cancelled : Bool} {after : List Placed} → can_cross a b.operation ≡ true
        → Met a rest later cancelled after → Mine b → Held rest → is_rotation b.operation ≡ true
        → can_cross (input os prefixes b.place) (input os prefixes later) ≡ true
    crossed_crosses b {later = later} h m k held e =
        let i = input os prefixes later in
        sym (like_crosses b.operation (input os prefixes b.place) i i k.like (like_itself i i refl))
        ∙ or_right (not (has_string i)) (strings_commute b.operation i)
        (commutes_with_same a b.operation i (rotations_commute a b.operation e h) (fuses_parts a i (met_fuses m held)).1)

    pub met_held : {rest : List Placed} {later : ℕ} {cancelled : Bool} {after : List Placed} → Met a rest later cancelled after
        → (Fresh later → ⊥) → Held rest → Held after
    met_held (joins b rest h f c) stale k =
        let e = (fuses_parts a b.operation f).0 in (
          record {
            from = k.0.from;
            below = k.0.below;
            whole = λ fresh. absurd (stale fresh);
            like = like_trans (fused a b.operation) b.operation (input os prefixes b.place) (fused_like a b.operation e) k.0.like;
          },
          k.1,
          λ e'. k.2 e,
          k.3,
        )
    met_held (annuls b rest h f c) stale k = k.3
    met_held (crosses b {later = later} h m) stale k = (
      k.0,
      (met_each (λ p. b.place < p) m k.1).0,
      λ e r l g. ⊎_elim
          (λ t. ⊎_elim
          (λ s. inl s)
          (λ same. inr (subst (λ (p : ℕ). can_cross (input os prefixes b.place) (input os prefixes p) ≡ true) (sym same) (crossed_crosses b h m k.0 k.3 e)))
          (met_at r m t))
          (λ c. inr c)
          (k.2 e r l g),
      met_held m stale k.3,
    )
