-- The state and the active order at the start, after a promotion and after a removal stand for the definition's: a promotion sets the entries behind the last, and a
-- removal moves what stands behind the pivot down by one, positions in the order and places in the pivot's component alike.
use mathlib.Core.Path.{◌≡◌, refl, sym, ap, ap₂, ◌∙◌, subst}
use mathlib.Core.Logic.{◌⊎◌, inl, inr, ⊎_elim}
use mathlib.Core.Bool.{Bool, true, false, cond}
use mathlib.Core.List.{List, [], ◌∷◌, ◌++◌, map}
use Prim.Native.Nat.{ℕ, zero, suc, ◌+◌, ◌-◌, ◌<◌, ◌≤◌}
use native.Mathlib.Omega.{arith}
use lib.Dec.{eqb, ltb}
use lib.ListN.{length, get_or, set, length-set, length-append, length-map, get_or-append}
use lib.Seq.{get_or-set_same, get_or-set_other, get_or-append_seam}
use borrow.Author.Tests.{eq-eqb, ne_eqb, lt-ltb, le-ltb, ltb-true, ltb-false}
use Rattle.words.specs.Lists.{numbers_from}
use Rattle.words.proofs.Numbers.{same_or_not, length-numbers, numbers_at}
use Rattle.plan_spec.specs.Lists.{remove_at}
use Rattle.plan_spec.specs.Components.{members_of, size_of}
use Rattle.plan_spec.specs.Connectivity.{Member, NoRepeats}
use Rattle.plan_spec.proofs.Steps.{cond_yes, cond_no}
use Rattle.plan_spec.proofs.Counting.{one_here, member_at, length_remove_at}
use Rattle.state.specs.declared.State.{State}
use Rattle.state.specs.Steps.{InOrder, Closed, Started, promoted, skip, lowered, BeforeRemoval, Removed}
use Rattle.state.proofs.Numbers.{skip_near, skip_before, skip_behind}
use Rattle.state_model.specs.Represents.{Ordered, Represents}

-- ---- the start

alone_at : (b n i : ℕ) → i < n → get_or (map (λ c. c ∷ []) (numbers_from b n)) i [] ≡ (b + i) ∷ []
alone_at b zero i h = absurd (omega arith)
alone_at b (suc n) zero h = ap (λ (a : ℕ). a ∷ []) (omega arith)
alone_at b (suc n) (suc i) h = alone_at (suc b) n i (omega arith) ∙ ap (λ (a : ℕ). a ∷ []) (omega arith)

pub represents_start : (k : ℕ) (s : State) → Started k s → Represents s (numbers_from 0 k) (map (λ c. c ∷ []) (numbers_from 0 k))
represents_start k s st =
    let wide = length-numbers 0 k in
    let count : length (map (λ c. c ∷ []) (numbers_from 0 k)) ≡ k = length-map (numbers_from 0 k) (λ c. c ∷ []) ∙ wide in
    let alone = map (λ c. c ∷ []) (numbers_from 0 k) in
    let held : (p : ℕ) → p < k → members_of alone (get_or s.component p 0) ≡ p ∷ [] =
    λ p h. ap (members_of alone) (st.component p h) ∙ alone_at 0 k p h ∙ ap (λ (a : ℕ). a ∷ []) (omega arith) in record {
      width = st.width ∙ sym wide;
      count = st.count ∙ sym count;
      component = λ p h. let e = st.component p (omega arith) in omega arith;
      place = λ p h. let e = st.place p (omega arith) in let l = ap length (held p (omega arith)) in omega arith;
      member = λ p h. ap₂ (λ (m : List ℕ) (j : ℕ). get_or m j 0) (held p (omega arith)) (st.place p (omega arith)) ∙ sym (numbers_at 0 k p 0 (omega arith) ∙ omega arith);
      size = λ c h. st.size c (omega arith) ∙ sym (ap length (alone_at 0 k c (omega arith)));
      shape = st.shape;
    }

pub ordered_start : (k : ℕ) (xs : List ℕ) → InOrder k xs → Ordered xs (numbers_from 0 k)
ordered_start k xs n =
    let wide = length-numbers 0 k in
    record { entry = λ p h. n.entry p (omega arith) ∙ sym (numbers_at 0 k p 0 (omega arith) ∙ omega arith); long = n.long }

-- ---- a promotion

-- an entry of a list with one more behind, and the one behind
snoc_old : {A : Type 0} (d : A) (xs : List A) (a : A) (i : ℕ) → i < length xs → get_or (xs ++ (a ∷ [])) i d ≡ get_or xs i d
snoc_old d xs a i h = get_or-append xs (a ∷ []) d i h

snoc_new : {A : Type 0} (d : A) (xs : List A) (a : A) (i : ℕ) → i ≡ length xs → get_or (xs ++ (a ∷ [])) i d ≡ a
snoc_new d xs a i e = ap (λ (n : ℕ). get_or (xs ++ (a ∷ [])) n d) e ∙ get_or-append_seam xs a [] d

-- what holds of the last number and of those before holds of all
last_or_before : {P : ℕ → Type 0} {m n : ℕ} → m ≡ suc n → ((p : ℕ) → p < n → P p) → ((p : ℕ) → p ≡ n → P p) → (p : ℕ) → p < m → P p
last_or_before {n = n} e f g p h = ⊎_elim (λ k. g p k) (λ k. f p (omega arith)) (same_or_not p n)

-- a coordinate is put behind the last
pub ordered_promotion : (xs order : List ℕ) → Ordered xs order → length order < 512 → (width next : ℕ) → width ≡ length order → Ordered (set xs width next) (order ++ (next ∷ []))
ordered_promotion xs order o narrow width next w =
    let more : length (order ++ (next ∷ [])) ≡ suc (length order) = let l = length-append order (next ∷ []) in omega arith in
    let long = o.long in record {
      entry = last_or_before more
          (λ p h. get_or-set_other xs width p next 0 (λ e. omega arith) ∙ o.entry p h ∙ sym (snoc_old 0 order next p h))
          (λ p e. ap (λ (i : ℕ). get_or (set xs width next) i 0) (omega arith) ∙ get_or-set_same xs width next 0 (omega arith) ∙ sym (snoc_new 0 order next p e));
      long = length-set xs width next ∙ long;
    }

module _ (s : State) (order : List ℕ) (cs : List (List ℕ)) (rep : Represents s order cs) (narrow : length order < 512) (made : length cs < 512) where
  abbrev next : ℕ
  next = length cs

  abbrev order' : List ℕ
  order' = order ++ (next ∷ [])

  abbrev cs' : List (List ℕ)
  cs' = cs ++ ((next ∷ []) ∷ [])

  -- an entry of an array that was set behind the active positions
  kept : (xs : List ℕ) (v p : ℕ) → p < length order → get_or (set xs s.width v) p 0 ≡ get_or xs p 0
  kept xs v p h = get_or-set_other xs s.width p v 0 (λ e. let w = rep.width in omega arith)

  put : (xs : List ℕ) (v p : ℕ) → length xs ≡ 512 → p ≡ length order → get_or (set xs s.width v) p 0 ≡ v
  put xs v p l e = let w = rep.width in ap (λ (i : ℕ). get_or (set xs s.width v) i 0) (omega arith) ∙ get_or-set_same xs s.width v 0 (omega arith)

  pub represents_promotion : Represents (promoted s) order' cs'
  unfolding promoted
  represents_promotion =
      let w = rep.width in
      let c = rep.count in
      let sh = rep.shape in
      let wide = length-append order (next ∷ []) in
      let many = length-append cs ((next ∷ []) ∷ []) in
      let last = snoc_new [] cs (next ∷ []) next refl in
      let more : length order' ≡ suc (length order) = omega arith in record {
        width = omega arith;
        count = omega arith;
        component = last_or_before more
            (λ p h. let e = kept s.component s.count p h in let b = rep.component p h in omega arith)
            (λ p e. let f = put s.component s.count p sh.components e in omega arith);
        place = last_or_before more
            (λ p h. let e = kept s.component s.count p h in let f = kept s.place 0 p h in
            let b = rep.place p h in
            let m = ap length (ap (members_of cs') e ∙ snoc_old [] cs (next ∷ []) (get_or s.component p 0) (rep.component p h)) in omega arith)
            (λ p e. let f = put s.component s.count p sh.components e in let g = put s.place 0 p sh.places e in
            let m = ap length (ap (members_of cs') (f ∙ c) ∙ last) in omega arith);
        member = last_or_before more
            (λ p h. ap₂ (λ (m : List ℕ) (j : ℕ). get_or m j 0)
            (ap (members_of cs') (kept s.component s.count p h) ∙ snoc_old [] cs (next ∷ []) (get_or s.component p 0) (rep.component p h)) (kept s.place 0 p h)
            ∙ rep.member p h ∙ sym (snoc_old 0 order next p h))
            (λ p e. ap₂ (λ (m : List ℕ) (j : ℕ). get_or m j 0) (ap (members_of cs') (put s.component s.count p sh.components e ∙ c) ∙ last) (put s.place 0 p sh.places e)
            ∙ sym (snoc_new 0 order next p e));
        size = λ d h. ⊎_elim
            (λ e. ap (λ (i : ℕ). get_or (set s.size s.count 1) i 0) (e ∙ sym c) ∙ get_or-set_same s.size s.count 1 0 (let l = sh.sizes in omega arith)
            ∙ sym (ap length (ap (members_of cs') e ∙ last)))
            (λ n. get_or-set_other s.size s.count d 1 0 (λ f. n (f ∙ c)) ∙ rep.size d (omega arith) ∙ sym (ap length (snoc_old [] cs (next ∷ []) d (omega arith))))
            (same_or_not d next);
        shape = record {
          components = length-set s.component s.width s.count ∙ sh.components;
          places = length-set s.place s.width 0 ∙ sh.places;
          sizes = length-set s.size s.count 1 ∙ sh.sizes;
          small = λ p. ⊎_elim
              (λ e. let f = put s.component s.count p sh.components (e ∙ w) in omega arith)
              (λ n. let f = get_or-set_other s.component s.width p s.count 0 n in let b = sh.small p in omega arith)
              (same_or_not p s.width);
        };
      }

-- ---- a removal

-- the positions before and behind the one that leaves
pub skip_cases : (pivot p : ℕ) → ((p < pivot) × (skip pivot p ≡ p)) ⊎ ((pivot ≤ p) × (skip pivot p ≡ suc p))
skip_cases pivot p = go (ltb p pivot) refl
  where
    go : (t : Bool) → ltb p pivot ≡ t → ((p < pivot) × (skip pivot p ≡ p)) ⊎ ((pivot ≤ p) × (skip pivot p ≡ suc p))
    go true e = let h = ltb-true p pivot e in inl (h, skip_before pivot p h)
    go false e = let h = ltb-false p pivot e in inr (h, skip_behind pivot p h)

removed_before : {A : Type 0} (d : A) (p i : ℕ) (xs : List A) → i < p → get_or (remove_at p xs) i d ≡ get_or xs i d
removed_before d zero i xs h = absurd (omega arith)
removed_before d (suc p) i [] h = refl
removed_before d (suc p) zero (x ∷ xs) h = refl
removed_before d (suc p) (suc i) (x ∷ xs) h = removed_before d p i xs (omega arith)

removed_after : {A : Type 0} (d : A) (p i : ℕ) (xs : List A) → p < length xs → p ≤ i → get_or (remove_at p xs) i d ≡ get_or xs (suc i) d
removed_after d p i [] l h = absurd (omega arith)
removed_after d zero i (x ∷ xs) l h = refl
removed_after d (suc p) zero (x ∷ xs) l h = absurd (omega arith)
removed_after d (suc p) (suc i) (x ∷ xs) l h = removed_after d p i xs (omega arith) (omega arith)

pub removed_at : {A : Type 0} (d : A) (p i : ℕ) (xs : List A) → p < length xs → get_or (remove_at p xs) i d ≡ get_or xs (skip p i) d
removed_at d p i xs l =
    ⊎_elim
    (λ b. removed_before d p i xs b.0 ∙ sym (ap (λ (n : ℕ). get_or xs n d) b.1))
    (λ b. removed_after d p i xs l b.0 ∙ sym (ap (λ (n : ℕ). get_or xs n d) b.1))
    (skip_cases p i)

-- a coordinate leaves
pub ordered_removal : (xs ys order : List ℕ) → Ordered xs order → (pivot last : ℕ) → pivot < length order → suc last ≡ length order → Closed pivot last xs ys
    → Ordered ys (remove_at pivot order)
ordered_removal xs ys order o pivot last active l done =
    let fewer = length_remove_at pivot order active in record {
      entry = λ p h. done.entry p (omega arith)
          ∙ o.entry (skip pivot p) (let b = (skip_near pivot p).1 in omega arith)
          ∙ sym (removed_at 0 pivot p order active);
      long = done.long;
    }

-- without repeats an entry stands at one position
pub once_at : (xs : List ℕ) → NoRepeats xs → (i j : ℕ) → i < length xs → j < length xs → get_or xs i 0 ≡ get_or xs j 0 → i ≡ j
once_at [] once i j h k e = absurd (omega arith)
once_at (x ∷ xs) once zero zero h k e = refl
once_at (x ∷ xs) once zero (suc j) h k e =
    absurd (let m = member_at xs j (omega arith) in let n : Member x xs = subst (λ (a : ℕ). Member a xs) (sym e) m in let o = once x in let f = one_here x x xs refl in omega arith)
once_at (x ∷ xs) once (suc i) zero h k e =
    absurd (let m = member_at xs i (omega arith) in let n : Member x xs = subst (λ (a : ℕ). Member a xs) e m in let o = once x in let f = one_here x x xs refl in omega arith)
once_at (x ∷ xs) once (suc i) (suc j) h k e = ap suc (once_at xs (λ a. let o = once a in omega arith) i j (omega arith) (omega arith) e)

module _ (s : State) (order : List ℕ) (cs : List (List ℕ)) (rep : Represents s order cs) (once : NoRepeats order) (pivot : ℕ) (active : pivot < length order) where
  abbrev target : ℕ
  target = get_or s.component pivot 0

  abbrev local : ℕ
  local = get_or s.place pivot 0

  abbrev left : List ℕ
  left = remove_at local (members_of cs target)

  pub before_removal : length order ≤ 512 → BeforeRemoval s pivot
  before_removal narrow =
      let w = rep.width in
      let e = rep.size target (rep.component pivot active) in
      let l = rep.place pivot active in record { shape = rep.shape; narrow = omega arith; active = omega arith; member = omega arith }

  at_target : members_of (set cs target left) target ≡ left
  at_target = get_or-set_same cs target left [] (rep.component pivot active)

  at_other : (c : ℕ) → (c ≡ target → ⊥) → members_of (set cs target left) c ≡ members_of cs c
  at_other c n = get_or-set_other cs target c left [] n

  left_length : suc (length left) ≡ size_of cs target
  left_length = length_remove_at local (members_of cs target) (rep.place pivot active)

  module _ (r : State) (done : Removed s pivot r) where
    -- a position that stays: its component, its place and its coordinate
    stays : (p : ℕ) → suc p < length order
        → (get_or r.place p 0 < size_of (set cs target left) (get_or r.component p 0))
        × (get_or (members_of (set cs target left) (get_or r.component p 0)) (get_or r.place p 0) 0 ≡ get_or (remove_at pivot order) p 0)
    stays p h =
        let w : suc p < s.width = let e = rep.width in omega arith in
        let o = skip pivot p in
        let inside : o < length order = let b = (skip_near pivot p).1 in omega arith in
        let other : o ≡ pivot → ⊥ = λ e. ⊎_elim (λ b. let f = b.1 in let g = b.0 in omega arith) (λ b. let f = b.1 in let g = b.0 in omega arith) (skip_cases pivot p) in
        let c = get_or s.component o 0 in
        let j = get_or s.place o 0 in
        let component = done.component p w in
        let place = done.place p w in
        let small = rep.place o inside in
        let member : get_or (members_of cs c) j 0 ≡ get_or (remove_at pivot order) p 0 = rep.member o inside ∙ sym (removed_at 0 pivot p order active) in
        ⊎_elim
        (λ e. let m = members_of cs target in
        let there : get_or m j 0 ≡ get_or order o 0 = ap (λ (a : ℕ). get_or (members_of cs a) j 0) (sym e) ∙ rep.member o inside in
        let size = ap (size_of cs) e in
        let differ : j ≡ local → ⊥ = λ f. other (once_at order once o pivot inside active
        (sym there ∙ ap (λ (i : ℕ). get_or m i 0) f ∙ rep.member pivot active)) in
        let at : members_of (set cs target left) (get_or r.component p 0) ≡ left = ap (members_of (set cs target left)) (component ∙ e) ∙ at_target in
        let long = ap length at in
        let n = left_length in
        let last = rep.place pivot active in
        let here : lowered target local c j ≡ cond (ltb local j) (j - 1) j = cond_yes (eqb c target) _ j (eq-eqb c target e) in
        ⊎_elim
        (λ b. let new : get_or r.place p 0 ≡ j = place ∙ here ∙ cond_no (ltb local j) (j - 1) j (le-ltb local j (omega arith)) in
        (omega arith, ap₂ (λ (l : List ℕ) (i : ℕ). get_or l i 0) at new ∙ removed_before 0 local j m b ∙ ap (λ (a : ℕ). get_or (members_of cs a) j 0) (sym e) ∙ member))
        (λ b. let new : get_or r.place p 0 ≡ j - 1 = place ∙ here ∙ cond_yes (ltb local j) (j - 1) j (lt-ltb local j b) in
        let k : suc (j - 1) ≡ j = omega arith in (
          omega arith,
          ap₂ (λ (l : List ℕ) (i : ℕ). get_or l i 0) at new ∙ removed_after 0 local (j - 1) m (rep.place pivot active) (omega arith)
              ∙ ap (λ (i : ℕ). get_or m i 0) k ∙ ap (λ (a : ℕ). get_or (members_of cs a) j 0) (sym e) ∙ member,
        ))
        (apart j local differ))
        (λ n. let at : members_of (set cs target left) (get_or r.component p 0) ≡ members_of cs c = ap (members_of (set cs target left)) component ∙ at_other c n in
        let long = ap length at in
        let new : get_or r.place p 0 ≡ j = place ∙ cond_no (eqb c target) _ j (ne_eqb c target n) in
        (omega arith, ap₂ (λ (l : List ℕ) (i : ℕ). get_or l i 0) at new ∙ member))
        (same_or_not c target)
      where
        apart : (a b : ℕ) → (a ≡ b → ⊥) → (a < b) ⊎ (b < a)
        apart a b n = go (ltb a b) refl
          where
            go : (t : Bool) → ltb a b ≡ t → (a < b) ⊎ (b < a)
            go true e = inl (ltb-true a b e)
            go false e = inr (let l = ltb-false a b e in ⊎_elim (λ f. absurd (n f)) (λ f. omega arith) (same_or_not a b))

    pub represents_removal : Represents r (remove_at pivot order) (set cs target left)
    represents_removal =
        let w = rep.width in
        let fewer = length_remove_at pivot order active in
        let same = length-set cs target left in record {
          width = let e = done.width in omega arith;
          count = done.count ∙ rep.count ∙ sym same;
          component = λ p h. let e = done.component p (omega arith) in
              let b = rep.component (skip pivot p) (let n = (skip_near pivot p).1 in omega arith) in omega arith;
          place = λ p h. (stays p (omega arith)).0;
          member = λ p h. (stays p (omega arith)).1;
          size = λ c h. ap (λ (l : List ℕ). get_or l c 0) done.size
              ∙ ⊎_elim
              (λ e. ap (λ (i : ℕ). get_or (set s.size target (get_or s.size target 0 - 1)) i 0) e
              ∙ get_or-set_same s.size target (get_or s.size target 0 - 1) 0 (let l = rep.shape.sizes in let b = rep.shape.small pivot in omega arith)
              ∙ (let z = rep.size target (rep.component pivot active) in let n = left_length in let m = ap length (ap (members_of (set cs target left)) e ∙ at_target) in omega arith))
              (λ n. get_or-set_other s.size target c (get_or s.size target 0 - 1) 0 n ∙ rep.size c (omega arith) ∙ sym (ap length (at_other c n)))
              (same_or_not c target);
          shape = done.shape;
        }
