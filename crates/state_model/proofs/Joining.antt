-- A joined state stands for the joined components: a source's members rise to where the joined component has them, the target's keep their places, and no
-- other component changes.
use mathlib.Core.Path.{◌≡◌, refl, sym, ap, ap₂, ◌∙◌, subst}
use mathlib.Core.Logic.{◌⊎◌, inl, inr, ⊎_elim}
use mathlib.Core.List.{List, [], ◌∷◌}
use Prim.Native.Nat.{ℕ, zero, suc, ◌+◌, ◌<◌, ◌≤◌}
use native.Mathlib.Omega.{arith}
use lib.Dec.{eqb}
use lib.ListN.{length, get_or, set, replicate, length-append, length-replicate, get_or-append}
use lib.Seq.{get_or-set_same, get_or-set_other}
use borrow.Author.Tests.{eq-eqb, ne_eqb}
use Rattle.words.proofs.Numbers.{same_or_not}
use Rattle.plan_spec.specs.Lists.{concat}
use Rattle.plan_spec.specs.Components.{members_of, size_of, gathered, emptied, joined}
use Rattle.plan_spec.specs.Connectivity.{occurrences, Member, NoRepeats}
use Rattle.plan_spec.proofs.Steps.{cond_yes, cond_no}
use Rattle.plan_spec.proofs.Counting.{one_here, none_here, member_or_not, member_head, member_tail}
use Rattle.plan_spec.proofs.Joins.{length_emptied, emptied_in, emptied_out, length_joined}
use Rattle.state.specs.declared.State.{State}
use Rattle.state.specs.Steps.{Gathering, gather_from, gathering, rise_at, Joinable, BeforeJoin, Joined}
use Rattle.state.proofs.Gathers.{lengths_kept}
use Rattle.state_model.specs.Represents.{Represents}
use Rattle.state_model.proofs.Gathering.{grown_is, rise_out, sizes_out, sizes_in, rise_in}

-- no component has more members than there are in all
pub size_most : (cs : List (List ℕ)) (c : ℕ) → size_of cs c ≤ length (concat cs)
size_most [] c = omega arith
size_most (m ∷ cs) zero = let l = length-append m (concat cs) in omega arith
size_most (m ∷ cs) (suc c) = let l = length-append m (concat cs) in let r = size_most cs c in omega arith

-- a number outside a list's range is the default
listed_or_zero : (xs : List ℕ) (i : ℕ) → Member (get_or xs i 0) xs ⊎ (get_or xs i 0 ≡ 0)
listed_or_zero [] i = inr refl
listed_or_zero (x ∷ xs) zero = inl (member_head x xs)
listed_or_zero (x ∷ xs) (suc i) = ⊎_elim (λ m. inl (member_tail (get_or xs i 0) x xs m)) inr (listed_or_zero xs i)

module _ (s : State) (order : List ℕ) (cs : List (List ℕ)) (rep : Represents s order cs) (t : ℕ) (others : List ℕ)
    (once : NoRepeats (t ∷ others)) (inside : (c : ℕ) → Member c (t ∷ others) → (c < length cs) × (0 < size_of cs c)) (made : length cs ≤ 512) where
  abbrev sources : List ℕ
  sources = t ∷ others

  abbrev begun : Gathering
  begun = record { rise = replicate 512 0; sizes = s.size; grown = get_or s.size t 0 }

  absent : occurrences t others ≡ 0
  absent = let o = once t in let g = one_here t t others refl in omega arith

  later : NoRepeats others
  later c = let o = once c in omega arith

  first : (t < length cs) × (0 < size_of cs t)
  first = inside t (member_head t others)

  target_size : get_or s.size t 0 ≡ size_of cs t
  target_size = rep.size t first.0

  untouched : (c : ℕ) → Member c others → get_or s.size c 0 ≡ size_of cs c
  untouched c m = rep.size c (inside c (member_tail c t others m)).0

  pub grown_all : (gathering s.size sources).grown ≡ length (gathered cs sources)
  unfolding gathering
  grown_all =
      let e = grown_is cs others begun later untouched in
      let f = target_size in
      let l = length-append (members_of cs t) (gathered cs others) in omega arith

  rise_none : (c : ℕ) → occurrences c others ≡ 0 → get_or (gathering s.size sources).rise c 0 ≡ 0
  unfolding gathering
  rise_none c z =
      rise_out cs others begun c z
      ∙ ⊎_elim (λ m. m) (λ m. m) (zeros 512 c)
    where
      zeros : (n i : ℕ) → (get_or (replicate {A = ℕ} n 0) i 0 ≡ 0) ⊎ (get_or (replicate {A = ℕ} n 0) i 0 ≡ 0)
      zeros zero i = inl refl
      zeros (suc n) zero = inl refl
      zeros (suc n) (suc i) = zeros n i

  rise_some : (c j : ℕ) → Member c others → j < size_of cs c
      → (get_or (gathered cs sources) (j + get_or (gathering s.size sources).rise c 0) 0 ≡ get_or (members_of cs c) j 0)
      × (0 < get_or (gathering s.size sources).rise c 0) × (j + get_or (gathering s.size sources).rise c 0 < length (gathered cs sources))
  unfolding gathering
  rise_some c j m h =
      let small = (inside c (member_tail c t others m)).0 in
      let l = length-replicate {A = ℕ} 512 0 in
      let f = target_size in
      let r = rise_in cs others begun (members_of cs t) c j later untouched (sym f) m (omega arith) h in
      (r.0, let p = first.1 in omega (arith, r.1), r.2)

  -- ---- the joined components

  at_target : members_of (joined cs sources) t ≡ gathered cs sources
  unfolding joined
  at_target = get_or-set_same (emptied others cs) t (gathered cs sources) [] (let l = length_emptied others cs in let f = first.0 in omega arith)

  at_source : (c : ℕ) → Member c others → members_of (joined cs sources) c ≡ []
  unfolding joined
  at_source c m =
      get_or-set_other (emptied others cs) t c (gathered cs sources) [] (λ e. let k : Member t others = subst (λ (a : ℕ). Member a others) e m in let z = absent in omega arith)
      ∙ emptied_in others cs c m

  at_other : (c : ℕ) → occurrences c sources ≡ 0 → members_of (joined cs sources) c ≡ members_of cs c
  unfolding joined
  at_other c z =
      get_or-set_other (emptied others cs) t c (gathered cs sources) [] (λ e. let o = one_here c t others e in omega arith)
      ∙ emptied_out others cs c (omega arith)

  -- ---- what the code asks

  pub joinable : length (gathered cs sources) ≤ 255 → Joinable s.size sources
  joinable few = record {
    some = omega arith;
    numbers = λ i. ⊎_elim (λ m. let k = inside (get_or sources i 0) m in omega (arith, k.0)) (λ e. omega arith) (listed_or_zero sources i);
    few = let e = grown_all in omega arith;
  }

  -- where each position stands: its component is another source, the target or no source
  sort : (c : ℕ) → Member c others ⊎ ((c ≡ t) ⊎ (occurrences c sources ≡ 0))
  sort c =
      ⊎_elim inl
      (λ z. inr (⊎_elim inl (λ n. inr (none_here c t others n ∙ z)) (same_or_not c t)))
      (member_or_not c others)

  place_fits : length (gathered cs sources) ≤ 255 → length (concat cs) ≤ 255 → (p : ℕ) → p < length order → get_or s.place p 0 + rise_at s sources p ≤ 255
  place_fits few all p h =
      let c = get_or s.component p 0 in
      let j = rep.place p h in
      let most = size_most cs c in
      ⊎_elim
      (λ m. let r = rise_some c (get_or s.place p 0) m j in omega (arith, r.2))
      (λ n. let z : get_or (gathering s.size sources).rise c 0 ≡ 0 =
      rise_none c (⊎_elim (λ e. subst (λ (a : ℕ). occurrences a others ≡ 0) (sym e) absent) (λ k. omega arith) n) in omega arith)
      (sort c)

  pub before_join : length (gathered cs sources) ≤ 255 → length (concat cs) ≤ 255 → length order ≤ 512 → BeforeJoin s sources
  before_join few all narrow = record {
    shape = rep.shape;
    narrow = let e = rep.width in omega arith;
    joinable = joinable few;
    places = λ p h. place_fits few all p (let e = rep.width in omega arith);
  }

  -- ---- the joined state

  module _ (r : State) (done : Joined s sources r) where
    -- what a position's component and place are then
    moved : (p : ℕ) → p < length order
        → (get_or r.component p 0 < length (joined cs sources)) × (get_or r.place p 0 < size_of (joined cs sources) (get_or r.component p 0))
        × (get_or (members_of (joined cs sources) (get_or r.component p 0)) (get_or r.place p 0) 0 ≡ get_or order p 0)
    moved p h =
        let w : p < s.width = let e = rep.width in omega arith in
        let c = get_or s.component p 0 in
        let j = get_or s.place p 0 in
        let component = done.component p w in
        let place = done.place p w in
        let size = length_joined cs sources in
        let below = rep.component p h in
        let small = rep.place p h in
        let member = rep.member p h in
        ⊎_elim
        (λ m. let up = rise_some c j m small in
        let new : get_or r.component p 0 ≡ t = component ∙ cond_no (eqb (rise_at s sources p) 0) c t (ne_eqb (rise_at s sources p) 0 (λ e. let u = up.1 in omega arith)) in
        let at : members_of (joined cs sources) (get_or r.component p 0) ≡ gathered cs sources = ap (members_of (joined cs sources)) new ∙ at_target in
        let long = ap length at in (
          let f = first.0 in omega arith,
          let u = up.2 in omega arith,
          ap₂ (λ (l : List ℕ) (i : ℕ). get_or l i 0) at place ∙ up.0 ∙ member,
        ))
        (λ n. let z : rise_at s sources p ≡ 0 =
        rise_none c (⊎_elim (λ e. subst (λ (a : ℕ). occurrences a others ≡ 0) (sym e) absent) (λ k. omega arith) n) in
        let new : get_or r.component p 0 ≡ c = component ∙ cond_yes (eqb (rise_at s sources p) 0) c t (eq-eqb (rise_at s sources p) 0 z) in
        let stays : get_or r.place p 0 ≡ j = omega arith in
        let kept : (j < size_of (joined cs sources) c) × (get_or (members_of (joined cs sources) c) j 0 ≡ get_or (members_of cs c) j 0) =
        ⊎_elim
        (λ e. let at : members_of (joined cs sources) c ≡ gathered cs sources = ap (members_of (joined cs sources)) e ∙ at_target in
        let long = ap length at in
        let l = length-append (members_of cs t) (gathered cs others) in
        let same = ap (size_of cs) e in (
          omega arith,
          ap (λ (m : List ℕ). get_or m j 0) at ∙ get_or-append (members_of cs t) (gathered cs others) 0 j (omega arith) ∙ ap (λ (a : ℕ). get_or (members_of cs a) j 0) (sym e),
        ))
        (λ k. let at = at_other c k in (let long = ap length at in omega arith, ap (λ (m : List ℕ). get_or m j 0) at))
        n in (
          omega arith,
          let f = kept.0 in let g = ap (size_of (joined cs sources)) new in omega arith,
          ap₂ (λ (l : List ℕ) (i : ℕ). get_or l i 0) (ap (members_of (joined cs sources)) new) stays ∙ kept.1 ∙ member,
        ))
        (sort c)

    -- the sizes
    sized : (c : ℕ) → c < length (joined cs sources) → get_or r.size c 0 ≡ size_of (joined cs sources) c
    unfolding gathering
    sized c h =
        let g = gather_from others begun in
        let lengths = lengths_kept others begun in
        let all = rep.shape.sizes in
        let inn : c < length cs = let l = length_joined cs sources in omega arith in
        ap (λ (l : List ℕ). get_or l c 0) done.size
        ∙ ⊎_elim
        (λ e. ap (λ (a : ℕ). get_or (set g.sizes t g.grown) a 0) e
        ∙ get_or-set_same g.sizes t g.grown 0 (let k = lengths.1 in let f = first.0 in omega arith)
        ∙ grown_all ∙ sym (ap length at_target) ∙ sym (ap (size_of (joined cs sources)) e))
        (λ n. get_or-set_other g.sizes t c g.grown 0 n
        ∙ ⊎_elim
        (λ m. sizes_in cs others begun c later (omega arith) m ∙ sym (ap length (at_source c m)))
        (λ z. sizes_out cs others begun c z ∙ rep.size c inn ∙ sym (ap length (at_other c (none_here c t others n ∙ z))))
        (member_or_not c others))
        (same_or_not c t)

    pub represents_join : Represents r order (joined cs sources)
    represents_join = record {
      width = done.width ∙ rep.width;
      count = done.count ∙ rep.count ∙ sym (length_joined cs sources);
      component = λ p h. (moved p h).0;
      place = λ p h. (moved p h).1;
      member = λ p h. (moved p h).2;
      size = sized;
      shape = done.shape;
    }
