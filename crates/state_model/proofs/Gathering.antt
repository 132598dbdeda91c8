-- A join by rises: what the members of a source rise by is how many members stand before theirs in the joined component, so each keeps its coordinate at its new
-- place; and the sizes are those of the joined components.
use mathlib.Core.Path.{◌≡◌, refl, sym, ap, ◌∙◌, subst}
use mathlib.Core.Logic.{⊎_elim}
use mathlib.Core.List.{List, [], ◌∷◌, ◌++◌, append_assoc}
use Prim.Native.Nat.{ℕ, ◌+◌, ◌<◌, ◌≤◌}
use native.Mathlib.Omega.{arith}
use lib.ListN.{length, get_or, set, length-set, length-append, get_or-append}
use lib.Seq.{get_or-set_same, get_or-set_other, get_or-append-add}
use Rattle.words.proofs.Numbers.{same_or_not}
use Rattle.plan_spec.specs.Components.{members_of, size_of, gathered}
use Rattle.plan_spec.specs.Connectivity.{occurrences, Member, NoRepeats}
use Rattle.plan_spec.proofs.Counting.{one_here, none_here, member_head, member_tail, member_cons}
use Rattle.state.specs.Steps.{Gathering, gather_from}

once_head : (s : ℕ) (ss : List ℕ) → NoRepeats (s ∷ ss) → occurrences s ss ≡ 0
once_head s ss once = let o = once s in let g = one_here s s ss refl in omega arith

once_tail : (s : ℕ) (ss : List ℕ) → NoRepeats (s ∷ ss) → NoRepeats ss
once_tail s ss once c = let o = once c in omega arith

apart : (c s : ℕ) (ss : List ℕ) → Member c ss → occurrences s ss ≡ 0 → c ≡ s → ⊥
apart c s ss m z e = let k : occurrences c ss ≡ 0 = subst (λ (a : ℕ). occurrences a ss ≡ 0) (sym e) z in omega arith

-- the next turn's state
abbrev turned : ℕ → Gathering → Gathering
turned s g = record { rise = set g.rise s g.grown; sizes = set g.sizes s 0; grown = g.grown + get_or g.sizes s 0 }

module _ (cs : List (List ℕ)) where
  -- the sizes of sources that are still to come are those of the components
  abbrev Untouched : List ℕ → Gathering → Type 0
  Untouched ss g = (c : ℕ) → Member c ss → get_or g.sizes c 0 ≡ size_of cs c

  untouched_next : (s : ℕ) (ss : List ℕ) (g : Gathering) → NoRepeats (s ∷ ss) → Untouched (s ∷ ss) g → Untouched ss (turned s g)
  untouched_next s ss g once u c m =
      get_or-set_other g.sizes s c 0 0 (apart c s ss m (once_head s ss once)) ∙ u c (member_tail c s ss m)

  pub grown_is : (ss : List ℕ) (g : Gathering) → NoRepeats ss → Untouched ss g → (gather_from ss g).grown ≡ g.grown + length (gathered cs ss)
  grown_is [] g once u = omega arith
  grown_is (s ∷ ss) g once u =
      let r = grown_is ss (turned s g) (once_tail s ss once) (untouched_next s ss g once u) in
      let e = u s (member_head s ss) in
      let l = length-append (members_of cs s) (gathered cs ss) in omega arith

  pub rise_out : (ss : List ℕ) (g : Gathering) (c : ℕ) → occurrences c ss ≡ 0 → get_or (gather_from ss g).rise c 0 ≡ get_or g.rise c 0
  rise_out [] g c z = refl
  rise_out (s ∷ ss) g c z =
      ⊎_elim
      (λ e. absurd (let o = one_here c s ss e in omega arith))
      (λ n. rise_out ss (turned s g) c (let o = none_here c s ss n in omega arith) ∙ get_or-set_other g.rise s c g.grown 0 n)
      (same_or_not c s)

  pub sizes_out : (ss : List ℕ) (g : Gathering) (c : ℕ) → occurrences c ss ≡ 0 → get_or (gather_from ss g).sizes c 0 ≡ get_or g.sizes c 0
  sizes_out [] g c z = refl
  sizes_out (s ∷ ss) g c z =
      ⊎_elim
      (λ e. absurd (let o = one_here c s ss e in omega arith))
      (λ n. sizes_out ss (turned s g) c (let o = none_here c s ss n in omega arith) ∙ get_or-set_other g.sizes s c 0 0 n)
      (same_or_not c s)

  pub sizes_in : (ss : List ℕ) (g : Gathering) (c : ℕ) → NoRepeats ss → c < length g.sizes → Member c ss → get_or (gather_from ss g).sizes c 0 ≡ 0
  sizes_in [] g c once k m = absurd (omega arith)
  sizes_in (s ∷ ss) g c once k m =
      ⊎_elim
      (λ e. sizes_out ss (turned s g) c (ap (λ (a : ℕ). occurrences a ss) e ∙ once_head s ss once)
      ∙ ap (λ (a : ℕ). get_or (set g.sizes s 0) a 0) e ∙ get_or-set_same g.sizes s 0 0 (subst (λ (a : ℕ). a < length g.sizes) e k))
      (λ n. sizes_in ss (turned s g) c (once_tail s ss once) (subst (λ (a : ℕ). c < a) (sym (length-set g.sizes s 0)) k) n)
      (member_cons c s ss m)

  -- each source's members follow those that stand before them
  pub rise_in : (ss : List ℕ) (g : Gathering) (front : List ℕ) (c j : ℕ) → NoRepeats ss → Untouched ss g → length front ≡ g.grown
      → Member c ss → c < length g.rise → j < size_of cs c
      → (get_or (front ++ gathered cs ss) (j + get_or (gather_from ss g).rise c 0) 0 ≡ get_or (members_of cs c) j 0)
      × (g.grown ≤ get_or (gather_from ss g).rise c 0) × (j + get_or (gather_from ss g).rise c 0 < length (front ++ gathered cs ss))
  rise_in [] g front c j once u f m k h = absurd (omega arith)
  rise_in (s ∷ ss) g front c j once u f m k h =
      ⊎_elim
      (λ e. let rise : get_or (gather_from ss (turned s g)).rise c 0 ≡ length front =
      rise_out ss (turned s g) c (ap (λ (a : ℕ). occurrences a ss) e ∙ once_head s ss once)
      ∙ ap (λ (a : ℕ). get_or (set g.rise s g.grown) a 0) e
      ∙ get_or-set_same g.rise s g.grown 0 (subst (λ (a : ℕ). a < length g.rise) e k) ∙ sym f in
      let size = ap (size_of cs) e in
      let at : j + get_or (gather_from ss (turned s g)).rise c 0 ≡ length front + j = omega arith in
      let l = length-append front (members_of cs s ++ gathered cs ss) in
      let i = length-append (members_of cs s) (gathered cs ss) in (
        ap (λ (a : ℕ). get_or (front ++ (members_of cs s ++ gathered cs ss)) a 0) at
            ∙ get_or-append-add front (members_of cs s ++ gathered cs ss) j 0
            ∙ get_or-append (members_of cs s) (gathered cs ss) 0 j (omega arith)
            ∙ ap (λ (a : ℕ). get_or (members_of cs a) j 0) (sym e),
        omega arith,
        omega arith,
      ))
      (λ n. let longer = length-append front (members_of cs s) in
      let size = u s (member_head s ss) in
      let rest = rise_in ss (turned s g) (front ++ members_of cs s) c j (once_tail s ss once) (untouched_next s ss g once u) (omega arith) n
      (subst (λ (a : ℕ). c < a) (sym (length-set g.rise s g.grown)) k) h in
      let same = append_assoc front (members_of cs s) (gathered cs ss) in
      let lengths = ap length same in (
        ap (λ (l : List ℕ). get_or l (j + get_or (gather_from ss (turned s g)).rise c 0) 0) (sym same) ∙ rest.0,
        omega (arith, rest.1),
        omega (arith, rest.2),
      ))
      (member_cons c s ss m)
