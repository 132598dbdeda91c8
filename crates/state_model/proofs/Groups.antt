-- The groups' words come out as the definition's: the counts are written at the offsets of the components with members, each position's coordinate goes to the word
-- that the definition has at its component's offset and its place, and every word of the groups is a count's or, as a member is active, a position's.
use mathlib.Core.Path.{◌≡◌, refl, sym, ap, ◌∙◌, subst}
use mathlib.Core.Logic.{◌⊎◌, inl, inr, ⊎_elim}
use mathlib.Core.Bool.{Bool, true, false, cond}
use mathlib.Core.List.{List, [], ◌∷◌, ◌++◌, map}
use Prim.Native.Nat.{ℕ, zero, suc, ◌+◌, ◌-◌, ◌<◌, ◌≤◌}
use native.Mathlib.Omega.{arith}
use lib.Dec.{ltb}
use lib.ListN.{length, get_or, take, drop, set, replicate, length-set, length-append, length-drop, length-map, length-replicate, get_or-append, get_or-map}
use lib.Seq.{get_or-set_same, get_or-set_other, get_or-append-add, get_or-take, get_or-drop, length-take-le, ext_get_or}
use borrow.Author.Tests.{ne_eqb, ltb-true, ltb-false}
use Rattle.words.proofs.Numbers.{same_or_not}
use Rattle.plan_spec.specs.Lists.{place_of}
use Rattle.plan_spec.specs.Plan.{groups_of}
use Rattle.plan_spec.specs.Components.{members_of, size_of}
use Rattle.plan_spec.specs.Connectivity.{Member, NoRepeats, ActiveOrder}
use Rattle.plan_spec.proofs.Counting.{one_here, member_at, place_below, place_holds, occurrences_listed}
use Rattle.plan_spec.proofs.Invariant.{Holds, listed_active}
use Rattle.state.specs.declared.State.{State}
use Rattle.plan_buffers.specs.Buffers.{Counts, counts_from, counts_of, CountsFit, word_at, placed_up_to, PlacesFit}
use Rattle.state_model.specs.Represents.{Ordered, Represents}
use Rattle.state_model.proofs.Sources.{stands_in}

-- one number is below another or not
below_or_not : (a b : ℕ) → (a < b) ⊎ (b ≤ a)
below_or_not a b = go (ltb a b) refl
  where
    go : (t : Bool) → ltb a b ≡ t → (a < b) ⊎ (b ≤ a)
    go true e = inl (ltb-true a b e)
    go false e = inr (ltb-false a b e)

-- an entry of a list without repeats stands at one position
one_place : (xs : List ℕ) → NoRepeats xs → (i j : ℕ) → i < length xs → j < length xs → get_or xs i 0 ≡ get_or xs j 0 → i ≡ j
one_place [] once i j k l e = absurd (omega arith)
one_place (x ∷ xs) once zero zero k l e = refl
one_place (x ∷ xs) once zero (suc j) k l e =
    absurd (let m = subst (λ (a : ℕ). Member a xs) (sym e) (member_at xs j (omega arith)) in let o = once x in let g = one_here x x xs refl in omega arith)
one_place (x ∷ xs) once (suc i) zero k l e =
    absurd (let m = subst (λ (a : ℕ). Member a xs) e (member_at xs i (omega arith)) in let o = once x in let g = one_here x x xs refl in omega arith)
one_place (x ∷ xs) once (suc i) (suc j) k l e = ap suc (one_place xs (λ a. let o = once a in omega arith) i j (omega arith) (omega arith) e)

-- ---- the definition's words, by component and member

-- the words of a component's group
abbrev weight : List ℕ → ℕ
weight [] = 0
weight (a ∷ m) = suc (suc (length m))

-- the words of the groups before a component's
abbrev pub offset : List (List ℕ) → ℕ → ℕ
offset [] c = 0
offset (m ∷ cs) zero = 0
offset (m ∷ cs) (suc c) = weight m + offset cs c

-- a group ends inside the words
pub group_inside : (cs : List (List ℕ)) (c : ℕ) → 0 < size_of cs c → offset cs c + size_of cs c < length (groups_of cs)
group_inside [] c h = absurd (omega arith)
group_inside ([] ∷ cs) zero h = absurd (omega arith)
group_inside ([] ∷ cs) (suc c) h = let r = group_inside cs c h in omega arith
group_inside ((a ∷ m) ∷ cs) zero h = let l = length-append m (groups_of cs) in omega arith
group_inside ((a ∷ m) ∷ cs) (suc c) h = let l = length-append m (groups_of cs) in let r = group_inside cs c h in omega arith

-- it begins with its count
pub group_count : (cs : List (List ℕ)) (c : ℕ) → 0 < size_of cs c → get_or (groups_of cs) (offset cs c) 0 ≡ size_of cs c
group_count [] c h = absurd (omega arith)
group_count ([] ∷ cs) zero h = absurd (omega arith)
group_count ([] ∷ cs) (suc c) h = ap (λ (i : ℕ). get_or (groups_of cs) i 0) (omega arith) ∙ group_count cs c h
group_count ((a ∷ m) ∷ cs) zero h = refl
group_count ((a ∷ m) ∷ cs) (suc c) h = get_or-append-add (suc (length m) ∷ a ∷ m) (groups_of cs) (offset cs c) 0 ∙ group_count cs c h

-- and its members follow
pub group_member : (cs : List (List ℕ)) (c j : ℕ) → j < size_of cs c → get_or (groups_of cs) (suc (offset cs c + j)) 0 ≡ get_or (members_of cs c) j 0
group_member [] c j h = absurd (omega arith)
group_member ([] ∷ cs) zero j h = absurd (omega arith)
group_member ([] ∷ cs) (suc c) j h = ap (λ (i : ℕ). get_or (groups_of cs) (suc i) 0) (omega arith) ∙ group_member cs c j h
group_member ((a ∷ m) ∷ cs) zero j h =
    let same : 0 + j ≡ j = omega arith in
    ap (λ (i : ℕ). get_or ((a ∷ m) ++ groups_of cs) i 0) same ∙ get_or-append (a ∷ m) (groups_of cs) 0 j h
group_member ((a ∷ m) ∷ cs) (suc c) j h =
    let same : suc (suc (suc (length m)) + offset cs c + j) ≡ suc (suc (length m)) + suc (offset cs c + j) = omega arith in
    ap (λ (i : ℕ). get_or ((suc (length m) ∷ a ∷ m) ++ groups_of cs) i 0) same
    ∙ get_or-append-add (suc (length m) ∷ a ∷ m) (groups_of cs) (suc (offset cs c + j)) 0 ∙ group_member cs c j h

-- what a word is: a component's count, or a member of one
data Word (cs : List (List ℕ)) (i : ℕ) : Type 0 where
  count : (c : ℕ) → 0 < size_of cs c → i ≡ offset cs c → Word cs i
  member : (c j : ℕ) → j < size_of cs c → i ≡ suc (offset cs c + j) → Word cs i

-- a word of the later components is a word of all
later : (m : List ℕ) (cs : List (List ℕ)) (i n : ℕ) → n ≡ weight m + i → Word cs i → Word (m ∷ cs) n
later m cs i n e (count c h f) = count (suc c) h (omega arith)
later m cs i n e (member c j h f) = member (suc c) j h (omega arith)

-- every word is one of these
word : (cs : List (List ℕ)) (i : ℕ) → i < length (groups_of cs) → Word cs i
word [] i h = absurd (omega arith)
word ([] ∷ cs) i h = later [] cs i i (omega arith) (word cs i h)
word ((a ∷ m) ∷ cs) zero h = count zero (omega arith) refl
word ((a ∷ m) ∷ cs) (suc i) h =
    ⊎_elim
    (λ k. member zero i k (omega arith))
    (λ k. let l = length-append m (groups_of cs) in later (a ∷ m) cs (i - suc (length m)) (suc i) (omega arith) (word cs (i - suc (length m)) (omega arith)))
    (below_or_not i (suc (length m)))

-- ---- the counts

-- the words with one component's count, and room for its members
abbrev counted : ℕ → ℕ → Counts → Counts
counted c n h = record { groups = set h.groups h.used n; start = set h.start c (suc h.used); used = h.used + suc n }

-- what the counts of these components, from number c on, make of h
record Counted (c : ℕ) (cs : List (List ℕ)) (h k : Counts) : Type 0 where
  size : length k.groups ≡ length h.groups
  used : k.used ≡ h.used + length (groups_of cs)
  low : (i : ℕ) → i < h.used → get_or k.groups i 0 ≡ get_or h.groups i 0
  high : (i : ℕ) → h.used + length (groups_of cs) ≤ i → get_or k.groups i 0 ≡ get_or h.groups i 0
  number : (d : ℕ) → 0 < size_of cs d → get_or k.groups (h.used + offset cs d) 0 ≡ size_of cs d
  earlier : (d : ℕ) → d < c → get_or k.start d 0 ≡ get_or h.start d 0
  start : (d : ℕ) → 0 < size_of cs d → get_or k.start (c + d) 0 ≡ suc (h.used + offset cs d)

-- a component with members, whose number is c, and those behind it
module _ (a : ℕ) (m : List ℕ) (cs : List (List ℕ)) (c : ℕ) (h : Counts) (room : h.used + length (groups_of ((a ∷ m) ∷ cs)) ≤ length h.groups)
    (few : c + suc (length cs) ≤ length h.start) where
  -- the words with its count
  abbrev next : Counts
  next = counted c (suc (length m)) h

  -- and with the counts behind it
  abbrev done : Counts
  done = counts_from (suc c) (map length cs) next

  -- each count stands at its offset
  by_number : Counted (suc c) cs next done → (d : ℕ) → 0 < size_of ((a ∷ m) ∷ cs) d
      → get_or done.groups (h.used + offset ((a ∷ m) ∷ cs) d) 0 ≡ size_of ((a ∷ m) ∷ cs) d
  by_number r zero k =
      ap (λ (i : ℕ). get_or done.groups i 0) (omega arith) ∙ r.low h.used (omega arith)
      ∙ get_or-set_same h.groups h.used (suc (length m)) 0 (omega arith)
  by_number r (suc d) k = ap (λ (i : ℕ). get_or done.groups i 0) (omega arith) ∙ r.number d k

  -- each start is the word behind
  by_start : Counted (suc c) cs next done → (d : ℕ) → 0 < size_of ((a ∷ m) ∷ cs) d
      → get_or done.start (c + d) 0 ≡ suc (h.used + offset ((a ∷ m) ∷ cs) d)
  by_start r zero k =
      ap (λ (i : ℕ). get_or done.start i 0) (omega arith) ∙ r.earlier c (omega arith)
      ∙ get_or-set_same h.start c (suc h.used) 0 (omega arith) ∙ omega arith
  by_start r (suc d) k = ap (λ (i : ℕ). get_or done.start i 0) (omega arith) ∙ r.start d k ∙ omega arith

  -- what holds behind the component holds with it
  built : Counted (suc c) cs next done → Counted c ((a ∷ m) ∷ cs) h done
  built r =
      let l = length-append m (groups_of cs) in
      let e = r.used in record {
        size = r.size ∙ length-set h.groups h.used (suc (length m));
        used = omega arith;
        low = λ i k. r.low i (omega arith) ∙ get_or-set_other h.groups h.used i (suc (length m)) 0 (λ f. omega arith);
        high = λ i k. r.high i (omega arith) ∙ get_or-set_other h.groups h.used i (suc (length m)) 0 (λ f. omega arith);
        number = by_number r;
        earlier = λ d k. r.earlier d (omega arith) ∙ get_or-set_other h.start c d (suc h.used) 0 (λ f. omega arith);
        start = by_start r;
      }

-- so the counts are written: a component with members takes its words behind those that are taken
counts_are : (cs : List (List ℕ)) (c : ℕ) (h : Counts) → h.used + length (groups_of cs) ≤ length h.groups → c + length cs ≤ length h.start
    → Counted c cs h (counts_from c (map length cs) h)
counts_are [] c h room few = record {
  size = refl;
  used = omega arith;
  low = λ i k. refl;
  high = λ i k. refl;
  number = λ d k. absurd (omega arith);
  earlier = λ d k. refl;
  start = λ d k. absurd (omega arith);
}
counts_are ([] ∷ cs) c h room few =
    let r = counts_are cs (suc c) h room (omega arith) in record {
      size = r.size;
      used = r.used;
      low = r.low;
      high = r.high;
      number = λ d. by_number r d;
      earlier = λ d k. r.earlier d (omega arith);
      start = λ d. by_start r d;
    }
  where
    by_number : Counted (suc c) cs h (counts_from (suc c) (map length cs) h) → (d : ℕ) → 0 < size_of ([] ∷ cs) d
        → get_or (counts_from (suc c) (map length cs) h).groups (h.used + offset ([] ∷ cs) d) 0 ≡ size_of ([] ∷ cs) d
    by_number r zero k = absurd (omega arith)
    by_number r (suc d) k = ap (λ (i : ℕ). get_or (counts_from (suc c) (map length cs) h).groups i 0) (omega arith) ∙ r.number d k

    by_start : Counted (suc c) cs h (counts_from (suc c) (map length cs) h) → (d : ℕ) → 0 < size_of ([] ∷ cs) d
        → get_or (counts_from (suc c) (map length cs) h).start (c + d) 0 ≡ suc (h.used + offset ([] ∷ cs) d)
    by_start r zero k = absurd (omega arith)
    by_start r (suc d) k = ap (λ (i : ℕ). get_or (counts_from (suc c) (map length cs) h).start i 0) (omega arith) ∙ r.start d k ∙ omega arith
counts_are ((a ∷ m) ∷ cs) c h room few =
    let n = suc (length m) in
    let l = length-append m (groups_of cs) in
    let g = length-set h.groups h.used n in
    let s = length-set h.start c (suc h.used) in
    subst (λ (t : Bool). Counted c ((a ∷ m) ∷ cs) h (counts_from (suc c) (map length cs) (cond t h (counted c n h)))) (sym (ne_eqb n 0 (λ e. omega arith)))
    (built a m cs c h room few (counts_are cs (suc c) (counted c n h) (omega arith) (omega arith)))

-- ---- the coordinates

module _ (start coordinate component place : List ℕ) where
  -- the coordinates leave the words' number as it is
  pub placed_length : (n : ℕ) (groups : List ℕ) → length (placed_up_to start coordinate component place n groups) ≡ length groups
  placed_length zero groups = refl
  placed_length (suc n) groups =
      length-set (placed_up_to start coordinate component place n groups) (word_at start coordinate component place n) (get_or coordinate n 0) ∙ placed_length n groups

  -- where each coordinate is the word that is wanted there, a word is right that was right before or is a position's
  pub placed_right : (ws groups : List ℕ) (i : ℕ) → i < length groups → (n : ℕ)
      → ((p : ℕ) → p < n → get_or coordinate p 0 ≡ get_or ws (word_at start coordinate component place p) 0)
      → (get_or groups i 0 ≡ get_or ws i 0) ⊎ ((p : ℕ) × (p < n) × (word_at start coordinate component place p ≡ i))
      → get_or (placed_up_to start coordinate component place n groups) i 0 ≡ get_or ws i 0
  placed_right ws groups i h zero right (inl e) = e
  placed_right ws groups i h zero right (inr k) = absurd (omega (arith, k.1))
  placed_right ws groups i h (suc n) right either =
      let w = word_at start coordinate component place n in
      let before = placed_up_to start coordinate component place n groups in
      ⊎_elim
      (λ e. ap (λ (j : ℕ). get_or (set before w (get_or coordinate n 0)) j 0) e
      ∙ get_or-set_same before w (get_or coordinate n 0) 0 (let l = placed_length n groups in omega arith)
      ∙ right n (omega arith) ∙ ap (λ (j : ℕ). get_or ws j 0) (sym e))
      (λ ne. get_or-set_other before w i (get_or coordinate n 0) 0 ne
      ∙ placed_right ws groups i h n (λ p k. right p (omega arith))
      (⊎_elim inl
      (λ k. ⊎_elim
      (λ f. absurd (ne (sym k.2 ∙ ap (word_at start coordinate component place) f)))
      (λ g. inr (k.0, omega (arith, k.1, g), k.2))
      (same_or_not k.0 n))
      either))
      (same_or_not i w)

-- ---- the groups of a state

-- what the code's two passes make of the groups, with the sizes and the active order that it reads
pub record GroupsWritten (s : State) (xs : List ℕ) (cs : List (List ℕ)) (groups sizes : List ℕ) : Type 0 where
  pub fit : CountsFit sizes groups
  pub inside : PlacesFit (counts_of sizes groups).start s.component s.place s.width (length (counts_of sizes groups).groups)
  pub used : (counts_of sizes groups).used ≡ length (groups_of cs)
  pub words : placed_up_to (counts_of sizes groups).start xs s.component s.place s.width (counts_of sizes groups).groups
      ≡ groups_of cs ++ drop (length (groups_of cs)) groups

module _ (s : State) (cs : List (List ℕ)) (r : ActiveOrder) (h : Holds cs r) (rep : Represents s r.order cs) (xs : List ℕ) (ordered : Ordered xs r.order) (made : length cs ≤ 512)
    (narrow : length r.order ≤ 512) (groups : List ℕ) (room : length (groups_of cs) ≤ length groups) (most : length (groups_of cs) ≤ 1024) where
  -- the sizes that the code reads are those of the components
  pub sizes_are : take s.count s.size ≡ map length cs
  sizes_are =
      let l : length (take s.count s.size) ≡ s.count = length-take-le s.count s.size (let e = rep.count in let z = rep.shape.sizes in omega arith) in
      let e = rep.count in
      ext_get_or 0 (take s.count s.size) (map length cs) (let k = length-map cs length in omega arith)
      (λ c k. get_or-take s.count s.size c 0 (omega arith) ∙ rep.size c (omega arith) ∙ sym (get_or-map length cs c []))

  -- the words after the counts
  abbrev counts : Counts
  counts = counts_of (map length cs) groups

  -- the words that are wanted in the end
  abbrev wanted : List ℕ
  wanted = groups_of cs ++ drop (length (groups_of cs)) groups

  -- what the counts leave
  counts_made : Counted 0 cs (record { groups = groups; start = replicate 512 0; used = 0 }) counts
  unfolding counts_of
  counts_made =
      counts_are cs 0 (record { groups = groups; start = replicate 512 0; used = 0 }) (omega arith) (let l = length-replicate {A = ℕ} 512 0 in omega arith)

  -- where a component's members begin
  start_is : (c : ℕ) → 0 < size_of cs c → get_or counts.start c 0 ≡ suc (offset cs c)
  start_is c k = ap (λ (i : ℕ). get_or counts.start i 0) (omega arith) ∙ counts_made.start c k ∙ omega arith

  -- a position's word
  abbrev at : ℕ → ℕ
  at p = word_at counts.start xs s.component s.place p

  -- it is its member's
  at-is : (p : ℕ) → p < length r.order → at p ≡ suc (offset cs (get_or s.component p 0) + get_or s.place p 0)
  at-is p k =
      let j = rep.place p k in
      let e = start_is (get_or s.component p 0) (omega arith) in omega arith

  -- so it is one of the groups' words
  at_inside : (p : ℕ) → p < length r.order → at p < length (groups_of cs)
  at_inside p k =
      let j = rep.place p k in
      let e = at-is p k in
      let g = group_inside cs (get_or s.component p 0) (omega arith) in omega arith

  -- and the position's coordinate is the word that is wanted there
  at_right : (p : ℕ) → p < s.width → get_or xs p 0 ≡ get_or wanted (at p) 0
  at_right p w =
      let k : p < length r.order = let e = rep.width in omega arith in
      ordered.entry p k ∙ sym (rep.member p k) ∙ sym (group_member cs (get_or s.component p 0) (get_or s.place p 0) (rep.place p k))
      ∙ ap (λ (i : ℕ). get_or (groups_of cs) i 0) (sym (at-is p k))
      ∙ sym (get_or-append (groups_of cs) (drop (length (groups_of cs)) groups) 0 (at p) (at_inside p k))

  -- every member stands at a position
  member_position : (c j : ℕ) → j < size_of cs c → (p : ℕ) × (p < s.width) × (at p ≡ suc (offset cs c + j))
  member_position c j k =
      let a = get_or (members_of cs c) j 0 in
      let listed : Member a (members_of cs c) = member_at (members_of cs c) j k in
      let active = listed_active cs r h a c listed in
      let p = place_of a r.order in
      let below : p < length r.order = place_below a r.order active in
      let holds : get_or r.order p 0 ≡ a = place_holds a r.order active in
      let same : get_or s.component p 0 ≡ c = stands_in s cs r h rep p c below (subst (λ (b : ℕ). Member b (members_of cs c)) (sym holds) listed) in
      let small : get_or s.place p 0 < size_of cs c = subst (λ (d : ℕ). get_or s.place p 0 < size_of cs d) same (rep.place p below) in
      let entry : get_or (members_of cs c) (get_or s.place p 0) 0 ≡ a =
      ap (λ (d : ℕ). get_or (members_of cs d) (get_or s.place p 0) 0) (sym same) ∙ rep.member p below ∙ holds in
      let there : get_or s.place p 0 ≡ j =
      one_place (members_of cs c) (λ b. let o = h.once b in let q = h.held b in let l = occurrences_listed b cs c in omega arith)
      (get_or s.place p 0) j small k entry in
      (p, (let e = rep.width in omega arith), at-is p below ∙ ap (λ (d : ℕ). suc (offset cs d + get_or s.place p 0)) same ∙ ap (λ (i : ℕ). suc (offset cs c + i)) there)

  -- a word is right after the counts or a position's
  sorted : (i : ℕ) → i < length groups → (get_or counts.groups i 0 ≡ get_or wanted i 0) ⊎ ((p : ℕ) × (p < s.width) × (at p ≡ i))
  sorted i k = ⊎_elim (λ l. by_word l (word cs i l)) (λ l. inl (behind l)) (below_or_not i (length (groups_of cs)))
    where
      by_word : i < length (groups_of cs) → Word cs i → (get_or counts.groups i 0 ≡ get_or wanted i 0) ⊎ ((p : ℕ) × (p < s.width) × (at p ≡ i))
      by_word l (count c n e) =
          inl
          (ap (λ (j : ℕ). get_or counts.groups j 0) (omega arith) ∙ counts_made.number c n ∙ sym (group_count cs c n)
          ∙ ap (λ (j : ℕ). get_or (groups_of cs) j 0) (sym e) ∙ sym (get_or-append (groups_of cs) (drop (length (groups_of cs)) groups) 0 i l))
      by_word l (member c j n e) = let q = member_position c j n in inr (q.0, q.1, q.2 ∙ sym e)

      behind : length (groups_of cs) ≤ i → get_or counts.groups i 0 ≡ get_or wanted i 0
      behind l =
          let n = length (groups_of cs) in
          let split : n + (i - n) ≡ i = omega arith in
          counts_made.high i (omega arith) ∙ ap (λ (j : ℕ). get_or groups j 0) (sym split) ∙ sym (get_or-drop n groups (i - n) 0)
          ∙ sym (get_or-append-add (groups_of cs) (drop n groups) (i - n) 0) ∙ ap (λ (j : ℕ). get_or wanted j 0) split

  -- the claim for the components' own sizes
  written : GroupsWritten s xs cs groups (map length cs)
  written =
      let u = counts_made.used in
      let z = counts_made.size in
      let w = rep.width in record {
        fit = record { fit = omega arith; small = omega arith };
        inside = record {
          few = omega arith;
          numbers = λ p k. let b = rep.component p (omega arith) in omega arith;
          inside = λ p k. let b = at_inside p (omega arith) in omega arith;
        };
        used = omega arith;
        words =
            let l = placed_length counts.start xs s.component s.place s.width counts.groups in
            let a = length-append (groups_of cs) (drop (length (groups_of cs)) groups) in
            let d = length-drop (length (groups_of cs)) groups in
            ext_get_or 0 (placed_up_to counts.start xs s.component s.place s.width counts.groups) wanted (omega arith)
            (λ i k. placed_right counts.start xs s.component s.place wanted counts.groups i (omega arith) s.width at_right (sorted i (omega arith)));
      }

  -- the groups are written as the definition has them
  pub groups_written : GroupsWritten s xs cs groups (take s.count s.size)
  groups_written = subst (λ (sizes : List ℕ). GroupsWritten s xs cs groups sizes) (sym sizes_are) written
