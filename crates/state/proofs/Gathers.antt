-- The members of the target only grow in number over a join's sources, and what a join's pass over the positions has done before position p.
use Prim.Native.Nat.{ℕ, ◌+◌, ◌<◌, ◌≤◌}
use mathlib.Core.Path.{◌≡◌, refl, sym, ap, ◌∙◌}
use mathlib.Core.Bool.{cond}
use mathlib.Core.List.{List, [], ◌∷◌}
use native.Mathlib.Omega.{arith}
use lib.ListN.{length, set, get_or, drop, replicate, length-set}
use lib.Dec.{eqb}
use Rattle.masks.specs.Positions.{Below512}
use Rattle.state.specs.Steps.{Gathering, gather_from, gathering, target_of, sizes_after}
use Rattle.state.specs.declared.State.{State}
use Rattle.masks.proofs.Arrays.{rest_at}

pub grown_rises : (sources : List ℕ) (g : Gathering) → g.grown ≤ (gather_from sources g).grown
grown_rises [] g = omega arith
grown_rises (s ∷ sources) g = omega (arith, grown_rises sources (record { rise = set g.rise s g.grown; sizes = set g.sizes s 0; grown = g.grown + get_or g.sizes s 0 }))

-- with one source more they are still within those in the end
pub grown_within : (xs : List ℕ) (i : ℕ) (g whole : Gathering) → i < length xs → gather_from (drop i xs) g ≡ whole
    → g.grown + get_or g.sizes (get_or xs i 0) 0 ≤ whole.grown
grown_within xs i g whole inside e =
    let s = get_or xs i 0 in
    let goes_on = sym (ap (λ (l : List ℕ). gather_from l g) (rest_at xs i inside)) ∙ e in
    omega (
      arith,
      grown_rises (drop (i + 1) xs) (record { rise = set g.rise s g.grown; sizes = set g.sizes s 0; grown = g.grown + get_or g.sizes s 0 }),
      ap (λ (h : Gathering). h.grown) goes_on,
    )

-- a join keeps the arrays' lengths
pub lengths_kept : (sources : List ℕ) (g : Gathering) → (length (gather_from sources g).rise ≡ length g.rise) × (length (gather_from sources g).sizes ≡ length g.sizes)
lengths_kept [] g = (refl, refl)
lengths_kept (s ∷ sources) g =
    let r = lengths_kept sources (record { rise = set g.rise s g.grown; sizes = set g.sizes s 0; grown = g.grown + get_or g.sizes s 0 }) in
    (r.0 ∙ length-set g.rise s g.grown, r.1 ∙ length-set g.sizes s 0)

pub length_after : (size sources : List ℕ) → length (sizes_after size sources) ≡ length size
unfolding gathering
length_after size sources = simp length-set (lengths_kept (drop 1 sources) (record { rise = replicate 512 0; sizes = size; grown = get_or size (target_of sources) 0 })).1

-- the component of a member of c after a join
abbrev pub moved : List ℕ → ℕ → ℕ → ℕ
moved rise target c = cond (eqb (get_or rise c 0) 0) c target

-- the positions below p are done, and those from p on as they were
pub record Passed (s₀ : State) (rise : List ℕ) (target : ℕ) (s : State) (p : ℕ) : Type 0 where
  pub size : s.size ≡ s₀.size
  pub width : s.width ≡ s₀.width
  pub count : s.count ≡ s₀.count
  pub components : length s.component ≡ 512
  pub places : length s.place ≡ 512
  pub component : (q : ℕ) → q < p → get_or s.component q 0 ≡ moved rise target (get_or s₀.component q 0)
  pub place : (q : ℕ) → q < p → get_or s.place q 0 ≡ get_or s₀.place q 0 + get_or rise (get_or s₀.component q 0) 0
  pub same_component : (q : ℕ) → p ≤ q → get_or s.component q 0 ≡ get_or s₀.component q 0
  pub same_place : (q : ℕ) → p ≤ q → get_or s.place q 0 ≡ get_or s₀.place q 0
  pub small : Below512 s.component
