-- The join that a record makes, by what opening it ensures: as many sources as it counts stand in the merge list from the offset on, and where there is none there are no
-- sources.
use Rattle.std.specs.Prelude.{Option, Some, None, Ok}
use mathlib.Core.Path.{◌≡◌, refl, sym, ap, ◌∙◌}
use mathlib.Core.List.{List, [], ◌∷◌, ◌++◌}
use Prim.Native.Nat.{ℕ, ◌+◌, ◌-◌, ◌≤◌, ◌<◌}
use native.Mathlib.Omega.{arith}
use lib.ListN.{length, take, drop, length-append, length-take}
use Rattle.words.specs.Lists.{patch}
use Rattle.words.proofs.Patches.{part_of_patch}
use Rattle.records.specs.declared.Instruction.{Instruction}
use Rattle.state.specs.declared.State.{State}
use Rattle.work_sums.specs.declared.Joining.{Joining}
use Rattle.work_sums.specs.Tally.{joining_of}
use Rattle.record_steps.specs.RecordSteps.{join_before, Opened}
use Rattle.walk.specs.Looping.{sources_of, Joins}

-- a join is that of the sources, and there are some
pub some_join : (size ss : List ℕ) (jn : Joining) → Some jn ≡ join_before size ss → (jn ≡ joining_of size ss) × (0 < length ss)
some_join size [] jn e = let z : ◌≡◌ {A = ℕ} 0 1 = cc in absurd (omega arith)
some_join size (t ∷ others) jn e = (cc, omega arith)

pub no_join : (size ss : List ℕ) → None ≡ join_before size ss → length ss ≡ 0
no_join size [] e = refl
no_join size (t ∷ others) e = let z : ◌≡◌ {A = ℕ} 0 1 = cc in absurd (omega arith)

counted : (size ss : List ℕ) → (joining_of size ss).count ≡ length ss
unfolding joining_of
counted size ss = refl

-- words in the place of others reach no further than the list
patch_most : (at : ℕ) (ws xs : List ℕ) → at ≤ length xs → at + length ws ≤ length (patch at ws xs)
patch_most at ws xs h =
    let e = length-append (take at xs) (ws ++ drop (at + length ws) xs) in
    let f = length-append ws (drop (at + length ws) xs) in
    let l = length-take at xs in omega arith

module _ {s : State} {x : Instruction} {offset : ℕ} {made : Option Joining} {jn : Joining} {merges merges' : List ℕ} where
  pub join_counts : Joins s x offset (length merges) → Opened s.width offset s.component s.size x (Ok made) merges merges' → made ≡ Some jn → jn.count ≡ length (sources_of s x)
  join_counts asked opened e = ap (λ (j : Joining). j.count) (some_join s.size (sources_of s x) jn (sym e ∙ opened.join)).0 ∙ counted s.size (sources_of s x)

  pub join_fits : Joins s x offset (length merges) → Opened s.width offset s.component s.size x (Ok made) merges merges' → made ≡ Some jn → length merges' ≡ length merges
      → offset + jn.count ≤ length merges'
  join_fits asked opened e long =
      let n = join_counts asked opened e in
      let f = ap (λ (l : List ℕ). length l) opened.written in
      let g = patch_most offset (sources_of s x) merges asked.inside in omega arith

  pub join_part : Joins s x offset (length merges) → Opened s.width offset s.component s.size x (Ok made) merges merges' → made ≡ Some jn
      → take (offset + jn.count - offset) (drop offset merges') ≡ sources_of s x
  join_part asked opened e =
      let n = join_counts asked opened e in
      ap (λ (l : List ℕ). take (offset + jn.count - offset) (drop offset l)) opened.written
      ∙ part_of_patch offset (offset + jn.count - offset) (sources_of s x) merges (omega arith) asked.inside
