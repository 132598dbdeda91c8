-- Rows that stand in front of a buffer, and a row that is written behind them.
use mathlib.Core.Path.{◌≡◌, sym, subst}
use mathlib.Core.List.{List, [], ◌∷◌, ◌++◌}
use Prim.Native.Nat.{ℕ}
use lib.ListN.{length}
use Rattle.words.specs.Lists.{patch, Begins}
use Rattle.words.proofs.Patches.{begins_patch}
use Rattle.plan_spec.specs.Lists.{concat}
use Rattle.plan_spec.proofs.Growth.{concat_more}

-- a row behind the rows
pub begins_row : (rows : List (List ℕ)) (row xs : List ℕ) (at : ℕ) → Begins (concat rows) xs → length (concat rows) ≡ at
    → Begins (concat (rows ++ (row ∷ []))) (patch at row xs)
begins_row rows row xs at b e = subst (λ (l : List ℕ). Begins l (patch at row xs)) (sym (concat_more rows row)) (begins_patch (concat rows) row xs at b e)
