-- What the lent words hold at the end: a list that is known entry by entry is that list, and zeros stand behind it.
use Rattle.std.proofs.Common.{◌≡◌, ℕ, ◌-◌, ◌<◌, ◌≤◌, Bool, true, false, List, [], ◌∷◌, ◌++◌, length, get_or, take, drop, refl, ap, sym, arith}
use Rattle.std.specs.Prelude.{map, replicate}
use Rattle.std.specs.List.{list_all, range_with_len}
use mathlib.Core.Path.{◌∙◌}
use borrow.Author.Tests.{eqb-true}
use Rattle.std.proofs.lemmas.List.{same_lists, get_or_default, length-map, length-take, drop_at}
use Rattle.std.proofs.lemmas.List.FromFn.{length-range_with_len, get_or-range_with_len}
use lib.ListN.{get_or-map}
use Rattle.pending.specs.Operation.{Operation, kind}
use Rattle.pending.specs.Form.{operation_fits}
use Rattle.pending.proofs.Laws.{fits_kind}
use Rattle.optimizer.specs.Working.{is_marked, live}
use Rattle.optimizer.specs.Answer.{held}
use Rattle.optimizer.proofs.Laws.{both_front, both_behind}
use Rattle.optimizer.proofs.Carrying.{lives}

-- the words of a function, one by one
pub by_entries : (f : ℕ → ℕ) (n : ℕ) (ws : List ℕ) → length ws ≡ n → ((q : ℕ) → q < n → get_or ws q 0 ≡ f q) → ws ≡ map f (range_with_len 0 n)
by_entries f n ws long each =
    let size : length ws ≡ length (map f (range_with_len 0 n)) = long ∙ sym (length-map (range_with_len 0 n) f ∙ length-range_with_len 0 n) in
    same_lists ws (map f (range_with_len 0 n)) size λ k d small.
    get_or_default ws k d 0 small
    ∙ each k (omega arith)
    ∙ ap f (let e = get_or-range_with_len 0 n k 0 (omega arith) in omega arith)
    ∙ sym (get_or-map f (range_with_len 0 n) k 0)
    ∙ get_or_default (map f (range_with_len 0 n)) k (f 0) d (omega arith)

-- words in front of those that were cleared
pub zeros_behind : (cleared before now : List ℕ) (n : ℕ) → n ≤ length before → cleared ≡ take n before ++ replicate (length before - n) 0 → length now ≡ n →
    now ++ drop n cleared ≡ held (length before) now
zeros_behind cleared before now n room cleared_is long =
    ap (λ (ws : List ℕ). now ++ drop n ws) cleared_is
    ∙ ap (λ (rest : List ℕ). now ++ rest) (drop_at (take n before) (replicate (length before - n) 0) n (omega (arith, length-take n before)))
    ∙ ap (λ (k : ℕ). now ++ replicate (length before - k) 0) (sym long)

-- operations that fit have no mark
pub fits_unmarked : (width : ℕ) (os : List Operation) → list_all (operation_fits width) os ≡ true → live os ≡ os
fits_unmarked width [] fit = refl
fits_unmarked width (o ∷ os) fit =
    lives o os (unmarked (is_marked o) refl) ∙ ap (λ (rest : List Operation). o ∷ rest) (fits_unmarked width os (both_behind (operation_fits width o) (list_all (operation_fits width) os) fit))
  where
    unmarked : (b : Bool) → is_marked o ≡ b → b ≡ false
    unmarked true h =
        let small = fits_kind width o (both_front (operation_fits width o) (list_all (operation_fits width) os) fit) in
        let three = eqb-true (kind o) 3 h in
        absurd (omega arith)
    unmarked false h = refl
