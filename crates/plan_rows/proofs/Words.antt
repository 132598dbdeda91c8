-- The words behind a row's head: they are written over the part behind it, and what stands behind them is as it was.
use Rattle.std.proofs.Common.{◌≡◌, ℕ, List, ◌++◌, ◌+◌, length, drop, refl, sym, append_assoc}
use Rattle.std.proofs.lemmas.List.{take_at, drop_at}
use lib.Seq.{drop-drop}
use borrow.Rule.Slice.PartMut.{put_mid}
use Rattle.kernels.specs.declared.active.ActivePauliAction.{ActivePauliAction}
use Rattle.plan_spec.specs.Walk.{row_head}

pub behind : (head rest part written before : List ℕ) (n k : ℕ) → length head ≡ n → part ≡ head ++ drop n before → written ≡ rest
    → put_mid n k part written ≡ (head ++ rest) ++ drop (n + k) before
behind head rest part written before n k long front same =
    rw (front, same, take_at head (drop n before) n long, drop_at head (drop n before) n long, drop-drop) (sym (append_assoc head rest (drop (n + k) before)))

pub head_length : (component offset count : ℕ) (a : ActivePauliAction) → length (row_head component offset count a) ≡ 11
unfolding row_head
head_length component offset count a = refl
