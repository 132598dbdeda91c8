-- Words that stand in front of a list, and words that are written into it from a place on: how long it is then, what stands in front and behind, and what is
-- read back.
use mathlib.Core.Path.{◌≡◌, refl, sym, ap, ◌∙◌}
use mathlib.Core.List.{List, [], ◌∷◌, ◌++◌, append_assoc, append-nil}
use Prim.Native.Nat.{ℕ, suc, ◌+◌, ◌≤◌, ◌<◌}
use native.Mathlib.Nat.{add-zero, add_assoc}
use native.Mathlib.Omega.{arith}
use borrow.Author.Tests.{le-leb}
use lib.ListN.{length, get_or, set, take, drop, length-append, length-drop, take-append-drop}
use lib.Seq.{take_at, drop_at, drop-drop, drop-append-add, length-take-le, set_split, take-set-lt, get_or-take}
use Rattle.words.specs.Lists.{Begins, patch, part_of}

-- ---- parts

-- a part whose end is within the words is there
pub part_there : (ws : List ℕ) (offset count : ℕ) → offset + count ≤ length ws → part_of ws offset count ≡ take count (drop offset ws)
part_there ws offset count h = rw (le-leb _ _ h)

-- ---- words written from a place on

pub length_patch : (at : ℕ) (ws xs : List ℕ) → at + length ws ≤ length xs → length (patch at ws xs) ≡ length xs
length_patch at ws xs h =
    let whole = length-append (take at xs) (ws ++ drop (at + length ws) xs) in
    let back = length-append ws (drop (at + length ws) xs) in
    let front = length-take-le at xs (omega arith) in
    let rest = length-drop (at + length ws) xs in
    omega arith

-- what stands in front of the end of what was written
pub front_patch : (at : ℕ) (ws xs : List ℕ) (n : ℕ) → at + length ws ≡ n → n ≤ length xs → take n (patch at ws xs) ≡ take at xs ++ ws
front_patch at ws xs n e h =
    let front = length-take-le at xs (omega arith) in
    ap (take n) (sym (append_assoc (take at xs) ws (drop (at + length ws) xs)))
    ∙ take_at (take at xs ++ ws) (drop (at + length ws) xs) n (length-append (take at xs) ws ∙ omega arith)

-- words behind words
pub patch_behind : (at : ℕ) (ws vs xs : List ℕ) (n : ℕ) → at + length ws ≡ n → n + length vs ≤ length xs → patch n vs (patch at ws xs) ≡ patch at (ws ++ vs) xs
patch_behind at ws vs xs n e h =
    let front = length-take-le at xs (omega arith) in
    let head = length-append (take at xs) ws in
    let both = length-append ws vs in
    let rest : drop (n + length vs) (patch at ws xs) ≡ drop (at + length (ws ++ vs)) xs =
    ap (drop (n + length vs)) (sym (append_assoc (take at xs) ws (drop (at + length ws) xs)))
    ∙ ap (λ (k : ℕ). drop (k + length vs) ((take at xs ++ ws) ++ drop (at + length ws) xs)) (sym (head ∙ omega arith))
    ∙ drop-append-add (take at xs ++ ws) (drop (at + length ws) xs) (length vs)
    ∙ drop-drop (length vs) (at + length ws) xs
    ∙ ap (λ (k : ℕ). drop k xs) (add_assoc at (length ws) (length vs) ∙ ap (λ (k : ℕ). at + k) (sym both)) in
    ap (λ (l : List ℕ). l ++ (vs ++ drop (n + length vs) (patch at ws xs))) (front_patch at ws xs n e (omega arith))
    ∙ ap (λ (l : List ℕ). (take at xs ++ ws) ++ (vs ++ l)) rest
    ∙ append_assoc (take at xs) ws (vs ++ drop (at + length (ws ++ vs)) xs)
    ∙ ap (λ (l : List ℕ). take at xs ++ l) (sym (append_assoc ws vs (drop (at + length (ws ++ vs)) xs)))

-- the words that were written are read back from there
pub part_of_patch : (at n : ℕ) (ws xs : List ℕ) → length ws ≡ n → at ≤ length xs → take n (drop at (patch at ws xs)) ≡ ws
part_of_patch at n ws xs l h =
    ap (λ (r : List ℕ). take n r) (drop_at (take at xs) (ws ++ drop (at + length ws) xs) at (length-take-le at xs h))
    ∙ take_at ws (drop (at + length ws) xs) n l

-- where there are none the list is as it was
pub patch_none : (at : ℕ) (xs : List ℕ) → patch at [] xs ≡ xs
patch_none at xs = ap (λ (k : ℕ). take at xs ++ drop k xs) (add-zero at) ∙ take-append-drop at xs

-- ---- words in front

-- a list begins as itself
pub begins_refl : {A : Type 0} (xs : List A) → Begins xs xs
begins_refl xs = ([], sym (append-nil xs))

-- what a list's beginning begins with, the list begins with
pub begins_trans : {A : Type 0} (xs ys zs : List A) → Begins xs ys → Begins ys zs → Begins xs zs
begins_trans xs ys zs e f = (e.0 ++ f.0, f.1 ∙ ap (λ (l : List _). l ++ f.0) e.1 ∙ append_assoc xs e.0 f.0)

-- they are no more than there are
pub begins_length : {A : Type 0} (xs ys : List A) → Begins xs ys → length xs ≤ length ys
begins_length xs ys e = let l = ap length e.1 ∙ length-append xs e.0 in omega arith

-- they are its first words
pub begins_take : {A : Type 0} (ws xs : List A) (n : ℕ) → Begins ws xs → length ws ≡ n → take n xs ≡ ws
begins_take ws xs n b e = ap (take n) b.1 ∙ take_at ws b.0 n e

-- words written behind those that are there
pub begins_patch : (ws us xs : List ℕ) (at : ℕ) → Begins ws xs → length ws ≡ at → Begins (ws ++ us) (patch at us xs)
begins_patch ws us xs at b e =
    let rest = drop (at + length us) xs in
    (rest, ap (λ (l : List ℕ). l ++ (us ++ rest)) (begins_take ws xs at b e) ∙ sym (append_assoc ws us rest))

-- one word more
pub begins_more : (ws xs : List ℕ) (at v : ℕ) → Begins ws xs → length ws ≡ at → at < length xs → Begins (ws ++ (v ∷ [])) (set xs at v)
begins_more ws xs at v b e h =
    let rest = drop (suc at) xs in
    (rest, set_split xs at v h ∙ ap (λ (l : List ℕ). l ++ (v ∷ rest)) (begins_take ws xs at b e) ∙ sym (append_assoc ws (v ∷ []) rest))

-- a word that is written anew
pub begins_set : (ws xs : List ℕ) (c v : ℕ) → Begins ws xs → c < length ws → Begins (set ws c v) (set xs c v)
begins_set ws xs c v b h =
    let n = length ws in
    let front : take n (set xs c v) ≡ set ws c v = take-set-lt n xs c v h ∙ ap (λ (l : List ℕ). set l c v) (begins_take ws xs n b refl) in
    (drop n (set xs c v), sym (take-append-drop n (set xs c v)) ∙ ap (λ (l : List ℕ). l ++ drop n (set xs c v)) front)

-- the word there
pub begins_at : (ws xs : List ℕ) (c : ℕ) → Begins ws xs → c < length ws → get_or xs c 0 ≡ get_or ws c 0
begins_at ws xs c b h = sym (get_or-take (length ws) xs c 0 h) ∙ ap (λ (l : List ℕ). get_or l c 0) (begins_take ws xs (length ws) b refl)
