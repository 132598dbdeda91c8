-- Words laid out in a result of some length: as many as there is room for, and zeros behind them. By induction on the length.
use Rattle.std.specs.Prelude.{Result as Answered, Ok, Err}
use mathlib.Core.Path.{◌≡◌, refl, sym, ap, ap₂, ◌∙◌}
use mathlib.Core.List.{List, [], ◌∷◌, ◌++◌, map}
use Prim.Native.Nat.{ℕ, zero, suc, ◌+◌, ◌-◌, ◌≤◌, min}
use native.Mathlib.Omega.{arith}
use lib.ListN.{length, get_or, take, drop, replicate, length-append, length-drop}
use native.Mathlib.Nat.{min_comm}
use Rattle.std.proofs.lemmas.List.{take_min}
use lib.Seq.{take_at, length-take-le}
use Rattle.words.specs.Lists.{numbers_from}
use Rattle.refusals.specs.declared.Refusal.{Refusal}
use Rattle.answer.specs.declared.ActiveComponentPlan.{ActiveComponentPlan}
use Rattle.answer.specs.Outcome.{outcome_of}
use Rattle.store.specs.Storing as Storing
use Rattle.midvokt.specs.Reply.{number_of, number_in, laid_out}
use Rattle.optimizer.specs.declared.Counts.{Counts}
use Rattle.optimizer.specs.Answer.{told_of}
use Rattle.midvokt.specs.Stored.{store_number}
use Rattle.midvokt.specs.Optimized.{optimize_number}

-- past the last word
zeros : (g : ℕ → ℕ) (a n : ℕ) → ((i : ℕ) → g (a + i) ≡ 0) → map g (numbers_from a n) ≡ replicate n 0
zeros g a zero h = refl
zeros g a (suc n) h =
    let here : a + 0 ≡ a = omega arith in
    let next : (i : ℕ) → a + suc i ≡ suc a + i = λ i. omega arith in
    ap₂ (λ (x : ℕ) (l : List ℕ). x ∷ l) (sym (ap g here) ∙ h 0) (zeros g (suc a) n (λ i. sym (ap g (next i)) ∙ h (suc i)))

laid_from : (g : ℕ → ℕ) (a n : ℕ) (ws : List ℕ) → ((i : ℕ) → g (a + i) ≡ get_or ws i 0) → map g (numbers_from a n) ≡ take n ws ++ replicate (n - length ws) 0
laid_from g a zero ws h = let none : 0 - length ws ≡ 0 = omega arith in sym (ap (λ (k : ℕ). replicate k 0) none)
laid_from g a (suc n) [] h = let all : suc n - 0 ≡ suc n = omega arith in zeros g a (suc n) h ∙ sym (ap (λ (k : ℕ). replicate k 0) all)
laid_from g a (suc n) (w ∷ ws) h =
    let here : a + 0 ≡ a = omega arith in
    let next : (i : ℕ) → a + suc i ≡ suc a + i = λ i. omega arith in
    let left : suc n - length (w ∷ ws) ≡ n - length ws = omega arith in
    ap₂ (λ (x : ℕ) (l : List ℕ). x ∷ l) (sym (ap g here) ∙ h 0) (laid_from g (suc a) n ws (λ i. sym (ap g (next i)) ∙ h (suc i)))
    ∙ sym (ap (λ (k : ℕ). w ∷ (take n ws ++ replicate k 0)) left)

laid_is : (n : ℕ) (ws : List ℕ) → laid_out n ws ≡ take n ws ++ replicate (n - length ws) 0
laid_is n ws = laid_from (λ i. get_or ws i 0) 0 n ws (λ i. let e : 0 + i ≡ i = omega arith in ap (λ (k : ℕ). get_or ws k 0) e)

-- the words that there is room for, copied to the front, and zeros behind them
pub laid_copied : (n : ℕ) (ws res copied after : List ℕ) → n ≡ min (length ws) (length res) → copied ≡ take n ws
    → after ≡ take n (copied ++ drop n res) ++ replicate (length (copied ++ drop n res) - n) 0 → after ≡ laid_out (length res) ws
laid_copied n ws res copied after e f g =
    let room : n ≤ length ws = omega arith in
    let long : length copied ≡ n = ap length f ∙ length-take-le n ws room in
    let whole = length-append copied (drop n res) in
    let rest = length-drop n res in
    let zeros : length (copied ++ drop n res) - n ≡ length res - length ws = omega arith in
    g
    ∙ ap₂ (λ (l : List ℕ) (k : ℕ). l ++ replicate k 0) (take_at copied (drop n res) n long ∙ f ∙ front) zeros
    ∙ sym (laid_is (length res) ws)
  where
    front : take n ws ≡ take (length res) ws
    front = ap (λ (k : ℕ). take k ws) (e ∙ min_comm (length ws) (length res)) ∙ take_min (length res) ws

-- ---- what calls answer, in words

-- the number that C has of a planning call's answer is that of its outcome
pub plan_told : (r : Answered ActiveComponentPlan Refusal) → number_in r ≡ number_of (outcome_of r)
plan_told (Ok p) = refl
plan_told (Err refusal) = refl

-- so is that of a storing call
pub store_told : (r : Answered ℕ Refusal) → number_in r ≡ store_number (Storing.outcome_of r)
store_told (Ok n) = refl
store_told (Err refusal) = refl

-- and that of an optimizing call
pub optimize_told : (r : Answered Counts Refusal) → number_in r ≡ optimize_number (told_of r)
optimize_told (Ok counts) = refl
optimize_told (Err refusal) = refl
