-- A refusal's number is not 0, so a reply of 0 is that of a plan.
use mathlib.Core.Path.{◌≡◌, refl}
use mathlib.Core.Logic.{⊎_elim}
use mathlib.Core.Bool.{Bool, true, false, cond}
use mathlib.Core.List.{List}
use Rattle.std.specs.Prelude.{Option, Some, None}
use Prim.Native.Nat.{ℕ, ◌<◌, ◌/◌}
use native.Mathlib.Omega.{arith}
use lib.Dec.{ltb}
use lib.ListN.{length}
use Rattle.refusals.specs.Answer.{completed, refused_at}
use Rattle.records.specs.Record.{instructions_of}
use Rattle.records.specs.Pass.{Checked, record_pass}
use Rattle.records.specs.declared.Head.{Head}
use Rattle.records.proofs.Laws.{refused_in}
use Rattle.plan_spec.specs.Walk.{Walked, start, walk_from}
use Rattle.plan_spec.specs.Plan.{Lengths, Plan, Result, unread, words_refused, buffers_refused, after_walk, after_pass, refuse_all, plan_read, max_dimension, for_dense_peak, ceiling_refused, plan_of}
use Rattle.plan_spec.proofs.Growth.{stopped_index}

-- a refusal has a number
abbrev Numbered : Result → Type 0
Numbered r = (n j : ℕ) → r ≡ refused_at n j → 0 < n

first : (number : ℕ) → 0 < number → Numbered (refused_at number 0)
first number h n j e = let z : number ≡ n = cc in omega arith

plan : (p : Plan) → Numbered (completed p)
plan p n j e = let z : ◌≡◌ {A = ℕ} 0 1 = cc in absurd (omega arith)

test : (t : Bool) (number : ℕ) (rest : Result) → 0 < number → Numbered rest → Numbered (refuse_all t number rest)
test true number rest h r = first number h
test false number rest h r = r

walked : (limit initial dense_peak : ℕ) (ws : List ℕ) → Numbered (after_walk initial dense_peak (walk_from limit 0 (start initial) (instructions_of ws)))
walked limit initial dense_peak ws = go (walk_from limit 0 (start initial) (instructions_of ws)) refl
  where
    go : (x : Walked) → walk_from limit 0 (start initial) (instructions_of ws) ≡ x → Numbered (after_walk initial dense_peak x)
    go (completed w) f n j e = plan _ n j e
    go (refused_at m i) f n j e =
        let s = stopped_index limit 0 (start initial) (instructions_of ws) m i f in
        let same : m ≡ n = cc in omega (arith, s.2)

passed : (limit initial dense_peak : ℕ) (ws : List ℕ) → Numbered (after_pass limit initial dense_peak ws (record_pass initial ws))
passed limit initial dense_peak ws = go (record_pass initial ws) refl
  where
    go : (x : Checked) → record_pass initial ws ≡ x → Numbered (after_pass limit initial dense_peak ws x)
    go (completed passed) f n j e = walked limit initial dense_peak ws n j e
    go (refused_at m i) f n j e =
        let s = refused_in initial ws m i f in
        let same : m ≡ n = cc in ⊎_elim (λ a. omega (arith, a)) (λ a. omega (arith, a)) s.number_of_pass

pub refused_number : (h : Head) (ws : List ℕ) (l : Lengths) (n j : ℕ) → plan_of h ws l ≡ refused_at n j → 0 < n
unfolding plan_of plan_read
refused_number h ws l = test (ceiling_refused h) 24 _ (omega arith) (go (max_dimension h))
  where
    read : (dense_peak : ℕ) → Numbered (plan_read h ws l dense_peak)
    read dense_peak =
        test (words_refused ws) 2 _ (omega arith)
        (test (buffers_refused (length ws / 8) l) 3 _ (omega arith)
        (test (ltb 512 h.initial_k) 4 _ (omega arith)
        (passed h.ceiling h.initial_k dense_peak ws)))

    either : (t : Bool) (p : Plan) (r : Result) → Numbered r → Numbered (cond t (completed p) r)
    either true p r i = plan p
    either false p r i = i

    go : (d : Option ℕ) → Numbered (for_dense_peak h ws l d)
    go None = first 1 (omega arith)
    go (Some dense_peak) = either (unread h) _ _ (read dense_peak)
