-- What a plan says of its works, and what a plan says whose records are not read.
use Rattle.std.specs.Prelude.{Option, Some, None, pos}
use mathlib.Core.Path.{◌≡◌, refl, sym, ◌∙◌, subst}
use mathlib.Core.Bool.{Bool, true, false, cond}
use mathlib.Core.List.{List}
use Prim.Native.Nat.{ℕ, ◌^◌, min}
use native.Mathlib.Omega.{arith}
use lib.Dec.{ltb}
use Rattle.refusals.specs.Answer.{completed}
use Rattle.kernels.specs.Bits.{dimension}
use Rattle.records.specs.declared.Head.{Head}
use Rattle.plan_spec.specs.Walk.{start}
use Rattle.plan_spec.specs.Plan.{Lengths, Plan, unread, unread_plan, plan_from, max_dimension, for_dense_peak, plan_of}
use Rattle.plan_spec.specs.Laws.{IsNonNegative, number}
use Rattle.plan_spec.proofs.Steps.{cond_yes}
use Rattle.plan_spec.proofs.Accepted.{ceiling_passed, accepted}
use Rattle.plan_spec.proofs.Room.{unread_planned, unread_is}
use Rattle.plan_spec.proofs.Works.{reached_nonneg}
use Rattle.guarantees.specs.Calls.{zeroed}
use Rattle.guarantees.specs.Promises.{SaysNothing}
use Rattle.plan_buffers.specs.SevenBuffers.{Buffers, Held}

-- ---- works

abbrev Works : Plan → Type 0
Works p = IsNonNegative p.dense_work × IsNonNegative p.component_work

unread_works : (initial dense_peak : ℕ) → Works (unread_plan initial dense_peak)
unread_works initial dense_peak = subst Works (sym (unread_is initial dense_peak)) (number 0 (pos 0), number 0 (pos 0))

-- of a plan that was read, the last state of its walk has such works; and one that was not has none
pub works_not_negative : (h : Head) (ws : List ℕ) (l : Lengths) (p : Plan) → plan_of h ws l ≡ completed p → Works p
unfolding plan_from
works_not_negative h ws l p e = go (unread h) refl
  where
    go : (t : Bool) → unread h ≡ t → Works p
    go true u = let q = unread_planned h ws l p u e in subst Works (sym q.1) (unread_works h.initial_k q.0)
    go false u =
        let a = accepted h ws l p u e in
        let w = reached_nonneg h.initial_k a.run in subst Works (sym a.plan_is) (w.dense, w.component)

-- ---- a plan whose records are not read

-- what has a dimension has the power of two
dimension_is : (ceiling size d : ℕ) → dimension ceiling size ≡ Some d → 2 ^ size ≡ d
unfolding dimension
dimension_is ceiling size d = go (ltb size (min ceiling 64))
  where
    go : (t : Bool) → cond t (Some (2 ^ size)) None ≡ Some d → 2 ^ size ≡ d
    go true e = cc
    go false e = let z : ◌≡◌ {A = ℕ} 0 1 = cc in absurd (omega arith)

says_nothing : (h : Head) (dense_peak : ℕ) → 2 ^ h.max_k ≡ dense_peak → SaysNothing h (unread_plan h.initial_k dense_peak)
says_nothing h dense_peak e = subst (SaysNothing h) (sym (unread_is h.initial_k dense_peak)) (record {
  selected = refl;
  initial_components = refl;
  component_count = refl;
  dense_work = refl;
  component_work = refl;
  dense_peak = sym e;
  peak = refl;
  allocated = refl;
  whole_works = refl;
})

pub unread_says : (h : Head) (ws : List ℕ) (l : Lengths) (p : Plan) → unread h ≡ true → plan_of h ws l ≡ completed p
    → (dense_peak : ℕ) × (p ≡ unread_plan h.initial_k dense_peak) × SaysNothing h p
unread_says h ws l p u e = go (max_dimension h) refl (ceiling_passed h ws l p e).1
  where
    go : (d : Option ℕ) → max_dimension h ≡ d → for_dense_peak h ws l d ≡ completed p
        → (dense_peak : ℕ) × (p ≡ unread_plan h.initial_k dense_peak) × SaysNothing h p
    go None m e = let z : ◌≡◌ {A = ℕ} 0 1 = cc in absurd (omega arith)
    go (Some dense_peak) m e =
        let f : completed (unread_plan h.initial_k dense_peak) ≡ completed p = sym (cond_yes (unread h) _ _ u) ∙ e in
        let same : p ≡ unread_plan h.initial_k dense_peak = cc in
        (dense_peak, same, subst (SaysNothing h) (sym same) (says_nothing h dense_peak (dimension_is h.ceiling h.max_k dense_peak m)))

-- its buffers hold zeros
pub unread_held : (initial dense_peak : ℕ) (before after : Buffers) → Held (completed (unread_plan initial dense_peak)) before after → after ≡ zeroed before
unfolding unread_plan plan_from start
unread_held initial dense_peak before after held = held
