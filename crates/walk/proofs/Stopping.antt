-- How one record's step ends by the answers on its way: an answer that goes out with `?` is a refusal
-- for the same reason, and what is not missing is there. By cases.
use Rattle.std.specs.Prelude.{Option, Some, None, Result, IsErr, IsErrAnd, IsSome}
use mathlib.Core.Path.{◌≡◌, refl, sym, subst}
use mathlib.Core.List.{List}
use Prim.Native.Nat.{ℕ}
use Rattle.refusals.specs.Answer.{refused_at}
use Rattle.refusals.specs.Numbers.{number_of}
use Rattle.refusals.specs.declared.Reason.{Reason}
use Rattle.refusals.proofs.Laws.{err_is}
use Rattle.records.specs.Record.{instructions_of}
use Rattle.plan_spec.specs.Walk.{start, walk_from}
use Rattle.state.specs.declared.State.{State}
use Rattle.work_sums.specs.declared.Tally.{Tally}
use Rattle.walk.specs.Looping.{StepEnds}
use Rattle.plan_buffers.specs.SevenBuffers.{Buffers}

pub step_stops : (limit k : ℕ) (ws : List ℕ) (i : ℕ) (o : List ℕ) (s : State) (t : Tally) (c : Buffers) (r : Result Unit Reason) (reason : Reason)
    → IsErr r × IsErrAnd r (λ e. e ≡ reason) → walk_from limit 0 (start k) (instructions_of ws) ≡ refused_at (number_of reason) i → StepEnds limit k ws i r o s t c
step_stops limit k ws i o s t c r reason h e = subst (λ (x : Result Unit Reason). StepEnds limit k ws i x o s t c) (sym (err_is r reason h.1)) e

pub is_there : {A : Type 0} (m : Option A) → (m ≡ None → ⊥) → IsSome m
is_there None h = absurd (h refl)
is_there (Some x) h = refl
