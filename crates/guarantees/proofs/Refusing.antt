-- What a call that refuses tells, and what it leaves: the definition's refusal, and zeros.
use mathlib.Core.Path.{◌≡◌, sym, ap, ◌∙◌, subst}
use mathlib.Core.List.{List}
use Prim.Native.Nat.{ℕ, ◌<◌}
use native.Mathlib.Omega.{arith}
use Rattle.std.specs.Prelude.{None}
use lib.ListN.{length, get_or}
use Rattle.refusals.specs.Answer.{completed, refused_at}
use Rattle.refusals.specs.Numbers as Reasons
use Rattle.records.specs.declared.Head.{Head}
use Rattle.plan_spec.specs.Plan.{Result, plan_of}
use Rattle.answer.specs.Outcome.{outcome_in}
use Rattle.midvokt.specs.Reply.{number_of, words_of, laid_out}
use Rattle.guarantees.specs.Calls.{Leaves, Refuses, zeroed}
use Rattle.guarantees.proofs.Leaving.{word_there}
use Rattle.plan_buffers.specs.SevenBuffers.{Buffers, lengths_of, Held}

-- what is refused
pub record RefusedAt (result : Result) (number : ℕ) : Type 0 where
  pub index : ℕ
  pub is : result ≡ refused_at number index

-- an outcome that turns away is that of a refusal
by_outcome : (result : Result) (number index : ℕ) → refused_at number index ≡ outcome_in result → result ≡ refused_at number index
by_outcome (completed p) number index e = let z : ◌≡◌ {A = ℕ} 0 1 = cc in absurd (omega arith)
by_outcome (refused_at n i) number index e = cc

-- and so is a number that is not 0
by_number : (result : Result) (number : ℕ) → 0 < number → number ≡ number_of (outcome_in result) → RefusedAt result number
by_number (completed p) number some e = absurd (omega arith)
by_number (refused_at n i) number some e = record { index = i; is = ap (λ (m : ℕ). refused_at m i) (sym e) }

-- the definition's refusal, by what a call tells
pub refusal_told : (h : Head) (ws : List ℕ) (before after : Buffers) (number index : ℕ) → Refuses h ws before after number index
    → plan_of h ws (lengths_of before) ≡ refused_at number index
refusal_told h ws before after number index (Refuses.answer r a) = by_outcome (plan_of h ws (lengths_of before)) (Reasons.number_of r.reason) r.index a.answer
refusal_told h ws before after number index (Refuses.reply res words n some room a) =
    let found = by_number (plan_of h ws (lengths_of before)) n some a.number in
    let told : get_or words 0 0 ≡ found.index =
    ap (λ (l : List ℕ). get_or l 0 0) (a.result ∙ ap (λ (x : Result). laid_out (length res) (words_of (outcome_in x))) found.is)
    ∙ word_there (length res) (words_of (outcome_in (refused_at n found.index))) 0 (omega arith) in
    found.is ∙ ap (λ (i : ℕ). refused_at n i) (sym told)

-- after a refusal each buffer holds zeros
pub zeros_held : (number index : ℕ) (before after : Buffers) → Held (refused_at number index) before after → after ≡ zeroed before
zeros_held number index before after held = held

pub zeros_left : (h : Head) (ws : List ℕ) (before after : Buffers) → Leaves h ws before after None → after ≡ zeroed before
zeros_left h ws before after (Leaves.refusal r a) =
    zeros_held (Reasons.number_of r.reason) r.index before after
    (subst (λ (x : Result). Held x before after) (by_outcome (plan_of h ws (lengths_of before)) (Reasons.number_of r.reason) r.index a.answer) a.held)
zeros_left h ws before after (Leaves.number res words n some a) =
    let found = by_number (plan_of h ws (lengths_of before)) n some a.number in
    zeros_held n found.index before after (subst (λ (x : Result). Held x before after) found.is a.held)
