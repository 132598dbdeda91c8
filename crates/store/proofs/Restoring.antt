-- Reading what a call has stored: the bytes that the call left are the file of the definition's plan, and every accepted plan is read back from its file.
use Rattle.std.specs.Prelude.{Result as Answered, Ok}
use mathlib.Core.Path.{◌≡◌, refl, sym, ap, ◌∙◌, subst}
use mathlib.Core.Bool.{Bool, true, false}
use mathlib.Core.List.{List}
use Prim.Native.Nat.{ℕ, ◌^◌, ◌<◌}
use native.Mathlib.Omega.{arith}
use lib.Dec.{ltb}
use lib.ListN.{length, take}
use Rattle.refusals.specs.Answer.{completed, refused_at, given}
use Rattle.words.specs.Lists.{padded}
use Rattle.words.proofs.Padded.{front_of_padded}
use Rattle.records.specs.declared.Head.{Head}
use Rattle.plan_spec.specs.Plan.{Plan, Result, refuse_all, plan_of}
use Rattle.plan_buffers.specs.SevenBuffers.{Buffers, lengths_of}
use Rattle.stored_plan.specs.Stored.{kept_of, file_of}
use Rattle.stored_plan.specs.Reading.{Read, trailer_word, read_file}
use Rattle.plan_buffers.specs.SixOutputs.{Outputs, word_counts_of}
use Rattle.stored_plan.specs.Loading.{Loads, Restored, outcome_in}
use Rattle.refusals.specs.declared.Reason.{Reason}
use Rattle.stored_plan.specs.declared.StoredPlan.{StoredPlan}
use Rattle.stored_plan.proofs.Plans.{plan_restored, own_length}
use Rattle.store.specs.Storing as Storing
use Rattle.store.specs.Storing.{fitting, file_in, Stores}
use Rattle.store.specs.Restoring.{GivesBack, Written}

-- an answer with a length is that of an accepted plan
stored_plan : (size : ℕ) (result : Result) (n : ℕ) → completed n ≡ Storing.outcome_in (fitting size result)
    → (p : Plan) × (result ≡ completed p) × (fitting size result ≡ completed p) × (n ≡ length (file_of p))
stored_plan size (refused_at number index) n e = let z : ◌≡◌ {A = ℕ} 0 1 = cc in absurd (omega arith)
stored_plan size (completed p) n e = go (ltb size (length (file_of p))) refl
  where
    go : (t : Bool) → ltb size (length (file_of p)) ≡ t
        → (q : Plan) × (completed p ≡ completed q) × (fitting size (completed p) ≡ completed q) × (n ≡ length (file_of q))
    go true f =
        let r : completed n ≡ refused_at 23 0 = e ∙ ap (λ (t : Bool). Storing.outcome_in (refuse_all t 23 (completed p))) f in
        let z : ◌≡◌ {A = ℕ} 0 1 = cc in absurd (omega arith)
    go false f =
        let fits : fitting size (completed p) ≡ completed p = ap (λ (t : Bool). refuse_all t 23 (completed p)) f in
        let r : completed n ≡ completed (length (file_of p)) = e ∙ ap Storing.outcome_in fits in
        let same : n ≡ length (file_of p) = cc in (p, refl, fits, same)

-- what reading gives, given back
gives_back : (p : Plan) (file : List ℕ) (before after : Outputs) (r : Answered StoredPlan Reason) → read_file file (word_counts_of before) ≡ given (kept_of p) → Loads file before after r
    → GivesBack p before after r
gives_back p file before after r e a =
    let h = subst (λ (x : Read). Restored x before after) e a.held in record {
      answer = a.answer ∙ ap outcome_in e;
      steps = h.steps;
      merges = h.merges;
      sizes = h.sizes;
      rotations = h.rotations;
      promotions = h.promotions;
      measurements = h.measurements;
    }

-- for every accepted program, every buffer and every file that is long enough
pub call_written : (h : Head) (ws : List ℕ) (before after : Buffers) (file filed : List ℕ) (n : ℕ) → h.initial_k < 2 ^ 64
    → Stores h ws before after file filed (Ok n) → (p : Plan) × (plan_of h ws (lengths_of before) ≡ completed p) × Written p filed n
call_written h ws before after file filed n small a =
    let l = lengths_of before in
    let it = stored_plan (length file) (plan_of h ws l) n a.answer in
    let p = it.0 in
    let bytes : filed ≡ padded (length file) (file_of p) = a.bytes ∙ ap (λ (x : Result). padded (length file) (file_in x)) it.2 in
    let same = front_of_padded (length file) n (file_of p) filed it.3 bytes in (
      p,
      it.1,
      record {
        file = same;
        returned = it.3;
        trailer = ap (λ (f : List ℕ). trailer_word f 14) same ∙ own_length h ws l p small it.1 ∙ sym it.3;
        back = λ lent left r long loads.
            gives_back p (take n filed) lent left r
            (ap (λ (f : List ℕ). read_file f (word_counts_of lent)) same ∙ plan_restored h ws l p small it.1 (word_counts_of lent) long) loads;
      },
    )
