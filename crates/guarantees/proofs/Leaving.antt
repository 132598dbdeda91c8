-- What a call leaves is what an answer of the planner says: a reply's words are those of the definition's plan, and so those of some answer.
use Rattle.std.specs.Prelude.{Some, Ok, ◌==◌}
use mathlib.Core.Path.{◌≡◌, refl, sym, ap, ◌∙◌}
use mathlib.Core.Bool.{Bool, true, false, not}
use mathlib.Core.List.{List}
use Prim.Native.Nat.{ℕ, ◌≤◌, ◌<◌}
use native.Mathlib.Nat.{zero-add}
use native.Mathlib.Omega.{arith}
use lib.Dec.{T}
use lib.ListN.{length, get_or}
use Rattle.std.proofs.lemmas.List.{get_or-map}
use lib.Ieee.{binary64, fits, of_bits}
use lib.Ieee.Bits.{of_bits-to_bits}
use Rattle.refusals.specs.Answer.{completed, refused_at}
use Rattle.words.specs.Lists.{numbers_from}
use Rattle.words.specs.Words.{flag_word}
use Rattle.words.proofs.Numbers.{length-numbers, numbers_at}
use Rattle.records.specs.declared.Head.{Head}
use Rattle.plan_spec.specs.WholeWorks.{WholeWorks, too_wide, without_quotient, with_quotient, whole_words}
use Rattle.plan_spec.specs.Plan.{Lengths, Plan, Result, plan_of}
use Rattle.plan_spec.proofs.Words.{works_fit}
use Rattle.work_sums.specs.Tally.{works_of}
use Rattle.work_sums.specs.declared.WholeWorks as Declared
use Rattle.work_sums.specs.declared.WholeWorks.TheVariants as W
use Rattle.plan_buffers.specs.SevenBuffers.{Buffers, lengths_of}
use Rattle.answer.specs.declared.ActiveComponentPlan.{ActiveComponentPlan}
use Rattle.answer.specs.Outcome.{accepted, used_in, outcome_of, outcome_in}
use Rattle.component_plan.specs.Answer.{Answers}
use Rattle.component_plan.specs.Demand.{plan_in}
use Rattle.midvokt.specs.Reply.{number_of, words_of, laid_out, Replies}
use Rattle.guarantees.specs.Calls.{works_told, plan_told, Leaves}
use Rattle.guarantees.proofs.Numbers.{refused_number}

-- ---- the answer of a plan

-- whole works of the code that are these of the definition
works_from : WholeWorks → Declared.WholeWorks
works_from too_wide = W.TooWide
works_from (without_quotient dense) = W.WithoutQuotient dense
works_from (with_quotient dense component quotient remainder) = W.WithQuotient dense component quotient remainder

works_there : (w : WholeWorks) → works_of (works_from w) ≡ w
unfolding works_from
works_there too_wide = refl
works_there (without_quotient dense) = refl
works_there (with_quotient dense component quotient remainder) = refl

-- the answer that says a plan of the definition
answer_for : Plan → ActiveComponentPlan
answer_for p = record {
  selected = p.selected;
  initial_components = p.initial_components;
  component_count = p.component_count;
  estimated_dense_work = p.dense_work;
  estimated_component_work = p.component_work;
  dense_peak_dimension = p.dense_peak;
  component_peak_live_dimension = p.peak;
  component_allocated_dimension = p.allocated;
  whole_works = works_from p.whole_works;
  used = used_in p;
}

answer_there : (p : Plan) → outcome_of (Ok (answer_for p)) ≡ outcome_in (completed p)
unfolding answer_for
answer_there p =
    ap (λ (w : WholeWorks). accepted p.selected p.initial_components p.component_count p.dense_work p.component_work p.dense_peak p.peak p.allocated w (used_in p))
    (works_there p.whole_works)

-- ---- the words of a reply

-- a word that there is room for
pub word_there : (n : ℕ) (ws : List ℕ) (i : ℕ) → i < n → get_or (laid_out n ws) i 0 ≡ get_or ws i 0
word_there n ws i h =
    let f = λ (k : ℕ). get_or ws k 0 in
    let l = length-numbers 0 n in
    get_or-map f (numbers_from 0 n) i 0 0 (omega arith) ∙ ap f (numbers_at 0 n i 0 h ∙ zero-add i)

flag_there : (b : Bool) → not (flag_word b == 0) ≡ b
flag_there true = refl
flag_there false = refl

-- the words of a plan, and those of any reply that begins with them
works_back : (w : WholeWorks) (reply : List ℕ) → get_or reply 9 0 ≡ get_or (whole_words w) 0 0 → get_or reply 10 0 ≡ get_or (whole_words w) 1 0
    → get_or reply 11 0 ≡ get_or (whole_words w) 2 0 → get_or reply 12 0 ≡ get_or (whole_words w) 3 0 → get_or reply 13 0 ≡ get_or (whole_words w) 4 0
    → works_told reply ≡ w
works_back too_wide reply a b c d e = rw a refl
works_back (without_quotient dense) reply a b c d e = simp (a, b) refl
works_back (with_quotient dense component quotient remainder) reply a b c d e = simp (a, b, c, d, e) refl

told_back : (p : Plan) (n : ℕ) (after : Buffers) → 14 ≤ n → T (fits binary64 p.dense_work) × T (fits binary64 p.component_work)
    → plan_told (laid_out n (words_of (outcome_in (completed p)))) after ≡ plan_in (answer_for p) after
unfolding answer_for
told_back p n after room floats j =
    let words = words_of (outcome_in (completed p)) in
    let word : (i : ℕ) → i < 14 → get_or (laid_out n words) i 0 ≡ get_or words i 0 = λ i h. word_there n words i (omega arith) in record {
      selected = (ap (λ (w : ℕ). not (w == 0)) (word 1 (omega arith)) ∙ flag_there p.selected) j;
      initial_components = word 2 (omega arith) j;
      component_count = word 3 (omega arith) j;
      dense_work = (ap (of_bits binary64) (word 4 (omega arith)) ∙ of_bits-to_bits binary64 p.dense_work floats.0) j;
      component_work = (ap (of_bits binary64) (word 5 (omega arith)) ∙ of_bits-to_bits binary64 p.component_work floats.1) j;
      dense_peak = word 6 (omega arith) j;
      peak = word 7 (omega arith) j;
      allocated = word 8 (omega arith) j;
      whole_works = (works_back p.whole_works (laid_out n words) (word 9 (omega arith)) (word 10 (omega arith)) (word 11 (omega arith)) (word 12 (omega arith)) (word 13 (omega arith)) ∙ sym (works_there p.whole_works)) j;
      steps = after.steps;
      merges = after.merges;
      sizes = after.sizes;
      rotations = after.rotations;
      promotions = after.promotions;
      measurements = after.measurements;
      groups = after.groups;
    }

-- ---- what a call leaves

-- some answer of the planner says the plan that a call leaves
pub record Said (h : Head) (ws : List ℕ) (before after : Buffers) (p : Plan) : Type 0 where
  pub answer : ActiveComponentPlan
  pub answers : Answers h ws before after (Ok answer)
  pub same : plan_in answer after ≡ p

-- a reply of 0 is that of a plan
reply_planned : (h : Head) (ws : List ℕ) (l : Lengths) (r : Result) → plan_of h ws l ≡ r → 0 ≡ number_of (outcome_in r) → (p : Plan) × (plan_of h ws l ≡ completed p)
reply_planned h ws l (completed p) e z = (p, e)
reply_planned h ws l (refused_at n i) e z = let some = refused_number h ws l n i e in absurd (omega arith)

reply_said : (h : Head) (ws : List ℕ) (before after : Buffers) (res words : List ℕ) → 14 ≤ length res → Replies h ws before after res words 0
    → Said h ws before after (plan_told words after)
reply_said h ws before after res words room r =
    let l = lengths_of before in
    let found = reply_planned h ws l (plan_of h ws l) refl r.number in
    let p = found.0 in
    let told = told_back p (length res) after room (works_fit h ws l p found.1) in record {
      answer = answer_for p;
      answers = record { answer = answer_there p ∙ sym (ap outcome_in found.1); held = r.held };
      same = sym told ∙ ap (λ (ws : List ℕ). plan_told ws after) (sym (r.result ∙ ap (λ (x : Result). laid_out (length res) (words_of (outcome_in x))) found.1));
    }

pub said : (h : Head) (ws : List ℕ) (before after : Buffers) (p : Plan) → Leaves h ws before after (Some p) → Said h ws before after p
said h ws before after p (Leaves.answer r a) = record { answer = r; answers = a; same = refl }
said h ws before after p (Leaves.reply res words room a) = reply_said h ws before after res words room a
