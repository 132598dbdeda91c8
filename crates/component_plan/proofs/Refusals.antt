-- How the answers of the parts make the answer of the whole: the definition's result is its first refusal, whose tests the number of `lent_number` tells, or what
-- the record pass and the walk give, and a refusal or a plan that read nothing leaves zeros.
use Rattle.std.specs.Prelude.{Option, Some, None, Result as Answered, Ok, Err, is_err, IsErr, IsErrAnd}
use Prim.Native.Nat.{ℕ, ◌/◌, ◌%◌, ◌<◌, ◌≤◌}
use native.Mathlib.Omega.{arith}
use mathlib.Core.Path.{◌≡◌, refl, sym, ap, ap₂, ◌∙◌, subst}
use mathlib.Core.Bool.{Bool, true, false, cond, not, ◌||◌}
use mathlib.Core.List.{List}
use lib.Dec.{eqb, ltb}
use lib.ListN.{length}
use lib.IntN.{pos}
use lib.Ieee.{fin}
use borrow.Author.Tests.{ltb-false, lt-ltb, le-ltb, eq-eqb, ne_eqb}
use Rattle.kernels.specs.Bits.{dimension}
use Rattle.refusals.specs.Answer.{Answer, given, refused, completed, refused_at}
use Rattle.refusals.specs.Numbers.{number_of}
use Rattle.refusals.specs.declared.Refusal.{Refusal}
use Rattle.refusals.proofs.Laws.{err_is}
use Rattle.records.specs.Pass.{Checked, record_pass}
use Rattle.records.specs.declared.Head.{Head}
use Rattle.plan_spec.specs.Components.{allocated_for}
use Rattle.plan_spec.specs.WholeWorks.{WholeWorks, whole_works_of}
use Rattle.plan_spec.specs.Walk.{Walk, Walked}
use Rattle.plan_spec.specs.Plan.{Lengths, Plan, Result, chosen, unread, unread_plan, plan_from, words_refused, buffers_refused, refuse_all, after_pass, plan_read, for_dense_peak, ceiling_refused, plan_of}
use Rattle.plan_spec.proofs.Steps.{cond_yes, cond_no}
use Rattle.work_sums.specs.declared.WholeWorks.TheVariants as Whole
use Rattle.answer.specs.declared.ActiveComponentPlan.{ActiveComponentPlan}
use Rattle.walk.specs.declared.Summary.{Summary}
use Rattle.plan_buffers.specs.SevenBuffers.{Buffers, lengths_of, SameLengths, padded_buffers, no_words, Held}
use Rattle.walk.specs.Walking.{Ended, WalkEnds}
use Rattle.plan_buffers.specs.declared.WordCounts.{WordCounts}
use Rattle.answer.specs.Outcome.{accepted, outcome_of, used_in, outcome_in}
use Rattle.component_plan.specs.Answer.{Answers, Filled}
use Rattle.component_plan.specs.Refusing.{peak_answer, head_answer, lent_number}

-- ---- refusals 2 to 4

-- the first of three tests that holds gives the number
first_met : (a b c : Bool) (rest : Result) (number : ℕ) → number ≡ cond a 2 (cond b 3 (cond c 4 0)) → (number ≡ 0 → ⊥)
    → refuse_all a 2 (refuse_all b 3 (refuse_all c 4 rest)) ≡ refused_at number 0
first_met true b c rest number e n = ap (λ (m : ℕ). refused_at m 0) (sym e)
first_met false true c rest number e n = ap (λ (m : ℕ). refused_at m 0) (sym e)
first_met false false true rest number e n = ap (λ (m : ℕ). refused_at m 0) (sym e)
first_met false false false rest number e n = absurd (n e)

-- and where there is no number none holds
none_met : (a b c : Bool) (number : ℕ) → number ≡ cond a 2 (cond b 3 (cond c 4 0)) → number ≡ 0 → (a ≡ false) × (b ≡ false) × (c ≡ false)
none_met true b c number e n = absurd (omega arith)
none_met false true c number e n = absurd (omega arith)
none_met false false true number e n = absurd (omega arith)
none_met false false false number e n = (refl, refl, refl)

words_few : (a : Bool) (n : ℕ) → a || ltb 8192 n ≡ false → n ≤ 8192
words_few true n e = let z : ◌≡◌ {A = ℕ} 0 1 = cc in absurd (omega arith)
words_few false n e = ltb-false 8192 n e

module _ (h : Head) (ws : List ℕ) (l : Lengths) (dense_peak number : ℕ) (told : number ≡ lent_number h.initial_k (length ws) (buffers_refused (length ws / 8) l)) where
  pub lent_refused : (number ≡ 0 → ⊥) → plan_read h ws l dense_peak ≡ refused_at number 0
  unfolding plan_read
  lent_refused n = first_met (words_refused ws) (buffers_refused (length ws / 8) l) (ltb 512 h.initial_k) _ number told n

  module _ (zero : number ≡ 0) where
    none_here : (words_refused ws ≡ false) × (buffers_refused (length ws / 8) l ≡ false) × (ltb 512 h.initial_k ≡ false)
    none_here = none_met (words_refused ws) (buffers_refused (length ws / 8) l) (ltb 512 h.initial_k) number told zero

    pub lent_words : words_refused ws ≡ false
    lent_words = none_here.0

    pub lent_few : length ws ≤ 8192
    lent_few = words_few (not (eqb (length ws % 8) 0)) (length ws) lent_words

    pub lent_room : buffers_refused (length ws / 8) l ≡ false
    lent_room = none_here.1

    pub lent_initial : h.initial_k ≤ 512
    lent_initial = ltb-false 512 h.initial_k none_here.2

    -- so the record pass decides
    pub lent_passed : (c : Checked) → record_pass h.initial_k ws ≡ c → plan_read h ws l dense_peak ≡ after_pass h.ceiling h.initial_k dense_peak ws c
    unfolding plan_read
    lent_passed c e = simp (lent_words, lent_room, none_here.2, e)

-- ---- the walk's answer

pub walk_stops : (x : Walked) (refusal : Refusal) (b : Buffers) → WalkEnds x (Err refusal) b → x ≡ refused_at (number_of refusal.reason) refusal.index
walk_stops (completed w) refusal b e = absurd e
walk_stops (refused_at n i) refusal b e = ap₂ refused_at e.0 e.1

pub walk_finishes : (x : Walked) (s : Summary) (b : Buffers) → WalkEnds x (Ok s) b → (w : Walk) × (x ≡ completed w) × Ended w s b
walk_finishes (completed w) s b e = (w, refl, e)
walk_finishes (refused_at n i) s b e = absurd e

-- ---- the answer and the buffers that go with a result

pub filled_refused : (result : Result) (before after : Buffers) (refusal : Refusal) → result ≡ refused_at (number_of refusal.reason) refusal.index → Filled result before after (Err refusal)
filled_refused result before after refusal e = record {
  answer = sym (ap outcome_in e);
  held = λ p f. let same : refused_at (number_of refusal.reason) refusal.index ≡ completed p = sym e ∙ f in let z : ◌≡◌ {A = ℕ} 0 1 = cc in absurd (omega arith);
}

pub filled_planned : (result : Result) (before after : Buffers) (p : Plan) (r : Answered ActiveComponentPlan Refusal)
    → result ≡ completed p → outcome_of r ≡ outcome_in (completed p) → Held (completed p) before after → Filled result before after r
filled_planned result before after p r e answer held = record {
  answer = answer ∙ sym (ap outcome_in e);
  held = λ q f. subst (λ (x : Result). Held x before after) (sym e ∙ f) held;
}

-- of an equal result
pub filled_same : {a b : Result} {before after : Buffers} {r : Answered ActiveComponentPlan Refusal} → a ≡ b → Filled b before after r → Filled a before after r
filled_same {before = before} {after = after} {r = r} e f = subst (λ (x : Result). Filled x before after r) (sym e) f

-- the scalar fields of a finished walk, and its whole works
pub plan_same : (initial dense_peak : ℕ) (w : Walk) (s : Summary) (b : Buffers) (allocated : ℕ) (whole : WholeWorks) (used : WordCounts) (r : ActiveComponentPlan)
    → Ended w s b
    → allocated ≡ allocated_for w.longest
    → whole ≡ whole_works_of w.whole
    → used ≡ used_in (plan_from initial dense_peak w)
    → outcome_of (Ok r)
    ≡ accepted (chosen s.tally.quantum s.tally.dense s.tally.work allocated dense_peak) initial s.count s.tally.dense s.tally.work dense_peak
    s.tally.peak allocated whole used
    → outcome_of (Ok r) ≡ outcome_in (completed (plan_from initial dense_peak w))
unfolding plan_from
plan_same initial dense_peak w s b allocated whole used r ended all same counted e =
    e ∙ fields ended.sums.quantum ended.sums.dense ended.sums.work all ended.count ended.sums.peak same counted
  where
    fields : {q q' : ℕ} {d d' v v' : _} {a a' n n' p p' : ℕ} {x x' : WholeWorks} {u u' : WordCounts} → q ≡ q' → d ≡ d' → v ≡ v' → a ≡ a' → n ≡ n' → p ≡ p' → x ≡ x'
        → u ≡ u'
        → accepted (chosen q d v a dense_peak) initial n d v dense_peak p a x u ≡ accepted (chosen q' d' v' a' dense_peak) initial n' d' v' dense_peak p' a' x' u'
    fields q d v a n p x u i = accepted (chosen (q i) (d i) (v i) (a i) dense_peak) initial (n i) (d i) (v i) dense_peak (p i) (a i) (x i) (u i)

-- and of a plan that read nothing
pub unread_same : (initial dense_peak : ℕ) (r : ActiveComponentPlan)
    → r
    ≡ record {
      selected = false;
      initial_components = initial;
      component_count = 0;
      estimated_dense_work = fin false 0 (pos 0);
      estimated_component_work = fin false 0 (pos 0);
      dense_peak_dimension = dense_peak;
      component_peak_live_dimension = 0;
      component_allocated_dimension = 0;
      whole_works = Whole.WithoutQuotient 0;
      used = record { steps = 0; merges = 0; sizes = 0; rotations = 0; promotions = 0; measurements = 0 };
    }
    → outcome_of (Ok r) ≡ outcome_in (completed (unread_plan initial dense_peak))
unfolding unread_plan
unread_same initial dense_peak r e = ap (λ (p : ActiveComponentPlan). outcome_of (Ok p)) e

-- ---- zeros

-- zeros in buffers as long
pub zeros_held : (before between after : Buffers) → SameLengths before between
    → after ≡ padded_buffers (lengths_of between) no_words → after ≡ padded_buffers (lengths_of before) no_words
zeros_held before between after same zeros = zeros ∙ ap (λ (l : Lengths). padded_buffers l no_words) same

-- a plan that read nothing has no words
pub unread_held : (initial dense_peak : ℕ) (before after : Buffers) → after ≡ padded_buffers (lengths_of before) no_words
    → Held (completed (unread_plan initial dense_peak)) before after
unfolding unread_plan
unread_held initial dense_peak before after zeros = zeros

-- ---- the answer of the whole

-- what the head alone decides
abbrev by_head : Head → List ℕ → Lengths → Answer ℕ → Result
by_head h ws l (refused number) = refused_at number 0
by_head h ws l (given dense_peak) = for_dense_peak h ws l (Some dense_peak)

head_first : (h : Head) (ws : List ℕ) (l : Lengths) (t : Bool) (d : Option ℕ) → refuse_all t 24 (for_dense_peak h ws l d) ≡ by_head h ws l (cond t (refused 24) (peak_answer d))
head_first h ws l true d = refl
head_first h ws l false None = refl
head_first h ws l false (Some dense_peak) = refl

headed : (h : Head) (ws : List ℕ) (l : Lengths) (a : Answer ℕ) → a ≡ head_answer h → plan_of h ws l ≡ by_head h ws l a
unfolding plan_of
headed h ws l a e = head_first h ws l (ceiling_refused h) (dimension h.ceiling h.max_k) ∙ ap (by_head h ws l) (sym e)

pub plan_headless : (h : Head) (ws : List ℕ) (l : Lengths) (number : ℕ) → refused number ≡ head_answer h → plan_of h ws l ≡ refused_at number 0
plan_headless h ws l number e = headed h ws l (refused number) e

module _ (h : Head) (ws : List ℕ) (l : Lengths) (dense_peak : ℕ) (decided : given dense_peak ≡ head_answer h) where
  pub plan_unread : unread h ≡ true → plan_of h ws l ≡ completed (unread_plan h.initial_k dense_peak)
  plan_unread e = headed h ws l (given dense_peak) decided ∙ cond_yes (unread h) _ _ e

  pub plan_is_read : unread h ≡ false → plan_of h ws l ≡ plan_read h ws l dense_peak
  plan_is_read e = headed h ws l (given dense_peak) decided ∙ cond_no (unread h) _ _ e

-- ---- the answer of the whole, with zeros after a refusal

-- a refusal's outcome is a refusal's
pub away : (result : Result) (number index : ℕ) → refused_at number index ≡ outcome_in result → result ≡ refused_at number index
away (completed p) number index e = let z : ◌≡◌ {A = ℕ} 0 1 = cc in absurd (omega arith)
away (refused_at n i) number index e = let same : n ≡ number = cc in let at : i ≡ index = cc in ap₂ refused_at same at

pub refused_answers : (h : Head) (ws : List ℕ) (before between after : Buffers) (r : Answered ActiveComponentPlan Refusal)
    → Filled (plan_of h ws (lengths_of before)) before between r → is_err r ≡ true → SameLengths before between
    → after ≡ padded_buffers (lengths_of between) no_words → Answers h ws before after r
refused_answers h ws before between after (Ok x) f e same zeros = let z : ◌≡◌ {A = ℕ} 0 1 = cc in absurd (omega arith)
refused_answers h ws before between after (Err refusal) f e same zeros =
    let number = number_of refusal.reason in
    let gone = away (plan_of h ws (lengths_of before)) number refusal.index f.answer in record {
      answer = f.answer;
      held = subst (λ (y : Result). Held y before after) (sym gone) (zeros_held before between after same zeros);
    }

-- ---- which records are read

or-true : (a b : Bool) → b ≡ true → a || b ≡ true
or-true true b e = refl
or-true false b e = e

pub unread_small : (h : Head) → h.max_k < 8 → unread h ≡ true
unread_small h e = ap (λ (b : Bool). b || not (eqb h.nexpvals 0)) (lt-ltb h.max_k 8 e)

pub unread_expected : (h : Head) → (h.nexpvals ≡ 0 → ⊥) → unread h ≡ true
unread_expected h n = or-true (ltb h.max_k 8) (not (eqb h.nexpvals 0)) (ap not (ne_eqb h.nexpvals 0 n))

pub unread_neither : (h : Head) → 8 ≤ h.max_k → h.nexpvals ≡ 0 → unread h ≡ false
unread_neither h large e = ap (λ (a : Bool). a || not (eqb h.nexpvals 0)) (le-ltb h.max_k 8 large) ∙ ap not (eq-eqb h.nexpvals 0 e)

-- what `?` hands on
pub filled_error : (result : Result) (before after : Buffers) (r : Answered ActiveComponentPlan Refusal) (refusal : Refusal) → IsErr r → IsErrAnd r (λ e. e ≡ refusal)
    → result ≡ refused_at (number_of refusal.reason) refusal.index → Filled result before after r
filled_error result before after r refusal is same e =
    subst (λ (x : Answered ActiveComponentPlan Refusal). Filled result before after x) (sym (err_is r refusal same)) (filled_refused result before after refusal e)
