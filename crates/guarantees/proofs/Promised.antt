-- Each promise, from the lemmas of the crates below: they speak of an answer of the planner, and `Leaving.said` finds one for each call.
use Rattle.std.specs.Prelude.{Some, None, Ok, Err}
use Prim.Native.Nat.{ℕ, ◌/◌, ◌<◌}
use native.Mathlib.Omega.{arith}
use mathlib.Core.Path.{◌≡◌, sym, ap, ap₂, ◌∙◌, subst, subst₂}
use mathlib.Core.List.{List}
use lib.ListN.{length, take}
use Rattle.refusals.specs.Answer.{completed}
use Rattle.words.proofs.Padded.{zeroed_at}
use Rattle.records.specs.Record.{instructions_of}
use Rattle.records.specs.declared.Head.{Head}
use Rattle.refusals.specs.declared.Refusal.{Refusal}
use Rattle.plan_spec.specs.Plan.{Plan, Result, plan_of}
use Rattle.plan_spec.specs.Connectivity.{Connected, replay_after}
use Rattle.plan_spec.specs.Sources.{SourcesListed}
use Rattle.plan_spec.specs.Groups.{GroupsListed}
use Rattle.plan_spec.specs.Walk.{start}
use Rattle.plan_spec.specs.Laws.{Agree, TooWideExactly, IsNonNegative, HasDimensions, under, HoldsPlan}
use Rattle.plan_spec.proofs.Steps.{run_of_walk}
use Rattle.plan_spec.proofs.Growth.{refused_index}
use Rattle.plan_spec.proofs.Sources.{walk_sources, sources_unique}
use Rattle.plan_spec.proofs.Groups.{groups_unique}
use Rattle.plan_spec.proofs.States.{reached_whole}
use Rattle.plan_spec.proofs.Room.{plan_fits}
use Rattle.plan_spec.proofs.Connected.{read_head}
use Rattle.plan_spec.proofs.Under.{same_plan, no_other}
use Rattle.plan_buffers.specs.SixOutputs.{word_counts_of}
use Rattle.plan_buffers.specs.SevenBuffers.{Buffers, lengths_of, Held}
use Rattle.plan_buffers.specs.declared.WordCounts.{WordCounts}
use Rattle.answer.specs.declared.ActiveComponentPlan.{ActiveComponentPlan}
use Rattle.answer.specs.Outcome.{Fields, used_in, outcome_of, outcome_in}
use Rattle.answer.proofs.Told.{fields_same}
use Rattle.component_plan.specs.Answer.{Answers}
use Rattle.component_plan.specs.Demand.{plan_in}
use Rattle.component_plan.proofs.Demand.{planned_pads, call_connected, call_sources, call_groups, call_works_agree, call_too_wide, call_dimensions, call_squares, call_under}
use Rattle.midvokt.specs.Reply.{number_of}
use Rattle.store.proofs.Restoring.{call_written}
use Rattle.stored_plan.specs.Stored.{kept_of}
use Rattle.stored_plan.specs.Reading.{read_file}
use Rattle.stored_plan.proofs.RoundTrip.{file_is}
use Rattle.stored_plan.proofs.Plans.{file_most, plan_restored, same_file}
use Rattle.optimizer.proofs.Left.{left}
use Rattle.guarantees.specs.Calls.{Leaves}
use Rattle.guarantees.specs.Promises.{ComponentsAreRight, SourcesAreListed, EveryJoinIsListed, SourcesAreUnique, GroupsAreListed, GroupsAreUnique, WorksAgree, TooWideIsExact, WorksAreNotNegative, PairsAreUnits, DimensionsFit, PlanIsKept, NoOtherPlan, SaysNothing, UnreadSaysNothing, RoomIsEnough, GuardsNeverFail, RefusalIsPlaced, RefusalLeavesZeros, RowsAreRead, PartsAreRead, StoredIsReadBack, FileIsShort, FileIsOne, PlanIsOne, ListIsKept, ExpectationKeepsList}
use Rattle.guarantees.proofs.Numbers.{refused_number}
use Rattle.guarantees.proofs.Leaving.{said}
use Rattle.guarantees.proofs.Planned.{planned_back, listed_part}
use Rattle.guarantees.proofs.Refusing.{refusal_told, zeros_left}
use Rattle.guarantees.proofs.Saying.{works_not_negative, unread_says, unread_held}
use Rattle.guarantees.proofs.Filing.{file_answer, kept_read, kept_is}
use Rattle.guarantees.proofs.Listing.{list_answer}
use Rattle.guarantees.proofs.Unchanged.{list_unchanged}

pub components : ComponentsAreRight
components h ws before after p leaves read m within =
    let s = said h ws before after p leaves in
    subst (λ (q : Plan). Connected h.initial_k (instructions_of ws) q m) s.same (call_connected h ws before after s.answer s.answers read.wide read.no_values m within)

-- an answer uses as many words as the definition's plan
used_same : (r : ActiveComponentPlan) (result : Result) (q : Plan) → outcome_of (Ok r) ≡ outcome_in result → result ≡ completed q → r.used ≡ used_in q
used_same r result q e f = ap (λ (g : Fields). g.used) (fields_same (e ∙ ap outcome_in f))

pub sources : SourcesAreListed
sources h ws before after p q leaves read is =
    let s = said h ws before after p leaves in
    let used = used_same s.answer (plan_of h ws (lengths_of before)) q s.answers.answer is in
    subst₂ (λ (x : Plan) (n : WordCounts). SourcesListed h.initial_k (instructions_of ws) x (n.rotations / 21) (n.measurements / 19)) s.same used
    (call_sources h ws before after s.answer s.answers read.wide read.no_values)

pub every_join : EveryJoinIsListed
every_join h ws i w comes = walk_sources h.ceiling h.initial_k (take i (instructions_of ws)) w comes

pub one_sources : SourcesAreUnique
one_sources order held x z xs ys s t = sources_unique s t

pub groups : GroupsAreListed
groups h ws before after p leaves read =
    let s = said h ws before after p leaves in
    subst (λ (q : Plan). (zeros : ℕ) × GroupsListed (replay_after q (length (instructions_of ws))) zeros q.groups) s.same
    (call_groups h ws before after s.answer s.answers read.wide read.no_values)

pub one_groups : GroupsAreUnique
one_groups = groups_unique

pub works_agree : WorksAgree
works_agree h ws before after p leaves =
    let s = said h ws before after p leaves in
    subst (λ (q : Plan). Agree q.whole_works q.dense_work q.component_work) s.same (call_works_agree h ws before after s.answer s.answers)

pub too_wide : TooWideIsExact
too_wide h ws before after p leaves read =
    let s = said h ws before after p leaves in
    subst (λ (q : Plan). TooWideExactly h.initial_k (instructions_of ws) q.whole_works) s.same (call_too_wide h ws before after s.answer s.answers read.wide read.no_values)

-- an answer that is a plan has the works of the definition's
works_same : (p : Plan) (r : ActiveComponentPlan) → outcome_of (Ok r) ≡ outcome_in (completed p)
    → IsNonNegative p.dense_work × IsNonNegative p.component_work → IsNonNegative r.estimated_dense_work × IsNonNegative r.estimated_component_work
works_same p r e works =
    let same = sym (fields_same e) in
    (subst IsNonNegative (ap (λ (f : Fields). f.dense_work) same) works.0, subst IsNonNegative (ap (λ (f : Fields). f.component_work) same) works.1)

pub not_negative : WorksAreNotNegative
not_negative h ws before after p leaves =
    let l = lengths_of before in
    let s = said h ws before after p leaves in
    let found = planned_pads (plan_of h ws l) before after s.answer s.answers.answer s.answers.held in
    subst (λ (q : Plan). IsNonNegative q.dense_work × IsNonNegative q.component_work) s.same
    (works_same found.0 s.answer (s.answers.answer ∙ ap outcome_in found.1) (works_not_negative h ws l found.0 found.1))

pub pairs : PairsAreUnits
pairs h ws before after p leaves read = let s = said h ws before after p leaves in call_squares h ws before after s.answer s.answers read.wide read.no_values

pub dimensions : DimensionsFit
dimensions h ws before after p leaves read =
    let s = said h ws before after p leaves in
    subst (HasDimensions h.ceiling (length (instructions_of ws))) s.same (call_dimensions h ws before after s.answer s.answers read.wide read.no_values)

-- ---- ceilings

-- the plan of these fields and words
abbrev plan_with : Fields → Buffers → Plan
plan_with f b = record {
  selected = f.selected;
  initial_components = f.initial_components;
  component_count = f.component_count;
  dense_work = f.dense_work;
  component_work = f.component_work;
  dense_peak = f.dense_peak;
  peak = f.peak;
  allocated = f.allocated;
  whole_works = f.whole_works;
  steps = b.steps;
  merges = b.merges;
  sizes = b.sizes;
  rotations = b.rotations;
  promotions = b.promotions;
  measurements = b.measurements;
  groups = b.groups;
}

-- answers with one outcome say one plan
one_plan : (r r' : ActiveComponentPlan) (after after' : Buffers) → outcome_of (Ok r') ≡ outcome_of (Ok r) → after' ≡ after → plan_in r' after' ≡ plan_in r after
one_plan r r' after after' e same = ap₂ plan_with (fields_same e) same

module _ (h : Head) (ws : List ℕ) (before after before' after' : Buffers) (ceiling : ℕ) (lengths : lengths_of before' ≡ lengths_of before) (r : ActiveComponentPlan)
    (answers : Answers h ws before after (Ok r)) where
  -- an answer that holds under the ceiling is the definition's plan, and a call there is of it
  kept_answer : HoldsPlan ceiling h (plan_in r after) → (r' : ActiveComponentPlan) → Answers (under ceiling h) ws before' after' (Ok r') → plan_in r' after' ≡ plan_in r after
  kept_answer holds r' a =
      let both = call_under h ws before after r answers ceiling holds before' after' (Ok r') lengths a in
      one_plan r r' after after' both.0 both.1

  kept_refusal : HoldsPlan ceiling h (plan_in r after) → (refusal : Refusal) → Answers (under ceiling h) ws before' after' (Err refusal) → ⊥
  kept_refusal holds refusal a =
      let both = call_under h ws before after r answers ceiling holds before' after' (Err refusal) lengths a in
      let e = both.0 in let z : ◌≡◌ {A = ℕ} 0 1 = cc in absurd (omega arith)

  -- the definition gives a plan there
  kept_number : HoldsPlan ceiling h (plan_in r after) → (n : ℕ) → n ≡ number_of (outcome_in (plan_of (under ceiling h) ws (lengths_of before'))) → n ≡ 0
  kept_number holds n e =
      let found = planned_pads (plan_of h ws (lengths_of before)) before after r answers.answer answers.held in
      let p = found.0 in
      let there = same_plan h ws (lengths_of before) p found.1 ceiling (record {
        least = holds.least;
        most = holds.most;
        max_below = holds.max_below;
        sizes_below = λ c. subst (λ (n : ℕ). n < ceiling) (zeroed_at p.sizes after.sizes c found.2.sizes) (holds.sizes_below c);
      }) in
      e ∙ ap (λ (x : Result). number_of (outcome_in x)) (ap (plan_of (under ceiling h) ws) lengths ∙ there)

  -- and where a call gives a plan, its ceiling holds this one
  other_holds : (r' : ActiveComponentPlan) → Answers (under ceiling h) ws before' after' (Ok r') → HoldsPlan ceiling h (plan_in r after)
  other_holds r' a =
      let l = lengths_of before in
      let found = planned_pads (plan_of h ws l) before after r answers.answer answers.held in
      let other = planned_pads (plan_of (under ceiling h) ws (lengths_of before')) before' after' r' a.answer a.held in
      let both = no_other h ws l found.0 found.1 ceiling other.0 (sym (ap (plan_of (under ceiling h) ws) lengths) ∙ other.1) in record {
        least = both.1.least;
        most = both.1.most;
        max_below = both.1.max_below;
        sizes_below = λ c. subst (λ (n : ℕ). n < ceiling) (sym (zeroed_at (found.0).sizes after.sizes c found.2.sizes)) (both.1.sizes_below c);
      }

-- a call under a ceiling that holds a plan does not refuse
pub none_refused : (h : Head) (ws : List ℕ) (before after before' after' : Buffers) (ceiling : ℕ) → lengths_of before' ≡ lengths_of before → (r : ActiveComponentPlan)
    → Answers h ws before after (Ok r) → HoldsPlan ceiling h (plan_in r after) → Leaves (under ceiling h) ws before' after' None → ⊥
none_refused h ws before after before' after' ceiling lengths r answers holds (Leaves.refusal x a) = kept_refusal h ws before after before' after' ceiling lengths r answers holds x a
none_refused h ws before after before' after' ceiling lengths r answers holds (Leaves.number res words n some a) =
    let z = kept_number h ws before after before' after' ceiling lengths r answers holds n a.number in absurd (omega arith)

pub kept : PlanIsKept
kept h ws before after before' after' p None ceiling lengths leaves holds other =
    let s = said h ws before after p leaves in
    absurd (none_refused h ws before after before' after' ceiling lengths s.answer s.answers (subst (HoldsPlan ceiling h) (sym s.same) holds) other)
kept h ws before after before' after' p (Some q) ceiling lengths leaves holds other =
    let s = said h ws before after p leaves in
    let t = said (under ceiling h) ws before' after' q other in
    let here = subst (HoldsPlan ceiling h) (sym s.same) holds in
    ap Some (sym t.same ∙ kept_answer h ws before after before' after' ceiling lengths s.answer s.answers here t.answer t.answers ∙ s.same)

pub no_other_plan : NoOtherPlan
no_other_plan h ws before after before' after' p q ceiling lengths leaves other =
    let s = said h ws before after p leaves in
    let t = said (under ceiling h) ws before' after' q other in
    let here = other_holds h ws before after before' after' ceiling lengths s.answer s.answers t.answer t.answers in (
      sym t.same ∙ kept_answer h ws before after before' after' ceiling lengths s.answer s.answers here t.answer t.answers ∙ s.same,
      subst (HoldsPlan ceiling h) s.same here,
    )

-- ---- plans that read no record, room, guards

-- an answer that says what a plan says that says nothing
says_same : (h : Head) (p : Plan) (r : ActiveComponentPlan) (after : Buffers) → outcome_of (Ok r) ≡ outcome_in (completed p) → SaysNothing h p → SaysNothing h (plan_in r after)
says_same h p r after e s = record {
  selected = ap (λ (f : Fields). f.selected) (fields_same e) ∙ s.selected;
  initial_components = ap (λ (f : Fields). f.initial_components) (fields_same e) ∙ s.initial_components;
  component_count = ap (λ (f : Fields). f.component_count) (fields_same e) ∙ s.component_count;
  dense_work = ap (λ (f : Fields). f.dense_work) (fields_same e) ∙ s.dense_work;
  component_work = ap (λ (f : Fields). f.component_work) (fields_same e) ∙ s.component_work;
  dense_peak = ap (λ (f : Fields). f.dense_peak) (fields_same e) ∙ s.dense_peak;
  peak = ap (λ (f : Fields). f.peak) (fields_same e) ∙ s.peak;
  allocated = ap (λ (f : Fields). f.allocated) (fields_same e) ∙ s.allocated;
  whole_works = ap (λ (f : Fields). f.whole_works) (fields_same e) ∙ s.whole_works;
}

pub unread_empty : UnreadSaysNothing
unread_empty h ws before after p leaves u =
    let l = lengths_of before in
    let s = said h ws before after p leaves in
    let found = planned_pads (plan_of h ws l) before after s.answer s.answers.answer s.answers.held in
    let q = unread_says h ws l found.0 u found.1 in
    let held = subst (λ (x : Result). Held x before after) (found.1 ∙ ap completed q.1) s.answers.held in (
      subst (SaysNothing h) s.same (says_same h (found.0) s.answer after (s.answers.answer ∙ ap outcome_in found.1) q.2),
      unread_held h.initial_k q.0 before after held,
    )

pub room : RoomIsEnough
room h ws before p e = plan_fits h ws (lengths_of before) p e

pub guards : GuardsNeverFail
guards h ws m w e = reached_whole h.initial_k (run_of_walk h.ceiling 0 (start h.initial_k) w (take m (instructions_of ws)) e)

-- ---- refusals

pub placed : RefusalIsPlaced
placed h ws before after number index refuses =
    let l = lengths_of before in
    let is = refusal_told h ws before after number index refuses in (
      refused_number h ws l number index is,
      refused_index h ws l number index is,
    )

pub zeroed_buffers : RefusalLeavesZeros
zeroed_buffers = zeros_left

-- ---- rows, files, lists

pub rows : RowsAreRead
rows h ws before after p leaves read i below =
    let s = said h ws before after p leaves in planned_back h ws before after s.answer s.answers (read_head h read.wide read.no_values) i below

pub parts : PartsAreRead
parts = listed_part

pub stored : StoredIsReadBack
stored h ws before after file filed n small leaves =
    let a = file_answer h ws before after file filed n leaves in
    let w = call_written h ws before after file filed n small a in
    let p = w.0 in (
      p,
      w.1,
      record {
        bytes = w.2.file;
        returned = w.2.returned;
        trailer = w.2.trailer;
        back = λ lent left o long loads.
            kept_read (take n filed) lent left (kept_of p) o
            (ap (λ (f : List ℕ). read_file f (word_counts_of lent)) w.2.file ∙ plan_restored h ws (lengths_of before) p small w.1 (word_counts_of lent) long) loads;
      },
    )

pub short_file : FileIsShort
short_file h ws before after file filed n small leaves =
    let a = file_answer h ws before after file filed n leaves in
    let w = call_written h ws before after file filed n small a in
    let most = file_most h ws (lengths_of before) w.0 small w.1 in
    let count = w.2.returned in omega arith

pub one_file : FileIsOne
one_file file before after k bytes leaves = file_is file (word_counts_of before) k bytes (kept_is file before after k leaves)

pub one_program : PlanIsOne
one_program h h' ws ws' before before' p q small small' e e' = same_file h ws (lengths_of before) p small e h' ws' (lengths_of before') q small' e'

pub lists : ListIsKept
lists width words prefixes list_before list map_before map r leaves =
    left width words prefixes list_before list map_before map r (list_answer width words prefixes list_before list map_before map r leaves)

pub unchanged : ExpectationKeepsList
unchanged width words prefixes list_before list map_before map r leaves has =
    list_unchanged width words prefixes list_before list map_before map r (list_answer width words prefixes list_before list map_before map r leaves) has
