-- The plan of an input: refusals 1 to 4, the record pass, the walk, the choice and the outputs. Written from 01, sections 4 and 6, and "Where planning stops"; the
-- whole works are 02's, CR 1, and the ceiling is 02's, CR 4.
use Rattle.std.specs.Prelude.{ℕ, suc, ◌+◌, ◌*◌, ◌%◌, List, [], ◌∷◌, ◌++◌, Bool, false, if◌then◌else◌, not, ◌&&◌, ◌||◌, nat_le, nat_lt, ◌==◌, length, pos, negsuc, Float, Option, Some, None}
use Rattle.std.specs.Float.{fin, binary64}
use Rattle.std.specs.Float.Ieee.{round, mul, sub, le, of_int}
use Rattle.refusals.specs.Answer.{Outcome, completed, refused_at}
use Rattle.kernels.specs.Bits.{dimension}
use Rattle.records.specs.Record.{record_words, record_count, instructions_of}
use Rattle.records.specs.Pass.{most_coordinates, Checked, record_pass}
use Rattle.records.specs.declared.Head.{Head}
use Rattle.plan_spec.specs.Rows.{measurement_words, rotation_words, step_words}
use Rattle.plan_spec.specs.Lists.{concat}
use Rattle.plan_spec.specs.Components.{allocated_for}
use Rattle.plan_spec.specs.WholeWorks.{WholeWorks, whole_works_of}
use Rattle.plan_spec.specs.Walk.{Walk, Walked, start, walk_from}
use Rattle.words.specs.Lists.{padded}

-- the lengths of the seven lent buffers, in words
pub record Lengths : Type 0 where
  pub steps : ℕ
  pub merges : ℕ
  pub sizes : ℕ
  pub rotations : ℕ
  pub promotions : ℕ
  pub measurements : ℕ
  pub groups : ℕ

-- "The result's eight scalar fields, in order"; the whole works, which "the result also has"; and the used words of the seven outputs
pub record Plan : Type 0 where
  pub selected : Bool
  pub initial_components : ℕ
  pub component_count : ℕ
  pub dense_work : Float
  pub component_work : Float
  pub dense_peak : ℕ
  pub peak : ℕ
  pub allocated : ℕ
  pub whole_works : WholeWorks
  pub steps : List ℕ
  pub merges : List ℕ
  pub sizes : List ℕ
  pub rotations : List ℕ
  pub promotions : List ℕ
  pub measurements : List ℕ
  pub groups : List ℕ

-- "A refusal returns its number and record index (0 for head and buffers)"
abbrev pub Result : Type 0
Result = Outcome Plan

-- what the lent buffer of one output holds afterwards: the output and zeros behind it, or zeros after a refusal
abbrev pub held_after : (long : ℕ) → (Plan → List ℕ) → Result → List ℕ
held_after n output (completed p) = padded n (output p)
held_after n output (refused_at number index) = padded n []

-- ---- section 6

-- "at least 4" instructions; the float nearest to 1.8, 8192 and 1.25
abbrev pub least_quantum : ℕ
least_quantum = 4

abbrev pub least_ratio : Float
least_ratio = round binary64 false 9 5

abbrev pub most_share : Float
most_share = fin false 5 (negsuc 1)

abbrev pub least_saving : Float
least_saving = fin false 1 (pos 13)

-- "allocated, rounded to the nearest float with ties to even, <= 1.25·2^max_k"
unfoldable pub allocation_fits : (allocated dense_peak : ℕ) → Bool
unfolding le of_int mul
allocation_fits allocated dense_peak = le (of_int binary64 (pos allocated)) (mul binary64 most_share (of_int binary64 (pos dense_peak)))

-- "at least 4 rotations (ignored ones count), promotions and flag-0 measurements together; dense >= 1.8·component and dense - component >= 8192, in floats"
unfoldable pub chosen : (quantum : ℕ) (dense component : Float) (allocated dense_peak : ℕ) → Bool
unfolding allocation_fits le mul sub round
chosen quantum dense component allocated dense_peak =
    nat_le least_quantum quantum
    && (le (mul binary64 least_ratio component) dense
    && (le least_saving (sub binary64 dense component)
    && allocation_fits allocated dense_peak))

-- "With max_k < 8 or nexpvals not 0 planning accepts right after condition 1"
abbrev pub least_read : ℕ
least_read = 8

abbrev pub unread : Head → Bool
unread head = nat_lt head.max_k least_read || not (head.nexpvals == 0)

-- ---- the plan of a finished walk

-- "Groups (added): final live components, each a member count and its members in order"; 02, CR 7: "Groups now come by ascending component number",
-- in which the argument lists the components
abbrev pub groups_of : List (List ℕ) → List ℕ
groups_of [] = []
groups_of ([] ∷ cs) = groups_of cs
groups_of ((a ∷ rest) ∷ cs) = suc (length rest) ∷ a ∷ rest ++ groups_of cs

unfoldable pub plan_from : (initial dense_peak : ℕ) → Walk → Plan
unfolding allocated_for chosen whole_works_of
plan_from initial dense_peak w =
    let o = w.written in
    let allocated = allocated_for w.longest in record {
      selected = chosen w.quantum w.dense_work w.component_work allocated dense_peak;
      initial_components = initial;
      component_count = length w.components;
      dense_work = w.dense_work;
      component_work = w.component_work;
      dense_peak = dense_peak;
      peak = w.peak;
      allocated = allocated;
      whole_works = whole_works_of w.whole;
      steps = o.steps;
      merges = o.merges;
      sizes = w.longest;
      rotations = concat o.rotations;
      promotions = o.promotions;
      measurements = concat o.measurements;
      groups = groups_of w.components;
    }

-- "unselected, initial_components = initial_k, dense peak 2^max_k, all else zero": the plan of a walk from no coordinates over no records. So, at any initial_k,
-- it "has both works 0" and is not too wide
unfoldable pub unread_plan : (initial dense_peak : ℕ) → Plan
unfolding plan_from start
unread_plan initial dense_peak = plan_from initial dense_peak (start 0)

-- ---- "Where planning stops", in order

-- 2: "record words no multiple of 8, or over 8,192"
abbrev pub most_words : ℕ
most_words = 8192

abbrev pub words_refused : List ℕ → Bool
words_refused words = not (length words % record_words == 0) || nat_lt most_words (length words)

-- 3: "with n records, steps < 2n, merges < n+512, sizes < 512, rotations < 21n, promotions < n, measurements < 19n or groups < 1,024 words"
abbrev pub group_words : ℕ
group_words = 1024

abbrev pub buffers_refused : (records : ℕ) → Lengths → Bool
buffers_refused n lent =
    nat_lt lent.steps (step_words * n)
    || nat_lt lent.merges (n + most_coordinates)
    || nat_lt lent.sizes most_coordinates
    || nat_lt lent.rotations (rotation_words * n)
    || nat_lt lent.promotions n
    || nat_lt lent.measurements (measurement_words * n)
    || nat_lt lent.groups group_words

-- 4: "initial_k > 512"
abbrev pub too_many_coordinates : Head → Bool
too_many_coordinates head = nat_lt most_coordinates head.initial_k

abbrev pub after_walk : (initial dense_peak : ℕ) → Walked → Result
after_walk initial dense_peak (completed w) = completed (plan_from initial dense_peak w)
after_walk initial dense_peak (refused_at number index) = refused_at number index

-- "The record pass ends before the walk begins"
abbrev pub after_pass : (limit initial dense_peak : ℕ) → (words : List ℕ) → Checked → Result
after_pass limit initial dense_peak words (completed passed) =
    after_walk initial dense_peak (walk_from limit 0 (start initial) (instructions_of words))
after_pass limit initial dense_peak words (refused_at number index) = refused_at number index

abbrev pub refuse_all : Bool → ℕ → Result → Result
refuse_all test number rest = if test then refused_at number 0 else rest

-- 02, CR 4: "The record pass keeps its width of 62": it reads no ceiling
abbrev pub pass_of : Head → (words : List ℕ) → Checked
pass_of head words = record_pass head.initial_k words

unfoldable pub plan_read : Head → (words : List ℕ) → (lent : Lengths) → (dense_peak : ℕ) → Result
unfolding walk_from start plan_from record_pass instructions_of
plan_read head words lent dense_peak =
    if words_refused words then refused_at 2 0
    else if buffers_refused (record_count words) lent then refused_at 3 0
    else if too_many_coordinates head then refused_at 4 0
    else after_pass head.ceiling head.initial_k dense_peak words (pass_of head words)

-- "2^max_k"; none from the ceiling on
abbrev pub max_dimension : Head → Option ℕ
max_dimension head = dimension head.ceiling head.max_k

-- 1: "max_k >= 62"; 02, CR 4: "Condition 1 reads the ceiling where it reads 62"
abbrev pub for_dense_peak : Head → (words : List ℕ) → (lent : Lengths) → (dense_peak : Option ℕ) → Result
for_dense_peak head words lent None = refused_at 1 0
for_dense_peak head words lent (Some dense_peak) =
    if unread head then completed (unread_plan head.initial_k dense_peak)
    else plan_read head words lent dense_peak

-- 24: 02, CR 4: "A ceiling outside 1 to 62"
abbrev pub most_ceiling : ℕ
most_ceiling = 62

abbrev pub ceiling_refused : Head → Bool
ceiling_refused head = nat_lt head.ceiling 1 || nat_lt most_ceiling head.ceiling

-- What planning gives for a head, the record words and the lengths of the lent buffers. 02, CR 4: "gives 24, before 1". The head's ceiling is where a width has no
-- dimension any more. It is asked for max_k and for the members of each join, and so for each kernel. Start and promotions ask for none: they make components of
-- one member alone, and a program that is read has a max_k of at least 8, so a ceiling of at least 9. Live sums and allocation add up components that such a join
-- or such a start made, so each has its dimension (`Laws.HasDimensions`)
unfoldable pub plan_of : Head → (words : List ℕ) → (lent : Lengths) → Result
unfolding plan_read unread_plan dimension
plan_of head words lent =
    if ceiling_refused head then refused_at 24 0
    else for_dense_peak head words lent (max_dimension head)
