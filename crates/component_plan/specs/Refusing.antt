-- What the contracts of the module `refusing` say: refusals 24 and 1 of a head, and 2 to 4.
use Rattle.std.specs.Prelude.{ℕ, ◌%◌, Bool, not, ◌||◌, ◌==◌, nat_lt, Option, Some, None, if◌then◌else◌}
use Rattle.refusals.specs.Answer.{Answer, given, refused}
use Rattle.records.specs.declared.Head.{Head}
use Rattle.plan_spec.specs.Plan.{max_dimension, ceiling_refused}

-- 1: "max_k >= 62", where the head's ceiling takes the place of 62; else the dense peak
abbrev pub peak_answer : Option ℕ → Answer ℕ
peak_answer None = refused 1
peak_answer (Some dense_peak) = given dense_peak

-- "A ceiling outside 1 to 62 gives 24, before 1"
abbrev pub head_answer : Head → Answer ℕ
head_answer h = if ceiling_refused h then refused 24 else peak_answer (max_dimension h)

-- refusals 2 to 4, or 0: "2: record words no multiple of 8, or over 8,192"; 3 where a buffer is
-- short; "4: initial_k > 512"
abbrev pub lent_number : ℕ → ℕ → Bool → ℕ
lent_number initial words short =
    if not (words % 8 == 0) || nat_lt 8192 words then 2
    else (if short then 3
    else (if nat_lt 512 initial then 4
    else 0))
