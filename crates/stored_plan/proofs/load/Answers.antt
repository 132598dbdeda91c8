-- `load` meets its contract: where the file is refused all six outputs are cleared; else every section lies in front of the trailer and fits its output, and is
-- read into it.
use mathlib.Core.Path.{◌≡◌, sym, ap, ap₂, ◌∙◌, subst}
use mathlib.Core.List.{List}
use native.Mathlib.Omega.{arith}
use Rattle.std.proofs.Common.{rules, get_or}
use Rattle.std.specs.Prelude.{ℕ}
use Rattle.words.specs.File.{words_at}
use Rattle.refusals.specs.Answer.{given}
use Rattle.refusals.proofs.Laws.{positive}
use Rattle.plan_buffers.specs.declared.WordCounts.{WordCounts}
use Rattle.plan_buffers.specs.SixOutputs.{Outputs, word_counts_of, outputs_of}
use Rattle.stored_plan.specs.Reading.{Read, read_file}
use Rattle.stored_plan.specs.Loading.{number_of, loaded, outcome_in, Restored, trailer_in, counts_in}
use Rattle.stored_plan.proofs.Accepting.{counts_are, accepted, refused_is, Room}
use Rattle.stored_plan.proofs.load.Goals as goal

pub returns-in-Err-clause-loads : goal.returns-in-Err-clause-loads
returns-in-Err-clause-loads c =
    let file = c.args.file.now in
    let before : Outputs = outputs_of c.args.out.now in
    let after : Outputs = outputs_of c.clear.new.self in
    let told = c.in-Err.ensures.number ∙ ap (λ (l : WordCounts). number_of (read_file file l)) c.lengths-lent.ensures in
    let refusal = refused_is file (word_counts_of before) _ told (λ e. absurd (omega (arith, positive c.in-Err.reason, e))) in record {
      answer = sym (ap outcome_in refusal);
      held = subst (λ (r : Read). Restored r before after) (sym refusal) (search rules);
    }

-- an accepted file's sections have room
room : (file : List ℕ) {trailer : List ℕ} {mine lent : WordCounts} → trailer ≡ trailer_in file → 0 ≡ number_of (read_file file lent) → lent ≡ mine
    → Room mine (counts_in trailer)
room file {mine = mine} same told are =
    rw same (accepted file mine (sym (told ∙ ap (λ (l : WordCounts). number_of (read_file file l)) are))).room

pub get_section-requires-clause-room : goal.get_section-requires-clause-room
get_section-requires-clause-room c = (room c.args.file.now c.in-Ok.ensures.trailer c.in-Ok.ensures.number c.lengths-lent.ensures).steps

pub get_section-requires-in-Ok-clause-room : goal.get_section-requires-in-Ok-clause-room
get_section-requires-in-Ok-clause-room c = (room c.args.file.now c.in-Ok.ensures.trailer c.in-Ok.ensures.number c.lengths-lent.ensures).merges

pub get_section-requires-in-Ok-2-clause-room : goal.get_section-requires-in-Ok-2-clause-room
get_section-requires-in-Ok-2-clause-room c = (room c.args.file.now c.in-Ok.ensures.trailer c.in-Ok.ensures.number c.lengths-lent.ensures).sizes

pub get_section-requires-in-Ok-3-clause-room : goal.get_section-requires-in-Ok-3-clause-room
get_section-requires-in-Ok-3-clause-room c = (room c.args.file.now c.in-Ok.ensures.trailer c.in-Ok.ensures.number c.lengths-lent.ensures).rotations

pub get_section-requires-in-Ok-4-clause-room : goal.get_section-requires-in-Ok-4-clause-room
get_section-requires-in-Ok-4-clause-room c = (room c.args.file.now c.in-Ok.ensures.trailer c.in-Ok.ensures.number c.lengths-lent.ensures).promotions

pub get_section-requires-in-Ok-5-clause-room : goal.get_section-requires-in-Ok-5-clause-room
get_section-requires-in-Ok-5-clause-room c = (room c.args.file.now c.in-Ok.ensures.trailer c.in-Ok.ensures.number c.lengths-lent.ensures).measurements

pub returns-in-Ok-clause-loads : goal.returns-in-Ok-clause-loads
returns-in-Ok-clause-loads c =
    let file = c.args.file.now in
    let before : Outputs = outputs_of c.args.out.now in
    let after : Outputs = (record { steps = c.get_section.new.output; merges = c.get_section-in-Ok.new.output; sizes = c.get_section-in-Ok-2.new.output; rotations = c.get_section-in-Ok-3.new.output; promotions = c.get_section-in-Ok-4.new.output; measurements = c.get_section-in-Ok-5.new.output }) in
    let told = c.in-Ok.ensures.number ∙ ap (λ (l : WordCounts). number_of (read_file file l)) c.lengths-lent.ensures in
    let ok = accepted file (word_counts_of before) (sym told) in
    let trailer = c.in-Ok.ensures.trailer in record {
      answer =
          ap₂ (λ (scalars : List ℕ) (counts : WordCounts). given (loaded scalars counts))
          (c.scalars_at.ensures ∙ ap₂ (λ (l : List ℕ) (n : ℕ). words_at file (get_or l 12 0) n) trailer (sym ok.eight))
          (c.counts_in.ensures ∙ ap counts_in trailer ∙ sym (counts_are file))
          ∙ ap outcome_in (sym ok.read);
      held = subst (λ (r : Read). Restored r before after) (sym ok.read) (search rules);
    }
