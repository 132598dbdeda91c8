-- `write_file` meets its contract: each section is written where the one before it ends, then the trailer, and the rest is cleared.
use mathlib.Core.Path.{◌≡◌, refl, ap, ◌∙◌}
use mathlib.Core.List.{List, ◌++◌}
use Prim.Native.Nat.{ℕ, ◌+◌, ◌-◌, ◌*◌}
use native.Mathlib.Omega.{arith}
use lib.ListN.{length, take, replicate}
use Rattle.words.specs.Lists.{padded, patch}
use Rattle.words.specs.File.{word_bytes}
use Rattle.stored_plan.specs.Stored.{Kept, sections_of, trailer_of}
use Rattle.plan_file.specs.Writing.{words_in, kept_in, scalars_in}
use Rattle.plan_file.proofs.Writing.{none_written, section_written, rest_cleared, trailer_is, words_written}
use Rattle.plan_file.proofs.write_file.Goals as goal

pub put_words-requires-8 : goal.put_words-requires-8
put_words-requires-8 c =
    let long = ap length c.trailer_words-trailer.ensures in
    omega (arith, long, c, c.put_words.auto.file, c.put_words-2.auto.file, c.put_words-3.auto.file, c.put_words-4.auto.file, c.put_words-5.auto.file, c.put_words-6.auto.file, c.put_words-7.auto.file)

pub returns : goal.returns
returns c =
    let a = c.args in
    let file = a.file.now in
    let k : Kept = kept_in a.plan (words_in a.sections.now) in
    let room = c.requires in
    let scalars = c.scalar_words-scalars.ensures in
    let trailer = c.trailer_words-trailer.ensures in
    let one = section_written a.sections.now.steps.now c.put_words.new.file (none_written file) (omega (arith, room)) c.put_words.ensures in
    let two = section_written a.sections.now.merges.now c.put_words-2.new.file one (omega (arith, room)) c.put_words-2.ensures in
    let three = section_written a.sections.now.sizes.now c.put_words-3.new.file two (omega (arith, room)) c.put_words-3.ensures in
    let four = section_written a.sections.now.rotations.now c.put_words-4.new.file three (omega (arith, room)) c.put_words-4.ensures in
    let five = section_written a.sections.now.promotions.now c.put_words-5.new.file four (omega (arith, room)) c.put_words-5.ensures in
    let six = section_written a.sections.now.measurements.now c.put_words-6.new.file five (omega (arith, room)) c.put_words-6.ensures in
    let at = 0 + length a.sections.now.steps.now + length a.sections.now.merges.now + length a.sections.now.sizes.now + length a.sections.now.rotations.now + length a.sections.now.promotions.now + length a.sections.now.measurements.now in
    let seven =
    section_written (scalars_in a.plan) c.put_words-7.new.file six (omega (arith, room))
    (c.put_words-7.ensures ∙ ap (λ (l : List ℕ). patch (8 * at) (word_bytes l) c.put_words-6.new.file) scalars) in
    let eight =
    section_written (trailer_of (sections_of k)) c.put_words-8.new.file seven (omega (arith, room))
    (c.put_words-8.ensures ∙ ap (λ (l : List ℕ). patch (8 * (at + 8)) (word_bytes l) c.put_words-7.new.file) (trailer ∙ trailer_is k refl)) in
    let end : at + 24 ≡ at + 8 + 16 = omega arith in
    let filled = c.put_words-8.new.file in
    rest_cleared c.fill_from.new.entries eight
    (c.fill_from.ensures ∙ ap (λ (n : ℕ). take (8 * n) filled ++ replicate (length filled - 8 * n) 0) end)
    ∙ ap (λ (l : List ℕ). padded (length file) (word_bytes l)) (words_written k)
