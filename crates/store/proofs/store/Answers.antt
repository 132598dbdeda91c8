-- `store` meets its contract: the planner's answer decides; the counts that it gives are no more than the buffers' lengths, and the file is written if their words fit it.
use Rattle.std.proofs.Common.{arith, refl, sym, Err, Ok}
use mathlib.Core.Path.{subst}
use Prim.Native.Nat.{ℕ, ◌*◌}
use Rattle.refusals.specs.declared.Refusal.{Refusal}
use Rattle.plan_buffers.specs.SevenBuffers.{buffers_of}
use Rattle.plan_buffers.proofs.Lengths.{all_lengths}
use Rattle.store.specs.Storing.{Stores}
use Rattle.store.proofs.Answering.{words_small, stores_short, stores_file, stores_refused}
use Rattle.store.proofs.store.Goals as goal

pub returns-in-Err-clause-stores : goal.returns-in-Err-clause-stores
returns-in-Err-clause-stores c =
    let a = c.args in
    let before = buffers_of a.out.now a.groups.now in
    let after = buffers_of c.build_active_component_plan.new.out c.build_active_component_plan.new.groups in
    let refusal = c.in-Err.refusal in
    stores_refused a.head a.records.now before after (Err refusal) refusal a.file.now c.fill_from.new.entries
    c.in-Err.ensures.answers refl c.fill_from.ensures

pub word_count-words-requires : goal.word_count-words-requires
word_count-words-requires c =
    let a = c.args in
    let before = buffers_of a.out.now a.groups.now in
    let planned = buffers_of c.build_active_component_plan.new.out c.build_active_component_plan.new.groups in
    let few = words_small a.head a.records.now before planned c.in-Ok.plan c.in-Ok.ensures.answers in
    omega (arith, few)

pub returns-then-file-words-clause-stores : goal.returns-then-file-words-clause-stores
returns-then-file-words-clause-stores c =
    let a = c.args in
    let before = buffers_of a.out.now a.groups.now in
    let planned = buffers_of c.build_active_component_plan.new.out c.build_active_component_plan.new.groups in
    let cleared = buffers_of c.clear_all.new.out c.clear_all.new.groups in
    let filed = c.fill_from-then-file-words.new.entries in
    let short = c.if-file-words.true in
    let words = c.word_count-words.ensures in
    let same =
    all_lengths a.out.now c.build_active_component_plan.new.out a.groups.now c.build_active_component_plan.new.groups
    c.in-Ok.ensures.same.lengths c.build_active_component_plan.auto.groups in
    subst (λ (x : Refusal). Stores a.head a.records.now before cleared a.file.now filed (Err x)) (sym c.at.ensures)
    (stores_short a.head a.records.now before planned c.in-Ok.plan c.in-Ok.ensures.answers cleared a.file.now filed
    (omega (arith, short, words)) same c.clear_all.ensures.cleared c.fill_from-then-file-words.ensures)

pub returns-clause-stores : goal.returns-clause-stores
returns-clause-stores c =
    let a = c.args in
    let before = buffers_of a.out.now a.groups.now in
    let planned = buffers_of c.build_active_component_plan.new.out c.build_active_component_plan.new.groups in
    let room = c.if-file-words.false in
    let words = c.word_count-words.ensures in
    subst (λ (n : ℕ). Stores a.head a.records.now before planned a.file.now c.write_used.new.file (Ok (8 * n))) (sym words)
    (stores_file a.head a.records.now before planned c.in-Ok.plan c.in-Ok.ensures.answers a.file.now c.write_used.new.file
    (omega (arith, room, words)) c.write_used.ensures)
