-- Whether a vector agrees is read off the call's own answer and buffers: the buffers have the lengths
-- that the head gives, so the call's words are those of the definition for these lengths.
use mathlib.Core.Path.{◌≡◌, sym, ap, ap₂, ◌∙◌}
use mathlib.Core.List.{List}
use Prim.Native.Nat.{ℕ}
use Rattle.std.specs.Prelude.{Ok}
use lib.ListN.{length, get_or, length-replicate}
use Rattle.plan_spec.specs.Plan.{Lengths, plan_of}
use Rattle.plan_buffers.specs.SevenBuffers.{Buffers, lengths_of, padded_buffers, result_words}
use Rattle.answer.specs.Outcome.{outcome_in}
use Rattle.midvokt.specs.Reply.{number_of, words_of, laid_out, Replies}
use Rattle.vectors.specs.Reading.{words_in}
use Rattle.replay.specs.Vector.{head_of, lengths_in, sevens, held_in, recorded_in, head_in, agreement}

-- buffers of these lengths have them
sevens_long : (n : Lengths) → lengths_of (sevens n) ≡ n
sevens_long n i = record {
  steps = length-replicate {A = ℕ} n.steps 7 i;
  merges = length-replicate {A = ℕ} n.merges 7 i;
  sizes = length-replicate {A = ℕ} n.sizes 7 i;
  rotations = length-replicate {A = ℕ} n.rotations 7 i;
  promotions = length-replicate {A = ℕ} n.promotions 7 i;
  measurements = length-replicate {A = ℕ} n.measurements 7 i;
  groups = length-replicate {A = ℕ} n.groups 7 i;
}

pub agreement_is : (ws head behind records rest lent filled : List ℕ) (before after : Buffers) (number : ℕ)
    → head_in ws ≡ Ok (head, behind) → words_in (get_or head 4 0) behind ≡ Ok (records, rest)
    → before ≡ sevens (lengths_in head) → length lent ≡ 14
    → Replies (head_of head) records before after lent filled number
    → agreement ws ≡ recorded_in number filled after rest
unfolding agreement
agreement_is ws head behind records rest lent filled before after number e f same room r =
    let n = lengths_in head in
    let long : n ≡ lengths_of before = sym (ap lengths_of same ∙ sevens_long n) in
    let result = λ (l : Lengths). plan_of (head_of head) records l in
    let told : number_of (outcome_in (result n)) ≡ number = ap (λ (l : Lengths). number_of (outcome_in (result l))) long ∙ sym r.number in
    let words : laid_out 14 (words_of (outcome_in (result n))) ≡ filled =
    ap₂ (λ (k : ℕ) (l : Lengths). laid_out k (words_of (outcome_in (result l)))) (sym room) long ∙ sym r.result in
    let held : held_in (result n) n ≡ after = ap (λ (l : Lengths). padded_buffers l (result_words (result l))) long ∙ sym r.held in
    rw (e, f) (λ i. recorded_in (told i) (words i) (held i) rest)
