-- The definition gives each call of the tables its answer, by computation.
use mathlib.Core.Path.{◌≡◌, refl}
use mathlib.Core.List.{map}
use Rattle.optimizer_spec.specs.Examples.{Call, answer_of, fusing, signs, zeros, crossing, moving, prefixes, judging}

pub fusing_answered : map answer_of fusing ≡ map (λ (c : Call). c.answer) fusing
unfolding fusing answer_of
fusing_answered = refl

pub signs_answered : map answer_of signs ≡ map (λ (c : Call). c.answer) signs
unfolding signs answer_of
signs_answered = refl

pub zeros_answered : map answer_of zeros ≡ map (λ (c : Call). c.answer) zeros
unfolding zeros answer_of
zeros_answered = refl

pub crossing_answered : map answer_of crossing ≡ map (λ (c : Call). c.answer) crossing
unfolding crossing answer_of
crossing_answered = refl

pub moving_answered : map answer_of moving ≡ map (λ (c : Call). c.answer) moving
unfolding moving answer_of
moving_answered = refl

pub prefixes_answered : map answer_of prefixes ≡ map (λ (c : Call). c.answer) prefixes
unfolding prefixes answer_of
prefixes_answered = refl

pub judging_answered : map answer_of judging ≡ map (λ (c : Call). c.answer) judging
unfolding judging answer_of
judging_answered = refl
