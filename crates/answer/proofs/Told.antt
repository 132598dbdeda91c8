-- Answers that say the same have the same fields, since an outcome is given by its value alone.
use mathlib.Core.Path.{◌≡◌}
use Rattle.refusals.specs.Answer.{completed}
use Rattle.answer.specs.Outcome.{Fields}

pub fields_same : {a b : Fields} → completed a ≡ completed b → a ≡ b
fields_same e = cc
