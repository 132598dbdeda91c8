-- Each rotation of an accepted plan that was read has a sine and a cosine whose squares sum to 1, so that not both are zero: the record pass let it through.
use mathlib.Core.Path.{◌≡◌}
use mathlib.Core.Bool.{false}
use mathlib.Core.List.{List}
use Prim.Native.Nat.{ℕ, ◌/◌, ◌<◌}
use lib.ListN.{length}
use Rattle.refusals.specs.Answer.{completed}
use Rattle.records.specs.Record.{kind, sine, cosine, record_at}
use Rattle.records.specs.declared.Head.{Head}
use Rattle.records.specs.Sound.{IsUnitPair}
use Rattle.records.proofs.Laws.{passed_sound}
use Rattle.plan_spec.specs.Plan.{Lengths, Plan, unread, plan_of}
use Rattle.plan_spec.proofs.Accepted.{accepted}

pub rotation_squares : (h : Head) (ws : List ℕ) (l : Lengths) (p : Plan) → unread h ≡ false → plan_of h ws l ≡ completed p
    → (i : ℕ) → i < length ws / 8 → kind (record_at ws i) ≡ 0 → IsUnitPair (sine (record_at ws i)) (cosine (record_at ws i))
rotation_squares h ws l p read e i there rotation =
    ((passed_sound h.initial_k ws (accepted h ws l p read e).passed i there).rotation rotation).unit
