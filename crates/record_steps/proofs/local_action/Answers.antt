-- `record_steps::local_action` meets its contract: each mask is cut to the width and its bits go to the places. Given by hand so that a wrong action's masks are named.
use Rattle.record_steps.proofs.local_action.Goals as goal

pub returns : goal.returns
returns c = simp (← c.below_width.ensures, ← c.below_width-2.ensures, ← c.local_mask-local_x.ensures, ← c.local_mask-local_z.ensures) c.new.ensures
