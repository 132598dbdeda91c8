use Rattle.plan_buffers.specs.SevenBuffers.{buffers_of}
use Rattle.plan_buffers.specs.SixOutputs.{SameOutputs}
use Rattle.walk.specs.Looping.{Looping}
use Rattle.walk.proofs.walk.Given as goal

abbrev pub invariant-loop-index : goal.invariant-loop-index
invariant-loop-index l = Looping l.limit l.initial_k l.records l.index l.order l.state l.tally (buffers_of l.out l.groups) × SameOutputs l.initial.out l.out
