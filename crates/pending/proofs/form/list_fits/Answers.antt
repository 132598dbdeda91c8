-- `pending::form::list_fits` meets its contract: behind the last operation none is left.
use Rattle.std.proofs.Common.{ap, sym, arith}
use mathlib.Core.Path.{◌∙◌}
use Rattle.std.proofs.lemmas.List.{drop_all}
use Rattle.std.specs.List.{list_all}
use Rattle.pending.specs.Operation.{operations_of}
use Rattle.pending.specs.Form.{operation_fits}
use Rattle.pending.proofs.Chunks.{count}
use Rattle.pending.proofs.form.list_fits.Goals as goal

pub returns : goal.returns
returns c =
    let none = drop_all c.loop-i.i (operations_of c.args.words.now) (omega (arith, count c.args.words.now)) in
    sym (c.loop-i.invariant ∙ ap (list_all (operation_fits c.args.width)) none)
