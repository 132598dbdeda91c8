-- A turn reads more, or is interrupted and reads nothing.
use Rattle.std.proofs.Common.{rules, ◌≡◌, ◌≤◌, ◌-◌, sym, subst, arith, length, le_refl}
use Rattle.std.specs.Io.KnownBytes.{Consumes}
use borrow.Rule.Slice.PartMut.{put_mid}
use Rattle.std.proofs.KnownBytes.{Consumes-kept}
use Rattle.std.proofs.lemmas.Slice.{take-put_mid_below}
use Rattle.vectors.proofs.Words.{read_more}
use Rattle.vectors.proofs.fill.Goals as goal
use Rattle.vectors.proofs.fill.Goals.{in-Ok, in-Err}

pub loop-preserved : goal.loop-preserved
loop-preserved g c =
    let bytes = put_mid c.loop.at (length c.loop.bytes - c.loop.at) c.loop.bytes c.read.new.buf in
    let room : length bytes ≡ length c.args.bytes.now = search rules in
    let within : c.loop.at ≤ length c.loop.bytes = c.loop.invariant.within in
    elim c.match-read.branch [
      | in-Ok w ↦ record {
        room = room;
        within = omega (arith, room, within, c.loop.invariant.room, c.read.auto.buf, w.at-is, w.in-Ok.ensures.bound.0);
        read = read_more _ _ _ c.loop.bytes c.read.new.buf c.loop.at c.match-read.at w.in-Ok.n within w.in-Ok.ensures.bound.0 w.at-is c.loop.invariant.read w.in-Ok.ensures.bytes.0;
      }
      | in-Err w ↦ record {
        room = room;
        within = omega (arith, room, within, c.loop.invariant.room, w.at-is);
        read = rw w.at-is (subst (Consumes _ _) (sym (take-put_mid_below _ _ _ _ _ (le_refl _) within)) (Consumes-kept _ _ _ _ c.loop.invariant.read w.in-Err.ensures.bytes));
      }
    ]
