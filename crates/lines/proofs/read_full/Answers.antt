use Rattle.std.proofs.Common.{arith, subst}
use Rattle.std.proofs.KnownBytes.{Consumes-trans}
use Rattle.std.specs.Io.KnownBytes.{Consumes}
use Rattle.lines.proofs.Reading.{take_more}
use Rattle.lines.proofs.read_full.Goals as goal

pub loop-done-preserved : goal.loop-done-preserved
loop-done-preserved g c =
    let more = take_more c.loop-done.done c.in_ok-n.n c.loop-done.buf c.read.new.buf (omega arith) c.in_ok-n.ensures.bound.0 in
    record {
      within = omega (arith, c.in_ok-n.ensures.bound.0);
      bytes = subst (Consumes _ _) more (Consumes-trans _ _ _ _ _ c.loop-done.invariant.bytes c.in_ok-n.ensures.bytes.0);
    }
