use Rattle.std.proofs.Common.{◌≡◌, length, arith}
use lib.ListN.{length-set}
use Rattle.acks.proofs.Named.{length_numbers}
use Rattle.acks.proofs.Filling.{filled_in}
use Rattle.acks_expand.proofs.Measured.fill.Goals as goal

pub bounds-list-0 : goal.bounds-list-0
bounds-list-0 c =
    let a = c.args.self.ack in
    omega (arith, length_numbers a.through a.count a.pairs.now, c.args.self.named)

pub fall-requires : goal.fall-requires
fall-requires c =
    let a = c.args.self.ack in
    let e : length (lib.ListN.set c.args.list.now 0 a.through) ≡ length c.args.list.now = length-set c.args.list.now 0 a.through in
    (omega (arith, length_numbers a.through a.count a.pairs.now, c.args.self.named), omega (arith, c.args.self.ends))

pub fill_pairs-requires : goal.fill_pairs-requires
fill_pairs-requires c =
    let a = c.args.self.ack in
    let e : length (lib.ListN.set c.args.list.now 0 a.through) ≡ length c.args.list.now = length-set c.args.list.now 0 a.through in
    let k : length c.fall.new.list ≡ length (lib.ListN.set c.args.list.now 0 a.through) = c.fall.auto.list in
    rw (c.from-first.ensures, c.from.ensures) (omega (arith, c.args.self.ends), omega (arith, length_numbers a.through a.count a.pairs.now, c.args.self.named))

pub returns : goal.returns
returns c =
    let a = c.args.self.ack in
    filled_in a.through a.count a.pairs.now c.args.list.now c.fall.new.list c.fill_pairs.new.list
    (omega (arith, c.args.self.named)) (rw c.from-first.ensures at c.fall.ensures) (rw (c.from-first.ensures, c.from.ensures) at c.fill_pairs.ensures)
