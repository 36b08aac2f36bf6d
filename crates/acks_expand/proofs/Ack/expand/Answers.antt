use Rattle.std.proofs.Common.{◌∙◌, arith}
use Rattle.acks.proofs.Answers.{is_below, is_above, is_44, is_46, is_0}
use Rattle.acks_expand.proofs.Ack.expand.Goals as goal

pub returns-in_default : goal.returns-in_default
returns-in_default c =
    let a = c.args.self in
    is_44 a.through a.count a.pairs.now c.args.list.now (is_below _ _ _ c.in_default.ensures)

pub returns-then-list-measured : goal.returns-then-list-measured
returns-then-list-measured c =
    let a = c.args.self in
    let m = c.in-Some.measured in
    let e = c.in-Some.ensures.1 in
    let n = rw e at m.named in
    is_46 a.through a.count a.pairs.now c.args.list.now (is_above _ _ _ c.in-Some.ensures.0) (omega (arith, n))

pub returns : goal.returns
returns c =
    let a = c.args.self in
    let m = c.in-Some.measured in
    let e = c.in-Some.ensures.1 in
    let n = rw e at m.named in
    let r = is_0 a.through a.count a.pairs.now c.args.list.now (is_above _ _ _ c.in-Some.ensures.0) (omega (arith, n)) in
    (rw n r.0, c.fill.ensures ∙ rw e r.1)
