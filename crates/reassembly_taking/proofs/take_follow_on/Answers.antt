use mathlib.Core.Path.{sym, ◌∙◌}
use lib.ListN.{length}
use native.Mathlib.Omega.{arith}
use Rattle.reassembly.specs.Calls.{lent, after}
use Rattle.reassembly.specs.Arrivals.{reply_of}
use Rattle.reassembly.proofs.Branches.{follow_50, follow_51, follow_taken, good_size, good_number}
use Rattle.reassembly_taking.proofs.take_follow_on.Goals as goal

pub returns-then-bad_size : goal.returns-then-bad_size
returns-then-bad_size c =
    let a = c.args in
    follow_50 a.rec.now a.room.now a.out.now a.label a.second a.bytes.now (sym c.bad_size.ensures ∙ c.if-bad_size.true)

pub returns-then-off_number : goal.returns-then-off_number
returns-then-off_number c =
    let a = c.args in
    follow_51 a.rec.now a.room.now a.out.now a.label a.second a.bytes.now (sym c.bad_size.ensures ∙ c.if-bad_size.false) (sym c.off_number.ensures ∙ c.if-off_number.true)

pub invariant_of-take : goal.invariant_of-take
invariant_of-take c =
    let q = good_size (length c.args.bytes.now) (sym c.bad_size.ensures ∙ c.if-bad_size.false) in
    let k = good_number c.args.label.number (sym c.off_number.ensures ∙ c.if-off_number.false) in
    record { numbered = omega (arith, k.1); sized = q.1 }

pub returns : goal.returns
returns c =
    let a = c.args in
    follow_taken a.rec.now a.room.now a.out.now a.label a.second a.bytes.now (after (reply_of c.take.result) (lent c.take.new.rec c.take.new.room c.take.new.out)) (sym c.bad_size.ensures ∙ c.if-bad_size.false) (sym c.off_number.ensures ∙ c.if-off_number.false) c.take.ensures
