use mathlib.Core.Path.{sym, ◌∙◌}
use lib.ListN.{length}
use borrow.Author.Rules.{rules}
use Rattle.reassembly.specs.Calls.{lent, after}
use Rattle.reassembly.specs.Arrivals.{reply_of}
use Rattle.reassembly.proofs.Branches.{first_50, first_taken_lem, good_size}
use Rattle.reassembly_taking.proofs.take_first.Goals as goal

pub returns-then-bad_size : goal.returns-then-bad_size
returns-then-bad_size c =
    let a = c.args in
    first_50 a.rec.now a.room.now a.out.now a.label a.second a.bytes.now (sym c.bad_size.ensures ∙ c.if-bad_size.true)

pub invariant_of-take : goal.invariant_of-take
invariant_of-take c =
    let q = good_size (length c.args.bytes.now) (sym c.bad_size.ensures ∙ c.if-bad_size.false) in
    record { numbered = search rules; sized = q.1 }

pub returns : goal.returns
returns c =
    let a = c.args in
    first_taken_lem a.rec.now a.room.now a.out.now a.label a.second a.bytes.now (after (reply_of c.take.result) (lent c.take.new.rec c.take.new.room c.take.new.out)) (sym c.bad_size.ensures ∙ c.if-bad_size.false) c.take.ensures
