use borrow.Author.Rules.{rules}
use Rattle.reassembly.proofs.Promised.{follow_promise}
use Rattle.reassembly_store.proofs.follow_on_fragment.Goals as goal

pub returns-clause-all_agree : goal.returns-clause-all_agree
returns-clause-all_agree c =
    let a = c.args in
    follow_promise a.rec.now a.room.now a.out.now a.neighbour a.id a.number a.last a.second a.bytes.now _ (search rules) (search rules) c.arrive.ensures
