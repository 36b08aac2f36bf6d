use Rattle.reassembly.specs.Record.{entry_place, with_entry}
use Rattle.reassembly.proofs.Fields.{entry_put}
use borrow.Author.Rules.{rules}
use Rattle.reassembly_records.proofs.save_entry.Goals as goal

pub returns : goal.returns
unfolding with_entry
returns c =
    let a = c.args in
    entry_put a.rec.now (entry_place a.i a.k) a.e (search rules) c.put_le.ensures c.put_le-2.ensures
