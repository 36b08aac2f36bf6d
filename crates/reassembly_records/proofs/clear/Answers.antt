use Rattle.std.proofs.Common.{rules}
use Rattle.std.proofs.lemmas.Slice.{overwrites}
use Rattle.wire.specs.Parts.{splice}
use Rattle.reassembly_records.proofs.clear.Goals as goal

pub returns : goal.returns
unfolding splice
returns c = search (rules, overwrites)
