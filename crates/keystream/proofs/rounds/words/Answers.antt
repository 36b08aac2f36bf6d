use Rattle.std.proofs.Common.{rules}
use Rattle.keystream.proofs.State.{words_read}
use Rattle.keystream.proofs.rounds.words.Goals as goal

pub returns : goal.returns
returns g c = words_read _ _ c.from_fn.result c.args.bytes.now g.row.N (λ i y q k. search rules) c.from_fn.ensures.items
