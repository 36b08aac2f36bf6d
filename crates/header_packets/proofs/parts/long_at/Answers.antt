use Rattle.header.specs.Reading.{long_at}
use Rattle.header_packets.proofs.parts.long_at.Goals as goal

pub returns : goal.returns
unfolding long_at
returns c = rw (c.le.ensures, c.be.ensures, c.le-2.ensures, c.le-3.ensures)
