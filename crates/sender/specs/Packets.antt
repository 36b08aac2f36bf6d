-- A packet as the code has it.
use Rattle.sender.specs.Sender.{Packet}
use Rattle.sender.specs.declared.Packet as declared

abbrev pub packet_as : declared.Packet → Packet
packet_as p = record { number = p.number; second = p.second; resends = p.resends }
