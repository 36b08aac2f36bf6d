use Rattle.std.proofs.Common.{◌-◌, ◌≡◌, length}
use lib.Seq.{sets}
use Rattle.blocks_listing.specs.Listing.{entries_from}
use Rattle.blocks_listing.proofs.list_blocks.Given as goal

-- what is stored so far, and then the records of the blocks that are left, is the records of all
abbrev pub invariant-loop-entry : goal.invariant-loop-entry
invariant-loop-entry l = (length l.listed ≡ l.count) × (sets l.listed l.entry-index (entries_from (l.count - l.entry-index) l.payload l.at) ≡ entries_from l.count l.payload 0)
