use mathlib.Core.Path.{◌≡◌}
use Prim.Native.Nat.{◌-◌, ◌≤◌}
use lib.ListN.{length}
use Rattle.blocks_listing.specs.Listing.{listing, listing_answer}
use Rattle.blocks_listing.proofs.Walk.{rest, answer_from}
use Rattle.blocks_listing.proofs.count_blocks.Given as goal

abbrev pub invariant-loop-at : goal.invariant-loop-at
invariant-loop-at l = (l.n ≤ l.at) × (answer_from l.capacity l.n l.over (rest l.payload l.at) ≡ listing_answer (listing l.capacity l.payload))

abbrev pub decreases-loop-at : goal.decreases-loop-at
decreases-loop-at l = length l.payload - l.at
