-- What is shown of reading and listing together.
use Rattle.std.specs.Prelude.{◌≡◌, List, [], ◌∷◌, ℕ, ◌<◌, length}
use Rattle.blocks.specs.Outcomes as End
use Rattle.blocks.specs.Reading.{read_at}
use Rattle.blocks_listing.specs.declared.Entry.{Entry}
use Rattle.blocks_listing.specs.Listing.{ok, no, entry, blocks_of, entries_from}

-- the readings one after the other, from a place to the payload's end
pub data Readings (s : List ℕ) : ℕ → List Entry → Type 0 where
  done : Readings s (length s) []
  read : {at kind size next : ℕ} {es : List Entry} → (read_at s at).extent ≡ End.Ends kind size next → Readings s next es → Readings s at (entry at kind size ∷ es)

-- the readings one after the other, from a place to the block at p, which is refused with m
pub data Stops (s : List ℕ) (m p : ℕ) : ℕ → Type 0 where
  refused : (read_at s p).extent ≡ End.Refused m p → Stops s m p p
  read : {at kind size next : ℕ} → (read_at s at).extent ≡ End.Ends kind size next → next < length s → Stops s m p next → Stops s m p at

-- a payload's blocks are its readings, one or more, up to its end; where one is refused, so is the payload, at that place
abbrev pub ListingIsReadings : Type 0
ListingIsReadings =
    (s : List ℕ)
    → ((es : List Entry) → blocks_of s ≡ ok es → Readings s 0 es × (0 < length es))
    × ((es : List Entry) → Readings s 0 es → 0 < length es → blocks_of s ≡ ok es)
    × ((m p : ℕ) → blocks_of s ≡ no m p → Stops s m p 0)
    × ((m p : ℕ) → Stops s m p 0 → blocks_of s ≡ no m p)

-- a program that goes by `step_at` meets the records of the listing, one after the other
abbrev pub StepsAreTheListing : Type 0
StepsAreTheListing = (s : List ℕ) (es : List Entry) → blocks_of s ≡ ok es → entries_from (length es) s 0 ≡ es
