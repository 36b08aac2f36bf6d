-- The listing of a payload: a record for each block, or the refusal.
use Rattle.std.specs.Prelude.{cond, List, [], ◌∷◌, ◌++◌, ℕ, zero, suc, ◌+◌, ltb, leb, length, get_or, drop, Result, Ok, Err}
use Rattle.refusals.specs.Numbers.{number}
use Rattle.blocks.specs.declared.RefusedAt.{RefusedAt}
use Rattle.blocks.specs.Outcomes.{Extent}
use Rattle.blocks.specs.Outcomes as End
use Rattle.blocks_listing.specs.declared.Entry.{Entry}
use Rattle.blocks_listing.specs.declared.Step.{Step}
use Rattle.blocks_listing.specs.Answers.{Answer}
use Rattle.blocks.specs.Extent.{kind_at, size_at, extent_at}
use Rattle.blocks.specs.Sound.{body_length}

-- what a listing gives: its records, or a refusal's number and place
pub data Listing : Type 0 where
  ok : List Entry → Listing
  no : ℕ → ℕ → Listing

-- the record of a block: place, type, size
abbrev pub entry : ℕ → ℕ → ℕ → Entry
entry at k z = record { place = at; kind = k; size = z }

-- a record before those of a listing; a refusal stays one
abbrev pub cons : Entry → Listing → Listing
cons e (ok es) = ok (e ∷ es)
cons e (no m p) = no m p

-- a block that was read, then the rest from its end on, unless that is the payload's end; a refusal is the last word
abbrev pub onward : List ℕ → ℕ → (ℕ → Listing) → Extent → Listing
onward s at rest (End.Ends k z next) = cons (entry at k z) (cond (ltb next (length s)) (rest next) (ok []))
onward s at rest (End.Refused m p) = no m p

-- the blocks from a place on, up to the payload's end; every block has three bytes at least, so as many steps as bytes are left are enough; with none left, an empty payload too, it is 1
unfoldable pub blocks_from : ℕ → List ℕ → ℕ → Listing
blocks_from zero s at = no 1 at
blocks_from (suc steps) s at = onward s at (blocks_from steps s) (extent_at s at)

-- the blocks of a payload: one or more
unfoldable pub blocks_of : List ℕ → Listing
blocks_of s = blocks_from (length s) s 0

-- 10, at the first block without a record, where the list holds fewer
abbrev pub limited : ℕ → Listing → Listing
limited c (ok es) = cond (leb (length es) c) (ok es) (no 10 (get_or es c (entry 0 0 0)).place)
limited c (no m p) = no m p

-- the listing of a payload into a list of so many records
unfoldable pub listing : ℕ → List ℕ → Listing
listing c s = limited c (blocks_of s)

-- the answer where n blocks are listed
abbrev pub counts : ℕ → Answer
counts n = record { number = 0; place = 0; count = n }

-- the answer where a block or the list is refused
abbrev pub refused_listing : ℕ → ℕ → Answer
refused_listing m p = record { number = m; place = p; count = 0 }

-- what is answered
abbrev pub listing_answer : Listing → Answer
listing_answer (ok es) = counts (length es)
listing_answer (no m p) = refused_listing m p

-- the list lent, once it is filled: records beyond the count stay, and all of them where it is refused
abbrev pub entries_after : Listing → List Entry → List Entry
entries_after (ok es) l = es ++ drop (length es) l
entries_after (no m p) l = l

-- what the code answers of a listing
abbrev pub answer_as : Result ℕ RefusedAt → Answer
answer_as (Ok n) = counts n
answer_as (Err r) = refused_listing (number r.refusal) r.place

-- (From here on: how the code goes over a payload.) Where a step cannot be made
abbrev pub stays_at : ℕ → Step
stays_at at = record { entry = entry at 0 0; next = at }

-- the record of a block, and the place after a body of n bytes
abbrev pub step_over : List ℕ → ℕ → ℕ → Step
step_over s at n = record { entry = entry at (kind_at s at) (size_at s at); next = at + 3 + n }

-- the record of the block at a place, and the place after it by type and size alone: what a listing goes by once every block was found good
unfoldable pub step_at : List ℕ → ℕ → Step
step_at s at =
    let n = body_length (kind_at s at) (size_at s at) in
    cond (leb (at + 3 + n) (length s)) (step_over s at n) (stays_at at)

-- the records of the k blocks from a place on, step by step
abbrev pub entries_from : ℕ → List ℕ → ℕ → List Entry
entries_from zero s at = []
entries_from (suc k) s at = (step_at s at).entry ∷ entries_from k s (step_at s at).next
