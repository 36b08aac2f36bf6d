-- The summary in the record: in each neighbour's share a byte that says how many messages it has open. 52 is judged by it.
use Rattle.std.specs.Prelude.{Bool, ◌||◌, List, [], ◌∷◌, ℕ, ◌-◌, leb, get_or}
use Rattle.wire.specs.Parts.{splice}
use Rattle.reassembly.specs.Sizes.{open_at}
use Rattle.reassembly.specs.Slots.{first_from, is_free}

-- how many messages are open, by the summary
unfoldable pub open_count : List ℕ → ℕ
open_count rec = get_or rec open_at 0

-- the share with another number there
unfoldable pub with_open : List ℕ → ℕ → List ℕ
with_open rec n = splice rec open_at (n ∷ [])

-- one message less is open; never less than none
abbrev pub lowered : List ℕ → List ℕ
lowered rec = with_open rec (open_count rec - 1)

-- 52: by the summary 4 are open. (Where no call made the share, the summary may say fewer though no slot is free: 52 then too.)
unfoldable pub is_full : List ℕ → Bool
is_full rec = leb 4 (open_count rec) || leb 4 (first_from (is_free rec) 0 4)
