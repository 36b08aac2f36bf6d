-- What a piece is to a slot, by the slot's head and the piece's label; and the head with the piece.
use Rattle.std.specs.Prelude.{Bool, true, false, cond, not, ◌&&◌, ◌||◌, List, ℕ, ◌+◌, eqb, ltb}
use Rattle.std.specs.Bool.{beq}
use Rattle.wire.specs.Parts.{same}
use Rattle.reassembly.specs.Ages.{long_ago}
use Rattle.reassembly.specs.declared.Head.{Head}
use Rattle.reassembly.specs.declared.Label.{Label}

-- the first number where a test holds, else the second
abbrev pub pick : Bool → ℕ → ℕ → ℕ
pick true a b = a
pick false a b = b

-- the held piece of the label's number came with the same head, or the same flag
unfoldable pub same_label : Head → Label → Bool
same_label h l = cond (eqb l.number 0) (eqb h.kind l.kind && eqb h.expires l.expires) (beq (eqb h.last l.number) l.last)

-- 54 or 55, of a piece whose number is held
unfoldable pub again : Head → Label → List ℕ → List ℕ → ℕ
again h l held bytes = cond (same_label h l && same held bytes) 54 55

-- 55, of a piece whose number is not held
unfoldable pub misfits : Head → Label → Bool
misfits h l = (ltb 0 h.last && ltb h.last l.number) || (l.last && (ltb l.number h.top || ltb 0 h.last))

-- one more, as far as a byte counts
unfoldable pub more_of : ℕ → ℕ
more_of n = cond (ltb n 255) (n + 1) n

-- the head with a piece of n bytes more
unfoldable pub grown_by : Head → Label → ℕ → Head
grown_by h l n =
    record {
      id = h.id;
      opened = h.opened;
      expires = pick (eqb l.number 0) l.expires h.expires;
      total = h.total + n;
      count = more_of h.count;
      last = pick l.last l.number h.last;
      top = pick (ltb h.top l.number) l.number h.top;
      kind = pick (eqb l.number 0) l.kind h.kind;
    }

-- a last number is known, and as many numbers are held as there are up to it. On a record that calls made this is `complete` of specs/Store.antt
-- (proofs/Kept `complete_is`), since 55 has kept out every number above the last
unfoldable pub is_complete : Head → Bool
is_complete h = ltb 0 h.last && ltb h.last 128 && eqb h.count (h.last + 1)

-- the head of a message that is opened at a second, with nothing held
unfoldable pub new_head : Label → ℕ → Head
new_head l second = record { id = l.id; opened = second; expires = 0; total = 0; count = 0; last = 0; top = 0; kind = 0 }

-- the head of a free slot
unfoldable pub no_head : Head
no_head = record { id = 0; opened = 0; expires = 0; total = 0; count = 0; last = 0; top = 0; kind = 0 }

-- a slot in use whose message was opened 30 seconds ago or earlier
unfoldable pub is_old : ℕ → Head → Bool
is_old second h = not (eqb h.count 0) && long_ago h.opened second
