-- What is read at a place of a text: the field there, and where the place stands after it.
use Rattle.std.specs.Prelude.{◌≡◌, List, ℕ, ◌<◌, ◌≤◌, Option, Some, None, length, take}
use Rattle.lines.specs.Fields.{field_at, past, whole_up_to, unread}
use Rattle.lines.specs.declared.Fields.{Fields}
use Rattle.lines.specs.declared.Lines.{Lines}
use Rattle.lines.specs.declared.Input.{Input}

-- the field at a place of a text
abbrev pub here : Fields → List ℕ
here f = field_at f.text.now f.at

-- one place stands after another in the same text, past what ends at a byte of its own
abbrev pub IsPast : ℕ → Fields → Fields → Type 0
IsPast own old new = (new.text.now ≡ old.text.now) × (new.at ≡ past own old.text.now old.at)

-- the next line begins where the lines stand, or the text has ended there; they stand past that place then
abbrev pub GivesLine : Lines → Option Fields → Lines → Type 0
GivesLine old None new = (length old.next.text.now ≤ old.next.at) × IsPast 10 old.next new.next
GivesLine old (Some line) new =
    (old.next.at < length old.next.text.now) × (line.text.now ≡ old.next.text.now) × (line.at ≡ old.next.at) × IsPast 10 old.next new.next

-- how many bytes the whole lines at hand are
abbrev pub used_of : Input → ℕ
used_of i = whole_up_to (take i.have i.buf) (length (take i.have i.buf))

-- how many bytes are at hand after them
abbrev pub left_of : Input → ℕ
left_of i = unread (used_of i) i.have (length i.buf)
