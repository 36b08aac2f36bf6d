-- A report handed to the block writer; and a refused one, which is not. Assumes nothing.
use Rattle.std.specs.Prelude.{Result, Ok, Err, MatchResult}
use mathlib.Core.Path.{◌≡◌, ◌∙◌, ap}
use mathlib.Core.List.{List}
use Prim.Native.Nat.{ℕ}
use lib.ListN.{length}
use borrow.Author.Tests.{eq-eqb, ne_eqb}
use Rattle.refusals.specs.declared.Refusal.{Refusal}
use Rattle.refusals.specs.Numbers.{number, numbered}
use Rattle.refusals.proofs.Numbers.{not_zero}
use Rattle.blocks.specs.Writing.{writing, room_after}
use Rattle.acks.specs.declared.AckInfo.{AckInfo}
use Rattle.acks.specs.Reporting.{Report, pair_bytes, refused_report, made, report_as}
use Rattle.acks.specs.AckBlocks.{ack_fields_of, ack_writing, ack_room}

pub handed : (r : Report) (room ps after f : List ℕ) (w : Result ℕ ℕ) → r.number ≡ 0 → f ≡ ack_fields_of r → ps ≡ pair_bytes r →
    w ≡ writing 12 f ps (length room) → after ≡ room_after 12 f ps room → (w ≡ ack_writing r (length room)) × (after ≡ ack_room r room)
unfolding ack_writing ack_room
handed r room ps after f w zero fields pairs wrote left = (
  rw (eq-eqb r.number 0 zero) (wrote ∙ rw (fields, pairs)),
  rw (eq-eqb r.number 0 zero) (left ∙ rw (fields, pairs)),
)

-- a report with a refusal's number, whatever else it has, is not written
pub unwritten : (r : Report) (room : List ℕ) → (r.number ≡ 0 → ⊥) → (Err r.number ≡ ack_writing r (length room)) × (room ≡ ack_room r room)
unfolding ack_writing ack_room
unwritten r room ne = (rw (ne_eqb r.number 0 ne), rw (ne_eqb r.number 0 ne))

-- a report, made or refused by a refusal of 01: what write_ack answers and leaves, by the report's number
pub written : (r : Result AckInfo Refusal) (w : Result ℕ Refusal) (room after : List ℕ)
    → MatchResult r (λ a. (numbered w ≡ ack_writing (made a) (length room)) × (after ≡ ack_room (made a) room)) (λ e. (w ≡ Err e) × (after ≡ room))
    → (numbered w ≡ ack_writing (report_as r) (length room)) × (after ≡ ack_room (report_as r) room)
unfolding refused_report
written (Ok a) w room after h = h
written (Err e) w room after h =
    let u = unwritten (refused_report (number e)) room (not_zero e) in
    (ap numbered h.0 ∙ u.0, h.1 ∙ u.1)
