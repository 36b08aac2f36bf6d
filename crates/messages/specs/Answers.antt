-- What the code answers of a block, as what is told of it; and the fragment of a block's fields.
use Rattle.std.specs.Prelude.{Result, Ok, Err, List, ℕ}
use Rattle.refusals.specs.Numbers.{number}
use Rattle.blocks.specs.declared.RefusedAt.{RefusedAt}
use Rattle.blocks.specs.Names.{message_type, message_id, message_expiration, follow_on_number, follow_on_last, follow_on_id}
use Rattle.reassembly.specs.declared.Fragment.{Fragment}
use Rattle.reassembly.specs.declared.Fragment.TheVariants as F
use Rattle.messages.specs.declared.Delivered.{Delivered}
use Rattle.messages.specs.declared.Delivered.TheVariants as D
use Rattle.messages.specs.Received.{Received}
use Rattle.messages.specs.Delivery.{nothing, whole_at}

-- 0, or 60 for a rebuilt message; or the refusal's number and the block's place
abbrev pub received_as : Result Delivered RefusedAt → Received
received_as (Ok D.Nothing) = nothing 0 0
received_as (Ok (D.Whole kind id expires bytes)) = whole_at kind id expires bytes
received_as (Ok (D.Rebuilt kind id expires bytes)) = record { number = 60; from = 2; kind = kind; id = id; expires = expires; start = bytes.start; length = bytes.len }
received_as (Err r) = nothing (number r.refusal) r.place

-- a first fragment, by its block's fields
abbrev pub first_in : List ℕ → Fragment
first_in f = F.First (message_id f) (message_type f) (message_expiration f)

-- a follow-on, by its block's fields
abbrev pub follow_on_in : List ℕ → Fragment
follow_on_in f = F.FollowOn (follow_on_id f) (follow_on_number f) (follow_on_last f)

-- the id of a fragment's message
abbrev pub id_of : Fragment → ℕ
id_of (F.First id kind expires) = id
id_of (F.FollowOn id number last) = id
