-- What a piece's call answers, as the reply that C is given.
use Rattle.std.specs.Prelude.{Result, Ok, Err}
use Rattle.refusals.specs.declared.Refusal.{Refusal}
use Rattle.refusals.specs.Numbers.{number}
use Rattle.reassembly.specs.declared.Arrival.{Arrival}
use Rattle.reassembly.specs.declared.Arrival.TheVariants as A
use Rattle.reassembly.specs.declared.Reply.{Reply}
use Rattle.reassembly.specs.Calls.{bare}

-- 0 where the piece is kept, 60 with the message that it finishes, or the refusal's number
abbrev pub reply_of : Result Arrival Refusal → Reply
reply_of (Ok A.Kept) = bare 0
reply_of (Ok (A.Finished kind expires length)) = record { number = 60; kind = kind; expires = expires; length = length }
reply_of (Err r) = bare (number r)
