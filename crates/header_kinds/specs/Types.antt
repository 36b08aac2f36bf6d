-- The header types as an enum, by their numbers.
use Rattle.std.specs.Prelude.{Result, Ok, Err, cond, ℕ, eqb}
use Rattle.refusals.specs.declared.Refusal.{Refusal}
use Rattle.refusals.specs.Numbers as Refusals
use Rattle.header_kinds.specs.declared.MessageType.{MessageType}
use Rattle.header_kinds.specs.declared.MessageType.TheVariants.{SessionRequest, SessionCreated, SessionConfirmed, Data, PeerTest, Retry, TokenRequest, HolePunch}
use Rattle.header.specs.Kinds.{is_listed}

-- the number of each type
abbrev pub number : MessageType → ℕ
number SessionRequest = 0
number SessionCreated = 1
number SessionConfirmed = 2
number Data = 6
number PeerTest = 7
number Retry = 9
number TokenRequest = 10
number HolePunch = 11

-- a type or a refusal, each by its number
abbrev pub typed : Result MessageType Refusal → Result ℕ ℕ
typed (Ok k) = Ok (number k)
typed (Err r) = Err (Refusals.number r)

-- a number taken for a type's: 21 where 01 does not list it
abbrev pub type_of : ℕ → Result ℕ ℕ
type_of t = cond (is_listed t) (Ok t) (Err 21)

-- a header of type t, judged by the number of its refusal; 0 is none
abbrev pub judged : ℕ → ℕ → Result ℕ ℕ
judged t r = cond (eqb r 0) (Ok t) (Err r)
