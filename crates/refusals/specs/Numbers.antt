-- Each refusal's number; and what a call answers, in numbers: 0, or the number of its refusal.
use Rattle.std.specs.Prelude.{Result, Ok, Err, ℕ}
use Rattle.refusals.specs.declared.Refusal.{Refusal}
use Rattle.refusals.specs.declared.Refusal.TheVariants as R

-- the number of each: of document 01, and 57, 58 and 70 to 73 of its change requests
abbrev pub number : Refusal → ℕ
number R.EndsInsideBlock = 1
number R.RouterInfoSize = 2
number R.I2npType = 3
number R.FirstFragmentSize = 4
number R.FirstFragmentBytes = 5
number R.FollowOnSize = 6
number R.FollowOnBytes = 7
number R.AddressSize = 8
number R.I2npSize = 9
number R.ListFull = 10
number R.PacketShort = 20
number R.Type = 21
number R.Version = 22
number R.KeyMissing = 23
number R.ConfirmedNumber = 24
number R.Nibble = 25
number R.RoomShort = 30
number R.BodyLong = 31
number R.BlockFaulty = 32
number R.NumberHigh = 40
number R.NothingSeen = 41
number R.NumberLow = 42
number R.NumberAgain = 43
number R.BelowZero = 44
number R.ExpansionLong = 46
number R.PieceLength = 50
number R.PieceNumber = 51
number R.StoreFull = 52
number R.MessageLong = 53
number R.PieceAgain = 54
number R.PieceConflict = 55
number R.BufferShort = 56
number R.AlreadyFinished = 57
number R.NeighbourHigh = 58
number R.LentShort = 59
number R.SenderFull = 70
number R.NumbersUsedUp = 71
number R.NeverGivenOut = 72
number R.NotOutstanding = 73

-- a call's answer as one number: 0, or its refusal's
abbrev pub number_of : {T : Type 0} → Result T Refusal → ℕ
number_of (Ok _) = 0
number_of (Err r) = number r

-- an answer, with what it refuses by as a number
abbrev pub numbered_by : {T E : Type 0} → (E → ℕ) → Result T E → Result T ℕ
numbered_by f (Ok x) = Ok x
numbered_by f (Err e) = Err (f e)

-- the same of a refusal, by its number
abbrev pub numbered : {T : Type 0} → Result T Refusal → Result T ℕ
numbered answer = numbered_by number answer
