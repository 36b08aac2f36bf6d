-- The refusal of each number, and that no two have one.
use Rattle.std.specs.Prelude.{◌≡◌, refl, cond, ℕ, eqb}
use Rattle.std.proofs.Common.{ap, sym, ◌∙◌}
use Rattle.refusals.specs.declared.Refusal.{Refusal}
use Rattle.refusals.specs.declared.Refusal.TheVariants as R
use Rattle.refusals.specs.Numbers.{number}
use Rattle.promises.specs.Refusals.{NumbersDiffer}

-- the refusal with a number; what stands last is of no account
unfoldable named : ℕ → Refusal
named n =
    cond (eqb n 1) R.EndsInsideBlock (
    cond (eqb n 2) R.RouterInfoSize (
    cond (eqb n 3) R.I2npType (
    cond (eqb n 4) R.FirstFragmentSize (
    cond (eqb n 5) R.FirstFragmentBytes (
    cond (eqb n 6) R.FollowOnSize (
    cond (eqb n 7) R.FollowOnBytes (
    cond (eqb n 8) R.AddressSize (
    cond (eqb n 9) R.I2npSize (
    cond (eqb n 10) R.ListFull (
    cond (eqb n 20) R.PacketShort (
    cond (eqb n 21) R.Type (
    cond (eqb n 22) R.Version (
    cond (eqb n 23) R.KeyMissing (
    cond (eqb n 24) R.ConfirmedNumber (
    cond (eqb n 25) R.Nibble (
    cond (eqb n 30) R.RoomShort (
    cond (eqb n 31) R.BodyLong (
    cond (eqb n 32) R.BlockFaulty (
    cond (eqb n 40) R.NumberHigh (
    cond (eqb n 41) R.NothingSeen (
    cond (eqb n 42) R.NumberLow (
    cond (eqb n 43) R.NumberAgain (
    cond (eqb n 44) R.BelowZero (
    cond (eqb n 46) R.ExpansionLong (
    cond (eqb n 50) R.PieceLength (
    cond (eqb n 51) R.PieceNumber (
    cond (eqb n 52) R.StoreFull (
    cond (eqb n 53) R.MessageLong (
    cond (eqb n 54) R.PieceAgain (
    cond (eqb n 55) R.PieceConflict (
    cond (eqb n 56) R.BufferShort (
    cond (eqb n 57) R.AlreadyFinished (
    cond (eqb n 58) R.NeighbourHigh (
    cond (eqb n 59) R.LentShort (
    cond (eqb n 70) R.SenderFull (
    cond (eqb n 71) R.NumbersUsedUp (
    cond (eqb n 72) R.NeverGivenOut (
    R.NotOutstanding))))))))))))))))))))))))))))))))))))))

named_number : (r : Refusal) → named (number r) ≡ r
unfolding named
named_number R.EndsInsideBlock = refl
named_number R.RouterInfoSize = refl
named_number R.I2npType = refl
named_number R.FirstFragmentSize = refl
named_number R.FirstFragmentBytes = refl
named_number R.FollowOnSize = refl
named_number R.FollowOnBytes = refl
named_number R.AddressSize = refl
named_number R.I2npSize = refl
named_number R.ListFull = refl
named_number R.PacketShort = refl
named_number R.Type = refl
named_number R.Version = refl
named_number R.KeyMissing = refl
named_number R.ConfirmedNumber = refl
named_number R.Nibble = refl
named_number R.RoomShort = refl
named_number R.BodyLong = refl
named_number R.BlockFaulty = refl
named_number R.NumberHigh = refl
named_number R.NothingSeen = refl
named_number R.NumberLow = refl
named_number R.NumberAgain = refl
named_number R.BelowZero = refl
named_number R.ExpansionLong = refl
named_number R.PieceLength = refl
named_number R.PieceNumber = refl
named_number R.StoreFull = refl
named_number R.MessageLong = refl
named_number R.PieceAgain = refl
named_number R.PieceConflict = refl
named_number R.BufferShort = refl
named_number R.AlreadyFinished = refl
named_number R.NeighbourHigh = refl
named_number R.LentShort = refl
named_number R.SenderFull = refl
named_number R.NumbersUsedUp = refl
named_number R.NeverGivenOut = refl
named_number R.NotOutstanding = refl

pub numbers_differ : NumbersDiffer
numbers_differ r s h = sym (named_number r) ∙ ap named h ∙ named_number s
