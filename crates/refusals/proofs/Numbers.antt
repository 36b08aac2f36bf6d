-- No refusal has the number 0, which says that a call was done. Assumes nothing.
use mathlib.Core.Path.{◌≡◌}
use native.Mathlib.Omega.{arith}
use Rattle.refusals.specs.Numbers.{number}
use Rattle.refusals.specs.declared.Refusal.{Refusal}
use Rattle.refusals.specs.declared.Refusal.TheVariants as R

pub not_zero : (r : Refusal) → number r ≡ 0 → ⊥
not_zero R.EndsInsideBlock e = omega arith
not_zero R.RouterInfoSize e = omega arith
not_zero R.I2npType e = omega arith
not_zero R.FirstFragmentSize e = omega arith
not_zero R.FirstFragmentBytes e = omega arith
not_zero R.FollowOnSize e = omega arith
not_zero R.FollowOnBytes e = omega arith
not_zero R.AddressSize e = omega arith
not_zero R.I2npSize e = omega arith
not_zero R.ListFull e = omega arith
not_zero R.PacketShort e = omega arith
not_zero R.Type e = omega arith
not_zero R.Version e = omega arith
not_zero R.KeyMissing e = omega arith
not_zero R.ConfirmedNumber e = omega arith
not_zero R.Nibble e = omega arith
not_zero R.RoomShort e = omega arith
not_zero R.BodyLong e = omega arith
not_zero R.BlockFaulty e = omega arith
not_zero R.NumberHigh e = omega arith
not_zero R.NothingSeen e = omega arith
not_zero R.NumberLow e = omega arith
not_zero R.NumberAgain e = omega arith
not_zero R.BelowZero e = omega arith
not_zero R.ExpansionLong e = omega arith
not_zero R.PieceLength e = omega arith
not_zero R.PieceNumber e = omega arith
not_zero R.StoreFull e = omega arith
not_zero R.MessageLong e = omega arith
not_zero R.PieceAgain e = omega arith
not_zero R.PieceConflict e = omega arith
not_zero R.BufferShort e = omega arith
not_zero R.AlreadyFinished e = omega arith
not_zero R.NeighbourHigh e = omega arith
not_zero R.LentShort e = omega arith
not_zero R.SenderFull e = omega arith
not_zero R.NumbersUsedUp e = omega arith
not_zero R.NeverGivenOut e = omega arith
not_zero R.NotOutstanding e = omega arith
