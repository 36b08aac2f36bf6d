-- What a piece's call answers: no refusal is told as 0 or as 60. Assumes nothing.
use mathlib.Core.Path.{◌≡◌, refl}
use mathlib.Core.Bool.{false}
use mathlib.Core.List.{List}
use Prim.Native.Nat.{ℕ}
use lib.Dec.{eqb}
use borrow.Author.Tests.{eqb-false}
use Rattle.std.specs.Prelude.{Ok, Err}
use Rattle.refusals.specs.declared.Refusal.{Refusal}
use Rattle.refusals.specs.declared.Refusal.TheVariants as R
use Rattle.refusals.specs.Numbers.{number}
use Rattle.reassembly.specs.declared.Arrival.TheVariants as A
use Rattle.reassembly.specs.Memory.{Finished}
use Rattle.reassembly.specs.Calls.{bare, remembered_after}
use Rattle.reassembly.specs.Arrivals.{reply_of}
use Rattle.reassembly.proofs.Branches.{remembered_not}

-- a refusal's number is neither that of a kept piece nor that of a finished message
pub refuses_by : (r : Refusal) → (eqb (number r) 0 ≡ false) × (eqb (number r) 60 ≡ false)
refuses_by R.EndsInsideBlock = (refl, refl)
refuses_by R.RouterInfoSize = (refl, refl)
refuses_by R.I2npType = (refl, refl)
refuses_by R.FirstFragmentSize = (refl, refl)
refuses_by R.FirstFragmentBytes = (refl, refl)
refuses_by R.FollowOnSize = (refl, refl)
refuses_by R.FollowOnBytes = (refl, refl)
refuses_by R.AddressSize = (refl, refl)
refuses_by R.I2npSize = (refl, refl)
refuses_by R.ListFull = (refl, refl)
refuses_by R.PacketShort = (refl, refl)
refuses_by R.Type = (refl, refl)
refuses_by R.Version = (refl, refl)
refuses_by R.KeyMissing = (refl, refl)
refuses_by R.ConfirmedNumber = (refl, refl)
refuses_by R.Nibble = (refl, refl)
refuses_by R.RoomShort = (refl, refl)
refuses_by R.BodyLong = (refl, refl)
refuses_by R.BlockFaulty = (refl, refl)
refuses_by R.NumberHigh = (refl, refl)
refuses_by R.NothingSeen = (refl, refl)
refuses_by R.NumberLow = (refl, refl)
refuses_by R.NumberAgain = (refl, refl)
refuses_by R.BelowZero = (refl, refl)
refuses_by R.ExpansionLong = (refl, refl)
refuses_by R.PieceLength = (refl, refl)
refuses_by R.PieceNumber = (refl, refl)
refuses_by R.StoreFull = (refl, refl)
refuses_by R.MessageLong = (refl, refl)
refuses_by R.PieceAgain = (refl, refl)
refuses_by R.PieceConflict = (refl, refl)
refuses_by R.BufferShort = (refl, refl)
refuses_by R.AlreadyFinished = (refl, refl)
refuses_by R.NeighbourHigh = (refl, refl)
refuses_by R.LentShort = (refl, refl)
refuses_by R.SenderFull = (refl, refl)
refuses_by R.NumbersUsedUp = (refl, refl)
refuses_by R.NeverGivenOut = (refl, refl)
refuses_by R.NotOutstanding = (refl, refl)

-- the numbers of a reply
pub kept_number : (reply_of (Ok A.Kept)).number ≡ 0
unfolding bare
kept_number = refl

pub refused_number : (r : Refusal) → (reply_of (Err r)).number ≡ number r
unfolding bare
refused_number r = refl

-- a piece that is kept, or refused, leaves nothing to remember
pub remembered_kept : (rec : List ℕ) (f : Finished) → rec ≡ remembered_after rec (reply_of (Ok A.Kept)).number f
unfolding bare
remembered_kept rec f = remembered_not rec 0 f (eqb-false 0 60 refl)

pub remembered_refused : (rec : List ℕ) (f : Finished) (r : Refusal) → rec ≡ remembered_after rec (reply_of (Err r)).number f
unfolding bare
remembered_refused rec f r = remembered_not rec (number r) f (eqb-false (number r) 60 (refuses_by r).1)
