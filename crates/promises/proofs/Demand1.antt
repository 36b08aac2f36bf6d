-- Demand 1 holds, each part by the laws of its crate. Assumes nothing.
use mathlib.Core.Path.{◌≡◌, refl, sym}
use mathlib.Core.Logic.{◌⊎◌, inl, inr}
use mathlib.Core.List.{List, [], ◌∷◌}
use Prim.Native.Nat.{ℕ}
use lib.ListN.{length}
use types.Run.{OneOf}
use Rattle.header.proofs.Calls.{write_refused}
use Rattle.header.proofs.Refused as Header
use Rattle.blocks.proofs.Refused as Blocks
use Rattle.blocks_listing.proofs.Refused as Listing
use Rattle.acks.proofs.Refused as Acks
use Rattle.sender.proofs.Refused as Sender
use Rattle.reassembly.specs.Calls.{Lent, After, after}
use Rattle.reassembly.specs.Shares.{first_call, follow_on_call}
use Rattle.reassembly.specs.Careful.{Careful}
use Rattle.reassembly.proofs.Refusals.{careful_first, careful_follow_on}
use Rattle.reassembly.proofs.Refused as Store
use Rattle.messages.proofs.Refused as Messages
use Rattle.promises.specs.Demand1.{StoreRefuses, Demand1}

-- a number that is neither 0 nor 60 is one of the others
others : (k : ℕ) (ks : List ℕ) (n : ℕ) → StoreRefuses n → OneOf (0 ∷ 60 ∷ k ∷ ks) n → OneOf (k ∷ ks) n
others k ks n h (inl e) = absurd (h.0 e)
others k ks n h (inr (inl e)) = absurd (h.1 e)
others k ks n h (inr (inr e)) = e

-- a careful call that refuses left everything
stays : (n : ℕ) (x : Lent) (y : After) → Careful n x y → StoreRefuses y.reply.number → y ≡ after y.reply x
stays n x y c h = go c.refusal
  where
    go : ((y.reply.number ≡ 0) ⊎ ((y.reply.number ≡ 60) ⊎ (y ≡ after y.reply x))) → y ≡ after y.reply x
    go (inl e) = absurd (h.0 e)
    go (inr (inl e)) = absurd (h.1 e)
    go (inr (inr e)) = e

pub demand1 : Demand1
demand1 =
    record {
      header_read = λ k1 k2 p n e. (Header.read_numbers_lem k1 k2 p n e, Header.read_leaves k1 k2 p n e);
      header_written = λ k1 k2 f p h. (Header.write_numbers f (length p) h, sym (write_refused k1 k2 f p refl h).1);
      block_read = λ s at n place e. ((Blocks.read_numbers_lem s at n place e).1, (Blocks.read_numbers_lem s at n place e).0);
      blocks_listed = λ s list n place e. (Listing.list_numbers (length list) s n place e, Listing.list_leaves s list n place e);
      block_written = λ kind fields body room n e. (Blocks.write_numbers kind fields body (length room) n e, Blocks.write_leaves kind fields body room n e);
      registered = λ t n h. (Acks.tracker_numbers t n h, Acks.tracker_stays t n h);
      registered_there_lem = λ rec n bytes h. (Acks.record_numbers rec n h, Acks.record_stays rec n bytes h);
      asked = (Acks.tracker_report, Acks.report_numbers_lem, Acks.duplicate_numbers);
      ack_written = (Acks.ack_numbers_lem, Acks.ack_leaves);
      ack_expanded = λ through count pairs list h. (Acks.expand_numbers through count pairs (length list) h, Acks.expand_leaves through count pairs list h);
      sender_called = λ rec c h. let z = Sender.call_leaves rec c h in (Sender.call_numbers rec c h, z.0, z.1, z.2);
      store_renewed = λ rec h. (Store.renew_numbers rec h, Store.renew_leaves rec h);
      first_taken_lem = λ x n l second v h. (
        others 50 (52 ∷ 53 ∷ 54 ∷ 55 ∷ 56 ∷ 57 ∷ 58 ∷ 59 ∷ []) _ h (Store.first_numbers_lem x n l second v),
        stays n x (first_call x n l second v) (careful_first x n l second v) h,
      );
      follow_on_taken_lem = λ x n l second v h. (
        others 50 (51 ∷ 52 ∷ 53 ∷ 54 ∷ 55 ∷ 56 ∷ 57 ∷ 58 ∷ 59 ∷ []) _ h (Store.follow_on_numbers_lem x n l second v),
        stays n x (follow_on_call x n l second v) (careful_follow_on x n l second v) h,
      );
      delivery = λ s at x n second h. (
        others 1 (2 ∷ 3 ∷ 4 ∷ 5 ∷ 6 ∷ 7 ∷ 8 ∷ 9 ∷ 50 ∷ 51 ∷ 52 ∷ 53 ∷ 54 ∷ 55 ∷ 56 ∷ 57 ∷ 58 ∷ 59 ∷ []) _ h (Messages.delivery_numbers_lem s at x n second),
        Messages.delivery_stays s at x n second h.0 h.1,
      );
    }
