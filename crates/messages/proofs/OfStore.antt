-- What a fragment delivers is what the store's step brings out. Assumes nothing.
use mathlib.Core.Path.{◌≡◌, refl, sym, ap, ◌∙◌}
use mathlib.Core.Bool.{Bool, true, false, cond}
use mathlib.Core.List.{List, []}
use mathlib.Core.Option.{Option, none, some}
use Prim.Native.Nat.{ℕ, ◌≤◌}
use native.Mathlib.Omega.{arith}
use lib.ListN.{length}
use lib.Dec.{eqb}
use borrow.Author.Tests.{ne_eqb, eqb-true}
use Rattle.wire.specs.Parts.{part, splice}
use Rattle.wire.proofs.Parts.{part_same}
use Rattle.blocks.specs.declared.Part.{Part}
use Rattle.blocks.specs.Names.{message_type, message_id, message_expiration, follow_on_number, follow_on_last, follow_on_id}
use Rattle.reassembly.specs.declared.Reply.{Reply}
use Rattle.reassembly.specs.Store.{Rebuilt}
use Rattle.reassembly.specs.Neighbours.{NeighboursAnswer}
use Rattle.reassembly.specs.Calls.{lent, After}
use Rattle.reassembly.specs.Standing.{AllAgree}
use Rattle.reassembly.proofs.Promised.{first_promise, follow_promise}
use Rattle.reassembly.proofs.Brought.{Sober, from_sober, reply_number, reply_some, laid_some}
use Rattle.messages.specs.Received.{Received}
use Rattle.messages.specs.Delivery.{delivery_with, nothing, whole_at, rebuilt_by, rebuilt, delivered_by, message_in}
use Rattle.messages.specs.OfStore.{out_bytes, received_for, OfStore, FirstOfStore, FollowOfStore}

pub from_none : (at : ℕ) (r : Reply) (id n : ℕ) → r.number ≡ n → (n ≡ 60 → ⊥) → rebuilt_by at r id ≡ received_for at id n none
unfolding rebuilt_by received_for
from_none at r id n e h = rw (e, ne_eqb n 60 h) refl

pub from_some : (at : ℕ) (r : Reply) (id n : ℕ) (w : Rebuilt) → n ≡ 60 → r ≡ record { number = n; kind = w.kind; expires = w.expires; length = length w.bytes }
    → rebuilt_by at r id ≡ received_for at id n (some w)
unfolding rebuilt_by received_for
from_some at r id n w q e =
    ap (λ (z : Reply). rebuilt_by at z id) (e ∙ ap (λ (z : ℕ). record { number = z; kind = w.kind; expires = w.expires; length = length w.bytes }) q)
    ∙ ap (λ (z : ℕ). received_for at id z (some w)) (sym q)

-- what is received has the store's number
received_number : (at id n : ℕ) (o : Option Rebuilt) → (received_for at id n o).number ≡ n
unfolding received_for nothing
received_number at id n (some w) = refl
received_number at id n none = go (eqb n 0) refl
  where
    go : (b : Bool) → eqb n 0 ≡ b → (cond b (nothing 0 0) (nothing n at)).number ≡ n
    go true e = sym (eqb-true n 0 e)
    go false e = refl

-- a kept piece, a refused one, and one that finished its message
pub received_kept : (at id : ℕ) → received_for at id 0 none ≡ record { number = 0; from = 0; kind = 0; id = 0; expires = 0; start = 0; length = 0 }
unfolding received_for nothing
received_kept at id = refl

pub received_refused : (at id n : ℕ) → (n ≡ 0 → ⊥) → received_for at id n none ≡ record { number = n; from = 0; kind = 0; id = 0; expires = 0; start = at; length = 0 }
unfolding received_for nothing
received_refused at id n h = rw (ne_eqb n 0 h) refl

pub received_whole : (at id n : ℕ) (w : Rebuilt) → received_for at id n (some w) ≡ record { number = n; from = 2; kind = w.kind; id = id; expires = w.expires; start = 0; length = length w.bytes }
unfolding received_for
received_whole at id n w = refl

none_shown : (s out : List ℕ) (at id n : ℕ) → message_in s out (received_for at id n none) ≡ []
unfolding message_in nothing received_for
none_shown s out at id n = go (eqb n 0)
  where
    go : (b : Bool) → message_in s out (cond b (nothing 0 0) (nothing n at)) ≡ []
    go true = refl
    go false = refl

some_shown : (s out : List ℕ) (at id n : ℕ) (w : Rebuilt) → length w.bytes ≤ length out → message_in s (splice out 0 w.bytes) (received_for at id n (some w)) ≡ w.bytes
unfolding message_in received_for
some_shown s out at id n w h = part_same out 0 w.bytes (omega arith)

rebuilt_of_lem : (s : List ℕ) (at : ℕ) (out : List ℕ) (x : After) (a : NeighboursAnswer) (id : ℕ) → AllAgree out x a → Sober (length out) a.number a.out → OfStore s at id out (rebuilt at x id) a
unfolding rebuilt out_bytes
rebuilt_of_lem s at out x a id g b = go a.out refl
  where
    of : rebuilt_by at x.reply id ≡ received_for at id a.number a.out → message_in s x.left.out (received_for at id a.number a.out) ≡ out_bytes a.out
        → OfStore s at id out (delivery_with (rebuilt_by at x.reply id) x.left) a
    of d m =
        record {
          received = d;
          buffer = g.delivered;
          number = ap (λ (z : Received). z.number) d ∙ received_number at id a.number a.out;
          message = ap (message_in s x.left.out) d ∙ m;
          store = g.store;
          made = g.made;
        }

    go : (o : Option Rebuilt) → a.out ≡ o → OfStore s at id out (delivery_with (rebuilt_by at x.reply id) x.left) a
    go none e =
        of (from_none at x.reply id a.number (reply_number out x a.number a.out g.reply g.delivered) (b.none_out e) ∙ ap (received_for at id a.number) (sym e))
        (ap (λ (o : Option Rebuilt). message_in s x.left.out (received_for at id a.number o)) e ∙ none_shown s x.left.out at id a.number ∙ ap out_bytes (sym e))
    go (some w) e =
        of (from_some at x.reply id a.number w (b.some_out w e).0 (reply_some out x a.number a.out g.reply g.delivered w e) ∙ ap (received_for at id a.number) (sym e))
        (ap (λ (o : Option Rebuilt). message_in s x.left.out (received_for at id a.number o)) e
        ∙ ap (λ (z : List ℕ). message_in s z (received_for at id a.number (some w))) (laid_some out x a.number a.out g.reply g.delivered w e)
        ∙ some_shown s out at id a.number w (b.some_out w e).1
        ∙ ap out_bytes (sym e))

pub first_of_store : FirstOfStore
unfolding delivered_by
first_of_store s at rec room out m second f p made hi hx hs =
    rebuilt_of_lem s at out _ _ (message_id f) (first_promise rec room out m (message_id f) (message_type f) (message_expiration f) second _ _ hi hx hs refl made) (from_sober _ _ _ _ _)

pub follow_of_store : FollowOfStore
unfolding delivered_by
follow_of_store s at rec room out m second f p made hi hs =
    rebuilt_of_lem s at out _ _ (follow_on_id f) (follow_promise rec room out m (follow_on_id f) (follow_on_number f) (follow_on_last f) second _ _ hi hs refl made) (from_sober _ _ _ _ _)

-- a whole message is its block's part of the payload
pub whole_shown : (s : List ℕ) (at : ℕ) (rec room out : List ℕ) (n second : ℕ) (f : List ℕ) (p : Part)
    → message_in s (delivered_by s at (lent rec room out) n second 3 f p).left.out (delivered_by s at (lent rec room out) n second 3 f p).received ≡ part s p.start p.len
unfolding delivered_by message_in whole_at
whole_shown s at rec room out n second f p = refl
