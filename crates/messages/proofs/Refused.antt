-- A refused delivery has the block's place, leaves record, room and assembly buffer as they were, and its number is one of 01's. Assumes nothing.
use mathlib.Core.Path.{◌≡◌, refl, sym, ap, ◌∙◌, subst}
use mathlib.Core.Logic.{◌⊎◌, inl, inr}
use mathlib.Core.Bool.{Bool, true, false, cond}
use mathlib.Core.List.{List, [], ◌∷◌}
use Prim.Native.Nat.{ℕ}
use lib.Dec.{eqb}
use borrow.Author.Tests.{eqb-true, ne_eqb}
use types.Run.{OneOf}
use Rattle.blocks.specs.declared.Part.{Part}
use Rattle.blocks.specs.Outcomes.{Extent}
use Rattle.blocks.specs.Outcomes as End
use Rattle.blocks.specs.Names.{message_id, follow_on_id}
use Rattle.blocks.specs.Reading.{read_at}
use Rattle.blocks.proofs.Refused.{unread, read_numbers_lem}
use Rattle.reassembly.specs.declared.Reply.{Reply}
use Rattle.reassembly.specs.Calls.{Lent, After, after}
use Rattle.reassembly.specs.Careful.{Careful}
use Rattle.reassembly.proofs.Refusals.{careful_first, careful_follow_on}
use Rattle.reassembly.proofs.Refused.{follow_on_numbers, of_first, first_numbers_lem, follow_on_numbers_lem}
use Rattle.messages.specs.Received.{Received}
use Rattle.messages.specs.Delivery.{Delivery, delivery_with, nothing, whole_at, rebuilt_by, rebuilt, first_label, follow_on_label, delivered_by, delivered_end, delivered}
use Rattle.messages.proofs.Deliveries.{by_kind, other_is}

-- a piece's number is the store's
number_is : (at : ℕ) (r : Reply) (id : ℕ) → (rebuilt_by at r id).number ≡ r.number
unfolding rebuilt_by nothing
number_is at r id = go (eqb r.number 60) refl (eqb r.number 0) refl
  where
    go : (b : Bool) → eqb r.number 60 ≡ b → (c : Bool) → eqb r.number 0 ≡ c
        → (cond b (record { number = 60; from = 2; kind = r.kind; id = id; expires = r.expires; start = 0; length = r.length }) (cond c (nothing 0 0) (nothing r.number at))).number ≡ r.number
    go true e c f = sym (eqb-true r.number 60 e)
    go false e true f = sym (eqb-true r.number 0 f)
    go false e false f = refl

-- a refusal of the store has the block's place
refusal_is : (at : ℕ) (r : Reply) (id : ℕ) → (r.number ≡ 0 → ⊥) → (r.number ≡ 60 → ⊥) → rebuilt_by at r id ≡ nothing r.number at
unfolding rebuilt_by
refusal_is at r id kept done = rw (ne_eqb r.number 60 done, ne_eqb r.number 0 kept) refl

-- the number and the place of what delivers nothing
pub nothing_number : (n p : ℕ) → (nothing n p).number ≡ n
unfolding nothing
nothing_number n p = refl

pub nothing_start : (n p : ℕ) → (nothing n p).start ≡ p
unfolding nothing
nothing_start n p = refl

module _ (s : List ℕ) (at : ℕ) (x : Lent) (n second : ℕ) where
  -- neither kept nor finished: the number, the block's place, and all is as it was
  abbrev Stays : Delivery → Type 0
  Stays d = (d.received.number ≡ 0 → ⊥) → (d.received.number ≡ 60 → ⊥) → d ≡ delivery_with (nothing d.received.number at) x

  piece_stays : (y : After) (id : ℕ) → Careful n x y → Stays (rebuilt at y id)
  unfolding rebuilt
  piece_stays y id c kept done = go c.refusal
    where
      k : (rebuilt_by at y.reply id).number ≡ y.reply.number
      k = number_is at y.reply id

      is : rebuilt_by at y.reply id ≡ nothing (rebuilt_by at y.reply id).number at
      is = refusal_is at y.reply id (λ e. kept (k ∙ e)) (λ e. done (k ∙ e)) ∙ ap (λ (z : ℕ). nothing z at) (sym k)

      go : ((y.reply.number ≡ 0) ⊎ ((y.reply.number ≡ 60) ⊎ (y ≡ after y.reply x))) → rebuilt at y id ≡ delivery_with (nothing (rebuilt_by at y.reply id).number at) x
      go (inl e) = absurd (kept (k ∙ e))
      go (inr (inl e)) = absurd (done (k ∙ e))
      go (inr (inr e)) =
          ap (λ (z : After). delivery_with (rebuilt_by at y.reply id) z.left) e
          ∙ ap (λ (r : Received). delivery_with r x) is

  block_stays : (kind : ℕ) (f : List ℕ) (p : Part) → Stays (delivered_by s at x n second kind f p)
  unfolding delivered_by whole_at nothing
  block_stays kind f p =
      by_kind (λ k. Stays (delivered_by s at x n second k f p))
      (λ kept done. absurd (kept refl))
      (piece_stays _ (message_id f) (careful_first x n (first_label f) second _))
      (piece_stays _ (follow_on_id f) (careful_follow_on x n (follow_on_label f) second _))
      (λ k h kept done. absurd (kept (ap (λ (d : Delivery). d.received.number) (other_is s at x n second k f p h))))
      kind

  pub delivery_stays : Stays (delivered s at x n second (read_at s at))
  unfolding delivered nothing
  delivery_stays = go (read_at s at).extent refl (read_at s at).fields (read_at s at).bytes
    where
      go : (e : Extent) → (read_at s at).extent ≡ e → (f : List ℕ) (p : Part) → Stays (delivered_end s at x n second e f p)
      go (End.Ends k z w) e f p = block_stays k f p
      go (End.Refused m o) e f p = λ kept done. ap (λ (q : ℕ). delivery_with (nothing m q) x) (read_numbers_lem s at m o e).0

-- kept and finished, a block's refusals, a piece's
abbrev pub delivery_numbers : List ℕ
delivery_numbers = 0 ∷ 60 ∷ 1 ∷ 2 ∷ 3 ∷ 4 ∷ 5 ∷ 6 ∷ 7 ∷ 8 ∷ 9 ∷ 50 ∷ 51 ∷ 52 ∷ 53 ∷ 54 ∷ 55 ∷ 56 ∷ 57 ∷ 58 ∷ 59 ∷ []

of_piece : (n : ℕ) → OneOf follow_on_numbers n → OneOf delivery_numbers n
of_piece n (inl e) = inl e
of_piece n (inr (inl e)) = inr (inl e)
of_piece n (inr (inr e)) = inr (inr (inr (inr (inr (inr (inr (inr (inr (inr (inr e))))))))))

of_block : (n : ℕ) → OneOf unread n → OneOf delivery_numbers n
of_block n (inl e) = inr (inr (inl e))
of_block n (inr (inl e)) = inr (inr (inr (inl e)))
of_block n (inr (inr (inl e))) = inr (inr (inr (inr (inl e))))
of_block n (inr (inr (inr (inl e)))) = inr (inr (inr (inr (inr (inl e)))))
of_block n (inr (inr (inr (inr (inl e))))) = inr (inr (inr (inr (inr (inr (inl e))))))
of_block n (inr (inr (inr (inr (inr (inl e)))))) = inr (inr (inr (inr (inr (inr (inr (inl e)))))))
of_block n (inr (inr (inr (inr (inr (inr (inl e))))))) = inr (inr (inr (inr (inr (inr (inr (inr (inl e))))))))
of_block n (inr (inr (inr (inr (inr (inr (inr (inl e)))))))) = inr (inr (inr (inr (inr (inr (inr (inr (inr (inl e)))))))))
of_block n (inr (inr (inr (inr (inr (inr (inr (inr e)))))))) = inr (inr (inr (inr (inr (inr (inr (inr (inr (inr (inl e))))))))))

none : OneOf delivery_numbers 0
none = of_piece 0 (inl refl)

module _ (s : List ℕ) (at : ℕ) (x : Lent) (n second : ℕ) where
  piece_numbers : (y : After) (id : ℕ) → OneOf follow_on_numbers y.reply.number → OneOf delivery_numbers (rebuilt at y id).received.number
  unfolding rebuilt
  piece_numbers y id e = of_piece _ (subst (OneOf follow_on_numbers) (sym (number_is at y.reply id)) e)

  block_numbers_lem : (kind : ℕ) (f : List ℕ) (p : Part) → OneOf delivery_numbers (delivered_by s at x n second kind f p).received.number
  unfolding delivered_by whole_at nothing
  block_numbers_lem kind f p =
      by_kind (λ k. OneOf delivery_numbers (delivered_by s at x n second k f p).received.number)
      none
      (piece_numbers _ (message_id f) (of_first _ (first_numbers_lem x n (first_label f) second _)))
      (piece_numbers _ (follow_on_id f) (follow_on_numbers_lem x n (follow_on_label f) second _))
      (λ k h. rw (other_is s at x n second k f p h) none)
      kind

  pub delivery_numbers_lem : OneOf delivery_numbers (delivered s at x n second (read_at s at)).received.number
  unfolding delivered nothing
  delivery_numbers_lem = go (read_at s at).extent refl (read_at s at).fields (read_at s at).bytes
    where
      go : (e : Extent) → (read_at s at).extent ≡ e → (f : List ℕ) (p : Part) → OneOf delivery_numbers (delivered_end s at x n second e f p).received.number
      go (End.Ends k z w) e f p = block_numbers_lem k f p
      go (End.Refused m o) e f p = of_block m (read_numbers_lem s at m o e).1
