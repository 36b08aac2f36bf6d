-- A slot with nothing held: what a message that is opened now stands for. Assumes nothing.
use mathlib.Core.Path.{◌≡◌, refl, sym, ap, ◌∙◌, subst}
use mathlib.Core.Bool.{Bool, true, false, ◌&&◌, false≢true, and-false}
use mathlib.Core.List.{List, [], ◌∷◌}
use mathlib.Core.Option.{none}
use Prim.Native.Nat.{ℕ, zero, suc, ◌+◌, ◌≤◌, ◌<◌}
use native.Mathlib.Omega.{arith}
use lib.Dec.{eqb, ltb}
use lib.ListN.{length, get_or, replicate}
use borrow.Author.Tests.{ne_eqb, le-ltb, ltb-true}
use Rattle.wire.specs.Parts.{part}
use Rattle.wire.proofs.Parts.{part_none}
use Rattle.wire.specs.Series.{series}
use Rattle.reassembly.specs.Sizes.{share_size}
use Rattle.reassembly.specs.declared.Entry.{Entry}
use Rattle.reassembly.specs.declared.Label.{Label}
use Rattle.reassembly.specs.Store.{Piece, id_of, Message, is_held, total, message_or}
use Rattle.reassembly.specs.Record.{cleared, room_of, piece_at}
use Rattle.reassembly.specs.Judge.{pick, misfits, more_of, grown_by, is_complete, new_head}
use Rattle.reassembly.specs.Stands.{table_at, message_with, held_of, Fine, label_of}
use Rattle.wire.proofs.Series.{series_same}
use Rattle.reassembly.proofs.Written.{cleared_entry}
use Rattle.reassembly.proofs.Answers.{label_id}

series_const : {A : Type 0} (x : A) (i n : ℕ) → series (λ k. x) i n ≡ replicate n x
series_const x i zero = refl
series_const x i (suc n) = ap (λ z. x ∷ z) (series_const x (i + 1) n)

total_none : (n : ℕ) → total (replicate n []) ≡ 0
total_none zero = refl
total_none (suc n) = rw (total_none n) refl

held_none : (n : ℕ) → held_of (replicate n []) ≡ 0
held_none zero = refl
held_none (suc n) = rw (held_none n) refl

none_there : (n k : ℕ) → is_held (get_or (replicate n []) k []) ≡ false
none_there zero k = refl
none_there (suc n) zero = refl
none_there (suc n) (suc k) = none_there n k

module _ (rec room : List ℕ) (i : ℕ) (rlong : share_size ≤ length rec) (hi : i < 4) where
  pub table_none : table_at (cleared rec i) room i ≡ replicate 128 []
  unfolding table_at
  table_none = series_same (piece_at (cleared rec i) room i) (λ k. []) 128 [] none_at ∙ series_const {A = List ℕ} [] 0 128
    where
      none_at : (k : ℕ) → k < 128 → piece_at (cleared rec i) room i k ≡ []
      none_at k hk = unfold piece_at in (ap (λ (e : Entry). part (room_of room i) e.place e.len) (cleared_entry rec rlong i hi k hk) ∙ part_none (room_of room i) 0)

  pub none_held : (k : ℕ) → is_held (get_or (table_at (cleared rec i) room i) k []) ≡ false
  none_held k = ap (λ (t : List (List ℕ)). is_held (get_or t k [])) table_none ∙ none_there 128 k

  pub fresh_is : (p : Piece) (second : ℕ) → ◌≡◌ {A = Message} (message_or none (id_of p) second) (message_with (new_head (label_of p) second) (cleared rec i) room i)
  unfolding message_or message_with new_head
  fresh_is p second = λ j. record { id = sym (label_id p) j; opened = second; kind = 0; expires = 0; last = 0; table = sym table_none j }

  pub fresh_fine : (l : Label) (second : ℕ) → l.id < 4294967296 → second < 18446744073709551616 → Fine (new_head l second) (cleared rec i) room i
  unfolding new_head
  fresh_fine l second hl hs =
      record {
        id = hl;
        opened = hs;
        expires = omega arith;
        small = omega arith;
        inside = λ k hk. subst (λ (e : Entry). e.place + e.len ≤ 0) (sym (cleared_entry rec rlong i hi k hk)) (omega arith);
        filled = sym (ap total table_none ∙ total_none 128);
        counted = sym (ap held_of table_none ∙ held_none 128);
        top_held = λ z. absurd (let y : ◌≡◌ {A = ℕ} 0 1 = omega arith in omega arith);
        topmost = λ k e. absurd (false≢true (sym (none_held k) ∙ e));
        last_small = omega arith;
        lastmost = λ z k e. absurd (false≢true (sym (none_held k) ∙ e));
      }

pub fresh_fits : (l : Label) (second : ℕ) → misfits (new_head l second) l ≡ false
unfolding misfits new_head
fresh_fits l second = rw (le-ltb l.number 0 (omega arith)) (and-false l.last)

-- one piece does not complete a message
pub fresh_part : (l : Label) (second n : ℕ) → is_complete (grown_by (new_head l second) l n) ≡ false
unfolding is_complete grown_by new_head more_of
fresh_part l second n = go (pick l.last l.number 0)
  where
    one : (x : ℕ) (b c : Bool) → eqb 1 (x + 1) ≡ c → ltb 0 x ≡ b → (ltb 0 x && ltb x 128 && eqb 1 (x + 1)) ≡ false
    one x false c q e = rw e refl
    one x true c q e =
        let z : 0 < x = ltb-true 0 x e in
        rw (e, ne_eqb 1 (x + 1) (λ y. omega arith)) (and-false (ltb x 128))

    go : (x : ℕ) → (ltb 0 x && ltb x 128 && eqb 1 (x + 1)) ≡ false
    go x = one x (ltb 0 x) (eqb 1 (x + 1)) refl refl
