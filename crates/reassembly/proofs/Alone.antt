-- A neighbour is alone with its share: what its turns are answered, and what its share becomes, is as if no other neighbour were there. Assumes nothing.
--
-- How to use it: let C be your calls, with all that each is lent for itself (a piece, a payload, an assembly buffer), and A what a call tells. `turn` is your call on
-- record and room, `own` the same on a neighbour's share, `mine` says which calls are neighbour n's own or sweeps. For each call give a `Turns`: from `call_turn`
-- (a piece of any neighbour), `swept_turn`, or `stays_turn` (all stays: a block that is no piece). Then `alone` has the answers and the shares at the end, and
-- `two_runs` compares two runs.
use mathlib.Core.Path.{◌≡◌, refl, sym, ap, ◌∙◌}
use mathlib.Core.Bool.{Bool, true, false, false≢true}
use mathlib.Core.List.{List, [], ◌∷◌}
use mathlib.Core.Logic.{◌≢◌}
use Prim.Native.Nat.{ℕ, ◌≤◌, ◌<◌}
use native.Mathlib.Omega.{arith}
use lib.Dec.{eqb, ltb}
use lib.ListN.{length}
use borrow.Author.Tests.{eqb-true, eqb-false, ltb-true, ltb-false}
use Rattle.reassembly.specs.Sizes.{room_size, record_size}
use Rattle.reassembly.specs.declared.Reply.{Reply}
use Rattle.reassembly.specs.Calls.{lent, After, refuses, share_swept}
use Rattle.reassembly.specs.Shares.{share_of, share_of_room, swept}
use Rattle.reassembly.specs.Turns.{Turned, turned, said_each, record_left, room_left, said_those, those}
use Rattle.reassembly.proofs.Own.{Own}
use Rattle.reassembly.proofs.SharesSwept.{swept_length, swept_share}

module _ {A : Type 0} where
  -- z is what a turn did to record and room, o what it does to neighbour n's share alone, b whether n's share meets it
  pub record Turns (n : ℕ) (rec room : List ℕ) (b : Bool) (z o : Turned A) : Type 0 where
    pub rec_long : record_size ≤ length z.rec
    pub room_long : room_size ≤ length z.room
    pub met : b ≡ true → (z.said ≡ o.said) × (share_of z.rec n ≡ o.rec) × (share_of_room z.room n ≡ o.room)
    pub unmet : b ≡ false → (share_of z.rec n ≡ share_of rec n) × (share_of_room z.room n ≡ share_of_room room n)

  module _ (n : ℕ) (rec room : List ℕ) (long : record_size ≤ length rec) (wide : room_size ≤ length room) where
    -- all stays, and n's own call is told the same
    pub stays_turn : (b : Bool) (said : A) → Turns n rec room b (turned said rec room) (turned said (share_of rec n) (share_of_room room n))
    stays_turn b said = record { rec_long = long; room_long = wide; met = λ t. (refl, refl, refl); unmet = λ f. (refl, refl) }

    -- a call of neighbour m: it is 58 above 3, and else does to m's share what y has become of it; what it tells is made of its reply and its assembly buffer
    module _ (one : n < 4) (tell : Reply → List ℕ → A) (out : List ℕ) (m : ℕ) (y z : After) (o : Turned A)
        (above : 3 < m → z ≡ refuses 58 (lent rec room out)) (below : m ≤ 3 → Own (lent rec room out) m y z)
        (same : m ≡ n → turned (tell y.reply y.left.out) y.left.rec y.left.room ≡ o) where
      pub call_turn : Turns n rec room (eqb m n) (turned (tell z.reply z.left.out) z.left.rec z.left.room) o
      call_turn = go (eqb m n) refl
        where
          mine : m ≡ n → Own (lent rec room out) m y z
              → Turns n rec room true (turned (tell z.reply z.left.out) z.left.rec z.left.room) (turned (tell y.reply y.left.out) y.left.rec y.left.room)
          mine q c =
              record {
                rec_long = omega (arith, c.rec_long);
                room_long = omega (arith, c.room_long);
                met = λ t. (rw (c.reply, c.out) refl, ap (share_of z.left.rec) (sym q) ∙ c.own, ap (share_of_room z.left.room) (sym q) ∙ c.own_room);
                unmet = λ f. absurd (false≢true (sym f));
              }

          others : m ≢ n → Own (lent rec room out) m y z → Turns n rec room false (turned (tell z.reply z.left.out) z.left.rec z.left.room) o
          others q c =
              record {
                rec_long = omega (arith, c.rec_long);
                room_long = omega (arith, c.room_long);
                met = λ t. absurd (false≢true t);
                unmet = λ f. (c.others n (λ e. q (sym e)), c.others_room n (λ e. q (sym e)));
              }

          far : (b : Bool) → ltb 3 m ≡ b → m ≢ n → Turns n rec room false (turned (tell z.reply z.left.out) z.left.rec z.left.room) o
          far true t q = rw (above (ltb-true 3 m t)) (record { rec_long = long; room_long = wide; met = λ t. absurd (false≢true t); unmet = λ f. (refl, refl) })
          far false t q = others q (below (ltb-false 3 m t))

          go : (b : Bool) → eqb m n ≡ b → Turns n rec room b (turned (tell z.reply z.left.out) z.left.rec z.left.room) o
          go true e = let q : m ≡ n = eqb-true m n e in rw (sym (same q)) (mine q (below (omega arith)))
          go false e = far (ltb 3 m) refl (eqb-false m n e)

    -- a sweep
    pub swept_turn : n < 4 → (second : ℕ) (said : A)
        → Turns n rec room true (turned said (swept second rec) room) (turned said (share_swept second (share_of rec n)) (share_of_room room n))
    swept_turn h second said =
        record {
          rec_long = omega (arith, swept_length second rec long, long);
          room_long = wide;
          met = λ t. (refl, swept_share second rec long n h, refl);
          unmet = λ f. absurd (false≢true (sym f));
        }

-- ---- a run of turns

-- Neighbour n is alone with its share: what its turns are told, of all turns, and what its share is at the end, is what the same turns, without any other, are told
-- and leave on the share alone. `turn` is a turn on record and room, `own` on a share; `mine` says which turns the share meets.
pub record Alone {C A : Type 0} (turn own : List ℕ → List ℕ → C → Turned A) (mine : C → Bool) (n : ℕ) (rec room s m : List ℕ) (cs : List C) : Type 0 where
  pub told : said_those mine cs (said_each turn rec room cs) ≡ said_each own s m (those mine cs)
  pub rec_ends : share_of (record_left turn rec room cs) n ≡ record_left own s m (those mine cs)
  pub room_ends : share_of_room (room_left turn rec room cs) n ≡ room_left own s m (those mine cs)
  pub rec_long : record_size ≤ length (record_left turn rec room cs)
  pub room_long : room_size ≤ length (room_left turn rec room cs)

module _ {C A : Type 0} (turn own : List ℕ → List ℕ → C → Turned A) (mine : C → Bool) (n : ℕ)
    (turns : (rec room : List ℕ) → record_size ≤ length rec → room_size ≤ length room → (c : C) → Turns n rec room (mine c) (turn rec room c) (own (share_of rec n) (share_of_room room n) c)) where
  abbrev With : List ℕ → List ℕ → List ℕ → List ℕ → List C → Type 0
  With rec room s m cs = Alone turn own mine n rec room s m cs

  -- one turn more
  step : (rec room s m : List ℕ) → share_of rec n ≡ s → share_of_room room n ≡ m → (c : C) (cs : List C) → Turns n rec room (mine c) (turn rec room c) (own (share_of rec n) (share_of_room room n) c)
      → ((s' m' : List ℕ) → share_of (turn rec room c).rec n ≡ s' → share_of_room (turn rec room c).room n ≡ m' → With (turn rec room c).rec (turn rec room c).room s' m' cs)
      → With rec room s m (c ∷ cs)
  step rec room s m es em c cs t rest = go (mine c) refl
    where
      here : own (share_of rec n) (share_of_room room n) c ≡ own s m c
      here = rw (es, em) refl

      go : (b : Bool) → mine c ≡ b → With rec room s m (c ∷ cs)
      go true e =
          let r : With (turn rec room c).rec (turn rec room c).room (own s m c).rec (own s m c).room cs =
          rest (own s m c).rec (own s m c).room ((t.met e).1 ∙ ap (λ (o : Turned A). o.rec) here) ((t.met e).2 ∙ ap (λ (o : Turned A). o.room) here)
          in
          let q : (turn rec room c).said ≡ (own s m c).said = (t.met e).0 ∙ ap (λ (o : Turned A). o.said) here in
          record { told = rw (e, q, r.told) refl; rec_ends = rw e r.rec_ends; room_ends = rw e r.room_ends; rec_long = r.rec_long; room_long = r.room_long }
      go false e =
          let r : With (turn rec room c).rec (turn rec room c).room s m cs = rest s m ((t.unmet e).0 ∙ es) ((t.unmet e).1 ∙ em) in
          record { told = rw e r.told; rec_ends = rw e r.rec_ends; room_ends = rw e r.room_ends; rec_long = r.rec_long; room_long = r.room_long }

  alone_from : (rec room s m : List ℕ) → record_size ≤ length rec → room_size ≤ length room → share_of rec n ≡ s → share_of_room room n ≡ m → (cs : List C) → With rec room s m cs
  alone_from rec room s m long wide es em [] = record { told = refl; rec_ends = es; room_ends = em; rec_long = long; room_long = wide }
  alone_from rec room s m long wide es em (c ∷ cs) =
      step rec room s m es em c cs (turns rec room long wide c)
      (λ s' m' es' em'. alone_from (turn rec room c).rec (turn rec room c).room s' m' (turns rec room long wide c).rec_long (turns rec room long wide c).room_long es' em' cs)

  pub alone : (rec room : List ℕ) → record_size ≤ length rec → room_size ≤ length room → (cs : List C) → With rec room (share_of rec n) (share_of_room room n) cs
  alone rec room long wide cs = alone_from rec room (share_of rec n) (share_of_room room n) long wide refl refl cs

  -- two runs, on two records and rooms that have n's shares in common: whatever the others do, where n's own turns are the same, so is all that n has of them
  pub two_runs : (rec room rec' room' : List ℕ) → record_size ≤ length rec → room_size ≤ length room → record_size ≤ length rec' → room_size ≤ length room'
      → share_of rec n ≡ share_of rec' n → share_of_room room n ≡ share_of_room room' n
      → (cs ds : List C) → those mine cs ≡ those mine ds
      → (said_those mine cs (said_each turn rec room cs) ≡ said_those mine ds (said_each turn rec' room' ds))
      × (share_of (record_left turn rec room cs) n ≡ share_of (record_left turn rec' room' ds) n)
      × (share_of_room (room_left turn rec room cs) n ≡ share_of_room (room_left turn rec' room' ds) n)
  two_runs rec room rec' room' long wide long' wide' es em cs ds e =
      let a : With rec room (share_of rec n) (share_of_room room n) cs = alone rec room long wide cs in
      let b : With rec' room' (share_of rec n) (share_of_room room n) ds = alone_from rec' room' (share_of rec n) (share_of_room room n) long' wide' (sym es) (sym em) ds in (
        a.told ∙ ap (said_each own (share_of rec n) (share_of_room room n)) e ∙ sym b.told,
        a.rec_ends ∙ ap (record_left own (share_of rec n) (share_of_room room n)) e ∙ sym b.rec_ends,
        a.room_ends ∙ ap (room_left own (share_of rec n) (share_of_room room n)) e ∙ sym b.room_ends,
      )
