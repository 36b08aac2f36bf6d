-- The two round trips. Assumes nothing.
use mathlib.Core.Path.{◌≡◌, refl, sym, ap, ap₂, ◌∙◌}
use mathlib.Core.Bool.{Bool, true, false, cond, ◌&&◌, ◌||◌, not, false≢true}
use mathlib.Core.List.{List, [], ◌∷◌, ◌++◌, append_assoc, append-nil}
use Prim.Native.Nat.{ℕ, zero, suc, ◌+◌, ◌/◌, ◌%◌, ◌^◌, ◌≤◌, ◌<◌}
use native.Mathlib.Omega.{arith}
use lib.Dec.{eqb, ltb}
use lib.ListN.{length, get_or, replicate, length-append}
use lib.Seq.{get_or-append-add}
use borrow.Author.Tests.{eqb-true, ltb-false, le-ltb}
use Rattle.wire.specs.Parts.{part, splice}
use Rattle.wire.specs.Numbers.{Bytes, little_at, big_at, little_bytes, big_bytes}
use Rattle.wire.proofs.Tests.{or_neither}
use Rattle.wire.proofs.Parts.{length_splice, get_d_part, part_left, part_right, part_middle, part_within, part_add, part_reads, splice_part}
use Rattle.wire.proofs.Numbers.{length_little, length_big, little_at_back, big_at_back, little_at_again, big_at_again}
use Rattle.keystream.specs.Chacha.{block}
use Rattle.keystream.specs.Mask.{masked}
use Rattle.keystream.proofs.Masks.{bytes_masked, bytes_block}
use Rattle.header.specs.declared.Long.{Long}
use Rattle.header.specs.declared.Fields.{Fields}
use Rattle.header.specs.declared.HeaderKind.TheVariants.{SessionConfirmed, Data}
use Rattle.std.specs.Prelude.{Ok}
use Rattle.header.specs.Kinds.{is_keyed, is_short, is_listed, is_version, masked_length, need_of}
use Rattle.header.specs.Unmasking.{stream, nonce1, nonce2, front, rest, packet_kind, unmasked}
use Rattle.header.specs.Reading.{front_refusal, read_number, long_at, long_header, header_at, header_answer, packet_after_read}
use Rattle.header.specs.Writing.{write_number, byte13, byte14, front_bytes, id_bytes, header_bytes, plain, written_packet}
use Rattle.header.specs.RoundTrip.{WordsInWidth, own, header_of, of_long, header_fields, UnnamedBitsZero, WrittenIsRead, ReadIsWritten}
use Rattle.header.proofs.Fronts.{length_front, front_twice, length_rest, rest_twice, part_rest, type_rest}
use Rattle.header.proofs.Refusals.{refusal_front, Taken, read_taken, read_room, Given, write_given, need_enough, need_keyed}
use Rattle.header.proofs.Plain.{length_front_bytes, length_id_bytes}

-- ---- a plain header, read

-- the header's bytes begin with the first 16
head_front : (f : Fields) (o n : ℕ) → o + n ≤ 16 → part (header_bytes f) o n ≡ part (front_bytes f) o n
unfolding header_bytes
head_front f o n h = by (is_short f.kind)
  where
    by : (s : Bool) → part (cond s (front_bytes f) (front_bytes f ++ id_bytes f)) o n ≡ part (front_bytes f) o n
    by true = refl
    by false = part_left (front_bytes f) (id_bytes f) o n (omega (arith, length_front_bytes f))

length_head : (f : Fields) → (16 ≤ length (header_bytes f)) × (length (header_bytes f) ≤ 32)
unfolding header_bytes
length_head f = by (is_short f.kind)
  where
    by : (s : Bool) → (16 ≤ length (cond s (front_bytes f) (front_bytes f ++ id_bytes f))) × (length (cond s (front_bytes f) (front_bytes f ++ id_bytes f)) ≤ 32)
    by true = (omega (arith, length_front_bytes f), omega (arith, length_front_bytes f))
    by false =
        let e : length (front_bytes f ++ id_bytes f) ≡ 32 = length-append (front_bytes f) (id_bytes f) ∙ omega (arith, length_front_bytes f, length_id_bytes f) in
        (omega arith, omega arith)

head_long : (f : Fields) → is_short f.kind ≡ false → header_bytes f ≡ front_bytes f ++ id_bytes f
unfolding header_bytes
head_long f e = rw e

-- the fields' bytes in them
module _ (f : Fields) where
  abbrev destination8 : List ℕ
  destination8 = little_bytes 8 f.destination

  abbrev number4 : List ℕ
  number4 = big_bytes 4 f.number

  abbrev kind4 : List ℕ
  kind4 = f.kind ∷ byte13 f ∷ byte14 f ∷ 0 ∷ []

  first_8 : part (front_bytes f) 0 8 ≡ little_bytes 8 f.destination
  unfolding front_bytes
  first_8 =
      ap (λ (z : List ℕ). part z 0 8) (append_assoc destination8 number4 kind4)
      ∙ part_middle [] destination8 (number4 ++ kind4) 0 8 refl (length_little 8 f.destination)

  next_4 : part (front_bytes f) 8 4 ≡ big_bytes 4 f.number
  unfolding front_bytes
  next_4 =
      ap (λ (z : List ℕ). part z 8 4) (append_assoc destination8 number4 kind4)
      ∙ part_middle destination8 number4 kind4 8 4 (length_little 8 f.destination) (length_big 4 f.number)

  last_4 : (i : ℕ) → get_or (front_bytes f) (12 + i) 0 ≡ get_or kind4 i 0
  unfolding front_bytes
  last_4 i =
      let twelve : length (destination8 ++ number4) ≡ 12 = simp (length-append, length_little, length_big) in
      ap (λ (k : ℕ). get_or (destination8 ++ number4 ++ kind4) (k + i) 0) (sym twelve)
      ∙ get_or-append-add (destination8 ++ number4) kind4 i 0

  source_8 : part (id_bytes f) 0 8 ≡ little_bytes 8 f.source
  unfolding id_bytes
  source_8 = part_middle [] (little_bytes 8 f.source) (little_bytes 8 f.token) 0 8 refl (length_little 8 f.source)

  token_8 : part (id_bytes f) 8 8 ≡ little_bytes 8 f.token
  unfolding id_bytes
  token_8 =
      ap (λ (z : List ℕ). part (little_bytes 8 f.source ++ z) 8 8) (sym (append-nil (little_bytes 8 f.token)))
      ∙ part_middle (little_bytes 8 f.source) (little_bytes 8 f.token) [] 8 8 (length_little 8 f.source) (length_little 8 f.token)

module _ (f : Fields) (p : List ℕ) (h : 32 ≤ length p) where
  fits : 0 + length (header_bytes f) ≤ length p
  fits = omega (arith, length_head f)

  length_plain : length (plain f p) ≡ length p
  unfolding plain
  length_plain = length_splice p 0 (header_bytes f) fits

  -- a part of the first 16 bytes
  part_plain : (o n : ℕ) → o + n ≤ 16 → part (plain f p) o n ≡ part (front_bytes f) o n
  unfolding plain
  part_plain o n g =
      let z : o ≡ 0 + o = omega arith in
      ap (λ (k : ℕ). part (splice p 0 (header_bytes f)) k n) z
      ∙ part_within p 0 (header_bytes f) fits o n (omega (arith, length_head f))
      ∙ head_front f o n g

  byte_plain : (i : ℕ) → i < 16 → get_or (plain f p) i 0 ≡ get_or (front_bytes f) i 0
  byte_plain i g =
      let z : i ≡ 0 + i = omega arith in
      ap (λ (k : ℕ). get_or (plain f p) k 0) z
      ∙ sym (get_d_part (plain f p) 0 16 i 0 g)
      ∙ ap (λ (l : List ℕ). get_or l i 0) (part_plain 0 16 (omega arith))
      ∙ get_d_part (front_bytes f) 0 16 i 0 g
      ∙ ap (λ (k : ℕ). get_or (front_bytes f) k 0) (sym z)

  type_plain : packet_kind (plain f p) ≡ f.kind
  type_plain = byte_plain 12 (omega arith) ∙ last_4 f 0

  plain_13 : get_or (plain f p) 13 0 ≡ byte13 f
  plain_13 = byte_plain 13 (omega arith) ∙ last_4 f 1

  plain_14 : get_or (plain f p) 14 0 ≡ byte14 f
  plain_14 = byte_plain 14 (omega arith) ∙ last_4 f 2

  plain_destination : f.destination < 2 ^ 64 → little_at 8 (plain f p) 0 ≡ f.destination
  plain_destination g = little_at_back 8 f.destination (plain f p) 0 g (part_plain 0 8 (omega arith) ∙ first_8 f)

  plain_number : f.number < 2 ^ 32 → big_at 4 (plain f p) 8 ≡ f.number
  plain_number g = big_at_back 4 f.number (plain f p) 8 g (part_plain 8 4 (omega arith) ∙ next_4 f)

  -- a part of the next 16 bytes, where there are such
  part_ids : is_short f.kind ≡ false → (o n : ℕ) → o + n ≤ 16 → part (plain f p) (16 + o) n ≡ part (id_bytes f) o n
  unfolding plain
  part_ids e o n g =
      let z : 16 + o ≡ 0 + (16 + o) = omega arith in
      let y : 16 + o ≡ length (front_bytes f) + o = omega (arith, length_front_bytes f) in
      let long : length (header_bytes f) ≡ 32 = ap length (head_long f e) ∙ length-append (front_bytes f) (id_bytes f) ∙ omega (arith, length_front_bytes f, length_id_bytes f) in
      ap (λ (k : ℕ). part (splice p 0 (header_bytes f)) k n) z
      ∙ part_within p 0 (header_bytes f) fits (16 + o) n (omega arith)
      ∙ ap₂ (λ (l : List ℕ) (k : ℕ). part l k n) (head_long f e) y
      ∙ part_right (front_bytes f) (id_bytes f) o n

  plain_source : is_short f.kind ≡ false → f.source < 2 ^ 64 → little_at 8 (plain f p) 16 ≡ f.source
  plain_source e g = little_at_back 8 f.source (plain f p) 16 g (part_ids e 0 8 (omega arith) ∙ source_8 f)

  plain_token : is_short f.kind ≡ false → f.token < 2 ^ 64 → little_at 8 (plain f p) 24 ≡ f.token
  plain_token e g = little_at_back 8 f.token (plain f p) 24 g (part_ids e 8 8 (omega arith) ∙ token_8 f)

-- ---- what the fields are, by type

-- bytes 13 and 14 of each type
byte13_confirmed : (f : Fields) → eqb f.kind 2 ≡ true → (ltb 15 f.fragment || ltb 15 f.count) ≡ false → (byte13 f / 16 ≡ f.fragment) × (byte13 f % 16 ≡ f.count)
unfolding byte13
byte13_confirmed f e n =
    let both = or_neither (ltb 15 f.fragment) (ltb 15 f.count) n in
    let a : f.fragment ≤ 15 = ltb-false 15 f.fragment both.0 in
    let b : f.count ≤ 15 = ltb-false 15 f.count both.1 in
    rw e (omega arith, omega arith)

byte13_data : (f : Fields) → eqb f.kind 2 ≡ false → eqb f.kind 6 ≡ true → eqb (byte13 f % 2) 1 ≡ f.immediate
unfolding byte13
byte13_data f e g = rw (e, g) (by f.immediate)
  where
    by : (a : Bool) → eqb (cond a 1 0 % 2) 1 ≡ a
    by true = refl
    by false = refl

byte13_long : (f : Fields) → eqb f.kind 2 ≡ false → eqb f.kind 6 ≡ false → byte13 f ≡ f.version
unfolding byte13
byte13_long f e g = rw (e, g)

byte14_long : (f : Fields) → eqb f.kind 2 ≡ false → eqb f.kind 6 ≡ false → byte14 f ≡ f.network
unfolding byte14
byte14_long f e g = rw (e, g)

-- the plain header gives the fields
kind_plain : (f : Fields) (p : List ℕ) (n : ℕ) → 32 ≤ length p → WordsInWidth f → Given f n → header_at (plain f p) ≡ header_of f
unfolding header_at header_of long_at
kind_plain f p n h w g =
    rw (type_plain f p h, plain_destination f p h w.destination, plain_number f p h w.number, plain_13 f p h, plain_14 f p h)
    (by (eqb f.kind 2) (eqb f.kind 6) refl refl)
  where
    by : (a b : Bool) → eqb f.kind 2 ≡ a → eqb f.kind 6 ≡ b
        → cond a (SessionConfirmed f.destination f.number (byte13 f / 16) (byte13 f % 16))
        (cond b (Data f.destination f.number (eqb (byte13 f % 2) 1))
        (long_header f.kind (record { destination = f.destination; number = f.number; version = byte13 f; network = byte14 f; source = little_at 8 (plain f p) 16; token = little_at 8 (plain f p) 24 })))
        ≡ cond a (SessionConfirmed f.destination f.number f.fragment f.count)
        (cond b (Data f.destination f.number f.immediate)
        (long_header f.kind (record { destination = f.destination; number = f.number; version = f.version; network = f.network; source = f.source; token = f.token })))
    by true b ea eb =
        let nib : (ltb 15 f.fragment || ltb 15 f.count) ≡ false = rw ea at g.nibbles in
        let v = byte13_confirmed f ea nib in
        rw (v.0, v.1)
    by false true ea eb = rw (byte13_data f ea eb)
    by false false ea eb =
        let s : is_short f.kind ≡ false = rw (ea, eb) in
        rw (byte13_long f ea eb, byte14_long f ea eb, plain_source f p h s w.source, plain_token f p h s w.token)

-- ---- reading what was written

-- what is masked from 16 on is no part of the first 16 bytes
front_rest : (k2 : List ℕ) (t : ℕ) (q : List ℕ) → 16 + masked_length t ≤ length q → (n : ℕ) → front_refusal (rest k2 t q) n ≡ front_refusal q n
front_rest k2 t q h n =
    sym (refusal_front (rest k2 t q) n)
    ∙ ap (λ (z : List ℕ). front_refusal z n) (part_rest k2 t q 0 16 h (omega arith))
    ∙ refusal_front q n

-- fields that are not refused make a header that is not refused
refusal_plain : (f : Fields) (p : List ℕ) → 32 ≤ length p → WordsInWidth f → Given f (length p) → front_refusal (plain f p) (length p) ≡ 0
unfolding front_refusal
refusal_plain f p h w g =
    rw (type_plain f p h, plain_13 f p h, plain_number f p h w.number, g.listed, version_13, keyed_long (is_keyed f.kind) refl, g.numbered)
  where
    version_by : (a b : Bool) → eqb f.kind 2 ≡ a → eqb f.kind 6 ≡ b → (not (a || b) && not (is_version (byte13 f))) ≡ false
    version_by true b ea eb = refl
    version_by false true ea eb = refl
    version_by false false ea eb = rw (byte13_long f ea eb) (rw (ea, eb) at g.versed)

    version_13 : (not (is_short f.kind) && not (is_version (byte13 f))) ≡ false
    version_13 = version_by (eqb f.kind 2) (eqb f.kind 6) refl refl

    need_88 : is_keyed f.kind ≡ true → 88 ≤ length p
    need_88 e = omega (arith, g.room, need_keyed f.kind e)

    keyed_long : (k : Bool) → is_keyed f.kind ≡ k → (k && ltb (length p) 64) ≡ false
    keyed_long true e = le-ltb (length p) 64 (omega (arith, need_88 e))
    keyed_long false e = refl

pub written_is_read : WrittenIsRead
unfolding written_packet read_number header_answer packet_after_read unmasked
written_is_read k1 k2 f p w e =
    let g = write_given f (length p) e in
    let need = need_enough f.kind in
    let h32 : 32 ≤ length p = omega (arith, g.room) in
    let q = plain f p in
    let lq : length q ≡ length p = length_plain f p h32 in
    let hq : 16 + masked_length f.kind ≤ length q = omega (arith, g.room) in
    let x = rest k2 f.kind q in
    let lx : length x ≡ length p = length_rest k2 f.kind q hq ∙ lq in
    let hx : 40 ≤ length x = omega (arith, g.room) in
    let y = front k1 k2 x in
    let ly : length y ≡ length p = length_front k1 k2 x hx ∙ lx in
    let back : front k1 k2 y ≡ x = front_twice k1 k2 x hx in
    let type : packet_kind x ≡ f.kind = type_rest k2 f.kind q hq ∙ type_plain f p h32 in
    let none : front_refusal x (length p) ≡ 0 = front_rest k2 f.kind q hq (length p) ∙ refusal_plain f p h32 w g in
    let number : read_number k1 k2 y ≡ 0 = rw (le-ltb (length y) 40 (omega arith), back, ly) none in
    let whole : rest k2 (packet_kind (front k1 k2 y)) (front k1 k2 y) ≡ q = rw (back, type) (rest_twice k2 f.kind q hq) in
    (rw number (ap Ok (ap header_at whole ∙ kind_plain f p (length p) h32 w g)), rw number whole)

-- ---- writing what was read

-- the fields that reading gave are those of the unmasked header
record Same (f : Fields) (u : List ℕ) : Type 0 where
  kind : f.kind ≡ packet_kind u
  destination : f.destination ≡ little_at 8 u 0
  number : f.number ≡ big_at 4 u 8
  thirteen : byte13 f ≡ get_or u 13 0
  fourteen : byte14 f ≡ get_or u 14 0
  version : is_short (packet_kind u) ≡ false → f.version ≡ get_or u 13 0
  source : is_short (packet_kind u) ≡ false → f.source ≡ little_at 8 u 16
  token : is_short (packet_kind u) ≡ false → f.token ≡ little_at 8 u 24
  nibbles : (eqb f.kind 2 && (ltb 15 f.fragment || ltb 15 f.count)) ≡ false

-- a listed type that is not a short one keeps its number
pub long_fields : (t : ℕ) (l : Long) → is_listed t ≡ true → eqb t 2 ≡ false → eqb t 6 ≡ false → header_fields (long_header t l) ≡ of_long t l
unfolding is_listed long_header
long_fields t l e e2 e6 = go (eqb t 0) (eqb t 1) (eqb t 7) (eqb t 9) (eqb t 10) refl refl refl refl refl
  where
    go : (a b c d g : Bool) → eqb t 0 ≡ a → eqb t 1 ≡ b → eqb t 7 ≡ c → eqb t 9 ≡ d → eqb t 10 ≡ g → header_fields (long_header t l) ≡ of_long t l
    go true b c d g ea eb ec ed eg = rw (eqb-true t 0 ea)
    go false true c d g ea eb ec ed eg = rw (eqb-true t 1 eb)
    go false false true d g ea eb ec ed eg = rw (eqb-true t 7 ec)
    go false false false true g ea eb ec ed eg = rw (eqb-true t 9 ed)
    go false false false false true ea eb ec ed eg = rw (eqb-true t 10 eg)
    go false false false false false ea eb ec ed eg =
        let last : eqb t 11 ≡ true = rw (ea, eb, e2, e6, ec, ed, eg) at e in
        rw (eqb-true t 11 last)

-- what fields stand for has the fields of its type
pub fields_shown : (f : Fields) → is_listed f.kind ≡ true → header_fields (header_of f) ≡ own f
unfolding header_of own
fields_shown f listed = go (eqb f.kind 2) (eqb f.kind 6) refl refl
  where
    go : (a b : Bool) → eqb f.kind 2 ≡ a → eqb f.kind 6 ≡ b → header_fields (header_of f) ≡ own f
    go true b ea eb = rw (eqb-true f.kind 2 ea)
    go false true ea eb = rw (eqb-true f.kind 6 eb)
    go false false ea eb = rw (ea, eb) (long_fields f.kind _ listed ea eb)

-- the short types by the tests of the others
short_2 : (t : ℕ) → eqb t 2 ≡ true → is_short t ≡ true
short_2 t e = rw e

short_6 : (t : ℕ) → eqb t 2 ≡ false → eqb t 6 ≡ true → is_short t ≡ true
short_6 t e g = rw (e, g)

never_both : {A : Type 0} {b : Bool} → b ≡ true → b ≡ false → A
never_both e g = absurd (false≢true (sym g ∙ e))

bit : (b : ℕ) → b < 2 → ◌≡◌ {A = ℕ} (cond (eqb (b % 2) 1) 1 0) b
bit zero h = refl
bit (suc zero) h = refl
bit (suc (suc b)) h = absurd (omega arith)

module _ (u : List ℕ) (bytes : Bytes u) (others : UnnamedBitsZero u) where
  same_confirmed : eqb (packet_kind u) 2 ≡ true → Same (header_fields (SessionConfirmed (little_at 8 u 0) (big_at 4 u 8) (get_or u 13 0 / 16) (get_or u 13 0 % 16))) u
  unfolding byte13 byte14
  same_confirmed e =
      let s = short_2 (packet_kind u) e in
      let b : get_or u 13 0 < 256 = bytes 13 in
      record {
        kind = sym (eqb-true (packet_kind u) 2 e);
        destination = refl;
        number = refl;
        thirteen = omega arith;
        fourteen = sym (others.short s);
        version = λ n. never_both s n;
        source = λ n. never_both s n;
        token = λ n. never_both s n;
        nibbles = rw (le-ltb 15 (get_or u 13 0 / 16) (omega arith), le-ltb 15 (get_or u 13 0 % 16) (omega arith));
      }

  same_data : eqb (packet_kind u) 2 ≡ false → eqb (packet_kind u) 6 ≡ true → Same (header_fields (Data (little_at 8 u 0) (big_at 4 u 8) (eqb (get_or u 13 0 % 2) 1))) u
  unfolding byte13 byte14
  same_data e g =
      let s = short_6 (packet_kind u) e g in
      let t = eqb-true (packet_kind u) 6 g in
      record {
        kind = sym t;
        destination = refl;
        number = refl;
        thirteen = bit (get_or u 13 0) (others.flags t);
        fourteen = sym (others.short s);
        version = λ n. never_both s n;
        source = λ n. never_both s n;
        token = λ n. never_both s n;
        nibbles = refl;
      }

  same_long : is_listed (packet_kind u) ≡ true → eqb (packet_kind u) 2 ≡ false → eqb (packet_kind u) 6 ≡ false → Same (header_fields (long_header (packet_kind u) (long_at u))) u
  unfolding byte13 byte14 long_at
  same_long l e g =
      rw (long_fields (packet_kind u) (long_at u) l e g)
      (record {
        kind = refl;
        destination = refl;
        number = refl;
        thirteen = rw (e, g);
        fourteen = rw (e, g);
        version = λ n. refl;
        source = λ n. refl;
        token = λ n. refl;
        nibbles = rw e;
      })

  same_fields : is_listed (packet_kind u) ≡ true → Same (header_fields (header_at u)) u
  unfolding header_at
  same_fields listed = go (eqb (packet_kind u) 2) (eqb (packet_kind u) 6) refl refl
    where
      go : (x y : Bool) → eqb (packet_kind u) 2 ≡ x → eqb (packet_kind u) 6 ≡ y
          → Same (header_fields (cond x (SessionConfirmed (little_at 8 u 0) (big_at 4 u 8) (get_or u 13 0 / 16) (get_or u 13 0 % 16))
          (cond y (Data (little_at 8 u 0) (big_at 4 u 8) (eqb (get_or u 13 0 % 2) 1)) (long_header (packet_kind u) (long_at u))))) u
      go true y ex ey = same_confirmed ex
      go false true ex ey = same_data ex ey
      go false false ex ey = same_long listed ex ey

-- the fields' bytes are the unmasked header's
module _ (u : List ℕ) (f : Fields) (h : 32 ≤ length u) (bytes : Bytes u) (others : UnnamedBitsZero u) (same : Same f u) where
  front_again : front_bytes f ≡ part u 0 16
  unfolding front_bytes
  front_again =
      rw (same.thirteen, same.fourteen, same.destination, same.number, same.kind)
      (ap (λ (x : ℕ). little_bytes 8 (little_at 8 u 0) ++ big_bytes 4 (big_at 4 u 8) ++ (get_or u 12 0 ∷ get_or u 13 0 ∷ get_or u 14 0 ∷ x ∷ [])) (sym others.last)
      ∙ ap₂ (λ (a b : List ℕ). a ++ b ++ (get_or u 12 0 ∷ get_or u 13 0 ∷ get_or u 14 0 ∷ get_or u 15 0 ∷ [])) (little_at_again 8 u 0 (omega arith) bytes) (big_at_again 4 u 8 (omega arith) bytes)
      ∙ ap₂ (λ (a b : List ℕ). a ++ b) (sym (part_add u 0 8 4)) (sym (part_reads u 12 3 0 (omega arith)))
      ∙ sym (part_add u 0 12 4))

  ids_again : is_short (packet_kind u) ≡ false → id_bytes f ≡ part u 16 16
  unfolding id_bytes
  ids_again s =
      rw (same.source s, same.token s)
      (ap₂ (λ (a b : List ℕ). a ++ b) (little_at_again 8 u 16 (omega arith) bytes) (little_at_again 8 u 24 (omega arith) bytes)
      ∙ sym (part_add u 16 8 8))

  plain_again : plain f u ≡ u
  unfolding plain header_bytes
  plain_again = go (is_short f.kind) refl
    where
      go : (s : Bool) → is_short f.kind ≡ s → splice u 0 (cond s (front_bytes f) (front_bytes f ++ id_bytes f)) ≡ u
      go true e = ap (splice u 0) front_again ∙ splice_part u 0 16 (omega arith)
      go false e =
          ap (splice u 0) (ap₂ (λ (a b : List ℕ). a ++ b) front_again (ids_again (ap is_short (sym same.kind) ∙ e)) ∙ sym (part_add u 0 16 16))
          ∙ splice_part u 0 32 (omega arith)

  -- they are not refused where the unmasked header was not, and the packet is as long as writing needs
  number_again : (n : ℕ) → Taken u n → need_of (packet_kind u) ≤ n → write_number f n ≡ 0
  unfolding write_number
  number_again n t need =
      rw (same.nibbles, same.kind, same.number, t.listed, version_again, t.numbered, le-ltb n (need_of (packet_kind u)) need)
    where
      go : (s : Bool) → is_short (packet_kind u) ≡ s → (not s && not (is_version f.version)) ≡ false
      go true e = refl
      go false e = rw (same.version e) (rw e at t.versed)

      version_again : (not (is_short (packet_kind u)) && not (is_version f.version)) ≡ false
      version_again = go (is_short (packet_kind u)) refl

bytes_front : (k1 k2 p : List ℕ) → Bytes p → Bytes (front k1 k2 p)
unfolding front stream
bytes_front k1 k2 p b =
    let n1 = nonce1 p in
    let n2 = nonce2 p in
    bytes_masked (masked p 0 8 (block k1 1 n1)) (block k2 1 n2) 8 8 (bytes_masked p (block k1 1 n1) 0 8 b (bytes_block k1 1 n1)) (bytes_block k2 1 n2)

bytes_rest : (k2 : List ℕ) (t : ℕ) (p : List ℕ) → Bytes p → Bytes (rest k2 t p)
unfolding rest stream
bytes_rest k2 t p b = bytes_masked p (block k2 1 (replicate 12 0)) 16 (masked_length t) b (bytes_block k2 1 (replicate 12 0))

pub bytes_unmasked : (k1 k2 p : List ℕ) → Bytes p → Bytes (unmasked k1 k2 p)
unfolding unmasked
bytes_unmasked k1 k2 p b = bytes_rest k2 (packet_kind (front k1 k2 p)) (front k1 k2 p) (bytes_front k1 k2 p b)

pub bytes_written : (k1 k2 : List ℕ) (f : Fields) (p : List ℕ) → Bytes (plain f p) → Bytes (written_packet k1 k2 f p)
unfolding written_packet
bytes_written k1 k2 f p b = bytes_front k1 k2 (rest k2 f.kind (plain f p)) (bytes_rest k2 f.kind (plain f p) b)

-- a packet that was read
pub read_passed : (k1 k2 p : List ℕ) → read_number k1 k2 p ≡ 0 → (40 ≤ length p) × (front_refusal (front k1 k2 p) (length p) ≡ 0)
unfolding read_number
read_passed k1 k2 p e = go (ltb (length p) 40) refl e
  where
    go : (b : Bool) → ltb (length p) 40 ≡ b → cond b 20 (front_refusal (front k1 k2 p) (length p)) ≡ 0 → (40 ≤ length p) × (front_refusal (front k1 k2 p) (length p) ≡ 0)
    go true eb z = absurd (omega arith)
    go false eb z = (ltb-false (length p) 40 eb, z)

module _ (k1 k2 p : List ℕ) (h : 40 ≤ length p) (z : front_refusal (front k1 k2 p) (length p) ≡ 0) where
  room : 16 + masked_length (packet_kind (front k1 k2 p)) ≤ length (front k1 k2 p)
  room = rw (length_front k1 k2 p h) (read_room (front k1 k2 p) (length p) h z)

  pub length_unmasked : length (unmasked k1 k2 p) ≡ length p
  unfolding unmasked
  length_unmasked = length_rest k2 (packet_kind (front k1 k2 p)) (front k1 k2 p) room ∙ length_front k1 k2 p h

  type_unmasked : packet_kind (unmasked k1 k2 p) ≡ packet_kind (front k1 k2 p)
  unfolding unmasked
  type_unmasked = type_rest k2 (packet_kind (front k1 k2 p)) (front k1 k2 p) room

  pub taken_unmasked : Taken (unmasked k1 k2 p) (length p)
  unfolding unmasked
  taken_unmasked =
      read_taken (unmasked k1 k2 p) (length p) (front_rest k2 (packet_kind (front k1 k2 p)) (front k1 k2 p) room (length p) ∙ z)

  -- masked again, the unmasked packet is the packet
  masked_again : front k1 k2 (rest k2 (packet_kind (unmasked k1 k2 p)) (unmasked k1 k2 p)) ≡ p
  unfolding unmasked
  masked_again =
      ap (λ (t : ℕ). front k1 k2 (rest k2 t (unmasked k1 k2 p))) type_unmasked
      ∙ ap (front k1 k2) (rest_twice k2 (packet_kind (front k1 k2 p)) (front k1 k2 p) room)
      ∙ front_twice k1 k2 p h

pub read_is_written : ReadIsWritten
unfolding written_packet
read_is_written k1 k2 p b e others need =
    let passed = read_passed k1 k2 p e in
    let h = passed.0 in
    let u = unmasked k1 k2 p in
    let f = header_fields (header_at u) in
    let taken = taken_unmasked k1 k2 p h passed.1 in
    let bytes = bytes_unmasked k1 k2 p b in
    let same = same_fields u bytes others taken.listed in
    let long : 32 ≤ length u = omega (arith, length_unmasked k1 k2 p h passed.1) in (
      number_again u f long bytes others same (length p) taken need,
      ap₂ (λ (t : ℕ) (q : List ℕ). front k1 k2 (rest k2 t q)) same.kind (plain_again u f long bytes others same)
          ∙ masked_again k1 k2 p h passed.1,
    )
