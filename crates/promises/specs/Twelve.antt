-- The twelve marked cases of document 01, (a) to (l), as one statement over a list of cases.
use Rattle.std.specs.Prelude.{◌≡◌, true, false, List, [], ◌∷◌, ℕ, length}
use Rattle.wire.specs.Parts.{part}
use Rattle.blocks.specs.Outcomes.{Read}
use Rattle.blocks.specs.Layout.{eight}
use Rattle.blocks.specs.Names.{ack_fields}
use Rattle.blocks.specs.Reading.{bytes_at, block_read, read_refused, read_at}
use Rattle.blocks.specs.Claims.{shown_bytes}
use Rattle.blocks_listing.specs.Listing.{Listing, no, blocks_of}
use Rattle.acks.specs.Tracking.{fresh, register_of}
use Rattle.acks.specs.Reporting.{report_of_runs}
use Rattle.acks.specs.Expanding.{ack_numbers}
use Rattle.reassembly.specs.Store as Store
use Rattle.promises.specs.Acks.{report_after}

-- a case: what is given, and what comes of it
pub data Case : Type 0 where
  -- reading a payload's first block: the block or the refusal, and the bytes that it shows
  reads : (payload : List ℕ) (answer : Read) (bytes : List ℕ) → Case
  -- listing a payload
  lists : (payload : List ℕ) (listing : Listing) → Case
  -- reading an Ack and expanding it: its through number, count and pairs, and the numbers that it names
  expands : (payload : List ℕ) (through count size next : ℕ) (pairs names : List ℕ) → Case
  -- registering numbers and asking for a report: through, then count and pairs
  reports : (calls : List ℕ) (through : ℕ) (runs : List ℕ) → Case
  -- registering a number first of all
  registers : (n answer : ℕ) → Case
  -- handing pieces to a neighbour's empty store
  rebuilds : (pieces : List Store.Piece) (answers : List ℕ) → Case

-- what a case says of the definitions
abbrev pub Holds : Case → Type 0
Holds (reads s r bytes) = (read_at s 0 ≡ r) × (shown_bytes s r ≡ bytes)
Holds (lists s l) = blocks_of s ≡ l
Holds (expands s t c size next pairs names) =
    (read_at s 0 ≡ block_read 12 size next (ack_fields t c) (bytes_at 8 (length pairs))) × (part s 8 (length pairs) ≡ pairs) × (ack_numbers t c pairs ≡ names)
Holds (reports calls through runs) = report_after calls ≡ report_of_runs through runs
Holds (registers n answer) = (register_of fresh n).answer ≡ answer
Holds (rebuilds ps answers) = Store.step_numbers Store.new_store ps ≡ answers

-- (a) `00 0000 00000007`: time 7
abbrev pub case_a : Case
case_a = reads (0x00 ∷ 0x00 ∷ 0x00 ∷ 0x00 ∷ 0x00 ∷ 0x00 ∷ 0x07 ∷ []) (block_read 0 0 7 (eight (7 ∷ [])) (bytes_at 0 0)) []

-- (b) `0C 0006 0000000A 02 01`: 1 at 8
abbrev pub case_b : Case
case_b = lists (0x0C ∷ 0x00 ∷ 0x06 ∷ 0x00 ∷ 0x00 ∷ 0x00 ∷ 0x0A ∷ 0x02 ∷ 0x01 ∷ []) (no 1 8)

-- (c) `0C 0007 0000000A 02 01 03`: 10, 9, 8, 6, 5, 4
abbrev pub case_c : Case
case_c = expands (0x0C ∷ 0x00 ∷ 0x07 ∷ 0x00 ∷ 0x00 ∷ 0x00 ∷ 0x0A ∷ 0x02 ∷ 0x01 ∷ 0x03 ∷ []) 10 2 7 10 (0x01 ∷ 0x03 ∷ []) (10 ∷ 9 ∷ 8 ∷ 6 ∷ 5 ∷ 4 ∷ [])

-- (d) `0D 0007 1F90`: 8 at 0
abbrev pub case_d : Case
case_d = reads (0x0D ∷ 0x00 ∷ 0x07 ∷ 0x1F ∷ 0x90 ∷ []) (read_refused 8 0) []

-- (e) `0D 0006 1F90 0A000001`: 10.0.0.1, port 8080
abbrev pub case_e : Case
case_e = reads (0x0D ∷ 0x00 ∷ 0x06 ∷ 0x1F ∷ 0x90 ∷ 0x0A ∷ 0x00 ∷ 0x00 ∷ 0x01 ∷ []) (block_read 13 6 9 (eight (8080 ∷ [])) (bytes_at 5 4)) (10 ∷ 0 ∷ 0 ∷ 1 ∷ [])

-- (f) `04 0009 0B 00000001 00000002`: 4
abbrev pub case_f : Case
case_f = reads (0x04 ∷ 0x00 ∷ 0x09 ∷ 0x0B ∷ 0x00 ∷ 0x00 ∷ 0x00 ∷ 0x01 ∷ 0x00 ∷ 0x00 ∷ 0x00 ∷ 0x02 ∷ []) (read_refused 4 0) []

-- (g) the same with size 000A: 5
abbrev pub case_g : Case
case_g = reads (0x04 ∷ 0x00 ∷ 0x0A ∷ 0x0B ∷ 0x00 ∷ 0x00 ∷ 0x00 ∷ 0x01 ∷ 0x00 ∷ 0x00 ∷ 0x00 ∷ 0x02 ∷ []) (read_refused 5 0) []

-- (h) Register 5: through 5, count 0, (4,1)
abbrev pub case_h : Case
case_h = reports (5 ∷ []) 5 (0 ∷ 4 ∷ 1 ∷ [])

-- (i) 4, then 2: count 0, (1,1),(1,1)
abbrev pub case_i : Case
case_i = reports (4 ∷ 2 ∷ []) 4 (0 ∷ 1 ∷ 1 ∷ 1 ∷ 1 ∷ [])

-- (j) 256 first: 40
abbrev pub case_j : Case
case_j = registers 256 40

-- (k) 255 first: count 0, (254,0)
abbrev pub case_k : Case
case_k = reports (255 ∷ []) 255 (0 ∷ 254 ∷ 0 ∷ [])

-- (l) Pieces 0, 2 last, 5, 1: 0, 0, 55, 60
abbrev pub case_l : Case
case_l =
    rebuilds
    (Store.first 1 20 9 (10 ∷ []) ∷ Store.follow 1 2 true (12 ∷ []) ∷ Store.follow 1 5 false (15 ∷ []) ∷ Store.follow 1 1 false (11 ∷ []) ∷ [])
    (0 ∷ 0 ∷ 55 ∷ 60 ∷ [])

-- (a) to (l)
abbrev pub twelve : List Case
twelve = case_a ∷ case_b ∷ case_c ∷ case_d ∷ case_e ∷ case_f ∷ case_g ∷ case_h ∷ case_i ∷ case_j ∷ case_k ∷ case_l ∷ []

-- every case of a list is as it says
abbrev pub All : List Case → Type 0
All [] = Unit
All (c ∷ cs) = Holds c × All cs

-- each of the twelve is as it says
abbrev pub Twelve : Type 0
Twelve = All twelve
