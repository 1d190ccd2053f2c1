-- UTF-8, after the grammar of RFC 3629, section 4.
use Rattle.std.specs.Prelude.{if◌then◌else◌, ◌-◌, ◌&&◌, ◌∷◌, ◌++◌, ◌≡◌}
use Rattle.numbers.specs.Prelude.{ℕ, eqb, leb, replicate, Bool, true, false, List, []}
use Rattle.std.specs.Int.Bits.{bit_xor}
use Rattle.header.specs.declared.utf8.{Due.{Due}}
use Rattle.std.specs.Prelude.{Option, Some, None}

-- each byte is stored XOR 0x80
abbrev pub unmasked : ℕ → ℕ
unmasked b = bit_xor b 0x80

-- %xLOW-HIGH
pub record Range : Type 0 where
  pub low : ℕ
  pub high : ℕ

infix 70 ◌–◌
abbrev pub ◌–◌ : ℕ → ℕ → Range
low – high = record { low = low; high = high }

infix 30 ◌∈◌
abbrev pub ◌∈◌ : ℕ → Range → Bool
b ∈ range = leb range.low b && leb b range.high

-- %xNN
abbrev pub only : ℕ → Range
only b = b – b

-- UTF8-tail = %x80-BF
abbrev pub tail : Range
tail = 0x80 – 0xBF

-- UTF8-1 = %x00-7F
abbrev pub utf8_1 : List (List Range)
utf8_1 = (0x00 – 0x7F ∷ []) ∷ []

-- UTF8-2 = %xC2-DF UTF8-tail
abbrev pub utf8_2 : List (List Range)
utf8_2 = (0xC2 – 0xDF ∷ tail ∷ []) ∷ []

-- UTF8-3 = %xE0 %xA0-BF UTF8-tail / %xE1-EC 2( UTF8-tail ) / %xED %x80-9F UTF8-tail / %xEE-EF 2( UTF8-tail )
abbrev pub utf8_3 : List (List Range)
utf8_3 =
    (only 0xE0 ∷ 0xA0 – 0xBF ∷ tail ∷ [])
    ∷ (0xE1 – 0xEC ∷ tail ∷ tail ∷ [])
    ∷ (only 0xED ∷ 0x80 – 0x9F ∷ tail ∷ [])
    ∷ (0xEE – 0xEF ∷ tail ∷ tail ∷ [])
    ∷ []

-- UTF8-4 = %xF0 %x90-BF 2( UTF8-tail ) / %xF1-F3 3( UTF8-tail ) / %xF4 %x80-8F 2( UTF8-tail )
abbrev pub utf8_4 : List (List Range)
utf8_4 =
    (only 0xF0 ∷ 0x90 – 0xBF ∷ tail ∷ tail ∷ [])
    ∷ (0xF1 – 0xF3 ∷ tail ∷ tail ∷ tail ∷ [])
    ∷ (only 0xF4 ∷ 0x80 – 0x8F ∷ tail ∷ tail ∷ [])
    ∷ []

-- UTF8-char = UTF8-1 / UTF8-2 / UTF8-3 / UTF8-4: each row is an alternative, as the ranges of its bytes
unfoldable pub characters : List (List Range)
characters = utf8_1 ++ (utf8_2 ++ (utf8_3 ++ utf8_4))

-- the bytes in their ranges, one by one
pub data Fits : List Range → List ℕ → Type 0 where
  none : Fits [] []
  next : {range : Range} {ranges : List Range} {b : ℕ} {bs : List ℕ} → (b ∈ range) ≡ true → Fits ranges bs → Fits (range ∷ ranges) (b ∷ bs)

-- one of the rows
pub data Among : List Range → List (List Range) → Type 0 where
  here : {row : List Range} {rows : List (List Range)} → Among row (row ∷ rows)
  later : {row other : List Range} {rows : List (List Range)} → Among row rows → Among row (other ∷ rows)

-- UTF8-octets = *( UTF8-char ): what RFC 3629 calls UTF-8; `is_utf8` below decides it (`grammar`, proofs/utf8/Grammar.antt)
pub data Octets : List ℕ → Type 0 where
  ended : Octets []
  char : {row : List Range} {c rest : List ℕ} → Among row characters → Fits row c → Octets rest → Octets (c ++ rest)

-- ---- read from the front
-- the ranges of the bytes still to come of a character, or that none has this byte here
pub data Pending : Type 0 where
  due : List Range → Pending
  wrong : Pending

-- the row that begins with this byte: the first bytes' ranges are disjoint
unfoldable pub started_by : ℕ → List (List Range) → Pending
started_by b [] = wrong
started_by b ([] ∷ rows) = started_by b rows
started_by b ((first ∷ rest) ∷ rows) = if b ∈ first then due rest else started_by b rows

unfoldable pub begun_by : ℕ → Pending
begun_by b = started_by b characters

-- the next byte
unfoldable pub followed : Pending → ℕ → Pending
followed (due []) b = begun_by b
followed (due (range ∷ ranges)) b = if b ∈ range then due ranges else wrong
followed wrong b = wrong

-- no character is left unfinished
abbrev pub is_whole : Pending → Bool
is_whole (due []) = true
is_whole (due (range ∷ ranges)) = false
is_whole wrong = false

-- UTF8-octets, from within a character on
unfoldable pub goes_on : List ℕ → Pending → Bool
goes_on [] pending = is_whole pending
goes_on (b ∷ bs) pending = goes_on bs (followed pending b)

unfoldable pub is_utf8 : List ℕ → Bool
is_utf8 bytes = goes_on bytes (due [])

-- ---- the code's state
abbrev pub pending_of : Due → Pending
pending_of d = if eqb d.left 0 then due [] else due ((d.low – d.high) ∷ replicate (d.left - 1) tail)

abbrev pub told_step : Option Due → Pending
told_step (Some d) = pending_of d
told_step None = wrong
