-- Bytes of a line: what they are, and the fields and words that they make.
use Rattle.std.specs.Prelude.{if◌then◌else◌, ◌+◌, ◌-◌, ◌&&◌, ◌||◌, ◌∷◌, ◌==◌, count_by, fold}
use Rattle.std.specs.List.{list_all}
use Rattle.numbers.specs.Prelude.{ℕ, zero, suc, eqb, leb, length, take, drop, get_or, Bool, true, false, List, []}
use Rattle.std.specs.Int.Bits.{bit_xor}

-- 0 to 9
abbrev pub is_digit : ℕ → Bool
is_digit byte = leb 48 byte && leb byte 57

-- A to Z
abbrev pub is_capital : ℕ → Bool
is_capital byte = leb 65 byte && leb byte 90

-- every byte is a digit, or, where letters are taken, a letter A to Z
abbrev pub every : Bool → List ℕ → Bool
every letters text = list_all (λ byte. is_digit byte || (letters && is_capital byte)) text

abbrev pub digits : List ℕ → Bool
digits = every false

-- the bytes are those of a form, in which a 0 stands for any digit
unfoldable pub formed : List ℕ → List ℕ → Bool
formed [] [] = true
formed [] (byte ∷ more) = false
formed (mark ∷ form) [] = false
formed (mark ∷ form) (byte ∷ more) = (if eqb mark 48 then is_digit byte else eqb byte mark) && formed form more

-- how often a byte stands there
abbrev pub count : ℕ → List ℕ → ℕ
count byte text = count_by (λ b. b == byte) text

-- the exclusive or of all bytes
abbrev pub xors : List ℕ → ℕ
xors text = fold (λ sum byte. bit_xor sum byte) 0 text

-- what stands before the first of two bytes; all of it where there is none
unfoldable pub until : ℕ → ℕ → List ℕ → List ℕ
until a b [] = []
until a b (byte ∷ more) = if eqb byte a || eqb byte b then [] else (byte ∷ until a b more)

-- ---- fields: what stands between commas
abbrev pub to_comma : List ℕ → List ℕ
to_comma = until 44 44

-- what is left behind so many commas; nothing where there are fewer
unfoldable pub behind : ℕ → List ℕ → List ℕ
behind zero body = body
behind (suc n) body = behind n (drop (length (to_comma body) + 1) body)

-- a field; one that is not there is empty
abbrev pub field : ℕ → List ℕ → List ℕ
field n body = to_comma (behind n body)

-- ---- words, with spaces or tabs between them
abbrev pub word : List ℕ → List ℕ
word = until 32 9

-- without the blanks at its beginning
unfoldable pub unblanked : List ℕ → List ℕ
unblanked [] = []
unblanked (byte ∷ more) = if eqb byte 32 || eqb byte 9 then unblanked more else (byte ∷ more)

-- what stands behind the first word, and without the blanks there: from the next word on
abbrev pub past_word : List ℕ → List ℕ
past_word text = drop (length (word text)) text

abbrev pub next_word : List ℕ → List ℕ
next_word text = unblanked (past_word text)

-- ---- the line
-- without a byte, where it is the last
abbrev pub unended : ℕ → List ℕ → List ℕ
unended byte text = let less = length text - 1 in if eqb (get_or text less 0) byte then take less text else text

-- one line end at its end is not part of it: LF, CR LF or CR
abbrev pub line_of : List ℕ → List ℕ
line_of text = unended 13 (unended 10 text)
