-- S-2, a bundle: the TZif files of all zones, in the form of Android's `tzdata`.
use Rattle.std.specs.Prelude.{◌+◌, ◌-◌, ◌*◌, ◌/◌, ◌%◌, ◌^◌, ◌&&◌, ◌∷◌, if◌then◌else◌, nat_eq}
use Rattle.std.specs.List.{starts_with}
use Rattle.numbers.specs.Prelude.{ℕ, zero, suc, eqb, leb, length, drop, get_or, Bool, true, List, []}
use Rattle.numbers.specs.{Answer.{Answer, found, failed}, Reply.{Reply, given, refusal, plain, demand, ◌or_else◌, ◌>>=◌, ◌>>◌}}
use Rattle.std.specs.Int.Bits.{bit_xor}
use Rattle.bundle.specs.declared.{find.File.{File}, head.Head.{Head}}

-- a byte, as it stands under a mask
abbrev pub xored : ℕ → ℕ → ℕ
xored mask byte = bit_xor byte mask

-- four bytes, high byte first
unfoldable pub word_at : List ℕ → ℕ → ℕ
word_at bundle place = get_or bundle place 0 * 2 ^ 24 + get_or bundle (place + 1) 0 * 2 ^ 16 + get_or bundle (place + 2) 0 * 2 ^ 8 + get_or bundle (place + 3) 0

-- not above 2 ^ 31 - 1
abbrev pub is_number : ℕ → Bool
is_number n = leb n (2 ^ 31 - 1)

-- so many bytes of both are the same; behind its end each has zeros
unfoldable pub agrees : ℕ → List ℕ → List ℕ → Bool
agrees zero xs ys = true
agrees (suc n) xs ys = eqb (get_or xs 0 0) (get_or ys 0 0) && agrees n (drop 1 xs) (drop 1 ys)

-- `tzdata`
abbrev pub magic : List ℕ
magic = 116 ∷ 122 ∷ 100 ∷ 97 ∷ 116 ∷ 97 ∷ []

-- ---- the tests of the head
abbrev pub is_bundle : List ℕ → Bool
is_bundle bundle = leb 24 (length bundle) && starts_with nat_eq bundle magic

-- where the index begins
abbrev pub is_index : ℕ → Bool
is_index i = is_number i && leb 24 i

-- where the data begins, whole entries behind it
abbrev pub is_data : ℕ → ℕ → Bool
is_data i d = is_number d && leb i d && eqb ((d - i) % 52) 0

-- where the data ends
abbrev pub is_end : ℕ → ℕ → ℕ → Bool
is_end d e length = is_number e && leb d e && leb e length

-- the head, its faults place by place
unfoldable pub head_of : List ℕ → Reply Head
head_of bundle = do
  demand (is_bundle bundle) (refusal 89 0 0)
  demand (eqb (get_or bundle 11 0) 0) (refusal 89 0 11)
  demand (is_index (word_at bundle 12)) (refusal 89 0 12)
  demand (is_data (word_at bundle 12) (word_at bundle 16)) (refusal 89 0 16)
  demand (is_end (word_at bundle 16) (word_at bundle 20) (length bundle)) (refusal 89 0 20)
  given (record { index = word_at bundle 12; start = word_at bundle 16; end = word_at bundle 20 })

-- ---- the index
-- the 40 bytes of an entry are the name and then zeros; a name of more than 40 bytes has none
unfoldable pub is_entry : List ℕ → List ℕ → ℕ → Bool
is_entry bundle name place = leb (length name) 40 && agrees 40 (drop place bundle) name

-- the place of the first such entry, of so many from a place on
unfoldable pub seek_of : ℕ → List ℕ → List ℕ → ℕ → Answer ℕ
seek_of zero bundle name place = failed
seek_of (suc more) bundle name place = if is_entry bundle name place then found place else seek_of more bundle name (place + 52)

-- where a zone's file begins in the bundle, and its length: 88 if there is no entry, 89 if it does not lie in the data
unfoldable pub find_of : List ℕ → List ℕ → Reply File
find_of bundle name = do
  head ← head_of bundle
  place ← seek_of ((head.start - head.index) / 52) bundle name head.index or_else plain 88
  demand (leb (head.start + word_at bundle (place + 40) + word_at bundle (place + 44)) head.end) (refusal 89 0 place)
  given (record { start = head.start + word_at bundle (place + 40); length = word_at bundle (place + 44) })
