-- Worked cases: two words for one text that lies right behind the records; an order. Assumes nothing.
use Rattle.numbers.{proofs.Prelude.{ℕ, List, [], ◌∷◌, ◌≡◌, refl}, specs.Spelling.{digits_of, varint_of}}
use Rattle.layout.proofs.Steps.{least_layout}
use Rattle.layout.specs.{Order.{insert_by, sorted_by, key_of}, inner.Layout.{word_size, words_size, next, Fits, Least, after}}

abbrev two : List ℕ
two = 1 ∷ 1 ∷ []

-- 16,123 bytes and two words: words of two bytes fit, and words of three bytes fit too
two_bytes : Least 16123 two 16127
unfolding digits_of varint_of word_size words_size next after
two_bytes = least_layout 16123 two

three_bytes_too : Fits 16123 two 16129
unfolding digits_of varint_of word_size words_size next Fits
three_bytes_too = refl

-- with a record of three bytes more only words of three bytes fit: 16,132. Without it 16,132 - 3 fits, and is not the least.
only_three : Least 16126 two 16132
unfolding digits_of varint_of word_size words_size next after
only_three = least_layout 16126 two

-- keys 2, 1, 2, 1 in the upper halves, the arrival in the lower ones
in_order : sorted_by key_of (0x200000000 ∷ 0x100000001 ∷ 0x200000002 ∷ 0x100000003 ∷ []) ≡ 0x100000001 ∷ 0x100000003 ∷ 0x200000000 ∷ 0x200000002 ∷ []
unfolding sorted_by insert_by
in_order = refl
