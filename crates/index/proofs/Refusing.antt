-- Which numbers building and tying can be refused with, and that a refused building leaves zeros. Assumes nothing.
use Rattle.numbers.proofs.{Prelude.{ℕ, ℤ, length, false, List, [], ◌∷◌, ◌++◌, ◌≡◌, refl, arith}, Refusals.{Listed, still_listed}, Replies.{NumberedReply, answers, refuses, then_reply, and_then}}
use Rattle.numbers.{proofs.{Replies.{demands, number_of_lem}, Tests.{differ}}, specs.{Lists.{zeros}, Reply.{Reply, given, refused, plain}, declared.refusal.Refusal.{Refusal}}}
use Rattle.header.{proofs.Numbered.{header_numbers, head_numbered}, specs.declared.header.Head.{Head}}
use Rattle.table.specs.{Find.{is_precision}, Ordered.{lowest}, Rows.{Rows, row, table_end, unreadable, rows_in}, declared.rows.Row.{Row}}
use Rattle.index.specs.{Index.{index_of, has_room, index_in, indexed_by, indexed_of, built_in, built_with}, Table.{is_next, table_from, bottom, table_of}, Tied.{is_tied, tied_of}}
use Rattle.table.specs.Rows as T

-- opening's, and: precision 16, table 34, room 35
abbrev pub building_numbers : List ℕ
building_numbers = header_numbers ++ (16 ∷ 34 ∷ 35 ∷ [])

-- opening's, and: precision 16, another index 36
abbrev pub tying_numbers : List ℕ
tying_numbers = header_numbers ++ (16 ∷ 36 ∷ [])

-- ---- building
pub table_numbered : (end : ℕ) (floor : ℤ) (table : Rows) → NumberedReply (Listed building_numbers) (table_from end floor table)
unfolding table_from
table_numbered end floor (row r table) = and_then (demands (is_next end floor r) (plain 34) refl) (then_reply (table_numbered end (lowest r) table) (λ rest. answers))
table_numbered end floor table_end = answers
table_numbered end floor unreadable = refuses refl
table_numbered end floor (T.refused n) = refuses refl

pub words_numbered : (words_of : List ℕ → Head → List Row → List ℕ) (file : List ℕ) (head : Head) (room : ℕ) → NumberedReply (Listed building_numbers) (built_with words_of file head room)
unfolding built_with table_of
words_numbered words_of file head room =
    and_then (demands (is_precision head.preamble.precision) (plain 16) refl) (then_reply (table_numbered head.sections.metadata bottom (rows_in file head))
    (λ rows. and_then (demands (has_room room (length (words_of file head rows))) (plain 35) refl) answers))

pub replied_numbered : (n : ℕ) {reply : Reply (List ℕ)} → NumberedReply (Listed building_numbers) reply → NumberedReply (Listed building_numbers) (indexed_by n reply).reply
unfolding indexed_by
replied_numbered n answers = answers
replied_numbered n (refuses h) = refuses h

-- A building that is not answered is refused with one of these.
pub index_refusals : (file : List ℕ) (n : ℕ) (why : Refusal) → (indexed_of file n).reply ≡ refused why → Listed building_numbers why.number
unfolding indexed_of built_in
index_refusals file n why =
    number_of_lem (replied_numbered n (then_reply (head_numbered (still_listed header_numbers (16 ∷ 34 ∷ 35 ∷ [])) false differ file) (λ head. words_numbered index_of file head n)))

pub no_words : (n : ℕ) (reply : Reply (List ℕ)) (why : Refusal) → (indexed_by n reply).reply ≡ refused why → (indexed_by n reply).words ≡ zeros n
unfolding indexed_by
no_words n (given words) why e = let z : ◌≡◌ {A = ℕ} 0 1 = cc in absurd (omega arith)
no_words n (refused why') why e = refl

-- A refused building leaves every word zero.
pub index_refusal_zeroes : (file : List ℕ) (n : ℕ) (why : Refusal) → (indexed_of file n).reply ≡ refused why → (indexed_of file n).words ≡ zeros n
unfolding indexed_of
index_refusal_zeroes file n = no_words n (index_in file n)

-- ---- tying
-- Words that are not tied are refused with one of these.
pub tied_refusals : (file words : List ℕ) (why : Refusal) → tied_of file words ≡ refused why → Listed tying_numbers why.number
unfolding tied_of
tied_refusals file words why =
    number_of_lem (then_reply (head_numbered (still_listed header_numbers (16 ∷ 36 ∷ [])) false differ file) (λ head. and_then (demands (is_precision head.preamble.precision)
    (plain 16) refl) (demands (is_tied file head words) (plain 36) refl)))
