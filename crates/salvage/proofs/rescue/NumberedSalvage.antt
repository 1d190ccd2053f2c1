-- Which numbers a salvage can be refused with. Assumes nothing.
use Rattle.numbers.proofs.Prelude.{ℕ, zero, suc, ◌+◌, ◌^◌, min, ltb, leb, length, true, ◌&&◌, List, [], ◌∷◌, ◌++◌, ◌≡◌, refl}
use Rattle.numbers.{proofs.{Refusals.{Listed, still_listed}, Replies.{NumberedReply, answers, refuses, then_reply, and_then, demands, number_of_lem}}, specs.Answer.{Answer, found, failed}}
use Rattle.numbers.specs.{Reply.{Reply, refused, plain, ◌or_else◌}, declared.refusal.Refusal.{Refusal}}
use Rattle.header.{proofs.Numbered.{header_numbers, head_numbered, text_numbered}, specs.{Text.{string_at, or_blamed, text_at}, declared.{header.Head.{Head}, text.{Blame.{Blame}, Text.{Text}}}}}
use Rattle.salvage.specs.{File.{texts_inline, new_file}, Kept.{kept_of, lines_from}, Salvage.{Salvaged, replied_of, salvaged_of, salvaged}}
use Rattle.table.specs.Rows.{rows_in}
use Rattle.numbers.specs.Answer as A

-- those of a header, a text that can't stand inline, no room, a number that is cut, nothing left
abbrev pub salvage_numbers : List ℕ
salvage_numbers = header_numbers ++ (26 ∷ 28 ∷ 31 ∷ 32 ∷ [])

abbrev Known : ℕ → Type 0
Known = Listed salvage_numbers

-- a text's own refusals are those of a string with a blame
module _ (file : List ℕ) (blame : Blame) where
  unblamed : (answer : Answer Text) → NumberedReply Known (or_blamed file blame answer) → NumberedReply Known (answer or_else plain 26)
  unblamed (found text) h = answers
  unblamed failed h = refuses refl
  unblamed (A.refused n) h = h

module _ (file : List ℕ) where
  text : (head : Head) (place : ℕ) → NumberedReply Known (string_at head.strict file 0 place or_else plain 26)
  unfolding text_at
  text head place =
      unblamed file (record { number = 26; detail = 0 }) (string_at head.strict file 0 place)
      (text_numbered {P = Known} refl refl head.strict (λ e. refl) file 0 place (record { number = 26; detail = 0 }) refl)

  texts : (head : Head) (more place : ℕ) → NumberedReply Known (texts_inline file head more place)
  unfolding texts_inline
  texts head zero place = answers
  texts head (suc more) place =
      then_reply (text head place) (λ t. and_then (demands (leb t.size 255) (plain 26) refl) (then_reply (texts head more t.next) (λ rest. answers)))

  module _ (words room : ℕ) where
    known : NumberedReply Known (salvaged_of file words room)
    unfolding salvaged_of
    known =
        then_reply (head_numbered {P = Known} (still_listed header_numbers (26 ∷ 28 ∷ 31 ∷ 32 ∷ [])) true (λ e. refl) file) (λ head. then_reply
        (texts head (head.preamble.count + 1) 7) (λ bytes. and_then (demands (leb (length (new_file file head bytes (kept_of file head (rows_in file head))))
        (min room (2 ^ 30)) && leb (length (lines_from file head 0 (rows_in file head))) words) (plain 28) refl)
        (and_then (demands (ltb 0 (length (kept_of file head (rows_in file head)))) (plain 32) refl) answers)))

    told : {answer : Reply Salvaged} → NumberedReply Known answer → NumberedReply Known (replied_of words room answer).reply
    told answers = answers
    told (refuses h) = refuses h

    -- a salvage that is not answered is refused with one of these
    pub salvage_refusals : (why : Refusal) → (salvaged file words room).reply ≡ refused why → Listed salvage_numbers why.number
    unfolding salvaged
    salvage_refusals why = number_of_lem (told known)
