-- Which numbers an opening can be refused with. Assumes nothing.
use Rattle.numbers.proofs.{Prelude.{ℕ, zero, suc, ◌+◌, ◌%◌, ◌^◌, eqb, ltb, leb, length, get_or, Bool, true, false, List, [], ◌∷◌, ◌++◌, ◌≡◌, refl, arith}, Readings.{reading_numbered}}
use Rattle.numbers.proofs.{Refusals.{Listed, still_listed, Numbered, as_found, as_failed, as_refused, either, then_numbered}, Replies.{NumberedReply, answers, refuses, then_reply, and_then, demands}}
use Rattle.numbers.{proofs.Replies.{or_else_lem, number_of_lem}, specs.{Answer.{Answer, if◌then◌else◌}, Reply.{Reply, refused, refusal, plain}, declared.refusal.Refusal.{Refusal}}}
use Rattle.header.specs.{Header.{magic_of, is_kind, preamble_of, blame_of, texts_from, size_at, fits, sections_from, sections_at, Contents, contents_by, head_by}, Opening.{fitting_of, replied_of}}
use Rattle.header.specs.{Opening.{opened_by, opened_of, opened_strictly}, Text.{within, remote_at, string_at, bytes_of, or_blamed, text_at}, Utf8.{is_utf8}, declared.text.{Blame.{Blame}, Text.{Text}}}

-- the numbers that document 01 gives to a header
abbrev pub header_numbers : List ℕ
header_numbers = 1 ∷ 2 ∷ 3 ∷ 4 ∷ 5 ∷ 6 ∷ 7 ∷ 8 ∷ 9 ∷ 10 ∷ 11 ∷ 12 ∷ 13 ∷ 14 ∷ []

-- opening can also lack room for its text
abbrev pub opening_numbers : List ℕ
opening_numbers = header_numbers ++ (18 ∷ [])

-- ---- strings: 12, 14, 31 where it is read strictly, and the number that a bad one is blamed with
module _ {P : ℕ → Type 0} (twelve : P 12) (fourteen : P 14) (strict : Bool) (cut : strict ≡ true → P 31) (file : List ℕ) where
  inside : (text : Text) → Numbered P (within file text)
  unfolding within
  inside text =
      either (Numbered P) (eqb text.size 0) as_found (either (Numbered P) (leb (text.start + text.size) (length file)) as_found (as_refused fourteen))

  remote : (place next : ℕ) → Numbered P (remote_at strict file place next)
  unfolding remote_at
  remote place next = then_numbered (reading_numbered strict twelve cut file place) (λ number. either (Numbered P) (leb number.value 256) (inside _) as_failed)

  string : (metadata place : ℕ) → Numbered P (string_at strict file metadata place)
  unfolding string_at
  string metadata place =
      then_numbered (reading_numbered strict twelve cut file place) (λ number. either (Numbered P) (ltb number.value 256) (inside _) (remote _ number.place))

  blames : (blame : Blame) {answer : Answer Text} → Numbered P answer → P blame.number → NumberedReply P (or_blamed file blame answer)
  blames blame (as_found {a = text}) h = either (NumberedReply P) (is_utf8 (bytes_of file text)) answers (refuses h)
  blames blame as_failed h = refuses h
  blames blame (as_refused n) h = refuses n

  pub text_numbered : (metadata place : ℕ) (blame : Blame) → P blame.number → NumberedReply P (text_at strict file metadata place blame)
  unfolding text_at
  text_numbered metadata place blame h = blames blame (string metadata place) h

-- ---- the header
pub blame_numbered : {P : ℕ → Type 0} → ((n : ℕ) → Listed header_numbers n → P n) → (names index : ℕ) → P (blame_of names index).number
blame_numbered {P} has names index = either (λ (b : Blame). P b.number) (ltb index names) (has 6 refl) (has 7 refl)

module _ {P : ℕ → Type 0} (has : (n : ℕ) → Listed header_numbers n → P n) (strict : Bool) (cut : strict ≡ true → P 31) where
  preamble : (file : List ℕ) → NumberedReply P (preamble_of file)
  unfolding preamble_of
  preamble file =
      and_then (demands (leb (length file) (2 ^ 30)) (plain 1) (has 1 refl)) (and_then (demands (leb 7 (length file)) (refusal 2 0 (length file)) (has 2 refl))
      (and_then (demands (eqb (magic_of file) 0x504C42) (refusal 3 0 (magic_of file)) (has 3 refl)) (and_then (demands (is_kind (get_or file 3 0))
      (refusal 4 0 (get_or file 3 0)) (has 4 refl)) (and_then (demands (ltb (get_or file 4 0) 2) (refusal 5 0 (get_or file 4 0)) (has 5 refl)) answers))))

  texts : (file : List ℕ) (names more index place : ℕ) → NumberedReply P (texts_from strict file names more index place)
  unfolding texts_from
  texts file names zero index place = answers
  texts file names (suc more) index place =
      then_reply (text_numbered (has 12 refl) (has 14 refl) strict cut file 0 place (blame_of names index) (blame_numbered {P = P} has names index))
      (λ text. then_reply (texts file names more (index + 1) text.next) (λ rest. answers))

  size : (file : List ℕ) (place number : ℕ) → P number → NumberedReply P (size_at strict file place number)
  size file place number h = or_else_lem (plain number) (reading_numbered strict (has 12 refl) cut file place) h

  sums : (bits sum : ℕ) → NumberedReply P (fits bits sum)
  sums bits sum = demands (ltb sum (2 ^ bits)) (plain 13) (has 13 refl)

  sections_numbered : (length end metadata start rest : ℕ) → NumberedReply P (sections_from length end metadata start rest)
  unfolding sections_from
  sections_numbered length end metadata start rest = let whole = rest + (end + start) in
      and_then (sums 32 (end + start)) (and_then (sums 64 whole) (and_then (demands (eqb whole length) (refusal 11 0 whole) (has 11 refl)) answers))

  sections : (file : List ℕ) (place : ℕ) → NumberedReply P (sections_at strict file place)
  unfolding sections_at
  sections file place =
      then_reply (size file place 8 (has 8 refl)) (λ first. then_reply (size file first.place 9 (has 9 refl)) (λ second. and_then
      (sums 32 (first.value % 2 ^ 32 + second.value % 2 ^ 32)) (then_reply (size file second.place 10 (has 10 refl)) (λ third. sections_numbered (length file)
      third.place (first.value % 2 ^ 32) (first.value % 2 ^ 32 + second.value % 2 ^ 32) third.value))))

  contents : (file : List ℕ) → NumberedReply P (contents_by strict file)
  unfolding contents_by
  contents file =
      then_reply (preamble file) (λ begun. then_reply (texts file begun.count (begun.count + 1) 0 7) (λ read. then_reply (sections file read.place) (λ found. answers)))

  pub head_numbered : (file : List ℕ) → NumberedReply P (head_by strict file)
  unfolding head_by
  head_numbered file = then_reply (contents file) (λ found. answers)

-- ---- opening
-- the numbers of an opening, which a strict one has 31 beside
abbrev opening_numbers_by : Bool → List ℕ
opening_numbers_by strict = opening_numbers ++ (if strict then 31 ∷ [] else [])

cut_off : (strict : Bool) → strict ≡ true → Listed (opening_numbers_by strict) 31
cut_off true e = refl
cut_off false e = let z : ◌≡◌ {A = ℕ} 0 1 = cc in absurd (omega arith)

openable : (strict : Bool) (n : ℕ) → Listed header_numbers n → Listed (opening_numbers_by strict) n
openable strict n h = still_listed opening_numbers (if strict then 31 ∷ [] else []) n (still_listed header_numbers (18 ∷ []) n h)

fitting : (strict : Bool) (file : List ℕ) (room : ℕ) → NumberedReply (Listed (opening_numbers_by strict)) (fitting_of strict file room)
unfolding fitting_of
fitting strict file room =
    then_reply (contents (openable strict) strict (cut_off strict) file) (λ found. and_then (demands (leb (length found.bytes) room) (plain 18) refl) answers)

opened : (strict : Bool) (room : ℕ) {reply : Reply Contents} → NumberedReply (Listed (opening_numbers_by strict)) reply → NumberedReply (Listed (opening_numbers_by strict)) (replied_of room reply).reply
opened strict room answers = answers
opened strict room (refuses h) = refuses h

-- an opening that is not answered is refused with one of these
pub opening_refusals : (file : List ℕ) (room : ℕ) (why : Refusal) → (opened_of file room).reply ≡ refused why → Listed opening_numbers why.number
unfolding opened_by
opening_refusals file room why = number_of_lem (opened false room (fitting false file room))

-- and a strict one with one of these or 31
pub strict_opening_refusals : (file : List ℕ) (room : ℕ) (why : Refusal) → (opened_strictly file room).reply ≡ refused why → Listed (opening_numbers ++ 31 ∷ []) why.number
unfolding opened_by
strict_opening_refusals file room why = number_of_lem (opened true room (fitting true file room))
