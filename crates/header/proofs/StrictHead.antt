-- Opening strictly (request Q-6): refused 31, or as the plain opening. Assumes nothing.
use Rattle.numbers.proofs.Prelude.{ℕ, zero, suc, ◌+◌, ◌%◌, ◌^◌, ◌≤◌, ltb, leb, length, Bool, true, false, List, ◌⊎◌, inl, inr, ◌≡◌, refl, sym, ap, subst, ◌∙◌, arith}
use Rattle.numbers.{proofs.Readings.{Strictly, cut, same, then_strictly, strictly_either, reading_strictly}, specs.Answer.{Answer}}
use Rattle.numbers.specs.{Reply.{Reply, given, refused, plain, demand, ◌or_else◌, ◌>>=◌, ◌>>◌}, Varint.{Numeral}, declared.refusal.Refusal.{Refusal}}
use Rattle.header.proofs.{ReadFrom.{read_from, sized}, Unless.{shown, Unless, refuses, alike, unless_after, unless_demand, unless_then}}
use Rattle.header.specs.{Header.{preamble_of, blame_of, texts_from, texts_of, size_at, sections_at, Contents, contents_by, head_by, head_of, head_strictly}, Opening.{fitting_of, replied_of, opened_by}}
use Rattle.header.specs.{Opening.{opened_of, opened_strictly}, Text.{remote_at, string_at, or_blamed, text_at}, declared.{header.Head.{Head}, text.{Blame.{Blame}, Text.{Text}}}}

-- refused 31, or the same
abbrev pub Or31 : {A : Type 0} → Reply A → Reply A → Type 0
Or31 {A} = Unless 31 (λ (a : A). a)

-- both go on from the same
pub then_same : {A B C : Type 0} {look : B → C} (r s : Reply A) {k k' : A → Reply B} → Or31 r s → ((a : A) → Unless 31 look (k a) (k' a)) → Unless 31 look (r >>= k) (s >>= k')
then_same {A} {look = look} r s {k} {k'} h next = unless_then r s h (λ a b e. subst (λ (x : A). Unless 31 look (k a) (k' x)) e (next a))

pub shown_same : {A : Type 0} (r : Reply A) → shown (λ (a : A). a) r ≡ r
shown_same (given a) = refl
shown_same (refused why) = refl

-- a header says how it was read
pub head_strict : (strict : Bool) (file : List ℕ) {head : Head} → head_by strict file ≡ given head → head.strict ≡ strict
head_strict strict file e = (read_from strict file (sym e)).strictly

-- ---- strings
module _ (file : List ℕ) where
  string_strictly : (metadata place : ℕ) → Strictly (string_at true file metadata place) (string_at false file metadata place)
  unfolding string_at remote_at
  string_strictly metadata place =
      then_strictly (reading_strictly file place) (λ number. strictly_either (ltb number.value 256) same (then_strictly (reading_strictly file _) (λ length. same)))

  blamed : (blame : Blame) {strict plainly : Answer Text} → Strictly strict plainly → Or31 (or_blamed file blame strict) (or_blamed file blame plainly)
  blamed blame cut = refuses refl
  blamed blame same = alike refl

  pub text_strictly : (metadata place : ℕ) (blame : Blame) → Or31 (text_at true file metadata place blame) (text_at false file metadata place blame)
  unfolding text_at
  text_strictly metadata place blame = blamed blame (string_strictly metadata place)

  -- ---- the header
  texts_strictly : (names more index place : ℕ) → Or31 (texts_from true file names more index place) (texts_from false file names more index place)
  unfolding texts_from
  texts_strictly names zero index place = alike refl
  texts_strictly names (suc more) index place =
      then_same (text_at true file 0 place (blame_of names index)) (text_at false file 0 place (blame_of names index)) (text_strictly 0 place (blame_of names index))
      (λ text. then_same (texts_from true file names more (index + 1) text.next) (texts_from false file names more (index + 1) text.next) (texts_strictly names more (index + 1) text.next)
      (λ rest. alike refl))

  or_else_lem : (why : Refusal) {strict plainly : Answer Numeral} → Strictly strict plainly → Or31 (strict or_else why) (plainly or_else why)
  or_else_lem why cut = refuses refl
  or_else_lem why same = alike refl

  size_strictly : (place number : ℕ) → Or31 (size_at true file place number) (size_at false file place number)
  size_strictly place number = or_else_lem (plain number) (reading_strictly file place)

  sections_strictly : (place : ℕ) → Or31 (sections_at true file place) (sections_at false file place)
  unfolding sections_at
  sections_strictly place =
      then_same (size_at true file place 8) (size_at false file place 8) (size_strictly place 8) (λ first. then_same (size_at true file first.place 9)
      (size_at false file first.place 9) (size_strictly first.place 9) (λ second. unless_demand (ltb (first.value % 2 ^ 32 + second.value % 2 ^ 32) (2 ^ 32))
      (plain 13) (then_same (size_at true file second.place 10) (size_at false file second.place 10) (size_strictly second.place 10) (λ third. alike refl))))

  -- all that a header says but how it was read
  abbrev pub unstrict : Head → Head
  unstrict head = record { preamble = head.preamble; sections = head.sections; strict = false }

  abbrev unstrict_contents : Contents → Contents
  unstrict_contents contents = record { head = unstrict contents.head; bytes = contents.bytes }

  contents_strictly : Unless 31 unstrict_contents (contents_by true file) (contents_by false file)
  unfolding contents_by
  contents_strictly =
      unless_after (preamble_of file)
      (λ preamble. then_same (texts_of true file preamble.count) (texts_of false file preamble.count) (texts_strictly preamble.count (preamble.count + 1) 0 7)
      (λ texts. then_same (sections_at true file texts.place) (sections_at false file texts.place) (sections_strictly texts.place) (λ sections. alike refl)))

  pub head_strictly_unless : Unless 31 unstrict (head_strictly file) (head_of file)
  unfolding head_by
  head_strictly_unless = unless_then (contents_by true file) (contents_by false file) contents_strictly (λ a b e. alike (ap (λ (c : Contents). given c.head) e))

  -- ---- opening
  fitting_strictly : (room : ℕ) → Unless 31 unstrict_contents (fitting_of true file room) (fitting_of false file room)
  unfolding fitting_of
  fitting_strictly room =
      unless_then (contents_by true file) (contents_by false file) contents_strictly (λ a b e. subst (λ (bytes : List ℕ). Unless 31 unstrict_contents (demand
      (leb (length a.bytes) room) (plain 18) >> given a) (demand (leb (length bytes) room) (plain 18) >> given b)) (ap (λ (c : Contents). c.bytes) e)
      (unless_demand (leb (length a.bytes) room) (plain 18) (alike (ap given e))))

  replied_unstrict : (room : ℕ) (r : Reply Contents) → replied_of room r ≡ replied_of room (shown unstrict_contents r)
  replied_unstrict room (given contents) = refl
  replied_unstrict room (refused why) = refl

  -- `strict_or_plain` of opening: refused 31 with the whole text zero, or the plain opening's reply and text
  pub strict_open_or_plain : (room : ℕ) → (opened_strictly file room ≡ replied_of room (refused (plain 31))) ⊎ (opened_strictly file room ≡ opened_of file room)
  unfolding opened_by
  strict_open_or_plain room = go (fitting_strictly room) where
    go : {r s : Reply Contents} → Unless 31 unstrict_contents r s → (replied_of room r ≡ replied_of room (refused (plain 31))) ⊎ (replied_of room r ≡ replied_of room s)
    go (refuses e) = inl (ap (replied_of room) e)
    go {r = r} {s = s} (alike e) = inr (replied_unstrict room r ∙ ap (replied_of room) e ∙ sym (replied_unstrict room s))

-- a file that opens holds its whole table
pub table_within : (strict : Bool) (file : List ℕ) {head : Head} → head_by strict file ≡ given head → head.sections.metadata ≤ length file
table_within strict file e = let o = read_from strict file (sym e) in let a = sized strict file o.texts.place o.sections in
    omega (arith, a.metadata, a.data_stands, a.exact)
