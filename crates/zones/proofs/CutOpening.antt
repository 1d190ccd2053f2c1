-- Opening (request Q-6): the strict one is refused 31 exactly where the plain one meets a number that the file's end cuts. Assumes nothing.
use Rattle.numbers.proofs.Prelude.{ℕ, zero, suc, ◌+◌, ◌%◌, ◌^◌, ltb, leb, length, Bool, true, false, ◌||◌, List, ◌≡◌, refl, sym, ap, subst, ◌∙◌, arith}
use Rattle.numbers.specs.{Answer.{Answer, if◌then◌else◌}, Reply.{Reply, given, refused, plain, demand, ◌or_else◌, ◌>>=◌, ◌>>◌}, declared.refusal.Refusal.{Refusal}}
use Rattle.header.{proofs.{StrictHead.{unstrict}, Unless.{shown}}, specs.Header.{preamble_of, blame_of, texts_from, texts_of, size_at, sections_at, Contents, contents_by, head_by, head_of, head_strictly}}
use Rattle.header.specs.{Opening.{fitting_of, replied_of, opened_by, opened_of, opened_strictly}, Text.{remote_at, string_at, or_blamed, text_at}, declared.{header.Sections.{Sections}, text.Blame.{Blame}}}
use Rattle.header.specs.declared.text.Text.{Text}
use Rattle.zones.proofs.Cuts.{Cuts, cut, same, then_cuts, last_cuts, either_cuts, reading_cuts}
use Rattle.zones.specs.Cut.{where_given, cut_at, EndsCut, string_cut, texts_cut, sections_cut, opening_cut}

-- ---- replies: refused 31, or alike as far as one looks
pub data CutReply (E : Type 0) {A B : Type 0} (look : A → B) : Bool → Reply A → Reply A → Type 0 where
  cut_off : {s : Reply A} → E → CutReply E look true (refused (plain 31)) s
  alike : {r s : Reply A} → shown look r ≡ shown look s → CutReply E look false r s

-- all of it is looked at
abbrev pub CutSame : Type 0 → {A : Type 0} → Bool → Reply A → Reply A → Type 0
CutSame E {A} = CutReply E (λ (a : A). a)

module _ {E : Type 0} where
  pub then_cut : {A B C D : Type 0} {look : A → B} {look' : C → D} {b : Bool} {c : A → Bool} (r s : Reply A) {k k' : A → Reply C} → CutReply E look b r s
      → ((a a' : A) → look a ≡ look a' → CutReply E look' (c a') (k a) (k' a')) → CutReply E look' (b || where_given s c) (r >>= k) (s >>= k')
  then_cut r s (cut_off e) h = cut_off e
  then_cut (given a) (given a') (alike e) h = h a a' (cc)
  then_cut (refused why) (refused why') (alike e) h = let one : why ≡ why' = cc in alike (ap refused one)
  then_cut (given a) (refused why) (alike e) h = let z : ◌≡◌ {A = ℕ} 0 1 = cc in absurd (omega arith)
  then_cut (refused why) (given a) (alike e) h = let z : ◌≡◌ {A = ℕ} 0 1 = cc in absurd (omega arith)

  pub then_same : {A C D : Type 0} {look' : C → D} {b : Bool} {c : A → Bool} (r s : Reply A) {k k' : A → Reply C} → CutSame E b r s → ((a : A) → CutReply E look' (c a) (k a) (k' a))
      → CutReply E look' (b || where_given s c) (r >>= k) (s >>= k')
  then_same {A} {look' = look'} {c = c} r s {k} {k'} h next = then_cut r s h (λ a a' e. subst (λ (x : A). CutReply E look' (c x) (k a) (k' x)) e (next a))

  -- nothing is read behind it
  pub then_last : {A B C D : Type 0} {look : A → B} {look' : C → D} {b : Bool} (r s : Reply A) (k k' : A → Reply C) → CutReply E look b r s
      → ((a a' : A) → look a ≡ look a' → shown look' (k a) ≡ shown look' (k' a')) → CutReply E look' b (r >>= k) (s >>= k')
  then_last r s k k' (cut_off e) h = cut_off e
  then_last (given a) (given a') k k' (alike e) h = alike (h a a' (cc))
  then_last (refused why) (refused why') k k' (alike e) h = let one : why ≡ why' = cc in alike (ap refused one)
  then_last (given a) (refused why) k k' (alike e) h = let z : ◌≡◌ {A = ℕ} 0 1 = cc in absurd (omega arith)
  then_last (refused why) (given a) k k' (alike e) h = let z : ◌≡◌ {A = ℕ} 0 1 = cc in absurd (omega arith)

  pub last_same : {A C D : Type 0} {look' : C → D} {b : Bool} (r s : Reply A) (k : A → Reply C) → CutSame E b r s → CutReply E look' b (r >>= k) (s >>= k)
  last_same {A} {look' = look'} r s k h = then_last r s k k h (λ a a' e. ap (λ (x : A). shown look' (k x)) e)

  -- both go on from the same reply
  pub after_same : {A C D : Type 0} {look' : C → D} {c : A → Bool} (r : Reply A) {k k' : A → Reply C} → ((a : A) → CutReply E look' (c a) (k a) (k' a)) → CutReply E look' (where_given r c)
      (r >>= k) (r >>= k')
  after_same (given a) h = h a
  after_same (refused why) h = alike refl

  pub demand_cut : {A B : Type 0} {look : A → B} {b : Bool} (test : Bool) (why : Refusal) {r s : Reply A} → CutReply E look b r s
      → CutReply E look (if test then b else false) (demand test why >> r) (demand test why >> s)
  demand_cut true why h = h
  demand_cut false why h = alike refl

  -- what was read with a number
  pub or_else_lem : {A : Type 0} {b : Bool} (why : Refusal) {strict plainly : Answer A} → Cuts E b strict plainly → CutSame E b (strict or_else why) (plainly or_else why)
  or_else_lem why (cut e) = cut_off e
  or_else_lem why same = alike refl

  -- what it says of both replies
  pub met_ends : {A B : Type 0} {look : A → B} {b : Bool} {r s : Reply A} → CutReply E look b r s → b ≡ true → E
  met_ends (cut_off e) is = e
  met_ends (alike h) is = let z : ◌≡◌ {A = ℕ} 0 1 = cc in absurd (omega arith)

-- ---- strings and header
module _ (file : List ℕ) where
  string_cuts : (metadata place : ℕ) → Cuts (EndsCut file) (string_cut file metadata place) (string_at true file metadata place) (string_at false file metadata place)
  unfolding string_cut string_at remote_at
  string_cuts metadata place = then_cuts (reading_cuts file place) (λ number. either_cuts (ltb number.value 256) same (last_cuts _ (reading_cuts file _)))

  blamed : (blame : Blame) {b : Bool} {strict plainly : Answer Text} → Cuts (EndsCut file) b strict plainly → CutSame (EndsCut file) b (or_blamed file blame strict) (or_blamed file blame plainly)
  blamed blame (cut e) = cut_off e
  blamed blame same = alike refl

  pub text_cuts : (metadata place : ℕ) (blame : Blame) → CutSame (EndsCut file) (string_cut file metadata place) (text_at true file metadata place blame) (text_at false file metadata place blame)
  unfolding text_at
  text_cuts metadata place blame = blamed blame (string_cuts metadata place)

  texts_cuts : (names more index place : ℕ) → CutSame (EndsCut file) (texts_cut file names more index place) (texts_from true file names more index place) (texts_from false file names more index place)
  unfolding texts_from texts_cut
  texts_cuts names zero index place = alike refl
  texts_cuts names (suc more) index place =
      then_same (text_at true file 0 place (blame_of names index)) (text_at false file 0 place (blame_of names index)) (text_cuts 0 place (blame_of names index))
      (λ text. last_same (texts_from true file names more (index + 1) text.next) (texts_from false file names more (index + 1) text.next) _ (texts_cuts names more (index + 1) text.next))

  size_cuts : (place number : ℕ) → CutSame (EndsCut file) (cut_at file place) (size_at true file place number) (size_at false file place number)
  size_cuts place number = or_else_lem (plain number) (reading_cuts file place)

  sections_cuts : (place : ℕ) → CutSame (EndsCut file) (sections_cut file place) (sections_at true file place) (sections_at false file place)
  unfolding sections_at sections_cut
  sections_cuts place =
      then_same (size_at true file place 8) (size_at false file place 8) (size_cuts place 8) (λ first. then_same (size_at true file first.place 9)
      (size_at false file first.place 9) (size_cuts first.place 9) (λ second. demand_cut (ltb (first.value % 2 ^ 32 + second.value % 2 ^ 32) (2 ^ 32))
      (plain 13) (last_same (size_at true file second.place 10) (size_at false file second.place 10) _ (size_cuts second.place 10))))

  -- all that the contents say but how they were read
  abbrev bare : Contents → Contents
  bare contents = record { head = unstrict file contents.head; bytes = contents.bytes }

  contents_cuts : CutReply (EndsCut file) bare (opening_cut file) (contents_by true file) (contents_by false file)
  unfolding contents_by opening_cut
  contents_cuts =
      after_same (preamble_of file) (λ preamble. then_same (texts_of true file preamble.count) (texts_of false file preamble.count)
      (texts_cuts preamble.count (preamble.count + 1) 0 7) (λ texts. then_last (sections_at true file texts.place) (sections_at false file texts.place)
      _ _ (sections_cuts texts.place) (λ a a' e. ap (λ (s : Sections). given (record { head = record { preamble = preamble; sections = s; strict = false }; bytes = texts.bytes })) e)))

  pub head_cuts : CutReply (EndsCut file) (unstrict file) (opening_cut file) (head_strictly file) (head_of file)
  unfolding head_by
  head_cuts = then_last (contents_by true file) (contents_by false file) _ _ contents_cuts (λ a a' e. ap (λ (c : Contents). given c.head) e)

  -- ---- opening, with so much room for text
  by_test : (test : Bool) (a b : Contents) → ◌≡◌ {A = Reply _} (given (bare a)) (given (bare b)) → shown bare (demand test (plain 18) >> given a) ≡ shown bare (demand test (plain 18) >> given b)
  by_test true a b e = e
  by_test false a b e = refl

  fitting_cuts : (room : ℕ) → CutReply (EndsCut file) bare (opening_cut file) (fitting_of true file room) (fitting_of false file room)
  unfolding fitting_of
  fitting_cuts room =
      then_last (contents_by true file) (contents_by false file) _ _ contents_cuts (λ a b e. subst (λ (bytes : List ℕ). shown bare (demand (leb (length a.bytes) room)
      (plain 18) >> given a) ≡ shown bare (demand (leb (length bytes) room) (plain 18) >> given b)) (ap (λ (c : Contents). c.bytes) e) (by_test (leb (length a.bytes) room) a b (ap given e)))

  replied_bare : (room : ℕ) (r : Reply Contents) → replied_of room r ≡ replied_of room (shown bare r)
  replied_bare room (given contents) = refl
  replied_bare room (refused why) = refl

  -- The strict opening is refused 31, its text zero, exactly where the plain one meets a number that the file's end cuts before it is refused or ends; else it is the plain one, reply and text.
  pub strict_open_cut : (room : ℕ) → opened_strictly file room ≡ (if opening_cut file then replied_of room (refused (plain 31)) else opened_of file room)
  unfolding opened_by
  strict_open_cut room = go (fitting_cuts room) where
    go : {b : Bool} {r s : Reply Contents} → CutReply (EndsCut file) bare b r s → replied_of room r ≡ (if b then replied_of room (refused (plain 31)) else replied_of room s)
    go (cut_off e) = refl
    go {r = r} {s = s} (alike e) = replied_bare room r ∙ ap (replied_of room) e ∙ sym (replied_bare room s)

  -- and then the file's last byte is 128 or more
  pub opening_cut_ends : opening_cut file ≡ true → EndsCut file
  opening_cut_ends = met_ends head_cuts
