-- What `is_index` says of words, whoever wrote them: they are those that building leaves for this file, and a lookup through them is the plain one. Assumes nothing.
use Rattle.numbers.proofs.Prelude.{ℕ, ◌-◌, ◌≤◌, leb-true, leb, length, length-append, length-replicate, Bool, false, List, [], ◌∷◌, ◌++◌, ◌↔◌, ◌≡◌, refl, sym, ap, subst, ◌∙◌, arith}
use Rattle.numbers.proofs.{Refusals.{Listed, still_listed}, Replies.{given_from, demanded, NumberedReply, answers, refuses, then_reply, and_then, demands, number_of_lem, given_one, demand_met}}
use Rattle.numbers.{proofs.Tests.{differ, both}, specs.{Lists.{zeros, padded}, Reply.{Reply, given, refused, plain, demand}, declared.refusal.Refusal.{Refusal}}}
use Rattle.table.specs.{Find.{is_precision}, declared.{location.Location.{Location}, rows.Row.{Row}}}
use Rattle.header.{proofs.Numbered.{header_numbers, head_numbered}, specs.{Header.{head_of}, declared.header.Head.{Head}}}
use Rattle.zones.specs.Lookup.{looked_up}
use Rattle.index.proofs.{Owning.{Only, own_opened, own_unopened, rest_only}, SameIndex.{Settled, settled}, Standing.{same_words, same_self}, ThroughIsPlain.{own_through, own_indexed}}
use Rattle.index.specs.Index.{records_of, records_at, index_of, has_room, index_with, index_in, Indexed, indexed, indexed_by, indexed_of, built_in, built_with}
use Rattle.index.specs.Own.{is_same, held_against, is_index_of}
use Rattle.index.specs.{Table.{bottom, table_of}, Through.{looked_through, looked_indexed}, inner.Own.{is_at, compared_of, own_with}}
use Rattle.index.proofs.Owning as O
use Rattle.index.proofs.SameIndex as Si

-- ---- exactly the words that building leaves
module _ (words : List ℕ) where
  held_is : (reply : Reply ℕ) (built : List ℕ) → held_against words reply built ≡ given tt → (used : ℕ) × (indexed reply built ≡ indexed (given used) words)
  unfolding held_against
  held_is (given used) built e = (used, ap (indexed (given used)) (sym (same_words words built (demand_met (is_same words built) (plain 36) e))))
  held_is (refused why) built e = let z : ◌≡◌ {A = ℕ} 0 1 = cc in absurd (omega arith)

  is_held : (used : ℕ) → held_against words (given used) words ≡ given tt
  unfolding held_against
  is_held used = ap (λ (b : Bool). demand b (plain 36)) (same_self words)

-- `is_index` says 0 exactly where building, lent as many words, gives and leaves these for this file.
pub is_index_exactly : (file words : List ℕ) → (is_index_of file words ≡ given tt) ↔ ((used : ℕ) × (indexed_of file (length words) ≡ indexed (given used) words))
unfolding is_index_of
is_index_exactly file words = (
  (λ e. held_is words (indexed_of file (length words)).reply (indexed_of file (length words)).words e),
  (λ built. ap (λ (i : Indexed). held_against words i.reply i.words) built.1 ∙ is_held words built.0),
)

-- building leaves as many words as it was lent
words_long : (n : ℕ) (whole : List ℕ) → length whole ≤ n → length (padded n whole) ≡ n
words_long n whole h = omega (arith, length-append whole (zeros (n - length whole)), length-replicate {A = ℕ} (n - length whole) 0, h)

built_long : (file : List ℕ) (n : ℕ) {used : ℕ} → (indexed_of file n).reply ≡ given used → length (indexed_of file n).words ≡ n
unfolding indexed_of built_in built_with indexed_by
built_long file n {used} e = go (index_in file n) refl e where
  fits : {words : List ℕ} → given words ≡ index_in file n → length words ≤ n
  fits {words} w = let h = given_from (head_of file) (λ (head : Head). index_with file head n) w in
      let p = demanded (is_precision h.it.preamble.precision) (plain 16) h.onto in let t = given_from (table_of file h.it) _ p.1 in
      let r = demanded (has_room n (length (index_of file h.it t.it))) (plain 35) t.onto in
      let is : words ≡ index_of file h.it t.it = given_one r.1 in
      let room = leb-true (length (index_of file h.it t.it)) n (both (leb (length (index_of file h.it t.it)) n) _ r.0).0 in
      omega (arith, ap length is, room)

  go : (reply : Reply (List ℕ)) → reply ≡ index_in file n → (indexed_by n reply).reply ≡ given used → length (indexed_by n reply).words ≡ n
  go (given words) w e = words_long n words (fits w)
  go (refused why) w e = length-replicate {A = ℕ} n 0

-- Of the words that building gave for a file `is_index` says 0.
pub built_is_index : (file : List ℕ) (n : ℕ) {used : ℕ} → (indexed_of file n).reply ≡ given used → is_index_of file (indexed_of file n).words ≡ given tt
built_is_index file n {used} e =
    (is_index_exactly file (indexed_of file n).words).1 (used, ap (indexed_of file) (built_long file n e) ∙ (λ i. indexed (e i) (indexed_of file n).words))

-- ---- a lookup through such words
module _ (file words : List ℕ) (e : is_index_of file words ≡ given tt) (location : Location) (asked : Bool) (n room : ℕ) where
  -- Through every list of words of which it says 0, lookup with a comparison is the plain lookup: matches, mark, safezone, refusals and all lent output,
  pub is_index_is_plain : looked_indexed file words location asked n room ≡ looked_up file location asked n room
  is_index_is_plain = let built = (is_index_exactly file words).0 e in
      ap (λ (i : Indexed). looked_indexed file i.words location asked n room) (sym built.1) ∙ own_indexed file (length words) (ap (λ (i : Indexed). i.reply) built.1) location asked n room

  -- and without one too.
  pub is_index_through : looked_through file words location asked n room ≡ looked_up file location asked n room
  is_index_through = let built = (is_index_exactly file words).0 e in
      ap (λ (i : Indexed). looked_through file i.words location asked n room) (sym built.1) ∙ own_through file (length words) (ap (λ (i : Indexed). i.reply) built.1) location asked n room

-- ---- which numbers
-- opening's, and: precision 16, table 34, other words 36
abbrev pub owning_numbers : List ℕ
owning_numbers = header_numbers ++ (16 ∷ 34 ∷ 36 ∷ [])

only_numbered : {A : Type 0} {reply : Reply A} → Only reply → NumberedReply (Listed owning_numbers) reply
only_numbered O.gives = answers
only_numbered O.other = refuses refl

table_numbered : {reply : Reply (List Row)} → Settled reply → NumberedReply (Listed owning_numbers) reply
table_numbered Si.lists = answers
table_numbered Si.bad = refuses refl

own_numbered : (file words : List ℕ) (head : Head) → NumberedReply (Listed owning_numbers) (own_with file head words)
unfolding own_with compared_of table_of
own_numbered file words head =
    and_then (demands (is_precision head.preamble.precision) (plain 16) refl) (then_reply (then_reply (table_numbered (settled head.sections.metadata bottom _))
    (λ rows. and_then (demands (is_at words records_at (records_of rows)) (plain 36) refl) answers)) (λ rows. only_numbered (rest_only file head words rows)))

is_index_numbered : (file words : List ℕ) (opened : Reply Head) → opened ≡ head_of file → NumberedReply (Listed owning_numbers) opened → NumberedReply (Listed owning_numbers) (is_index_of file words)
is_index_numbered file words (given head) e h = subst (NumberedReply (Listed owning_numbers)) (own_opened file head words e) (own_numbered file words head)
is_index_numbered file words (refused why) e (refuses h) = subst (NumberedReply (Listed owning_numbers)) (own_unopened file words e) (refuses h)

-- Words that are not the file's index, and files that have none, are refused with one of these.
pub is_index_refusals : (file words : List ℕ) (why : Refusal) → is_index_of file words ≡ refused why → Listed owning_numbers why.number
is_index_refusals file words why =
    number_of_lem (is_index_numbered file words (head_of file) refl (head_numbered (still_listed header_numbers (16 ∷ 34 ∷ 36 ∷ [])) false differ file))
