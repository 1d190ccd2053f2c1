-- Words that building gave for one file are tied to another exactly where length, header and table are the same. Assumes nothing.
use Rattle.numbers.proofs.Prelude.{ℕ, zero, suc, ◌+◌, ◌-◌, ◌*◌, ◌^◌, ◌≤◌, ◌<◌, leb-true, eqb-true, leb-false, eqb, leb, length, take, get_or, length-take, Bool, true, false, ◌&&◌, List, [], ◌∷◌, ◌≡◌}
use Rattle.numbers.proofs.Prelude.{refl, sym, ap, subst, ◌∙◌, arith}
use Rattle.numbers.{proofs.{Replies.{given_from, demanded, given_one, demand_met}, Tests.{both}}, specs.{Answer.{if◌then◌else◌}, Lists.{padded}, Reply.{Reply, given, refused, plain}}}
use Rattle.table.specs.Find.{is_precision}
use Rattle.header.{proofs.SameHead.{same_head}, specs.{Header.{head_of}, declared.header.Head.{Head}}}
use Rattle.index.proofs.{BuiltIsTied.{built_is_tied}, SameIndex.{same_index}, Tying.{tied_so, tied_not}}
use Rattle.index.specs.{Complete.{Bytes, BuiltFrom, SameFront}, Index.{four_at, words_for, records_at, index_of, has_room, built_with, built_in, index_in, Indexed, indexed_by, indexed_of}}
use Rattle.index.specs.{Table.{table_of}, Tied.{word_at, keeps_from, is_tied, tied_of}}

-- ---- what building gave came from a table
words_from : (file : List ℕ) (n : ℕ) {words : List ℕ} → given words ≡ index_in file n → BuiltFrom file n (padded n words)
unfolding built_in built_with
words_from file n {words} e = let opened = given_from (head_of file) _ e in let head = opened.it in
    let fine = demanded (is_precision head.preamble.precision) (plain 16) opened.onto in let table = given_from (table_of file head) _ fine.1 in
    let room = demanded (has_room n (length (index_of file head table.it))) (plain 35) table.onto in
    record { head = head; opened = opened.is; precise = fine.0; rows = table.it; listed = table.is; whole = ap (padded n) (given_one room.1) }

pub built_from : (file : List ℕ) (n : ℕ) {used : ℕ} → (indexed_of file n).reply ≡ given used → BuiltFrom file n (indexed_of file n).words
unfolding indexed_of indexed_by
built_from file n {used} e = go (index_in file n) refl e where
  go : (reply : Reply (List ℕ)) → reply ≡ index_in file n → (indexed_by n reply).reply ≡ given used → BuiltFrom file n (indexed_by n reply).words
  go (given words) same e = words_from file n same
  go (refused why) same e = let z : ◌≡◌ {A = ℕ} 0 1 = cc in absurd (omega arith)

-- ---- four bytes are known by their word
low_known : (a r a' r' : ℕ) → a < 256 → a' < 256 → a + r * 2 ^ 8 ≡ a' + r' * 2 ^ 8 → (a ≡ a') × (r ≡ r')
low_known a r a' r' h h' e = (omega arith, omega arith)

-- a byte's place in its word
four_known : (a b c d a' b' c' d' : ℕ) → a < 256 → b < 256 → c < 256 → a' < 256 → b' < 256 → c' < 256
    → a + b * 2 ^ 8 + c * 2 ^ 16 + d * 2 ^ 24 ≡ a' + b' * 2 ^ 8 + c' * 2 ^ 16 + d' * 2 ^ 24 → (a ≡ a') × (b ≡ b') × (c ≡ c') × (d ≡ d')
four_known a b c d a' b' c' d' ha hb hc ha' hb' hc' e =
    let one = low_known a (b + (c + d * 2 ^ 8) * 2 ^ 8) a' (b' + (c' + d' * 2 ^ 8) * 2 ^ 8) ha ha' (omega (arith, e)) in
    let two = low_known b (c + d * 2 ^ 8) b' (c' + d' * 2 ^ 8) hb hb' one.1 in let three = low_known c d c' d' hc hc' two.1 in
    (one.0, two.0, three.0, three.1)

module _ (words p q : List ℕ) (bp : Bytes p) (bq : Bytes q) where
  first_alike : (at i more : ℕ) (bytes : List ℕ) → keeps_from words at bytes (suc more) i ≡ true → (word_at words at ≡ four_at bytes i) × (keeps_from words (at + 1) bytes more (i + 4) ≡ true)
  unfolding keeps_from
  first_alike at i more bytes e = go (eqb (word_at words at) (four_at bytes i)) refl e where
    go : (test : Bool) → eqb (word_at words at) (four_at bytes i) ≡ test → (if test then keeps_from words (at + 1) bytes more (i + 4) else false) ≡ true
        → (word_at words at ≡ four_at bytes i) × (keeps_from words (at + 1) bytes more (i + 4) ≡ true)
    go true s e = (eqb-true (word_at words at) (four_at bytes i) s, e)
    go false s e = let z : ◌≡◌ {A = ℕ} 0 1 = cc in absurd (omega arith)

  by_place : (i j : ℕ) → i ≤ j → four_at p i ≡ four_at q i → j < i + 4 → get_or p j 0 ≡ get_or q j 0
  by_place i j h e l =
      let known = four_known (get_or p i 0) (get_or p (i + 1) 0) (get_or p (i + 2) 0) (get_or p (i + 3) 0) (get_or q i 0) (get_or q (i + 1) 0) (get_or q (i + 2) 0)
      (get_or q (i + 3) 0) (bp i) (bp (i + 1)) (bp (i + 2)) (bq i) (bq (i + 1)) (bq (i + 2)) e in choose (j - i) (omega arith) known where
        choose : (k : ℕ) → j ≡ i + k → (get_or p i 0 ≡ get_or q i 0) × (get_or p (i + 1) 0 ≡ get_or q (i + 1) 0) × (get_or p (i + 2) 0 ≡ get_or q (i + 2) 0) × (get_or p (i + 3) 0 ≡ get_or q
            (i + 3) 0) →
            get_or p j 0 ≡ get_or q j 0
        choose zero s known = let z : j ≡ i = omega (arith, s) in rw z known.0
        choose (suc zero) s known = rw s known.1
        choose (suc (suc zero)) s known = rw s known.2
        choose (suc (suc (suc zero))) s known = rw s known.3
        choose (suc (suc (suc (suc k)))) s known = absurd (omega (arith, s, l))

  -- bytes that the same words keep are the same
  keeps_alike : (more at i j : ℕ) → keeps_from words at p more i ≡ true → keeps_from words at q more i ≡ true → i ≤ j → j < i + 4 * more → get_or p j 0 ≡ get_or q j 0
  keeps_alike zero at i j e e' h l = absurd (omega arith)
  keeps_alike (suc more) at i j e e' h l = let a = first_alike at i more p e in let b = first_alike at i more q e' in
      further (leb (i + 4) j) refl (sym a.0 ∙ b.0) (λ m. keeps_alike more (at + 1) (i + 4) j a.1 b.1 m (omega (arith, l))) where
        further : (test : Bool) → leb (i + 4) j ≡ test → four_at p i ≡ four_at q i → (i + 4 ≤ j → get_or p j 0 ≡ get_or q j 0) → get_or p j 0 ≡ get_or q j 0
        further true m same rest = rest (leb-true (i + 4) j m)
        further false m same rest = by_place i j h same (leb-false (i + 4) j m)

same_list : (l l' : List ℕ) → length l ≡ length l' → ((i : ℕ) → i < length l → get_or l i 0 ≡ get_or l' i 0) → l ≡ l'
same_list [] [] e h = refl
same_list [] (y ∷ l') e h = absurd (omega (arith, e))
same_list (x ∷ l) [] e h = absurd (omega (arith, e))
same_list (x ∷ l) (y ∷ l') e h = let first : x ≡ y = h 0 (omega arith) in
    let rest : l ≡ l' = same_list l l' (omega (arith, e)) (λ i k. h (suc i) (omega arith)) in λ i. first i ∷ rest i

first_bytes : (size : ℕ) (file : List ℕ) → Bytes file → Bytes (take size file)
first_bytes zero file h i = omega arith
first_bytes (suc size) [] h i = omega arith
first_bytes (suc size) (b ∷ file) h zero = h 0
first_bytes (suc size) (b ∷ file) h (suc i) = first_bytes size file (λ k. h (suc k)) i

three_of : (a b c d : Bool) (r : Bool) → ((a && (b && (c && d))) && r) ≡ true → (b ≡ true) × (c ≡ true) × (r ≡ true)
three_of a b c d r h = let outer = both (a && (b && (c && d))) r h in let second = both b (c && d) (both a (b && (c && d)) outer.0).1 in
    (second.0, (both c d second.1).0, outer.1)

-- ---- words that are tied to two files
module _ (file file' : List ℕ) (head head' : Head) (words : List ℕ) (bytes : Bytes file) (bytes' : Bytes file') where
  abbrev size : ℕ
  size = head.sections.metadata

  abbrev size' : ℕ
  size' = head'.sections.metadata

  tied_alike : is_tied file head words ≡ true → is_tied file' head' words ≡ true → SameFront size file file'
  unfolding is_tied
  tied_alike t t' =
      let a = three_of (leb records_at (length words)) (eqb (word_at words 0) (length file)) (eqb (word_at words 1) size) _ _ t in
      let b = three_of (leb records_at (length words)) (eqb (word_at words 0) (length file')) (eqb (word_at words 1) size') _ _ t' in
      let long : length file ≡ length file' = sym (eqb-true _ _ a.0) ∙ eqb-true _ _ b.0 in
      let sizes : size' ≡ size = sym (eqb-true _ _ b.1) ∙ eqb-true _ _ a.1 in
      let kept = subst (λ (s : ℕ). keeps_from words (records_at + 7 * word_at words 2) (take s file') (words_for s) 0 ≡ true) sizes b.2 in
      let same : (i : ℕ) → i < length (take size file) → get_or (take size file) i 0 ≡ get_or (take size file') i 0 =
      λ i l. keeps_alike words (take size file) (take size file') (first_bytes size file bytes) (first_bytes size file' bytes') (words_for size) (records_at + 7 * word_at words 2) 0 i a.2
      kept (omega arith)
      (omega (arith, l, length-take size file)) in
      record { long = long; bytes = same_list (take size file) (take size file') (omega (arith, length-take size file, length-take size file', long)) same }

-- what follows a yes
tied_yes : (file words : List ℕ) {head : Head} → given head ≡ head_of file → given tt ≡ tied_of file words → is_tied file head words ≡ true
unfolding tied_of
tied_yes file words {head} e t = let opened = given_from (head_of file) _ t in
    let fine = demanded (is_precision opened.it.preamble.precision) (plain 16) opened.onto in
    let same : opened.it ≡ head = given_one (opened.is ∙ sym e) in
    subst (λ (h : Head). is_tied file h words ≡ true) same (demand_met (is_tied file opened.it words) (plain 36) (sym fine.1))

-- ---- exactly where they differ
module _ (file file' : List ℕ) (n : ℕ) {used : ℕ} (e : (indexed_of file n).reply ≡ given used) {head head' : Head} (opened : given head ≡ head_of file) (opened' : given head' ≡ head_of file') where
  abbrev words : List ℕ
  words = (indexed_of file n).words

  abbrev Alike : Type 0
  Alike = SameFront head.sections.metadata file file'

  -- A file to which an index is tied has the length, the header and the table of the file that the index was built for.
  pub tied_same : Bytes file → Bytes file' → given tt ≡ tied_of file' words → Alike
  tied_same bytes bytes' t = tied_alike file file' head head' words bytes bytes' (tied_yes file words opened (built_is_tied file n e)) (tied_yes file' words opened' t)

  -- And to each such file it is tied.
  pub same_tied : Alike → given tt ≡ tied_of file' words
  same_tied same = let one : head ≡ head' = same_head false file file' opened opened' same.long same.bytes in
      let there : given head ≡ head_of file' = ap given one ∙ opened' in
      let index : indexed_of file n ≡ indexed_of file' n = same_index file file' head same.long same.bytes opened there n in
      let given_there : (indexed_of file' n).reply ≡ given used = ap (λ (i : Indexed). i.reply) (sym index) ∙ e in
      built_is_tied file' n given_there ∙ ap (λ (i : Indexed). tied_of file' i.words) (sym index)

  -- To any other file that opens with a precision it is not: 36.
  pub differs_is_36 : Bytes file → Bytes file' → is_precision head'.preamble.precision ≡ true → (Alike → ⊥) → refused (plain 36) ≡ tied_of file' words
  differs_is_36 bytes bytes' p differs = go (is_tied file' head' words) refl where
    go : (test : Bool) → is_tied file' head' words ≡ test → refused (plain 36) ≡ tied_of file' words
    go true t = absurd (differs (tied_same bytes bytes' (tied_so file' words opened' p t)))
    go false t = tied_not file' words opened' p t
