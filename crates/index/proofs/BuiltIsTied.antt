-- Words that building gave for a file are tied to it, and zeros, which a refused building leaves, to none. Assumes nothing.
use Rattle.numbers.proofs.Prelude.{ℕ, zero, suc, ◌+◌, ◌-◌, ◌*◌, ◌^◌, ◌≤◌, ◌<◌, eq-eqb, ne_eqb, le-leb, leb-true, eqb, leb, length, take, get_or, length-append, List·getD-append}
use Rattle.numbers.proofs.Prelude.{get_or-append-add, Bool}
use Rattle.numbers.proofs.Prelude.{true, false, ◌&&◌, List, [], ◌∷◌, ◌++◌, append_assoc, ◌≡◌, refl, sym, ap, subst, ◌∙◌, add-zero, arith}
use Rattle.numbers.{proofs.Replies.{given_from, demanded, given_one}, specs.{Lists.{zeros, padded}, Reply.{Reply, given, refused, refusal, plain}}}
use Rattle.table.specs.{Find.{is_precision}, declared.rows.Row.{Row}}
use Rattle.header.specs.{Header.{preamble_of, contents_by, head_by, head_of}, declared.header.Head.{Head}}
use Rattle.index.proofs.{Keeping.{packed_length}, Sides.{and_rest}, Tabling.{records_length}, Tying.{end_decides, tied_so, tied_not}, Whole.{lists_length, starts_length}}
use Rattle.index.specs.Index.{records_of, four_at, packed_from, words_for, kept_of, lists_from, joined, starts_from, tiles, records_at, lists_at, index_of, has_room, index_in, indexed_by}
use Rattle.index.specs.Index.{built_in, built_with}
use Rattle.index.specs.{Index.{indexed_of}, Table.{table_of}, Tied.{word_at, is_headed, keeps_from, is_tied, tied_of}}

-- ---- kept bytes
keeps_same : (words bytes : List ℕ) (more at i : ℕ) → ((k : ℕ) → k < more → get_or words (at + k) 0 ≡ get_or (packed_from bytes more i) k 0) → keeps_from words at bytes more i ≡ true
unfolding keeps_from packed_from
keeps_same words bytes zero at i h = refl
keeps_same words bytes (suc more) at i h = let e : at ≡ at + 0 = omega arith in
    let here : word_at words at ≡ four_at bytes i = ap (λ (j : ℕ). get_or words j 0) e ∙ h 0 (omega arith) in
    let onward = keeps_same words bytes more (at + 1) (i + 4) (λ k l. let f : at + 1 + k ≡ at + suc k = omega arith in ap (λ (j : ℕ). get_or words j 0) f ∙ h (suc k) (omega arith)) in
    rw (eq-eqb (word_at words at) (four_at bytes i) here) onward

-- ---- places of the lists
starts_first : (at : ℕ) (lists : List (List ℕ)) (more : List ℕ) → get_or (starts_from at lists ++ more) 0 0 ≡ at
unfolding starts_from
starts_first at [] more = refl
starts_first at (list ∷ lists) more = refl

starts_last : (at : ℕ) (lists : List (List ℕ)) (more : List ℕ) → get_or (starts_from at lists ++ more) (length lists) 0 ≡ at + length (joined lists)
unfolding starts_from joined
starts_last at [] more = sym (add-zero at)
starts_last at (list ∷ lists) more =
    let e : at + length list + length (joined lists) ≡ at + length (list ++ joined lists) = omega (arith, length-append list (joined lists)) in
    starts_last (at + length list) lists more ∙ e

-- ---- the parts, one after the other
flattened : (a b c d e f : List ℕ) → (a ++ (b ++ (c ++ (d ++ e)))) ++ f ≡ a ++ (b ++ (c ++ (d ++ (e ++ f))))
flattened a b c d e f =
    append_assoc a (b ++ (c ++ (d ++ e))) f ∙ ap (λ (x : List ℕ). a ++ x) (append_assoc b (c ++ (d ++ e)) f) ∙ ap (λ (x : List ℕ). a ++ (b ++ x)) (append_assoc c (d ++ e) f)
    ∙ ap (λ (x : List ℕ). a ++ (b ++ (c ++ x))) (append_assoc d e f)

in_front : (a b c d : List ℕ) → a ++ (b ++ (c ++ d)) ≡ (a ++ (b ++ c)) ++ d
in_front a b c d = sym (append_assoc a (b ++ c) d ∙ ap (λ (x : List ℕ). a ++ x) (append_assoc b c d))

module _ (file : List ℕ) (head : Head) (rows : List Row) (rest : List ℕ) where
  abbrev pub size : ℕ
  size = head.sections.metadata

  abbrev pub lists : List (List ℕ)
  lists = lists_from head.preamble.precision rows tiles 0

  abbrev pub begin : ℕ
  begin = lists_at (length rows) size

  abbrev pub three : List ℕ
  three = length file ∷ size ∷ length rows ∷ []

  abbrev pub starts : List ℕ
  starts = starts_from begin lists

  abbrev pub behind : List ℕ
  behind = records_of rows ++ (kept_of file size ++ (joined lists ++ rest))

  abbrev pub words : List ℕ
  words = index_of file head rows ++ rest

  pub flat : words ≡ three ++ (starts ++ behind)
  unfolding index_of
  flat = flattened three starts (records_of rows) (kept_of file size) (joined lists) rest

  pub long : length words ≡ begin + length (joined lists) + length rest
  long =
      ap length flat
      ∙ omega (
        arith,
        length-append starts behind,
        length-append (records_of rows) (kept_of file size ++ (joined lists ++ rest)),
        length-append (kept_of file size) (joined lists ++ rest),
        length-append (joined lists) rest,
        starts_length begin lists,
        lists_length head.preamble.precision rows tiles 0,
        records_length rows,
        packed_length (take size file) (words_for size) 0,
      )

  first : word_at words 0 ≡ length file
  first = ap (λ (w : List ℕ). get_or w 0 0) flat

  second : word_at words 1 ≡ size
  second = ap (λ (w : List ℕ). get_or w 1 0) flat

  pub third : word_at words 2 ≡ length rows
  third = ap (λ (w : List ℕ). get_or w 2 0) flat

  fourth : word_at words 3 ≡ begin
  fourth = ap (λ (w : List ℕ). get_or w 3 0) flat ∙ get_or-append-add three (starts ++ behind) 0 0 ∙ starts_first begin lists behind

  pub last : word_at words 2051 ≡ begin + length (joined lists)
  last =
      ap (λ (w : List ℕ). get_or w 2051 0) flat ∙ get_or-append-add three (starts ++ behind) 2048 0 ∙ ap (λ (k : ℕ). get_or (starts ++ behind) k 0)
      (sym (lists_length head.preamble.precision rows tiles 0)) ∙ starts_last begin lists behind

  pub headed : is_headed words size (length file) ≡ true
  headed = let begins : word_at words 3 ≡ lists_at (word_at words 2) size = fourth ∙ ap (λ (n : ℕ). lists_at n size) (sym third) in
      sym (end_decides words size (length file) (omega (arith, long)) first second begins (omega (arith, long, third))) ∙ le-leb (word_at words 2051) (length words) (omega (arith, long, last))

  kept_there : keeps_from words (records_at + 7 * word_at words 2) (take size file) (words_for size) 0 ≡ true
  kept_there = let kept = kept_of file size in
      keeps_same words (take size file) (words_for size) (records_at + 7 * word_at words 2) 0
      (λ k l.
      let place : records_at + 7 * word_at words 2 + k ≡ length (three ++ (starts ++ records_of rows)) + k =
      omega (arith, third, length-append starts (records_of rows), starts_length begin lists, lists_length head.preamble.precision rows tiles 0, records_length rows) in
      ap (λ (j : ℕ). get_or words j 0) place
      ∙ ap (λ (w : List ℕ). get_or w (length (three ++ (starts ++ records_of rows)) + k) 0) (flat ∙ in_front three starts (records_of rows) (kept ++ (joined lists ++ rest)))
      ∙ get_or-append-add (three ++ (starts ++ records_of rows)) (kept ++ (joined lists ++ rest)) k 0
      ∙ List·getD-append kept (joined lists ++ rest) 0 k (omega (arith, l, packed_length (take size file) (words_for size) 0)))

  -- the index of a file, whatever is behind it
  pub index_is_tied : is_tied file head words ≡ true
  unfolding is_tied
  index_is_tied = sym (and_rest (is_headed words size (length file)) _ headed) ∙ kept_there

-- ---- what building gave
words_tied : (file : List ℕ) (n : ℕ) {words : List ℕ} → given words ≡ index_in file n → given tt ≡ tied_of file (padded n words)
unfolding built_in built_with
words_tied file n {words} e = let opened = given_from (head_of file) _ e in let head = opened.it in
    let fine = demanded (is_precision head.preamble.precision) (plain 16) opened.onto in let table = given_from (table_of file head) _ fine.1 in
    let room = demanded (has_room n (length (index_of file head table.it))) (plain 35) table.onto in
    let whole : index_of file head table.it ≡ words = sym (given_one room.1) in
    let tied = index_is_tied file head table.it (zeros (n - length (index_of file head table.it))) in
    tied_so file (padded n words) opened.is fine.0 (subst (λ (ws : List ℕ). is_tied file head (padded n ws) ≡ true) whole tied)

-- Words that building gave for a file are tied to it.
pub built_is_tied : (file : List ℕ) (n : ℕ) {used : ℕ} → (indexed_of file n).reply ≡ given used → given tt ≡ tied_of file (indexed_of file n).words
unfolding indexed_of indexed_by
built_is_tied file n {used} e = go (index_in file n) refl e where
  go : (reply : Reply (List ℕ)) → reply ≡ index_in file n → (indexed_by n reply).reply ≡ given used → given tt ≡ tied_of file (indexed_by n reply).words
  go (given words) same e = words_tied file n same
  go (refused why) same e = let z : ◌≡◌ {A = ℕ} 0 1 = cc in absurd (omega arith)

-- ---- zeros
opened_long : (file : List ℕ) {head : Head} → given head ≡ head_of file → 7 ≤ length file
unfolding head_by contents_by preamble_of
opened_long file e = let begun = given_from (preamble_of file) _ (given_from (contents_by false file) _ e).is in
    leb-true 7 (length file) (demanded (leb 7 (length file)) (refusal 2 0 (length file)) (demanded (leb (length file) (2 ^ 30)) (plain 1) begun.is).1).0

zero_first : (n : ℕ) → word_at (zeros n) 0 ≡ 0
zero_first zero = refl
zero_first (suc n) = refl

second_fails : (a b c d : Bool) → b ≡ false → ((a && (b && c)) && d) ≡ false
second_fails true b c d e = rw e
second_fails false b c d e = refl

zeros_untied : (file : List ℕ) (n : ℕ) {head : Head} → given head ≡ head_of file → is_tied file head (zeros n) ≡ false
unfolding is_tied
zeros_untied file n {head} e = let long = opened_long file e in
    let other : eqb (word_at (zeros n) 0) (length file) ≡ false = ne_eqb (word_at (zeros n) 0) (length file) (λ same. omega (arith, same, zero_first n, long)) in
    second_fails (leb records_at (length (zeros n))) (eqb (word_at (zeros n) 0) (length file)) _ _ other

-- Zeros are 36 for every file that opens with a precision.
pub zeros_are_other : (file : List ℕ) (n : ℕ) {head : Head} → given head ≡ head_of file → is_precision head.preamble.precision ≡ true → refused (plain 36) ≡ tied_of file (zeros n)
zeros_are_other file n e p = tied_not file (zeros n) e p (zeros_untied file n e)
