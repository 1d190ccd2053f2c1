-- The words of the fields, field by field. Assumes nothing.
use Rattle.numbers.proofs.Prelude.{ℕ, zero, suc, ◌+◌, ◌*◌, ◌^◌, ◌≤◌, ◌<◌, eq-eqb, ne_eqb, eqb-true, eqb, leb, length, take, drop, get_or, set, length-append, length-map, length-set, take-append-drop}
use Rattle.numbers.proofs.Prelude.{length-take-le, drop-cons, take_all, get_or-take, take-suc, take-suc-set, Bool, true, false, ◌&&◌, not, List, [], ◌∷◌, ◌++◌, map, flat_map, ◌≡◌, refl, sym, ap}
use Rattle.numbers.proofs.Prelude.{subst}
use Rattle.numbers.{proofs.{Prelude.{◌∙◌, add-one, arith}, Spelling.{varint_few}}, specs.{Answer.{if◌then◌else◌}, Spelling.{varint_of}}}
use lib.Seq.{split_at}
use Rattle.builder.proofs.{Counting.{cut_many}, Sums.{sum_next}, grouping.{Keyed.{text_equal}, Meant.{First, first_means, text_is, text_itself, starts_inside}}}
use Rattle.builder.specs.{Grouping.{Items.{starts_from, text_at, item_at, Inside}, Keys.{numbers_from, alike, first_of}}, Metadata.{inlined, is_remote, remotes, offset_of}}
use Rattle.builder.specs.{Sharing.{same_by, same_text, is_in, times_in, firsts_after, size_before, good_ones}, Yards.{Text, cut_by, sum_of}}
use Rattle.layout.proofs.Sizes.{size_least}
use Rattle.build.proofs.metadata.{Itemed.{cut_lengths}, Offsets.{total, used, new_place, old_place, total_bad, total_old, total_new}, Shared.{numbers_more, map_more, in_none}}
use Rattle.build.specs.inner.Metadata.Words.{word_in, inline_in, remote_in, Marked, WordsTo, Wording, Added}
use Rattle.header.specs.Utf8.{unmasked}
use mathlib.Core.Bool.{and-true}

-- ---- a list by its numbers
pub at_map : {A : Type 0} (f : A → ℕ) (xs : List A) (i : ℕ) (d : A) → i < length xs → get_or (map f xs) i 0 ≡ f (get_or xs i d)
at_map f [] i d h = absurd (omega arith)
at_map f (x ∷ xs) zero d h = refl
at_map f (x ∷ xs) (suc i) d h = at_map f xs i d (omega arith)

-- a front of a list, by its numbers
numbered : (xs : List Text) (n : ℕ) → n ≤ length xs → map (λ (j : ℕ). get_or xs j []) (numbers_from 0 n) ≡ take n xs
unfolding numbers_from
numbered xs zero h = refl
numbered xs (suc n) h = let e : 0 + n ≡ n = omega arith in
    ap (map (λ (j : ℕ). get_or xs j [])) (numbers_more 0 n) ∙ (map_more (λ (j : ℕ). get_or xs j []) (numbers_from 0 n) ((0 + n) ∷ [])
    ∙ (ap (λ (l : List Text). l ++ (get_or xs (0 + n) [] ∷ [])) (numbered xs n (omega arith)) ∙ (ap (λ (k : ℕ). take n xs ++ (get_or xs k [] ∷ [])) e ∙ sym (take-suc xs n [] (omega arith)))))

flat_total : (ts : List Text) → (good : Text → Bool) → length (flat_map inlined ts) ≡ total same_text text_equal text_itself good (λ (t : Text). length (inlined t)) ts
unfolding flat_map total
flat_total [] good = refl
flat_total (t ∷ ts) good = length-append (inlined t) (flat_map inlined ts) ∙ ap (λ (n : ℕ). length (inlined t) + n) (flat_total ts good)

-- the loop's invariant, at the field i
pub record Words (lengths texts words₀ words : List ℕ) (inline remote i : ℕ) : Type 0 where
  pub index : i ≤ length lengths
  pub size_is : length words ≡ length words₀
  pub to : WordsTo (cut_by lengths texts) words i
  pub inline_is : inline ≡ inline_in (cut_by lengths texts) (take i (cut_by lengths texts))
  pub remote_is : remote ≡ remote_in (cut_by lengths texts) (take i (cut_by lengths texts))
  pub bound : inline + remote + sum_of (drop i lengths) + 10 * length (drop i lengths) < 2 ^ 32

-- ---- the sums with one field more
pub added_inline : (inline remote word size : ℕ) → word ≡ 0 → Added inline remote word size (inline + size) remote
added_inline inline remote word size e = record {
  inline_on = sym (ap (λ (b : Bool). inline + (if b then size else 0)) (eq-eqb word 0 e));
  remote_on = let z : remote ≡ remote + 0 = omega arith in z ∙ sym (ap (λ (b : Bool). remote + (if b then size else 0)) (ne_eqb word (remote + 1) (λ f. omega (arith, e, f))));
}

pub added_remote : (inline remote word size : ℕ) → (word ≡ 0 → ⊥) → word ≡ remote + 1 → Added inline remote word size inline (remote + size)
added_remote inline remote word size n e = record {
  inline_on = let z : inline ≡ inline + 0 = omega arith in z ∙ sym (ap (λ (b : Bool). inline + (if b then size else 0)) (ne_eqb word 0 n));
  remote_on = sym (ap (λ (b : Bool). remote + (if b then size else 0)) (eq-eqb word (remote + 1) e));
}

pub added_none : (inline remote word size : ℕ) → (word ≡ 0 → ⊥) → (word ≡ remote + 1 → ⊥) → Added inline remote word size inline remote
added_none inline remote word size n m = record {
  inline_on = let z : inline ≡ inline + 0 = omega arith in z ∙ sym (ap (λ (b : Bool). inline + (if b then size else 0)) (ne_eqb word 0 n));
  remote_on = let z : remote ≡ remote + 0 = omega arith in z ∙ sym (ap (λ (b : Bool). remote + (if b then size else 0)) (ne_eqb word (remote + 1) m));
}

module _ (lengths texts : List ℕ) (sum : sum_of lengths ≤ length texts) where
  abbrev fields : List Text
  fields = cut_by lengths texts

  abbrev field : ℕ → Text
  field i = get_or fields i []

  abbrev starts : List ℕ
  starts = starts_from 0 lengths

  abbrev size : Text → ℕ
  size t = length (inlined t)

  pub many : length fields ≡ length lengths
  many = cut_many lengths texts

  -- two items of one text
  alike_one : (a b : ℕ) → a < length lengths → b < length lengths → alike starts texts 1 a b ≡ same_text (field a) (field b)
  unfolding alike item_at same_by
  alike_one a b h k = let ea : a * 1 ≡ a = omega arith in let eb : b * 1 ≡ b = omega arith in
      and-true (same_text (text_at starts texts (a * 1)) (text_at starts texts (b * 1))) ∙ (ap (λ (n : ℕ). same_text (text_at starts texts n) (text_at starts texts (b * 1))) ea
      ∙ (ap (λ (n : ℕ). same_text (text_at starts texts a) (text_at starts texts n)) eb ∙ (ap (λ (t : Text). same_text t (text_at starts texts b)) (text_is lengths texts a h)
      ∙ ap (same_text (field a)) (text_is lengths texts b k))))

  times_from : (a i n : ℕ) → a < length lengths → i + n ≤ length lengths → times_in (alike starts texts 1) a (numbers_from i n) ≡ times_in same_text (field a) (map field (numbers_from i n))
  unfolding times_in numbers_from
  times_from a i zero h k = refl
  times_from a i (suc n) h k =
      ap (λ (b : Bool). (if b then 1 else 0) + times_in (alike starts texts 1) a (numbers_from (suc i) n)) (alike_one a i h (omega arith))
      ∙ ap (λ (m : ℕ). (if same_text (field a) (field i) then 1 else 0) + m) (times_from a (suc i) n h (omega arith))

  -- how often a field is found
  times_are : (a n : ℕ) → n ≡ length lengths → a < length lengths → times_in (alike starts texts 1) a (numbers_from 0 n) ≡ times_in same_text (field a) fields
  times_are a n e h =
      times_from a 0 n h (omega (arith, e)) ∙ ap (times_in same_text (field a)) (numbered fields n (omega (arith, e, many)) ∙ take_all n fields (omega (arith, e, many)))

  module _ (i count r : ℕ) (h : i < length lengths) (all : count ≡ length lengths) (is : r ≡ first_of starts texts 1 count i) where
    means : First (alike starts texts 1 i) 0 i r
    means = first_means starts texts 1 count i (omega (arith, all, h)) r is

    pub first_before : r ≤ i
    first_before = means.most

    same_field : field i ≡ field r
    same_field = text_equal (field i) (field r) (sym (alike_one i r h (omega (arith, means.most, h))) ∙ means.same)

    pub is_new : r ≡ i → is_in same_text (field i) (take i fields) ≡ false
    is_new own =
        ap (is_in same_text (field i)) (sym (numbered fields i (omega (arith, many, h))))
        ∙ in_none same_text field (field i) 0 i (λ j a b. sym (alike_one i j h (omega (arith, b, h))) ∙ means.none j a (omega (arith, own, b)))

    -- the word of one that came before
    pub word_old : (words : List ℕ) → WordsTo fields words i → (r ≡ i → ⊥) → get_or words r 0 ≡ word_in fields (field i)
    word_old words w not = let less : r < i = omega (arith, means.most, not) in
        sym (get_or-take i words r 0 less) ∙ (ap (λ (l : List ℕ). get_or l r 0) w.front ∙ (at_map (word_in fields) (take i fields) r []
        (omega (arith, less, length-take-le i fields (omega (arith, many, h)))) ∙ ap (word_in fields) (get_or-take i fields r [] less ∙ sym same_field)))

  as_total : (ts : List Text) → remote_in fields ts ≡ total same_text text_equal text_itself (is_remote fields) size (used same_text text_equal text_itself (is_remote fields) size [] ts)
  unfolding remote_in
  as_total ts = flat_total (firsts_after same_text [] (good_ones (is_remote fields) ts)) (is_remote fields)

  -- a text lies behind those used before it
  pub offset_new : (i : ℕ) → i < length lengths → is_remote fields (field i) ≡ true → is_in same_text (field i) (take i fields) ≡ false → offset_of fields (field i) ≡ remote_in fields (take i fields)
  unfolding offset_of remotes is_in
  offset_new i h far new =
      ap (λ (l : List Text). size_before same_text size (field i) (firsts_after same_text [] (good_ones (is_remote fields) l))) (split_at fields i [] (omega (arith, many, h)))
      ∙ (new_place same_text text_equal text_itself (is_remote fields) size [] (take i fields) (field i) (drop (suc i) fields) far refl new ∙ sym (as_total (take i fields)))

  -- or whole among them
  pub offset_old : (i : ℕ) → is_remote fields (field i) ≡ true → is_in same_text (field i) (take i fields) ≡ true → offset_of fields (field i) + size (field i) ≤ remote_in fields (take i fields)
  unfolding offset_of remotes is_in
  offset_old i far old =
      let e : offset_of fields (field i) ≡ size_before same_text size (field i) (firsts_after same_text [] (good_ones (is_remote fields) (take i fields ++ drop i fields))) =
      ap (λ (l : List Text). size_before same_text size (field i) (firsts_after same_text [] (good_ones (is_remote fields) l))) (sym (take-append-drop i fields)) in
      let p = old_place same_text text_equal text_itself (is_remote fields) size [] (take i fields) (field i) (drop i fields) far refl old in
      omega (arith, e, p, as_total (take i fields))

  pub plain_word : (t : Text) → is_remote fields t ≡ false → 0 ≡ word_in fields t
  unfolding word_in
  plain_word t e = sym (ap (λ (b : Bool). if b then suc (offset_of fields t) else 0) e)

  pub far_word : (t : Text) → is_remote fields t ≡ true → suc (offset_of fields t) ≡ word_in fields t
  unfolding word_in
  far_word t e = sym (ap (λ (b : Bool). if b then suc (offset_of fields t) else 0) e)

  pub field_size : (i : ℕ) → i < length lengths → length (field i) ≡ get_or lengths i 0
  field_size i h = sym (at_map length fields i [] (omega (arith, many, h))) ∙ ap (λ (l : List ℕ). get_or l i 0) (cut_lengths lengths texts sum)

  pub inlined_size : (i : ℕ) → i < length lengths → size (field i) ≡ length (varint_of (get_or lengths i 0)) + get_or lengths i 0
  unfolding inlined
  inlined_size i h = length-append (varint_of (length (field i))) (map unmasked (field i)) ∙
      (ap (λ (n : ℕ). length (varint_of (length (field i))) + n) (length-map (field i) unmasked) ∙ ap (λ (n : ℕ). length (varint_of n) + n) (field_size i h))

  pub some_size : (i : ℕ) → i < length lengths → 1 ≤ size (field i)
  some_size i h = omega (arith, inlined_size i h, size_least (get_or lengths i 0))

  -- an empty one
  pub word_empty : (i : ℕ) → i < length lengths → get_or lengths i 0 ≡ 0 → 0 ≡ word_in fields (field i)
  unfolding is_remote
  word_empty i h e =
      plain_word (field i) (ap (λ (b : Bool). not b && leb 2 (times_in same_text (field i) fields)) (eq-eqb (length (field i)) 0 (field_size i h ∙ e)))

  module _ (i count : ℕ) (h : i < length lengths) (all : count ≡ length lengths) (some : get_or lengths i 0 ≡ 0 → ⊥) (b : Bool)
      (is : b ≡ leb 2 (times_in (alike starts texts 1) i (numbers_from 0 count))) where
    remote_by : is_remote fields (field i) ≡ b
    unfolding is_remote
    remote_by =
        ap (λ (x : Bool). not x && leb 2 (times_in same_text (field i) fields)) (ne_eqb (length (field i)) 0 (λ z. some (sym (field_size i h) ∙ z)))
        ∙ (ap (leb 2) (sym (times_are i count all h)) ∙ sym is)

    -- one that is found once
    pub word_once : b ≡ false → 0 ≡ word_in fields (field i)
    word_once e = plain_word (field i) (remote_by ∙ e)

    -- the first of several
    pub word_new : b ≡ true → is_in same_text (field i) (take i fields) ≡ false → (remote : ℕ) → remote ≡ remote_in fields (take i fields) → remote + 1 ≡ word_in fields (field i)
    word_new e new remote re = let far : is_remote fields (field i) ≡ true = remote_by ∙ e in
        add-one remote ∙ (ap suc (re ∙ sym (offset_new i h far new)) ∙ far_word (field i) far)

  inline_more : (ts : List Text) (t : Text) → inline_in fields (ts ++ (t ∷ [])) ≡ inline_in fields ts + (if is_remote fields t then 0 else size t)
  unfolding inline_in
  inline_more [] t = omega arith
  inline_more (x ∷ ts) t = omega (arith, inline_more ts t)

  pub words_start : (words : List ℕ) → sum_of lengths + 10 * length lengths < 2 ^ 32 → Words lengths texts words words 0 0 0
  unfolding inline_in remote_in good_ones firsts_after flat_map
  words_start words b = record { index = omega arith; size_is = refl; to = record { inside = omega arith; front = refl }; inline_is = refl; remote_is = refl; bound = omega arith }

  module _ (words₀ words : List ℕ) (inline remote i : ℕ) (c : Words lengths texts words₀ words inline remote i) (room : length lengths ≤ length words₀) (h : i < length lengths) where
    rest : drop i lengths ≡ get_or lengths i 0 ∷ drop (suc i) lengths
    rest = drop-cons lengths i 0 h

    pub size_room : get_or lengths i 0 + 10 < 2 ^ 32
    size_room = omega (arith, c.bound, sum_next lengths i h, ap length rest)

    pub remote_room : remote + 1 < 2 ^ 32
    remote_room = omega (arith, c.bound, ap length rest)

    pub words_inside : i < length words
    words_inside = omega (arith, c.size_is, room, h)

    pub sums_room : (s : ℕ) → s ≡ length (varint_of (get_or lengths i 0)) + get_or lengths i 0 → inline + remote + s < 2 ^ 32
    sums_room s e = omega (arith, c.bound, sum_next lengths i h, ap length rest, e, varint_few (get_or lengths i 0))

    module _ (word s inline' remote' : ℕ) (is : word ≡ word_in fields (field i)) (e : s ≡ length (varint_of (get_or lengths i 0)) + get_or lengths i 0)
        (d : Added inline remote word s inline' remote') where
      snoc : take (i + 1) fields ≡ take i fields ++ (field i ∷ [])
      snoc = ap (λ (n : ℕ). take n fields) (add-one i) ∙ take-suc fields i [] (omega (arith, many, h))

      s_is : s ≡ size (field i)
      s_is = e ∙ sym (inlined_size i h)

      sums : (far : Bool) → is_remote fields (field i) ≡ far → (old : Bool) → is_in same_text (field i) (take i fields) ≡ old
          → (inline' ≡ inline_in fields (take i fields) + (if far then 0 else size (field i))) × (remote' ≡ remote_in fields (take (i + 1) fields))
      sums false f old g = let w : word ≡ 0 = is ∙ sym (plain_word (field i) f) in
          let a : inline' ≡ inline + s = d.inline_on ∙ ap (λ (b : Bool). inline + (if b then s else 0)) (eq-eqb word 0 w) in
          let b : remote' ≡ remote + 0 = d.remote_on ∙ ap (λ (b : Bool). remote + (if b then s else 0)) (ne_eqb word (remote + 1) (λ z. omega (arith, w, z))) in
          let t : remote_in fields (take (i + 1) fields) ≡ remote_in fields (take i fields) = as_total (take (i + 1) fields)
          ∙ (ap (λ (l : List Text). total same_text text_equal text_itself (is_remote fields) size (used same_text text_equal text_itself (is_remote fields) size [] l)) snoc
          ∙ (total_bad same_text text_equal text_itself (is_remote fields) size (take i fields) (field i) f ∙ sym (as_total (take i fields)))) in
          (omega (arith, a, s_is, c.inline_is), omega (arith, b, t, c.remote_is))
      sums true f true g = let w : word ≡ suc (offset_of fields (field i)) = is ∙ sym (far_word (field i) f) in
          let low : offset_of fields (field i) + size (field i) ≤ remote = omega (arith, offset_old i f g, c.remote_is) in
          let a : inline' ≡ inline + 0 = d.inline_on ∙ ap (λ (b : Bool). inline + (if b then s else 0)) (ne_eqb word 0 (λ z. omega (arith, w, z))) in
          let b : remote' ≡ remote + 0 = d.remote_on ∙ ap (λ (b : Bool). remote + (if b then s else 0)) (ne_eqb word (remote + 1) (λ z. omega (arith, w, z, low, some_size i h))) in
          let t : remote_in fields (take (i + 1) fields) ≡ remote_in fields (take i fields) = as_total (take (i + 1) fields)
          ∙ (ap (λ (l : List Text). total same_text text_equal text_itself (is_remote fields) size (used same_text text_equal text_itself (is_remote fields) size [] l)) snoc
          ∙ (total_old same_text text_equal text_itself (is_remote fields) size (take i fields) (field i) f g ∙ sym (as_total (take i fields)))) in
          (omega (arith, a, c.inline_is), omega (arith, b, t, c.remote_is))
      sums true f false g =
          let w : word ≡ remote + 1 = is ∙ (sym (far_word (field i) f) ∙ (ap suc (offset_new i h f g ∙ sym c.remote_is) ∙ sym (add-one remote))) in
          let a : inline' ≡ inline + 0 = d.inline_on ∙ ap (λ (b : Bool). inline + (if b then s else 0)) (ne_eqb word 0 (λ z. omega (arith, w, z))) in
          let b : remote' ≡ remote + s = d.remote_on ∙ ap (λ (b : Bool). remote + (if b then s else 0)) (eq-eqb word (remote + 1) w) in
          let t : remote_in fields (take (i + 1) fields) ≡ remote_in fields (take i fields) + size (field i) = as_total (take (i + 1) fields)
          ∙ (ap (λ (l : List Text). total same_text text_equal text_itself (is_remote fields) size (used same_text text_equal text_itself (is_remote fields) size [] l)) snoc
          ∙ (total_new same_text text_equal text_itself (is_remote fields) size (take i fields) (field i) f g ∙ ap (λ (n : ℕ). n + size (field i)) (sym (as_total (take i fields))))) in
          (omega (arith, a, c.inline_is), omega (arith, b, t, s_is, c.remote_is))

      most : inline' + remote' ≤ inline + remote + s
      most = go (eqb word 0) refl (eqb word (remote + 1)) refl where
        go : (a : Bool) → eqb word 0 ≡ a → (b : Bool) → eqb word (remote + 1) ≡ b → inline' + remote' ≤ inline + remote + s
        go true x true y = let z = eqb-true word 0 x in let v = eqb-true word (remote + 1) y in absurd (omega (arith, z, v))
        go true x false y = let a : inline' ≡ inline + s = d.inline_on ∙ ap (λ (b : Bool). inline + (if b then s else 0)) x in
            let b : remote' ≡ remote + 0 = d.remote_on ∙ ap (λ (b : Bool). remote + (if b then s else 0)) y in omega (arith, a, b)
        go false x true y = let a : inline' ≡ inline + 0 = d.inline_on ∙ ap (λ (b : Bool). inline + (if b then s else 0)) x in
            let b : remote' ≡ remote + s = d.remote_on ∙ ap (λ (b : Bool). remote + (if b then s else 0)) y in omega (arith, a, b)
        go false x false y = let a : inline' ≡ inline + 0 = d.inline_on ∙ ap (λ (b : Bool). inline + (if b then s else 0)) x in
            let b : remote' ≡ remote + 0 = d.remote_on ∙ ap (λ (b : Bool). remote + (if b then s else 0)) y in omega (arith, a, b)

      pub words_go : Words lengths texts words₀ (set words i word) inline' remote' (i + 1)
      words_go = let both = sums (is_remote fields (field i)) refl (is_in same_text (field i) (take i fields)) refl in
          let drops : sum_of (drop (i + 1) lengths) ≡ sum_of (drop (suc i) lengths) = ap (λ (n : ℕ). sum_of (drop n lengths)) (add-one i) in
          let drops' : length (drop (i + 1) lengths) ≡ length (drop (suc i) lengths) = ap (λ (n : ℕ). length (drop n lengths)) (add-one i) in record {
            index = omega arith;
            size_is = length-set words i word ∙ c.size_is;
            to = record {
              inside = omega (arith, words_inside, length-set words i word);
              front = ap (λ (n : ℕ). take n (set words i word)) (add-one i)
                  ∙ (take-suc-set words i word words_inside
                  ∙ (ap (λ (l : List ℕ). l ++ (word ∷ [])) c.to.front
                  ∙ (ap (λ (n : ℕ). map (word_in fields) (take i fields) ++ (n ∷ [])) is
                  ∙ (sym (map_more (word_in fields) (take i fields) (field i ∷ [])) ∙ ap (map (word_in fields)) (sym snoc)))));
            };
            inline_is = both.0 ∙ (sym (inline_more (take i fields) (field i)) ∙ ap (inline_in fields) (sym snoc));
            remote_is = both.1;
            bound = omega (arith, c.bound, sum_next lengths i h, ap length rest, most, e, varint_few (get_or lengths i 0), drops, drops');
          }

  pub words_end : (words₀ words : List ℕ) (inline remote i : ℕ) → Words lengths texts words₀ words inline remote i → length lengths ≤ i → Wording lengths texts words inline remote
  unfolding remote_in remotes
  words_end words₀ words inline remote i c h = let e : i ≡ length lengths = omega (arith, c.index) in
      let all : take i fields ≡ fields = take_all i fields (omega (arith, many, h)) in record {
        words_are = ap (λ (n : ℕ). take n words) (sym e) ∙ (c.to.front ∙ ap (map (word_in fields)) all);
        inline_is = c.inline_is ∙ ap (inline_in fields) all;
        remote_is = c.remote_is ∙ ap (λ (l : List Text). length (flat_map inlined (firsts_after same_text [] (good_ones (is_remote fields) l)))) all;
      }

-- ---- over what the function is lent
module _ (lengths texts starts keys : List ℕ) (m : Marked lengths texts starts keys) where
  pub marked_inside : Inside starts texts (length keys * 1)
  marked_inside = let e : length lengths ≡ length keys * 1 = omega (arith, m.many) in
      subst (λ (s : List ℕ). Inside s texts (length keys * 1)) (sym m.begin) (subst (λ (n : ℕ). Inside (starts_from 0 lengths) texts n) e (starts_inside lengths texts m.whole))

  pub marked_few : length keys ≤ 2 ^ 32
  marked_few = omega (arith, m.bound, m.many)

  module _ (i : ℕ) (h : i < length lengths) (r : ℕ) (is : r ≡ first_of starts texts 1 (length keys) i) where
    is' : r ≡ first_of (starts_from 0 lengths) texts 1 (length keys) i
    is' = is ∙ ap (λ (s : List ℕ). first_of s texts 1 (length keys) i) m.begin

    pub old_inside : (words : List ℕ) → WordsTo (cut_by lengths texts) words i → (r ≡ i → ⊥) → r < length words
    old_inside words w not = omega (arith, w.inside, first_before lengths texts m.whole i (length keys) r h m.many is', not)

    pub old_word : (words : List ℕ) → WordsTo (cut_by lengths texts) words i → (r ≡ i → ⊥) → get_or words r 0 ≡ word_in (cut_by lengths texts) (get_or (cut_by lengths texts) i [])
    old_word words w not = word_old lengths texts m.whole i (length keys) r h m.many is' words w not

    module _ (some : get_or lengths i 0 ≡ 0 → ⊥) (b : Bool) (is_b : b ≡ leb 2 (times_in (alike starts texts 1) i (numbers_from 0 (length keys)))) where
      is_b' : b ≡ leb 2 (times_in (alike (starts_from 0 lengths) texts 1) i (numbers_from 0 (length keys)))
      is_b' = is_b ∙ ap (λ (s : List ℕ). leb 2 (times_in (alike s texts 1) i (numbers_from 0 (length keys)))) m.begin

      pub once_word : b ≡ false → 0 ≡ word_in (cut_by lengths texts) (get_or (cut_by lengths texts) i [])
      once_word e = word_once lengths texts m.whole i (length keys) h m.many some b is_b' e

      pub new_word : b ≡ true → r ≡ i → (remote : ℕ) → remote ≡ remote_in (cut_by lengths texts) (take i (cut_by lengths texts)) →
          remote + 1 ≡ word_in (cut_by lengths texts) (get_or (cut_by lengths texts) i [])
      new_word e own remote re = word_new lengths texts m.whole i (length keys) h m.many some b is_b' e (is_new lengths texts m.whole i (length keys) r h m.many is' own) remote re
