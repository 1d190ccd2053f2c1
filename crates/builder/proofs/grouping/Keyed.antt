-- Words in the order of their hashes: what stands for which item, and that equal items have equal keys. Assumes nothing.
use Rattle.numbers.proofs.Prelude.{ℕ, zero, suc, ◌+◌, ◌*◌, ◌%◌, ◌^◌, ◌≤◌, ◌<◌, le-leb, eqb-true, eqb, ltb, length, get_or, length-map, Bool, true, false, List, [], ◌∷◌, map, ◌≡◌, refl, sym, ap, subst}
use Rattle.numbers.{proofs.{Prelude.{◌∙◌, arith}, Tests.{both, differ}}, specs.Answer.{if◌then◌else◌}}
use lib.ListN.{get_or-map}
use Rattle.builder.specs.{Grouping.{Items.{item_at, hash_texts, Inside}, Keys.{numbers_from, item_of, hash_of, key_word, alike, keys_of, Members, Sorting}}, Sharing.{same_by, same_text, same_texts}}
use Rattle.builder.specs.Yards.{Text}
use Rattle.layout.{proofs.Orders.{sorted_rises, sorted_map}, specs.{Order.{key_of, insert_by, sorted_by, Rising}, inner.Answers.{Sorted}}}
use Rattle.builder.proofs.{Ordered.{upper, lower}, grouping.Listed.{numbers_many}}

-- ---- the same is equal
same_equal : {A : Type 0} (same : A → A → Bool) → ((x y : A) → same x y ≡ true → x ≡ y) → (xs ys : List A) → same_by same xs ys ≡ true → xs ≡ ys
unfolding same_by
same_equal same eq [] [] e = refl
same_equal same eq [] (y ∷ ys) e = differ e
same_equal same eq (x ∷ xs) [] e = differ e
same_equal same eq (x ∷ xs) (y ∷ ys) e = let two = both (same x y) (same_by same xs ys) e in
    ap (λ z. z ∷ xs) (eq x y two.0) ∙ ap (λ zs. y ∷ zs) (same_equal same eq xs ys two.1)

pub text_equal : (a b : Text) → same_text a b ≡ true → a ≡ b
text_equal = same_equal eqb (λ x y e. eqb-true x y e)

pub texts_equal : (a b : List Text) → same_texts a b ≡ true → a ≡ b
texts_equal = same_equal same_text text_equal

-- ---- numbers from one on
-- each of them is below a bound
unfoldable pub Below : ℕ → List ℕ → Type 0
Below n [] = Unit {0}
Below n (x ∷ xs) = (x < n) × Below n xs

numbers_below : (i n most : ℕ) → i + n ≤ most → Below most (numbers_from i n)
unfolding numbers_from Below
numbers_below i zero most h = tt
numbers_below i (suc n) most h = (omega arith, numbers_below (suc i) n most (omega arith))

pub below_at : (n : ℕ) (xs : List ℕ) → Below n xs → (i : ℕ) → i < length xs → get_or xs i 0 < n
unfolding Below
below_at n [] b i h = absurd (omega arith)
below_at n (x ∷ xs) b zero h = b.0
below_at n (x ∷ xs) b (suc i) h = below_at n xs b.1 i (omega arith)

module _ (key : ℕ → ℕ) (n : ℕ) where
  below_insert : (x : ℕ) (ys : List ℕ) → x < n → Below n ys → Below n (insert_by key x ys)
  unfolding Below insert_by
  below_insert x [] h b = (h, tt)
  below_insert x (y ∷ ys) h b = go (ltb (key y) (key x)) (below_insert x ys h b.1) where
    go : (t : Bool) → Below n (insert_by key x ys) → Below n (if t then (y ∷ insert_by key x ys) else (x ∷ y ∷ ys))
    go true more = (b.0, more)
    go false more = (h, b)

  below_sorted : (xs : List ℕ) → Below n xs → Below n (sorted_by key xs)
  unfolding Below sorted_by
  below_sorted [] b = tt
  below_sorted (x ∷ xs) b = below_insert x (sorted_by key xs) b.0 (below_sorted xs b.1)

small_itself : (xs : List ℕ) → Below (2 ^ 32) xs → map (λ x. x % 2 ^ 32) xs ≡ xs
unfolding Below
small_itself [] b = refl
small_itself (x ∷ xs) b = let e : x % 2 ^ 32 ≡ x = omega (arith, b.0) in ap (λ y. y ∷ map (λ x. x % 2 ^ 32) xs) e ∙ ap (λ ys. x ∷ ys) (small_itself xs b.1)

map_twice : (f g : ℕ → ℕ) (h : ℕ → ℕ) → ((x : ℕ) → f (g x) ≡ h x) → (xs : List ℕ) → map f (map g xs) ≡ map h xs
map_twice f g h e [] = refl
map_twice f g h e (x ∷ xs) = ap (λ y. y ∷ map f (map g xs)) (e x) ∙ ap (λ ys. h x ∷ ys) (map_twice f g h e xs)

below_more : (a b : ℕ) (xs : List ℕ) → a ≤ b → Below a xs → Below b xs
unfolding Below
below_more a b [] h l = tt
below_more a b (x ∷ xs) h l = (omega (arith, l.0), below_more a b xs h l.1)

module _ (starts texts : List ℕ) (width : ℕ) where
  abbrev hash : ℕ → ℕ
  hash = hash_of starts texts width

  abbrev word : ℕ → ℕ
  word = key_word starts texts width

  pub word_is : (item r : ℕ) → r ≡ hash item → item < 2 ^ 32 → r * 4294967296 + item ≡ word item
  unfolding key_word
  word_is item r e h = let f : item % 2 ^ 32 ≡ item = omega arith in rw (e, f)

  word_key : (a : ℕ) → key_of (word a) ≡ hash a
  unfolding key_word
  word_key a = upper (hash a) a

  -- the items in the order of their hashes
  unfoldable pub order_of : ℕ → List ℕ
  order_of count = sorted_by hash (numbers_from 0 count)

  pub keys_are : (count : ℕ) → keys_of starts texts width count ≡ map word (order_of count)
  unfolding keys_of order_of
  keys_are count = sym (sorted_map hash key_of word word_key (numbers_from 0 count))

  order_below : (count : ℕ) → Below count (order_of count)
  unfolding order_of
  order_below count = below_sorted hash count (numbers_from 0 count) (numbers_below 0 count count (omega arith))

  pub items_are : (count : ℕ) → count ≤ 2 ^ 32 → map item_of (keys_of starts texts width count) ≡ order_of count
  unfolding key_word
  items_are count h =
      ap (map item_of) (keys_are count) ∙ map_twice item_of word (λ x. x % 2 ^ 32) (λ x. lower (hash x) x) (order_of count) ∙ small_itself (order_of count)
      (below_more count (2 ^ 32) (order_of count) h (order_below count))

  pub keys_hashes : (count : ℕ) → count ≤ 2 ^ 32 → map key_of (keys_of starts texts width count) ≡ map hash (order_of count)
  keys_hashes count h = ap (map key_of) (keys_are count) ∙ map_twice key_of word hash word_key (order_of count)

  -- equal items have equal hashes
  pub alike_hash : (a b : ℕ) → alike starts texts width a b ≡ true → hash b ≡ hash a
  unfolding alike
  alike_hash a b e = sym (ap (hash_texts 0) (texts_equal (item_at starts texts (a * width) width) (item_at starts texts (b * width) width) e))

  module _ (keys : List ℕ) (order : keys ≡ keys_of starts texts width (length keys)) (few : length keys ≤ 2 ^ 32) where
    items : map item_of keys ≡ order_of (length keys)
    items = ap (map item_of) order ∙ items_are (length keys) few

    item_stands : (i : ℕ) → item_of (get_or keys i 0) ≡ get_or (order_of (length keys)) i 0
    item_stands i = sym (get_or-map item_of keys i 0) ∙ ap (λ (l : List ℕ). get_or l i 0) items

    pub keys_rise : Rising key_of keys
    unfolding keys_of
    keys_rise = subst (Rising key_of) (sym order) (sorted_rises key_of (map word (numbers_from 0 (length keys))))

    item_many : length (order_of (length keys)) ≡ length keys
    item_many = ap length (sym items) ∙ length-map keys item_of

    hash_at : (i : ℕ) → i < length keys → key_of (get_or keys i 0) ≡ hash (item_of (get_or keys i 0))
    hash_at i h = let l : length (map key_of keys) ≡ length keys = length-map keys key_of in
        sym (get_or-map key_of keys i 0) ∙ ap (λ (l : List ℕ). get_or l i 0) (ap (map key_of) order ∙ keys_hashes (length keys) few) ∙ at_map hash
        (order_of (length keys)) i (omega (arith, h, item_many)) ∙ ap hash (sym (item_stands i)) where
          at_map : (f : ℕ → ℕ) (xs : List ℕ) (i : ℕ) → i < length xs → get_or (map f xs) i 0 ≡ f (get_or xs i 0)
          at_map f [] i h = absurd (omega arith)
          at_map f (x ∷ xs) zero h = refl
          at_map f (x ∷ xs) (suc i) h = at_map f xs i (omega arith)

    pub members : Inside starts texts (length keys * width) → Members starts texts width keys
    members inside = record {
      inside = inside;
      member = λ i h. rw (item_stands i) (below_at (length keys) (order_of (length keys)) (order_below (length keys)) i (omega (arith, h, item_many)));
      keyed = hash_at;
    }

  -- the words that were written and sorted
  pub sorting_is : (count : ℕ) (spare words after other : List ℕ) (has : Bool) → words ≡ map word (numbers_from 0 count) → count ≤ length spare → Sorted words spare after other has →
      Sorting starts texts width count spare after other
  unfolding keys_of
  sorting_is count spare words after other has e h s =
      let size : length words ≡ count = ap length e ∙ (length-map (numbers_from 0 count) word ∙ numbers_many 0 count) in
      let room : has ≡ true = s.room ∙ le-leb (length words) (length spare) (omega (arith, size, h)) in
      record { order = s.order ∙ (ap (λ (b : Bool). if b then sorted_by key_of words else words) room ∙ ap (sorted_by key_of) e); rest = s.rest }

-- the hash of one text
pub one_hash : (starts texts : List ℕ) (item r : ℕ) → r ≡ hash_texts 0 (item_at starts texts item 1) → r ≡ hash_of starts texts 1 item
one_hash starts texts item r e = let one : item ≡ item * 1 = omega arith in e ∙ ap (λ (n : ℕ). hash_texts 0 (item_at starts texts n 1)) one
