-- How many items are the same, counted among those that have one hash. Assumes nothing.
use Rattle.numbers.proofs.Prelude.{ℕ, zero, suc, ◌+◌, ◌^◌, ◌≤◌, ◌<◌, le-leb, lt-leb, eqb-false, eqb, leb, length, drop, get_or, length-drop, length-map, drop-cons, get_or-drop, Bool, true, false}
use Rattle.numbers.proofs.Prelude.{List}
use Rattle.numbers.{proofs.{Prelude.{[], ◌∷◌, map, ◌≡◌, refl, sym, ap, ◌∙◌, add-one, arith}, Tests.{fails}}, specs.Answer.{if◌then◌else◌}}
use Rattle.builder.specs.{Grouping.Keys.{numbers_from, item_of, hash_of, alike, keys_of, Lower, Members}, Sharing.{times_in}}
use Rattle.layout.{proofs.Orders.{sorted_kept}, specs.Order.{key_of, sorted_by, Rising, kept_by}}
use Rattle.builder.proofs.grouping.{Finding.{rising_at, drop_items, item_is, other_hash, not_before}, Keyed.{order_of, items_are, alike_hash}}

none_more : (b : Bool) (n : ℕ) → b ≡ false → n ≡ (if b then 1 else 0) + n
none_more b n e = rw e (omega arith)

module _ (same : ℕ → ℕ → Bool) (a : ℕ) where
  times_none : (xs : List ℕ) → ((i : ℕ) → i < length xs → same a (get_or xs i 0) ≡ false) → times_in same a xs ≡ 0
  unfolding times_in
  times_none [] none = refl
  times_none (x ∷ xs) none = sym (none_more (same a x) (times_in same a xs) (none 0 (omega arith))) ∙ times_none xs (λ i h. none (suc i) (omega arith))

  times_skip : (run : ℕ) (xs : List ℕ) → ((i : ℕ) → i < run → i < length xs → same a (get_or xs i 0) ≡ false) → times_in same a (drop run xs) ≡ times_in same a xs
  unfolding times_in
  times_skip zero xs none = refl
  times_skip (suc run) [] none = refl
  times_skip (suc run) (x ∷ xs) none =
      times_skip run xs (λ i h k. none (suc i) (omega arith) (omega arith)) ∙ none_more (same a x) (times_in same a xs) (none 0 (omega arith) (omega arith))

  module _ (key : ℕ → ℕ) (k : ℕ) (share : (x : ℕ) → same a x ≡ true → key x ≡ k) where
    times_by : (x : ℕ) (xs : List ℕ) (t : Bool) → eqb (key x) k ≡ t → times_in same a (kept_by key k xs) ≡ times_in same a xs
        → times_in same a (if t then (x ∷ kept_by key k xs) else kept_by key k xs) ≡ (if same a x then 1 else 0) + times_in same a xs
    unfolding times_in
    times_by x xs true e more = ap (λ (n : ℕ). (if same a x then 1 else 0) + n) more
    times_by x xs false e more = more ∙ none_more (same a x) (times_in same a xs) (fails (same a x) (λ h. eqb-false (key x) k e (share x h)))

    times_kept : (xs : List ℕ) → times_in same a (kept_by key k xs) ≡ times_in same a xs
    unfolding kept_by times_in
    times_kept [] = refl
    times_kept (x ∷ xs) = times_by x xs (eqb (key x) k) refl (times_kept xs)

    pub times_sorted : (xs : List ℕ) → times_in same a (sorted_by key xs) ≡ times_in same a xs
    times_sorted xs = sym (times_kept (sorted_by key xs)) ∙ (ap (times_in same a) (sorted_kept key k xs) ∙ times_kept xs)

  -- ---- counting from a place on, until there are two
  pub record Counting (items : List ℕ) (run found i : ℕ) : Type 0 where
    pub index : i ≤ length items
    pub from : run ≤ i
    pub few : found ≤ 1
    pub sum : found + times_in same a (drop i items) ≡ times_in same a (drop run items)

  pub count_starts : (items : List ℕ) (run i : ℕ) → run ≤ length items → i ≡ run → Counting items run 0 i
  count_starts items run i h e = rw e (record { index = h; from = omega arith; few = omega arith; sum = omega arith })

  module _ (items : List ℕ) (run found i : ℕ) (c : Counting items run found i) where
    module _ (h : i < length items) where
      one_more : times_in same a (drop i items) ≡ (if same a (get_or items i 0) then 1 else 0) + times_in same a (drop (suc i) items)
      unfolding times_in
      one_more = ap (times_in same a) (drop-cons items i 0 h)

      two_more : (same a (get_or items i 0) ≡ true) → times_in same a (drop i items) ≡ 1 + times_in same a (drop (suc i) items)
      two_more g = one_more ∙ ap (λ (b : Bool). (if b then 1 else 0) + times_in same a (drop (suc i) items)) g

      pub count_twice : same a (get_or items i 0) ≡ true → found + 1 ≡ 2 → true ≡ leb 2 (times_in same a (drop run items))
      count_twice g e = sym (le-leb 2 (times_in same a (drop run items)) (omega (arith, c.sum, two_more g, e)))

      pub count_once : same a (get_or items i 0) ≡ true → (found + 1 ≡ 2 → ⊥) → Counting items run (found + 1) (i + 1)
      count_once g n = let e : found + 1 + times_in same a (drop (suc i) items) ≡ times_in same a (drop run items) = omega (arith, c.sum, two_more g) in
          rw (add-one i) (record { index = omega arith; from = omega (arith, c.from); few = omega (arith, c.few, n); sum = e })

      pub count_other : same a (get_or items i 0) ≡ false → Counting items run found (i + 1)
      count_other g =
          let s : times_in same a (drop i items) ≡ times_in same a (drop (suc i) items) = one_more ∙ sym (none_more (same a (get_or items i 0)) (times_in same a (drop (suc i) items)) g) in
          let e : found + times_in same a (drop (suc i) items) ≡ times_in same a (drop run items) = omega (arith, c.sum, s) in
          rw (add-one i) (record { index = omega arith; from = omega (arith, c.from); few = c.few; sum = e })

    pub count_none : ((j : ℕ) → j < length (drop i items) → same a (get_or (drop i items) j 0) ≡ false) → false ≡ leb 2 (times_in same a (drop run items))
    count_none none = sym (lt-leb 2 (times_in same a (drop run items)) (omega (arith, c.sum, c.few, times_none (drop i items) none)))

    pub count_ends : length items ≤ i → false ≡ leb 2 (times_in same a (drop run items))
    count_ends h = count_none (λ j k. absurd (omega (arith, length-drop i items)))

-- the same, over the words
module _ (same : ℕ → ℕ → Bool) (a : ℕ) (keys : List ℕ) (run found i : ℕ) (c : Counting same a (map item_of keys) run found i) where
  size : length (map item_of keys) ≡ length keys
  size = length-map keys item_of

  over : leb 2 (times_in same a (drop run (map item_of keys))) ≡ leb 2 (times_in same a (map item_of (drop run keys)))
  over = ap (λ (xs : List ℕ). leb 2 (times_in same a xs)) (sym (drop_items run keys))

  module _ (h : i < length keys) (item : ℕ) (e : item ≡ item_of (get_or keys i 0)) (r : Bool) (is : r ≡ same a item) where
    at : (b : Bool) → r ≡ b → same a (get_or (map item_of keys) i 0) ≡ b
    at b k = ap (same a) (item_is keys i ∙ sym e) ∙ sym is ∙ k

    pub twice_in : r ≡ true → found + 1 ≡ 2 → true ≡ leb 2 (times_in same a (map item_of (drop run keys)))
    twice_in k two = count_twice same a (map item_of keys) run found i c (omega (arith, size)) (at true k) two ∙ over

    pub once_in : r ≡ true → (found + 1 ≡ 2 → ⊥) → Counting same a (map item_of keys) run (found + 1) (i + 1)
    once_in k two = count_once same a (map item_of keys) run found i c (omega (arith, size)) (at true k) two

    pub other_in : r ≡ false → Counting same a (map item_of keys) run found (i + 1)
    other_in k = count_other same a (map item_of keys) run found i c (omega (arith, size)) (at false k)

  pub none_in : length keys ≤ i → false ≡ leb 2 (times_in same a (map item_of (drop run keys)))
  none_in h = count_ends same a (map item_of keys) run found i c (omega (arith, size)) ∙ over

module _ (starts texts : List ℕ) (keys : List ℕ) (m : Members starts texts 1 keys) (item key run : ℕ) (is : key ≡ hash_of starts texts 1 item) (l : Lower keys key run) where
  abbrev good : ℕ → ℕ → Bool
  good = alike starts texts 1

  -- past its hash there is none
  pub count_past : Rising key_of keys → (found i : ℕ) → Counting good item (map item_of keys) run found i → i < length keys → (k : ℕ) → k ≡ key_of (get_or keys i 0) → (k ≡ key → ⊥) →
      false ≡ leb 2 (times_in good item (map item_of (drop run keys)))
  count_past rises found i c h here e n' =
      let n : key_of (get_or keys i 0) ≡ key → ⊥ = λ f. n' (e ∙ f) in
      let above : key ≤ key_of (get_or keys i 0) = l.upper i c.from h in
      let past : (j : ℕ) → j < length (drop i (map item_of keys)) → good item (get_or (drop i (map item_of keys)) j 0) ≡ false =
      λ j k.
      let size : i + j < length keys = omega (arith, k, length-drop i (map item_of keys), length-map keys item_of) in
      let more : key_of (get_or keys i 0) ≤ key_of (get_or keys (i + j) 0) = rising_at keys rises i (i + j) 0 (omega arith) size in
      ap (good item) (get_or-drop i (map item_of keys) j 0 ∙ item_is keys (i + j)) ∙ other_hash starts texts 1 keys m item key run is l (i + j) size (λ e. omega (arith, above, n, more, e)) in
      count_none good item (map item_of keys) run found i c past ∙ ap (λ (xs : List ℕ). leb 2 (times_in good item xs)) (sym (drop_items run keys))

  pub twice_is : keys ≡ keys_of starts texts 1 (length keys) → length keys ≤ 2 ^ 32 → (r : Bool) → r ≡ leb 2 (times_in good item (map item_of (drop run keys))) →
      r ≡ leb 2 (times_in good item (numbers_from 0 (length keys)))
  unfolding order_of
  twice_is order few r e =
      let skip : times_in good item (drop run (map item_of keys)) ≡ times_in good item (map item_of keys) =
      times_skip good item run (map item_of keys) (not_before starts texts 1 keys m item key run is l) in
      let items : map item_of keys ≡ order_of starts texts 1 (length keys) = ap (map item_of) order ∙ items_are starts texts 1 (length keys) few in
      let sorted : times_in good item (sorted_by (hash_of starts texts 1) (numbers_from 0 (length keys))) ≡ times_in good item (numbers_from 0 (length keys)) =
      times_sorted good item (hash_of starts texts 1) (hash_of starts texts 1 item) (alike_hash starts texts 1 item) (numbers_from 0 (length keys)) in
      e ∙ ap (leb 2) (ap (times_in good item) (drop_items run keys) ∙ skip ∙ ap (times_in good item) items ∙ sorted)
