-- The first of equal items and how many there are, found from where their hash begins. Assumes nothing.
use Rattle.numbers.proofs.Prelude.{ℕ, zero, suc, ◌+◌, ◌-◌, ◌^◌, ◌≤◌, ◌<◌, length, take, take_all, drop, get_or, get_or-drop, length-map, length-drop, drop-cons, drop-length, ltb, ltb-true, ltb-false, Bool, true, false, List, [], ◌∷◌, map, ◌≡◌, refl, sym, ap, ◌∙◌, add-one}
use Rattle.numbers.{proofs.{Prelude.{arith}, Tests.{fails}}, specs.Answer.{if◌then◌else◌}}
use Rattle.std.{specs.List.Sorted.{IsPartitionedBy, IsPartitionPoint}, proofs.lemmas.List.Sorted.{IsPartitionedBy-ltb}}
use Rattle.builder.proofs.{Groups.{first_sorted}, grouping.Keyed.{order_of, items_are, alike_hash}}
use Rattle.builder.specs.{Grouping.Keys.{numbers_from, item_of, hash_of, alike, keys_of, first_of, Lower, Members}, Sharing.{first_with}}
use Rattle.layout.specs.Order.{key_of, sorted_by, Under, Rising}

-- ---- keys that never fall, by places
under_at : (k : ℕ) (xs : List ℕ) → Under key_of k xs → (i d : ℕ) → i < length xs → k ≤ key_of (get_or xs i d)
unfolding Under
under_at k [] u i d h = absurd (omega arith)
under_at k (x ∷ xs) u zero d h = u.0
under_at k (x ∷ xs) u (suc i) d h = under_at k xs u.1 i d (omega arith)

pub rising_at : (xs : List ℕ) → Rising key_of xs → (i j d : ℕ) → i ≤ j → j < length xs → key_of (get_or xs i d) ≤ key_of (get_or xs j d)
unfolding Rising
rising_at [] r i j d le h = absurd (omega arith)
rising_at (x ∷ xs) r zero zero d le h = omega arith
rising_at (x ∷ xs) r zero (suc j) d le h = under_at (key_of x) xs r.0 j d (omega arith)
rising_at (x ∷ xs) r (suc i) zero d le h = absurd (omega arith)
rising_at (x ∷ xs) r (suc i) (suc j) d le h = rising_at xs r.1 i j d (omega arith) (omega arith)

-- ---- where a key begins
pub part_keys : (keys : List ℕ) (key : ℕ) → Rising key_of keys → IsPartitionedBy (λ word. ltb (key_of word) key) keys
part_keys keys key rises = IsPartitionedBy-ltb key_of keys key (λ i j d le h. rising_at keys rises i j d le h)

pub part_lower : (keys : List ℕ) (key place : ℕ) → place ≤ length keys → IsPartitionPoint (λ word. ltb (key_of word) key ≡ true) (λ word. ltb (key_of word) key ≡ false) keys place
    → Lower keys key place
part_lower keys key place inside p =
    record { inside = inside; lower = λ i h. ltb-true _ _ (p.0 i 0 (omega arith) h); upper = λ i h k. ltb-false _ _ (p.1 i 0 h k) }

-- ---- the words from a place on
module _ (keys : List ℕ) (run : ℕ) where
  abbrev pub tail_of : List ℕ
  tail_of = take (length keys - run) (drop run keys)

  tail_is : tail_of ≡ drop run keys
  tail_is = take_all (length keys - run) (drop run keys) (omega (arith, length-drop run keys))

  pub tail_more : (k : ℕ) → k < length tail_of → run + k < length keys
  tail_more k h = omega (arith, h, ap length tail_is, length-drop run keys)

  pub tail_none : (k : ℕ) → length tail_of ≤ k → length keys ≤ run + k
  tail_none k h = omega (arith, h, ap length tail_is, length-drop run keys)

  pub tail_at : (k : ℕ) → item_of (get_or tail_of k 0) ≡ item_of (get_or keys (run + k) 0)
  tail_at k = ap (λ (xs : List ℕ). item_of (get_or xs k 0)) tail_is ∙ ap item_of (get_or-drop run keys k 0)

  pub tail_key : (k : ℕ) → key_of (get_or tail_of k 0) ≡ key_of (get_or keys (run + k) 0)
  tail_key k = ap (λ (xs : List ℕ). key_of (get_or xs k 0)) tail_is ∙ ap key_of (get_or-drop run keys k 0)

-- ---- the first, from a place on
module _ (good : ℕ → Bool) (other : ℕ) where
  first_skip : (run : ℕ) (xs : List ℕ) → ((i : ℕ) → i < run → i < length xs → good (get_or xs i 0) ≡ false) → first_with good other (drop run xs) ≡ first_with good other xs
  unfolding first_with
  first_skip zero xs none = refl
  first_skip (suc run) [] none = refl
  first_skip (suc run) (x ∷ xs) none =
      first_skip run xs (λ i h k. none (suc i) (omega arith) (omega arith)) ∙ sym (ap (λ (b : Bool). if b then x else first_with good other xs) (none 0 (omega arith) (omega arith)))

  pub record Scanning (items : List ℕ) (run i : ℕ) : Type 0 where
    pub from : run ≤ i
    pub index : i ≤ length items
    pub same : first_with good other (drop i items) ≡ first_with good other (drop run items)

  module _ (items : List ℕ) (run i : ℕ) (c : Scanning items run i) where
    pub scan_found : i < length items → good (get_or items i 0) ≡ true → get_or items i 0 ≡ first_with good other (drop run items)
    unfolding first_with
    scan_found h g = let e : first_with good other (drop i items) ≡ get_or items i 0 = ap (first_with good other) (drop-cons items i 0 h) ∙ rw g in sym e ∙ c.same

    pub scan_goes : i < length items → good (get_or items i 0) ≡ false → Scanning items run (i + 1)
    unfolding first_with
    scan_goes h g =
        let e : first_with good other (drop i items) ≡ first_with good other (drop (suc i) items) = ap (first_with good other) (drop-cons items i 0 h) ∙ rw g in
        rw (add-one i) (record { from = omega (arith, c.from); index = omega arith; same = sym e ∙ c.same })

    pub scan_ends : length items ≤ i → other ≡ first_with good other (drop run items)
    unfolding first_with
    scan_ends h = let e : i ≡ length items = omega (arith, c.index) in
        let z : first_with good other (drop i items) ≡ other = ap (first_with good other) (ap (λ (n : ℕ). drop n items) e ∙ drop-length items) in sym z ∙ c.same

  pub scan_starts : (items : List ℕ) (run i : ℕ) → run ≤ length items → i ≡ run → Scanning items run i
  scan_starts items run i h e = rw e (record { from = omega arith; index = h; same = refl })

map_drop : (f : ℕ → ℕ) (n : ℕ) (xs : List ℕ) → map f (drop n xs) ≡ drop n (map f xs)
map_drop f zero xs = refl
map_drop f (suc n) [] = refl
map_drop f (suc n) (x ∷ xs) = map_drop f n xs

pub drop_items : (n : ℕ) (xs : List ℕ) → map item_of (drop n xs) ≡ drop n (map item_of xs)
drop_items = map_drop item_of

at_item : (keys : List ℕ) (i : ℕ) → get_or (map item_of keys) i 0 ≡ item_of (get_or keys i 0)
at_item [] i = refl
at_item (x ∷ xs) zero = refl
at_item (x ∷ xs) (suc i) = at_item xs i

pub item_is : (keys : List ℕ) (i : ℕ) → get_or (map item_of keys) i 0 ≡ item_of (get_or keys i 0)
item_is = at_item

-- the same, over the words
module _ (good : ℕ → Bool) (other : ℕ) (keys : List ℕ) (run i : ℕ) (c : Scanning good other (map item_of keys) run i) where
  size : length (map item_of keys) ≡ length keys
  size = length-map keys item_of

  over : first_with good other (drop run (map item_of keys)) ≡ first_with good other (map item_of (drop run keys))
  over = ap (first_with good other) (sym (drop_items run keys))

  pub found_in : i < length keys → (item : ℕ) → item ≡ item_of (get_or keys i 0) → (r : Bool) → r ≡ good item → r ≡ true → item ≡ first_with good other (map item_of (drop run keys))
  found_in h item e r is yes' = let at : item ≡ get_or (map item_of keys) i 0 = e ∙ sym (item_is keys i) in
      at ∙ scan_found good other (map item_of keys) run i c (omega (arith, size)) (ap good (sym at) ∙ sym is ∙ yes') ∙ over

  pub goes_in : i < length keys → (item : ℕ) → item ≡ item_of (get_or keys i 0) → (r : Bool) → r ≡ good item → r ≡ false → Scanning good other (map item_of keys) run (i + 1)
  goes_in h item e r is no' = let at : item ≡ get_or (map item_of keys) i 0 = e ∙ sym (item_is keys i) in
      scan_goes good other (map item_of keys) run i c (omega (arith, size)) (ap good (sym at) ∙ sym is ∙ no')

  pub ends_in : length keys ≤ i → other ≡ first_with good other (map item_of (drop run keys))
  ends_in h = scan_ends good other (map item_of keys) run i c (omega (arith, size)) ∙ over

pub among_item : (starts texts : List ℕ) (width : ℕ) (keys : List ℕ) → Members starts texts width keys → (i : ℕ) → i < length keys → (item : ℕ) → item ≡ item_of (get_or keys i 0) → item < length keys
among_item starts texts width keys m i h item e = rw e (m.member i h)

module _ (starts texts : List ℕ) (width : ℕ) (keys : List ℕ) (m : Members starts texts width keys) (item key run : ℕ) (is : key ≡ hash_of starts texts width item) (l : Lower keys key run) where
  pub other_hash : (i : ℕ) → i < length keys → (key_of (get_or keys i 0) ≡ key → ⊥) → alike starts texts width item (item_of (get_or keys i 0)) ≡ false
  other_hash i h n = fails (alike starts texts width item (item_of (get_or keys i 0))) (λ g. n (m.keyed i h ∙ alike_hash starts texts width item (item_of (get_or keys i 0)) g ∙ sym is))

  pub not_before : (i : ℕ) → i < run → i < length (map item_of keys) → alike starts texts width item (get_or (map item_of keys) i 0) ≡ false
  not_before i h k = let lower = l.lower i h in rw (at_item keys i) (other_hash i (omega (arith, h, l.inside)) (λ e. omega (arith, lower, e)))

  pub first_is : keys ≡ keys_of starts texts width (length keys) → length keys ≤ 2 ^ 32 → (r : ℕ) → r ≡ first_with (alike starts texts width item) item (map item_of (drop run keys)) →
      r ≡ first_of starts texts width (length keys) item
  unfolding first_of order_of
  first_is order few r e = let good : ℕ → Bool = alike starts texts width item in
      let skip : first_with good item (drop run (map item_of keys)) ≡ first_with good item (map item_of keys) = first_skip good item run (map item_of keys) not_before in
      let sorted : first_with good item (sorted_by (hash_of starts texts width) (numbers_from 0 (length keys))) ≡ first_with good item (numbers_from 0 (length keys)) =
      first_sorted (hash_of starts texts width) good item (hash_of starts texts width item) (alike_hash starts texts width item) (numbers_from 0 (length keys)) in
      let items : map item_of keys ≡ order_of starts texts width (length keys) = ap (map item_of) order ∙ items_are starts texts width (length keys) few in
      e ∙ ap (first_with good item) (drop_items run keys) ∙ skip ∙ ap (first_with good item) items ∙ sorted
