-- A walk along the chain of an item. Assumes nothing.
use Rattle.numbers.proofs.Prelude.{ℕ, suc, ◌+◌, ◌-◌, ◌*◌, ◌%◌, ◌≤◌, ◌<◌, get_or, Bool, true, false, ◌&&◌, List, ◌≡◌, refl, sym, ap, subst, ◌∙◌, add-one, arith}
use Rattle.std.specs.Prelude.{Option, Some, None, is_some}
use Rattle.builder.{proofs.grouping.{Keyed.{alike_hash}, Walks.{fewer_inside, item_among}}, specs.{Grouping.{Items.{item_at, Inside}, Keys.{alike}}, Sharing.{same_texts}}}
use Rattle.notes.proofs.chains.{Entering.{bucket_has, from_bucket}, Lasts.{never, last_in, last_out, last_most, last_good, last_within}}
use Rattle.notes.specs.Chains.{Chains.{last_with, in_bucket, Chained, meets, word_of, ItemsInside}, Entered.{bucket_of, Walked}}

-- ---- an item and those before it
pub other_room : (item other width size : ℕ) → (item + 1) * width < size → other ≤ item → other * width + width < size
other_room item other width size h le = omega (arith, h, item_among other (item + 1) width (omega (arith, le)))

pub other_inside : (starts texts : List ℕ) (width item other : ℕ) → other ≤ item → ItemsInside starts texts width item → Inside starts texts (other * width + width)
other_inside starts texts width item other h inside = fewer_inside starts texts ((item + 1) * width) (other * width + width) (item_among other (item + 1) width (omega (arith, h))) inside

module _ (starts texts : List ℕ) (width : ℕ) (entered : ℕ → Bool) (item : ℕ) where
  abbrev good : ℕ → Bool
  good = meets starts texts width entered item

  abbrev mine : ℕ → Bool
  mine = in_bucket (bucket_of starts texts width) entered (bucket_of starts texts width item)

  pub from_meets : (other : ℕ) → meets starts texts width entered item other ≡ true → (entered other ≡ true) × (alike starts texts width item other ≡ true)
  from_meets other e = go (entered other) refl e where
    go : (t : Bool) → entered other ≡ t → (t && alike starts texts width item other) ≡ true → (entered other ≡ true) × (alike starts texts width item other ≡ true)
    go true a e = (a, e)
    go false a e = never (sym e)

  -- those that are the same are in one bucket
  pub meets_bucket : (other : ℕ) → meets starts texts width entered item other ≡ true → in_bucket (bucket_of starts texts width) entered (bucket_of starts texts width item) other ≡ true
  unfolding bucket_of
  meets_bucket other e = let two = from_meets other e in
      bucket_has (bucket_of starts texts width) entered (bucket_of starts texts width item) other two.0 (ap (λ (h : ℕ). h % 4096) (alike_hash starts texts width item other two.1))

  -- the walk has come to this place
  pub record Stands (before at : ℕ) : Type 0 where
    pub most : at ≤ before
    pub left : last_with (meets starts texts width entered item) at ≡ last_with (meets starts texts width entered item) before
    pub here : (other : ℕ) → at ≡ suc other → in_bucket (bucket_of starts texts width) entered (bucket_of starts texts width item) other ≡ true

  pub stand_on : (before at : ℕ) → at ≡ last_with (in_bucket (bucket_of starts texts width) entered (bucket_of starts texts width item)) before → Stands before at
  stand_on before at e = record {
    most = omega (arith, e, last_most mine before);
    left = ap (last_with good) e ∙ last_within good mine meets_bucket before;
    here = λ other is. last_good mine before other (sym e ∙ is);
  }

  module _ (count before : ℕ) (chain : List ℕ) (c : Chained (bucket_of starts texts width) entered count chain) (few : before ≤ count) where
    module _ (other : ℕ) (s : Stands before (suc other)) (same : Bool) (is : same ≡ same_texts (item_at starts texts (item * width) width) (item_at starts texts (other * width) width)) where
      entered_here : entered other ≡ true
      entered_here = (from_bucket (bucket_of starts texts width) entered (bucket_of starts texts width item) other (s.here other refl)).0

      pub stand_found : same ≡ true → suc other ≡ last_with (meets starts texts width entered item) before
      unfolding alike
      stand_found e = let good_here : good other ≡ true = ap (λ (t : Bool). t && alike starts texts width item other) entered_here ∙ (sym is ∙ e) in
          sym (last_in good other good_here) ∙ s.left

      pub stand_goes : same ≡ false → (next : ℕ) → next ≡ get_or chain (4096 + other) 0 → Stands before next × (next ≤ other)
      unfolding alike
      stand_goes e next link =
          let bad : good other ≡ false = ap (λ (t : Bool). t && alike starts texts width item other) entered_here ∙ (sym is ∙ e) in
          let k : bucket_of starts texts width other ≡ bucket_of starts texts width item =
          (from_bucket (bucket_of starts texts width) entered (bucket_of starts texts width item) other (s.here other refl)).1 in
          let there : next ≡ last_with mine other =
          link ∙ (c.links other (omega (arith, s.most, few)) entered_here ∙ ap (λ (n : ℕ). last_with (in_bucket (bucket_of starts texts width) entered n) other) k) in
          let on = stand_on other next there in
          (record { most = omega (arith, on.most, s.most); left = on.left ∙ (sym (last_out good other bad) ∙ s.left); here = on.here }, on.most)

-- ---- what find_from carries
module _ (starts texts : List ℕ) (width : ℕ) (chain : List ℕ) (item from : ℕ) where
  pub record Walking (at : ℕ) : Type 0 where
    pub within : at ≤ item
    pub stands : (entered : ℕ → Bool) (count before : ℕ) → ItemsInside starts texts width item → Chained (bucket_of starts texts width) entered count chain → before ≤ count → count ≤ item
        → from ≡ last_with (in_bucket (bucket_of starts texts width) entered (bucket_of starts texts width item)) before → Stands starts texts width entered item before at

  pub walk_starts : from ≤ item → Walking from
  walk_starts h = record { within = h; stands = λ entered count before inside c few most e. stand_on starts texts width entered item before from e }

  pub walk_refused : item < from → Walked starts texts width chain item from 0
  walk_refused h = record {
    within = omega arith;
    last = λ entered count before inside c few most e. absurd
        (omega (arith, h, few, most, (stand_on starts texts width entered item before from e).most));
  }

  module _ (at : ℕ) (w : Walking at) where
    pub walk_ends : at ≤ 0 → Walked starts texts width chain item from 0
    unfolding last_with
    walk_ends h = record {
      within = omega arith;
      last = λ entered count before inside c few most e.
          let none : 0 ≡ at = omega (arith, h) in
          ap (last_with (meets starts texts width entered item)) none ∙ (w.stands entered count before inside c few most e).left;
    }

    module _ (some : 0 < at) (same : Bool)
        (is : Inside starts texts (item * width + width) → Inside starts texts ((at - 1) * width + width) →
        same ≡ same_texts (item_at starts texts (item * width) width) (item_at starts texts ((at - 1) * width) width)) where
      at_is : at ≡ suc (at - 1)
      at_is = omega arith

      same_is : ItemsInside starts texts width item → same ≡ same_texts (item_at starts texts (item * width) width) (item_at starts texts ((at - 1) * width) width)
      same_is inside = is (other_inside starts texts width item item (omega arith) inside) (other_inside starts texts width item (at - 1) (omega (arith, w.within)) inside)

      stands_here : (entered : ℕ → Bool) (before : ℕ) → Stands starts texts width entered item before at → Stands starts texts width entered item before (suc (at - 1))
      stands_here entered before s = subst (λ (n : ℕ). Stands starts texts width entered item before n) at_is s

      pub walk_found : same ≡ true → Walked starts texts width chain item from (at - 1 + 1)
      walk_found yes' = record {
        within = omega (arith, some, w.within);
        last = λ entered count before inside c few most e.
            add-one (at - 1) ∙ stand_found starts texts width entered item count before chain c few (at - 1) (stands_here entered before (w.stands entered count before inside c few most e)) same
            (same_is inside) yes';
      }

      module _ (no' : same ≡ false) (next : ℕ) (link : next ≡ get_or chain (4096 + (at - 1)) 0) where
        goes : (entered : ℕ → Bool) (count before : ℕ) → ItemsInside starts texts width item → Chained (bucket_of starts texts width) entered count chain → before ≤ count → count ≤ item
            → from ≡ last_with (in_bucket (bucket_of starts texts width) entered (bucket_of starts texts width item)) before → Stands starts texts width entered item before next × (next ≤ at - 1)
        goes entered count before inside c few most e =
            stand_goes starts texts width entered item count before chain c few (at - 1) (stands_here entered before (w.stands entered count before inside c few most e)) same
            (same_is inside) no' next link

        pub walk_forged : at - 1 < next → Walked starts texts width chain item from 0
        walk_forged h = record { within = omega arith; last = λ entered count before inside c few most e. absurd (omega (arith, h, (goes entered count before inside c few most e).1)) }

        pub walk_goes : next ≤ at - 1 → Walking next
        walk_goes h = record { within = omega (arith, h, w.within); stands = λ entered count before inside c few most e. (goes entered count before inside c few most e).0 }

-- ---- where a walk begins
module _ (starts texts : List ℕ) (width : ℕ) (chain : List ℕ) (item r : ℕ) (entered : ℕ → Bool) (count : ℕ) (inside : ItemsInside starts texts width item)
    (c : Chained (bucket_of starts texts width) entered count chain) (most : count ≤ item) where
  pub from_head : (bucket from : ℕ) → bucket < 4096 → bucket ≡ bucket_of starts texts width item → from ≡ get_or chain bucket 0 → Walked starts texts width chain item from r →
      r ≡ last_with (meets starts texts width entered item) count
  from_head bucket from small is e w =
      w.last entered count count inside c (omega arith) most (e ∙ (c.heads bucket small ∙ ap (λ (k : ℕ). last_with (in_bucket (bucket_of starts texts width) entered k) count) is))

  pub from_found : (found from : ℕ) → from ≡ get_or chain (4096 + found) 0 → Walked starts texts width chain item from r → found + 1 ≡ last_with (meets starts texts width entered item) count
      → r ≡ last_with (meets starts texts width entered item) found
  from_found found from e w is = let low : found + 1 ≤ count = omega (arith, is, last_most (meets starts texts width entered item) count) in
      let good : meets starts texts width entered item found ≡ true = last_good (meets starts texts width entered item) count found (sym is ∙ add-one found) in
      let two = from_bucket (bucket_of starts texts width) entered (bucket_of starts texts width item) found (meets_bucket starts texts width entered item found good) in
      w.last entered count found inside c (omega (arith, low)) most
      (e ∙ (c.links found (omega (arith, low)) two.0 ∙ ap (λ (k : ℕ). last_with (in_bucket (bucket_of starts texts width) entered k) found) two.1))

-- ---- what was found, as a word
pub word_some : (r : Option ℕ) → is_some r ≡ true → 0 < word_of r
word_some (Some item) e = omega arith
word_some None e = never (sym e)

pub word_none : (r : Option ℕ) → is_some r ≡ false → word_of r ≤ 0
word_none (Some item) e = never e
word_none None e = omega arith
