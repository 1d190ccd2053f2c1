-- What items are and what the first of equal ones is, in the words of the definition. Assumes nothing.
use Rattle.numbers.proofs.Prelude.{ℕ, zero, suc, ◌+◌, ◌-◌, ◌*◌, ◌≤◌, ◌<◌, eq-eqb, eqb-true, eqb-false, eqb, length, take, drop, get_or, drop-cons, drop-drop, Bool, true, false, List, [], ◌∷◌, ◌≡◌}
use Rattle.numbers.{proofs.{Prelude.{refl, sym, ap, ◌∙◌, add-one, arith}, Tests.{differ}}, specs.Answer.{if◌then◌else◌}}
use Rattle.builder.proofs.Counting.{cut_many}
use Rattle.builder.specs.{Grouping.{Items.{starts_from, text_at, item_at, Inside}, Keys.{numbers_from, alike, first_of}}, Sharing.{same_by, same_text, same_texts, first_with}}
use Rattle.builder.specs.Yards.{Text, cut_by, sum_of}

-- ---- where texts begin
pub starts_many : (at : ℕ) (ns : List ℕ) → length (starts_from at ns) ≡ suc (length ns)
unfolding starts_from
starts_many at [] = refl
starts_many at (n ∷ ns) = ap suc (starts_many (at + n) ns)

start_first : (at : ℕ) (ns : List ℕ) → get_or (starts_from at ns) 0 0 ≡ at
unfolding starts_from
start_first at [] = refl
start_first at (n ∷ ns) = refl

starts_rise : (at : ℕ) (ns : List ℕ) (i : ℕ) → i < length ns → get_or (starts_from at ns) i 0 ≤ get_or (starts_from at ns) (suc i) 0
unfolding starts_from
starts_rise at [] i h = absurd (omega arith)
starts_rise at (n ∷ ns) zero h = omega (arith, start_first (at + n) ns)
starts_rise at (n ∷ ns) (suc i) h = starts_rise (at + n) ns i (omega arith)

starts_most : (at : ℕ) (ns : List ℕ) (i : ℕ) → i < length ns → get_or (starts_from at ns) (suc i) 0 ≤ at + sum_of ns
unfolding starts_from sum_of
starts_most at [] i h = absurd (omega arith)
starts_most at (n ∷ ns) zero h = omega (arith, start_first (at + n) ns)
starts_most at (n ∷ ns) (suc i) h = omega (arith, starts_most (at + n) ns i (omega arith))

pub starts_inside : (lengths texts : List ℕ) → sum_of lengths ≤ length texts → Inside (starts_from 0 lengths) texts (length lengths)
starts_inside lengths texts h = record {
  many = omega (arith, starts_many 0 lengths);
  rise = λ i k. rw (add-one i) (starts_rise 0 lengths i k);
  most = λ i k. rw (add-one i) (let m = starts_most 0 lengths i k in omega (arith, m, h));
}

part_from : (at : ℕ) (ns texts : List ℕ) (i : ℕ) → i < length ns
    → take (get_or (starts_from at ns) (suc i) 0 - get_or (starts_from at ns) i 0) (drop (get_or (starts_from at ns) i 0) texts) ≡ get_or (cut_by ns (drop at texts)) i []
unfolding starts_from cut_by
part_from at [] texts i h = absurd (omega arith)
part_from at (n ∷ ns) texts zero h = let e : get_or (starts_from (at + n) ns) 0 0 - at ≡ n = omega (arith, start_first (at + n) ns) in
    ap (λ (k : ℕ). take k (drop at texts)) e
part_from at (n ∷ ns) texts (suc i) h = part_from (at + n) ns texts i (omega arith) ∙ ap (λ (xs : List ℕ). get_or (cut_by ns xs) i []) (sym (drop-drop n at texts))

-- a text by its number
pub text_is : (lengths texts : List ℕ) (i : ℕ) → i < length lengths → text_at (starts_from 0 lengths) texts i ≡ get_or (cut_by lengths texts) i []
unfolding text_at
text_is lengths texts i h = rw (add-one i) (part_from 0 lengths texts i h)

-- an item is a part of the texts
pub item_part : (lengths texts : List ℕ) (at width : ℕ) → at + width ≤ length lengths → item_at (starts_from 0 lengths) texts at width ≡ take width (drop at (cut_by lengths texts))
unfolding item_at
item_part lengths texts at zero h = refl
item_part lengths texts at (suc width) h = let fields : List Text = cut_by lengths texts in
    let here : at < length fields = omega (arith, h, cut_many lengths texts) in
    let next : item_at (starts_from 0 lengths) texts (at + 1) width ≡ take width (drop (suc at) fields) = item_part lengths texts (at + 1) width (omega arith)
    ∙ ap (λ (n : ℕ). take width (drop n fields)) (add-one at) in
    ap (λ (t : Text). t ∷ item_at (starts_from 0 lengths) texts (at + 1) width) (text_is lengths texts at (omega arith)) ∙ ap (λ (ts : List Text). get_or fields at [] ∷ ts) next
    ∙ ap (take (suc width)) (sym (drop-cons fields at [] here))

-- ---- the first of equal ones
pub record First (good : ℕ → Bool) (from item r : ℕ) : Type 0 where
  pub least : from ≤ r
  pub most : r ≤ item
  pub same : good r ≡ true
  pub none : (j : ℕ) → from ≤ j → j < r → good j ≡ false

first_from : (good : ℕ → Bool) (other i n k : ℕ) → i ≤ k → k < i + n → good k ≡ true → First good i k (first_with good other (numbers_from i n))
unfolding first_with numbers_from
first_from good other i zero k a b g = absurd (omega arith)
first_from good other i (suc n) k a b g = go (good i) refl (λ h. first_from good other (suc i) n k h (omega arith) g) where
  past : good i ≡ false → suc i ≤ k
  past e = split (eqb i k) refl where
    split : (t : Bool) → eqb i k ≡ t → suc i ≤ k
    split true f = let is : i ≡ k = eqb-true i k f in differ (sym e ∙ (ap good is ∙ g))
    split false f = let not = eqb-false i k f in omega (arith, a, not)

  before : (j : ℕ) (t : Bool) → eqb i j ≡ t → i ≤ j → {r : ℕ} → j < r → First good (suc i) k r → good i ≡ false → good j ≡ false
  before j true f c d m e = ap good (sym (eqb-true i j f)) ∙ e
  before j false f c d m e = let not = eqb-false i j f in m.none j (omega (arith, c, not)) d

  go : (t : Bool) → good i ≡ t → (suc i ≤ k → First good (suc i) k (first_with good other (numbers_from (suc i) n))) → First good i k (if t then i else first_with good other (numbers_from (suc i) n))
  go true e more = record { least = omega arith; most = a; same = e; none = λ j c d. absurd (omega arith) }
  go false e more = let m = more (past e) in
      record { least = omega (arith, m.least); most = m.most; same = m.same; none = λ j c d. before j (eqb i j) refl c d m e }

same_itself : {A : Type 0} (same : A → A → Bool) → ((x : A) → same x x ≡ true) → (xs : List A) → same_by same xs xs ≡ true
unfolding same_by
same_itself same own [] = refl
same_itself same own (x ∷ xs) = rw (own x) (same_itself same own xs)

pub text_itself : (t : Text) → same_text t t ≡ true
text_itself = same_itself eqb (λ x. eq-eqb x x refl)

pub texts_itself : (ts : List Text) → same_texts ts ts ≡ true
texts_itself = same_itself same_text text_itself

pub first_means : (starts texts : List ℕ) (width count item : ℕ) → item < count → (r : ℕ) → r ≡ first_of starts texts width count item → First (alike starts texts width item) 0 item r
unfolding first_of alike
first_means starts texts width count item h r e =
    rw e (first_from (alike starts texts width item) item 0 count item (omega arith) (omega arith) (texts_itself (item_at starts texts (item * width) width)))
