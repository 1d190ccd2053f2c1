-- Lists that are written word by word: every second place, and where parts end. Assumes nothing.
use Rattle.numbers.proofs.{Lists.{zeros_drop}, Prelude.{ℕ, suc, ◌+◌, ◌-◌, ◌^◌, ◌≤◌, ◌<◌, length, drop, get_or, set, length-map, length-set, length-replicate, sets, drop-cons, drop-length, List, []}}
use Rattle.numbers.{proofs.Prelude.{◌∷◌, ◌++◌, map, ◌≡◌, refl, sym, ap, subst, ◌∙◌, add-one, arith}, specs.Lists.{zeros}}
use Rattle.builder.{proofs.grouping.Listed.{numbers_many}, specs.{Grouping.{Items.{starts_from}, Keys.{numbers_from}}, Yards.{sum_of}}}
use Rattle.writer.{proofs.Stores.{Left, left_all, left_step, left_none, stored_one, stored_front}, specs.inner.Stored.{Stored}}

-- ---- the first so many words by a rule
module _ (word : ℕ → ℕ) (count : ℕ) where
  pub record Gathering (before now : List ℕ) (i : ℕ) : Type 0 where
    pub index : i ≤ count
    pub left : Left before 0 (map word (numbers_from 0 count)) now i (map word (numbers_from i (count - i)))

  pub gather_starts : (before : List ℕ) → Gathering before before 0
  gather_starts before = let e : count - 0 ≡ count = omega arith in record { index = omega arith; left = rw e left_all }

  module _ (before now : List ℕ) (i : ℕ) (c : Gathering before now i) where
    pub gather_goes : i < count → Gathering before (set now i (word i)) (i + 1)
    unfolding numbers_from
    gather_goes h = let more : count - i ≡ suc (count - (i + 1)) = omega arith in
        let cut : map word (numbers_from i (count - i)) ≡ (word i ∷ []) ++ map word (numbers_from (i + 1) (count - (i + 1))) = ap (λ (n : ℕ). map word (numbers_from i n)) more ∙ rw (add-one i) in
        record { index = omega arith; left = left_step (word i ∷ []) (subst (λ (r : List ℕ). Left before 0 (map word (numbers_from 0 count)) now i r) cut c.left) (stored_one now i (word i)) }

    pub gather_ends : count ≤ i → (size : ℕ) → before ≡ zeros size → count ≤ size → now ≡ map word (numbers_from 0 count) ++ zeros (size - count)
    unfolding numbers_from
    gather_ends h size e room = let none : count - i ≡ 0 = omega arith in let all : List ℕ = map word (numbers_from 0 count) in
        let s : Stored before 0 all now i = left_none (subst (λ (n : ℕ). Left before 0 all now i (map word (numbers_from i n))) none c.left) in
        let many : length all ≡ count = length-map (numbers_from 0 count) word ∙ numbers_many 0 count in
        let long : length before ≡ size = ap length e ∙ length-replicate {A = ℕ} size 0 in
        stored_front before all now i s (omega (arith, many, long, room)) ∙ (ap (λ (n : ℕ). all ++ drop n before) many ∙ ap (λ (l : List ℕ). all ++ l) (ap (drop count) e ∙ zeros_drop count size))

-- ---- where parts end
starts_cons : (at : ℕ) (ns : List ℕ) → starts_from at ns ≡ at ∷ drop 1 (starts_from at ns)
unfolding starts_from
starts_cons at [] = refl
starts_cons at (n ∷ ns) = refl

pub record Marking (sizes : List ℕ) (begin : ℕ) (before : List ℕ) (at : ℕ) (marks : List ℕ) (end i : ℕ) : Type 0 where
  pub index : i ≤ length sizes
  pub bound : end + sum_of (drop i sizes) < 2 ^ 32
  pub size : length marks ≡ length before
  pub same : sets marks (at + 1 + i) (drop 1 (starts_from end (drop i sizes))) ≡ sets before (at + 1) (drop 1 (starts_from begin sizes))

pub mark_starts : (sizes : List ℕ) (begin : ℕ) (before : List ℕ) (at : ℕ) → begin + sum_of sizes < 2 ^ 32 → Marking sizes begin before at before begin 0
mark_starts sizes begin before at h = record {
  index = omega arith;
  bound = h;
  size = refl;
  same = let e : at + 1 + 0 ≡ at + 1 = omega arith in ap (λ (n : ℕ). sets before n (drop 1 (starts_from begin sizes))) e;
}

module _ (sizes : List ℕ) (begin : ℕ) (before : List ℕ) (at : ℕ) (marks : List ℕ) (end i : ℕ) (c : Marking sizes begin before at marks end i) where
  module _ (h : i < length sizes) where
    pub mark_sum : end + get_or sizes i 0 + sum_of (drop (suc i) sizes) < 2 ^ 32
    unfolding sum_of
    mark_sum = let e : sum_of (drop i sizes) ≡ get_or sizes i 0 + sum_of (drop (suc i) sizes) = ap sum_of (drop-cons sizes i 0 h) in omega (arith, c.bound, e)

    pub mark_goes : Marking sizes begin before at (set marks (at + 1 + i) (end + get_or sizes i 0)) (end + get_or sizes i 0) (i + 1)
    unfolding starts_from
    mark_goes = let next : ℕ = end + get_or sizes i 0 in
        let rest : drop 1 (starts_from end (drop i sizes)) ≡ next ∷ drop 1 (starts_from next (drop (suc i) sizes)) = ap (λ (l : List ℕ). drop 1 (starts_from end l))
        (drop-cons sizes i 0 h) ∙ starts_cons next (drop (suc i) sizes) in
        let place : at + 1 + (i + 1) ≡ suc (at + 1 + i) = omega arith in record {
          index = omega arith;
          bound = rw (add-one i) mark_sum;
          size = length-set marks (at + 1 + i) next ∙ c.size;
          same =
              ap (λ (n : ℕ). sets (set marks (at + 1 + i) next) n (drop 1 (starts_from next (drop (i + 1) sizes)))) place
              ∙ (ap (λ (n : ℕ). sets (set marks (at + 1 + i) next) (suc (at + 1 + i)) (drop 1 (starts_from next (drop n sizes)))) (add-one i)
              ∙ (ap (sets marks (at + 1 + i)) (sym rest) ∙ c.same));
        }

  pub mark_ends : length sizes ≤ i → marks ≡ sets before (at + 1) (drop 1 (starts_from begin sizes))
  unfolding starts_from
  mark_ends h = let e : i ≡ length sizes = omega (arith, c.index) in let none : drop i sizes ≡ [] = ap (λ (n : ℕ). drop n sizes) e ∙ drop-length sizes in
      sym (ap (λ (l : List ℕ). sets marks (at + 1 + i) (drop 1 (starts_from end l))) none) ∙ c.same
