-- The loop that takes a group out of its slots: what holds before each turn, and what a turn makes of it. Assumes nothing.
use Rattle.numbers.proofs.Prelude.{ℕ, ◌+◌, ◌*◌, ◌≤◌, ◌<◌, eq-eqb, ne_eqb, length, take, drop, set, length-append, length-drop, length-map, take-append-drop, length-take-le, get_or_at, List, [], ◌∷◌}
use Rattle.numbers.proofs.Prelude.{◌++◌, append_assoc, append-nil, ◌≡◌, refl, sym, ap, ◌∙◌, arith}
use lib.Seq.{set_at}
use mathlib.Core.List.{map-append}
use Rattle.table.specs.{Hits.{width, words, hit_at, put_hit, no_hit}, Merge.{Summary, ◌⊕◌, single, summary, tallied, clear, cleared}, declared.{hits.Hit.{Hit}, merge.Tally.{Tally}}}
use Rattle.table.proofs.{Words.{words_length, word_at, word_put}, merge.Summaries.{join_associative, join_empty_left, join_empty_right}}

-- ---- a slot in the middle of a list
pub middle_at : (front back : List Hit) (hit : Hit) (j : ℕ) → length front ≡ j → hit_at (words (front ++ hit ∷ back)) j ≡ hit
middle_at front back hit j l =
    ap (λ (ws : List ℕ). hit_at ws j) (sym (append-nil (words (front ++ hit ∷ back)))) ∙ word_at (front ++ hit ∷ back) [] j (omega (arith, length-append front (hit ∷ back)))
    ∙ get_or_at front hit back no_hit j l

pub middle_put : (front back : List Hit) (old hit : Hit) (j : ℕ) → length front ≡ j → put_hit (words (front ++ old ∷ back)) j hit ≡ words (front ++ hit ∷ back)
middle_put front back old hit j l =
    ap (λ (ws : List ℕ). put_hit ws j hit) (sym (append-nil (words (front ++ old ∷ back)))) ∙ word_put (front ++ old ∷ back) [] j hit (omega (arith, length-append front (old ∷ back)))
    ∙ append-nil (words (set (front ++ old ∷ back) j hit)) ∙ ap words (set_at front old back hit j l)

-- one more slot
pub record Next (left : List Hit) : Type 0 where
  pub hit : Hit
  pub rest : List Hit
  pub is : left ≡ hit ∷ rest

pub next : (left : List Hit) → 0 < length left → Next left
next [] h = absurd (omega arith)
next (x ∷ xs) h = record { hit = x; rest = xs; is = refl }

-- ---- before each turn: the slots from `from` on are passed or left, and the tally is the passed ones'
pub record Gathering (all : List Hit) (from id : ℕ) (ws : List ℕ) (t : Tally) (j : ℕ) : Type 0 where
  pub passed : List Hit
  pub left : List Hit
  pub split : drop from all ≡ passed ++ left
  pub inside : from ≤ length all
  pub place : from + length passed ≡ j
  pub kept : ws ≡ words ((take from all ++ cleared id passed) ++ left)
  pub sum : tallied t ⊕ summary id left ≡ summary id (drop from all)
  pub small : t.inside ≤ j
  pub small' : t.excluded ≤ j

pub begins : (all : List Hit) (from id : ℕ) (ws : List ℕ) (t : Tally) → ws ≡ words all → from ≤ length all → t ≡ record { inside = 0; excluded = 0; border = 0 } → Gathering all from id ws t from
begins all from id ws t w f z = record {
  passed = [];
  left = drop from all;
  split = refl;
  inside = f;
  place = omega arith;
  kept = w ∙ ap words (sym (take-append-drop from all) ∙ ap (λ (l : List Hit). l ++ drop from all) (sym (append-nil (take from all))));
  sum = ap (λ (u : Tally). tallied u ⊕ summary id (drop from all)) z ∙ join_empty_left (summary id (drop from all));
  small = rw z (omega arith);
  small' = rw z (omega arith);
}

module _ {all : List Hit} {from id : ℕ} {ws : List ℕ} {t : Tally} {j : ℕ} (g : Gathering all from id ws t j) where
  lengths : from + (length g.passed + length g.left) ≡ length all
  lengths = omega (arith, g.inside, length-drop from all, ap length g.split, length-append g.passed g.left)

  front_length : length (take from all ++ cleared id g.passed) ≡ j
  front_length = length-append (take from all) (cleared id g.passed) ∙ rw (length-take-le from all g.inside, length-map g.passed (clear id)) g.place

  pub gathered_length : length ws ≡ width * length all
  gathered_length =
      ap length g.kept ∙ words_length ((take from all ++ cleared id g.passed) ++ g.left)
      ∙ ap (λ (n : ℕ). width * n) (length-append (take from all ++ cleared id g.passed) g.left ∙ rw front_length (omega (arith, lengths, g.place)))

  pub gathered : length all ≤ j → (tallied t ≡ summary id (drop from all)) × (ws ≡ words (take from all ++ cleared id (drop from all)))
  unfolding summary
  gathered h = go g.left g.split g.kept g.sum (omega (arith, lengths, g.place)) where
    go : (left : List Hit) → drop from all ≡ g.passed ++ left → ws ≡ words ((take from all ++ cleared id g.passed) ++ left)
        → tallied t ⊕ summary id left ≡ summary id (drop from all) → length left ≡ 0 → (tallied t ≡ summary id (drop from all)) × (ws ≡ words (take from all ++ cleared id (drop from all)))
    go [] s k e z = (
      sym (join_empty_right (tallied t)) ∙ e,
      k ∙ ap words (append-nil (take from all ++ cleared id g.passed) ∙ ap (λ (l : List Hit). take from all ++ cleared id l) (sym (s ∙ append-nil g.passed))),
    )
    go (x ∷ xs) s k e z = absurd (omega arith)

  module _ (more : j < length all) where
    pub one_more : Next g.left
    one_more = next g.left (omega (arith, lengths, g.place))

    abbrev pub hit : Hit
    hit = one_more.hit

    abbrev pub rest : List Hit
    rest = one_more.rest

    abbrev pub front : List Hit
    front = take from all ++ cleared id g.passed

    opened : ws ≡ words (front ++ hit ∷ rest)
    opened = g.kept ∙ ap (λ (l : List Hit). words (front ++ l)) one_more.is

    pub hit_here : hit_at ws j ≡ hit
    hit_here = ap (λ (w : List ℕ). hit_at w j) opened ∙ middle_at front rest hit j front_length

    sum_here : tallied t ⊕ summary id (hit ∷ rest) ≡ summary id (drop from all)
    sum_here = ap (λ (l : List Hit). tallied t ⊕ summary id l) (sym one_more.is) ∙ g.sum

    cleared_snoc : (take from all ++ cleared id (g.passed ++ hit ∷ [])) ++ rest ≡ front ++ clear id hit ∷ rest
    cleared_snoc =
        ap (λ (l : List Hit). (take from all ++ l) ++ rest) (map-append (clear id) g.passed (hit ∷ [])) ∙ ap (λ (l : List Hit). l ++ rest)
        (sym (append_assoc (take from all) (cleared id g.passed) (clear id hit ∷ []))) ∙ append_assoc front (clear id hit ∷ []) rest

    again : (ws' : List ℕ) (t' : Tally) → ws' ≡ words (front ++ clear id hit ∷ rest) → tallied t' ⊕ summary id rest ≡ summary id (drop from all)
        → t'.inside ≤ j + 1 → t'.excluded ≤ j + 1 → Gathering all from id ws' t' (j + 1)
    again ws' t' w s a b = record {
      passed = g.passed ++ hit ∷ [];
      left = rest;
      split = g.split ∙ ap (λ (l : List Hit). g.passed ++ l) one_more.is ∙ sym (append_assoc g.passed (hit ∷ []) rest);
      inside = g.inside;
      place = omega (arith, g.place, length-append g.passed (hit ∷ []));
      kept = w ∙ ap words (sym cleared_snoc);
      sum = s;
      small = a;
      small' = b;
    }

    -- the slot as the code has it
    module _ (got : Hit) (is : got ≡ hit_at ws j) where
      same : got ≡ hit
      same = is ∙ hit_here

      pub passes : (got.metadata ≡ id → ⊥) → Gathering all from id ws t (j + 1)
      unfolding summary
      passes n = let no = ne_eqb hit.metadata id (λ e. n (ap (λ (h : Hit). h.metadata) same ∙ e)) in
          again ws t (opened ∙ rw no refl) (simp no at sum_here) (omega (arith, g.small)) (omega (arith, g.small'))

      pub takes : (ws' : List ℕ) (t' : Tally) → got.metadata ≡ id → ws' ≡ put_hit ws j no_hit → tallied t' ≡ tallied t ⊕ single got.kind → t'.inside ≤ t.inside + 1
          → t'.excluded ≤ t.excluded + 1 → Gathering all from id ws' t' (j + 1)
      unfolding summary
      takes ws' t' e w s a b = let yes = eq-eqb hit.metadata id (ap (λ (h : Hit). h.metadata) (sym same) ∙ e) in
          again ws' t' (w ∙ ap (λ (v : List ℕ). put_hit v j no_hit) opened ∙ middle_put front rest hit no_hit j front_length ∙ rw yes refl)
          (ap (λ (u : Summary). u ⊕ summary id rest) (s ∙ ap (λ (h : Hit). tallied t ⊕ single h.kind) same) ∙ join_associative (tallied t) (single hit.kind)
          (summary id rest) ∙ (simp yes at sum_here)) (omega (arith, g.small)) (omega (arith, g.small'))
