-- The merging loop: what holds before each turn, and what a turn makes of it. Assumes nothing.
use Rattle.numbers.proofs.Prelude.{ℕ, zero, suc, ◌+◌, ◌-◌, ◌*◌, ◌≤◌, ◌<◌, eq-eqb, ne_eqb, eqb-true, eqb-false, eqb, length, take, drop, replicate, length-append, length-map, length-replicate}
use Rattle.numbers.proofs.Prelude.{take_at, drop_at, Bool, true, false, List, [], ◌∷◌, ◌++◌, map, append_assoc, append-nil, ◌≡◌, refl, sym, ap, ◌∙◌, arith}
use Rattle.numbers.specs.{Answer.{if◌then◌else◌}, Lists.{zeros, padded}}
use Rattle.table.specs.{Hits.{width, hit_of, words, slots, Real, hit_at, put_hit, no_hit}, Merge.{Summary, ◌⊕◌, single, summary, group_kind, seen, match_of, merged_after, merged, clear, cleared}}
use Rattle.table.specs.declared.hits.Hit.{Hit}
use Rattle.table.proofs.{Words.{words_length, words_append, slots_words}, merge.{Gathering.{middle_at, middle_put, Next, next}, Summaries.{join_empty_left, seen_joined}}}

-- ---- slots of hits whose group was taken out already
abbrev strike : List Hit → Hit → Hit
strike before hit = if seen hit.metadata before then no_hit else hit

abbrev struck : List Hit → List Hit → List Hit
struck before = map (strike before)

abbrev nones : ℕ → List Hit
nones n = replicate n no_hit

seen_snoc : (id : ℕ) (before : List Hit) (hit : Hit) → seen id (before ++ hit ∷ []) ≡ (if seen id before then true else (if eqb hit.metadata id then true else false))
unfolding seen
seen_snoc id before hit = seen_joined id before (hit ∷ [])

same_test : (a b : ℕ) → eqb a b ≡ eqb b a
same_test a b = go (eqb a b) refl where
  go : (t : Bool) → eqb a b ≡ t → eqb a b ≡ eqb b a
  go true e = e ∙ sym (eq-eqb b a (sym (eqb-true a b e)))
  go false e = e ∙ sym (ne_eqb b a (λ f. eqb-false a b e (sym f)))

-- no hit stays no hit
clear_none : (id : ℕ) → clear id no_hit ≡ no_hit
clear_none id = go (eqb 0 id) where
  go : (t : Bool) → (if t then no_hit else no_hit) ≡ no_hit
  go true = refl
  go false = refl

-- after a hit, its whole group is taken out
clear_struck : (before : List Hit) (hit x : Hit) → clear hit.metadata (strike before x) ≡ strike (before ++ hit ∷ []) x
clear_struck before hit x = go (seen x.metadata before) refl where
  go : (t : Bool) → seen x.metadata before ≡ t → clear hit.metadata (strike before x) ≡ strike (before ++ hit ∷ []) x
  go true e = rw (seen_snoc x.metadata before hit, e) (clear_none hit.metadata)
  go false e = rw (seen_snoc x.metadata before hit, e) (inner (eqb hit.metadata x.metadata) refl) where
    inner : (u : Bool) → eqb hit.metadata x.metadata ≡ u → clear hit.metadata x ≡ (if (if eqb hit.metadata x.metadata then true else false) then no_hit else x)
    inner true f = rw (f, same_test x.metadata hit.metadata, f)
    inner false f = rw (f, same_test x.metadata hit.metadata, f)

clear_all : (before : List Hit) (hit : Hit) (xs : List Hit) → cleared hit.metadata (struck before xs) ≡ struck (before ++ hit ∷ []) xs
clear_all before hit [] = refl
clear_all before hit (x ∷ xs) = λ i. clear_struck before hit x i ∷ clear_all before hit xs i

-- a hit of a group that is out already takes nothing more out
strike_again : (before : List Hit) (hit : Hit) → seen hit.metadata before ≡ true → (x : Hit) → strike before x ≡ strike (before ++ hit ∷ []) x
strike_again before hit s x = go (seen x.metadata before) refl where
  go : (t : Bool) → seen x.metadata before ≡ t → strike before x ≡ strike (before ++ hit ∷ []) x
  go true e = rw (seen_snoc x.metadata before hit, e) refl
  go false e = rw (seen_snoc x.metadata before hit, e) (inner (eqb hit.metadata x.metadata) refl) where
    inner : (u : Bool) → eqb hit.metadata x.metadata ≡ u → x ≡ (if (if eqb hit.metadata x.metadata then true else false) then no_hit else x)
    inner true f = let z : true ≡ false = sym s ∙ ap (λ (n : ℕ). seen n before) (eqb-true _ _ f) ∙ e in let no : ◌≡◌ {A = ℕ} 0 1 = cc in absurd (omega arith)
    inner false f = rw f refl

strike_all_again : (before : List Hit) (hit : Hit) → seen hit.metadata before ≡ true → (xs : List Hit) → struck before xs ≡ struck (before ++ hit ∷ []) xs
strike_all_again before hit s [] = refl
strike_all_again before hit s (x ∷ xs) = λ i. strike_again before hit s x i ∷ strike_all_again before hit s xs i

-- the hits that are out already have other ids
summary_struck : (id : ℕ) (before : List Hit) → seen id before ≡ false → (xs : List Hit) → summary id (struck before xs) ≡ summary id xs
unfolding summary
summary_struck id before s [] = refl
summary_struck id before s (x ∷ xs) = go (summary_struck id before s xs) (seen x.metadata before) refl where
  no_hit_adds : summary id (struck before xs) ≡ summary id xs → (t : Bool) → (if t then single 0 ⊕ summary id (struck before xs) else summary id (struck before xs)) ≡ summary id xs
  no_hit_adds rest true = join_empty_left (summary id (struck before xs)) ∙ rest
  no_hit_adds rest false = rest

  go : summary id (struck before xs) ≡ summary id xs → (t : Bool) → seen x.metadata before ≡ t → summary id (struck before (x ∷ xs)) ≡ summary id (x ∷ xs)
  go rest true e = rw (e, ne_eqb x.metadata id (λ f. let z : true ≡ false = sym e ∙ ap (λ (n : ℕ). seen n before) f ∙ s in let no : ◌≡◌ {A = ℕ} 0 1 = cc in omega arith)) (no_hit_adds rest (eqb 0 id))
  go rest false e = rw e (ap (λ (u : Summary). if eqb x.metadata id then single x.kind ⊕ u else u) rest)

struck_nothing : (xs : List Hit) → struck [] xs ≡ xs
unfolding seen
struck_nothing [] = refl
struck_nothing (x ∷ xs) = ap (λ (l : List Hit). x ∷ l) (struck_nothing xs)

nones_snoc : (gap : ℕ) (xs : List Hit) → nones gap ++ no_hit ∷ xs ≡ no_hit ∷ (nones gap ++ xs)
nones_snoc zero xs = refl
nones_snoc (suc gap) xs = ap (λ (l : List Hit). no_hit ∷ l) (nones_snoc gap xs)

words_nones : (gap : ℕ) → words (nones gap) ≡ zeros (width * gap)
unfolding words
words_nones zero = refl
words_nones (suc gap) = let e : width * suc gap ≡ suc (suc (suc (suc (width * gap)))) = omega arith in rw e (ap (λ (l : List ℕ). 0 ∷ 0 ∷ 0 ∷ 0 ∷ l) (words_nones gap))

-- ---- before each turn: matches, empty slots, and the hits whose group is still to come
pub record Merging (all : List Hit) (ws : List ℕ) (out i : ℕ) : Type 0 where
  pub before : List Hit
  pub left : List Hit
  pub done : List Hit
  pub gap : ℕ
  pub lengths : i + length left ≡ length all
  pub place : out + gap ≡ i
  pub counted : length done ≡ out
  pub real : Real left
  pub kept : ws ≡ words ((done ++ nones gap) ++ struck before left)
  pub so_far : done ++ merged_after before left ≡ merged all

pub starts : (all : List Hit) (ws : List ℕ) → ws ≡ words all → Real all → Merging all ws 0 0
unfolding merged
starts all ws w r = record {
  before = [];
  left = all;
  done = [];
  gap = 0;
  lengths = omega arith;
  place = refl;
  counted = refl;
  real = r;
  kept = w ∙ ap words (sym (struck_nothing all));
  so_far = refl;
}

module _ {all : List Hit} {ws : List ℕ} {out i : ℕ} (g : Merging all ws out i) where
  front_length : length (g.done ++ nones g.gap) ≡ i
  front_length = length-append g.done (nones g.gap) ∙ rw (g.counted, length-replicate) g.place

  pub merging_length : length ws ≡ width * length all
  merging_length =
      ap length g.kept ∙ words_length ((g.done ++ nones g.gap) ++ struck g.before g.left)
      ∙ ap (λ (n : ℕ). width * n) (length-append (g.done ++ nones g.gap) (struck g.before g.left) ∙ rw (front_length, length-map g.left (strike g.before)) g.lengths)

  pub ends : (n : ℕ) → n ≡ width * length all → length all ≤ i → (out ≡ length (merged all)) × (ws ≡ padded n (words (merged all)))
  unfolding merged_after
  ends n sized h = go g.left g.kept g.so_far (omega (arith, g.lengths)) where
    go : (left : List Hit) → ws ≡ words ((g.done ++ nones g.gap) ++ struck g.before left) → g.done ++ merged_after g.before left ≡ merged all → length left ≡ 0
        → (out ≡ length (merged all)) × (ws ≡ padded n (words (merged all)))
    go [] k e z = let done : g.done ≡ merged all = sym (append-nil g.done) ∙ e in
        let room : width * g.gap ≡ n - length (words g.done) = omega (arith, g.lengths, g.place, g.counted, words_length g.done) in (
          sym g.counted ∙ ap length done,
          k ∙ ap words (append-nil (g.done ++ nones g.gap)) ∙ words_append g.done (nones g.gap) ∙ ap (λ (l : List ℕ). words g.done ++ l) (words_nones g.gap ∙ ap zeros room)
              ∙ ap (λ (l : List Hit). padded n (words l)) done,
        )
    go (x ∷ xs) k e z = absurd (omega arith)

  module _ (more : i < length all) where
    pub one_more : Next g.left
    one_more = next g.left (omega (arith, g.lengths))

    abbrev pub hit : Hit
    hit = one_more.hit

    abbrev pub rest : List Hit
    rest = one_more.rest

    abbrev pub front : List Hit
    front = g.done ++ nones g.gap

    opened : ws ≡ words (front ++ strike g.before hit ∷ struck g.before rest)
    opened = g.kept ∙ ap (λ (l : List Hit). words (front ++ struck g.before l)) one_more.is

    reals : (hit.kind ≡ 0 → ⊥) × Real rest
    unfolding Real
    reals = rw one_more.is at g.real

    turned : g.done ++ ((if seen hit.metadata g.before then [] else match_of hit (group_kind (summary hit.metadata (hit ∷ rest)))) ++ merged_after (g.before ++ hit ∷ []) rest) ≡ merged all
    unfolding merged_after
    turned = rw one_more.is at g.so_far

    -- an empty slot more
    empties : (ws' : List ℕ) → ws' ≡ words (front ++ no_hit ∷ struck (g.before ++ hit ∷ []) rest) → g.done ++ merged_after (g.before ++ hit ∷ []) rest ≡ merged all → Merging all ws' out (i + 1)
    empties ws' w e = record {
      before = g.before ++ hit ∷ [];
      left = rest;
      done = g.done;
      gap = suc g.gap;
      lengths = omega (arith, g.lengths, ap length one_more.is);
      place = omega (arith, g.place);
      counted = g.counted;
      real = reals.1;
      kept = w ∙ ap words (
          append_assoc g.done (nones g.gap) (no_hit ∷ struck (g.before ++ hit ∷ []) rest)
          ∙ ap (λ (l : List Hit). g.done ++ l) (nones_snoc g.gap (struck (g.before ++ hit ∷ []) rest))
          ∙ sym (append_assoc g.done (nones (suc g.gap)) (struck (g.before ++ hit ∷ []) rest))
          );
      so_far = e;
    }

    -- a match more
    matches : (ws' ws'' : List ℕ) (m : Hit) → ws' ≡ words (front ++ no_hit ∷ struck (g.before ++ hit ∷ []) rest) → ws'' ≡ put_hit ws' out m
        → g.done ++ (m ∷ merged_after (g.before ++ hit ∷ []) rest) ≡ merged all → Merging all ws'' (out + 1) (i + 1)
    matches ws' ws'' m w p e = record {
      before = g.before ++ hit ∷ [];
      left = rest;
      done = g.done ++ m ∷ [];
      gap = g.gap;
      lengths = omega (arith, g.lengths, ap length one_more.is);
      place = omega (arith, g.place);
      counted = omega (arith, g.counted, length-append g.done (m ∷ []));
      real = reals.1;
      kept = p
          ∙ ap (λ (v : List ℕ). put_hit v out m) (w ∙ ap words (append_assoc g.done (nones g.gap) (no_hit ∷ struck (g.before ++ hit ∷ []) rest)
          ∙ ap (λ (l : List Hit). g.done ++ l) (nones_snoc g.gap (struck (g.before ++ hit ∷ []) rest))))
          ∙ middle_put g.done (nones g.gap ++ struck (g.before ++ hit ∷ []) rest) no_hit m out g.counted
          ∙ ap words (sym (append_assoc (g.done ++ m ∷ []) (nones g.gap) (struck (g.before ++ hit ∷ []) rest) ∙ append_assoc g.done (m ∷ [])
          (nones g.gap ++ struck (g.before ++ hit ∷ []) rest)));
      so_far = append_assoc g.done (m ∷ []) (merged_after (g.before ++ hit ∷ []) rest) ∙ e;
    }

    -- the slot as the code has it
    module _ (got : Hit) (is : got ≡ hit_at ws i) where
      struck_here : got ≡ strike g.before hit
      struck_here = is ∙ ap (λ (w : List ℕ). hit_at w i) opened ∙ middle_at front (struck g.before rest) (strike g.before hit) i front_length

      -- it holds none: its group is out already
      was_seen : got.kind ≡ 0 → seen hit.metadata g.before ≡ true
      was_seen z = go (seen hit.metadata g.before) refl where
        go : (t : Bool) → seen hit.metadata g.before ≡ t → seen hit.metadata g.before ≡ true
        go true e = e
        go false e = let same : strike g.before hit ≡ hit = rw e refl in absurd (reals.0 (ap (λ (h : Hit). h.kind) (sym (struck_here ∙ same)) ∙ z))

      was_new : (got.kind ≡ 0 → ⊥) → seen hit.metadata g.before ≡ false
      was_new n = go (seen hit.metadata g.before) refl where
        go : (t : Bool) → seen hit.metadata g.before ≡ t → seen hit.metadata g.before ≡ false
        go false e = e
        go true e = let none : strike g.before hit ≡ no_hit = rw e refl in absurd (n (ap (λ (h : Hit). h.kind) (struck_here ∙ none)))

      pub skips : got.kind ≡ 0 → Merging all ws out (i + 1)
      skips z = let s = was_seen z in let none : strike g.before hit ≡ no_hit = rw s refl in
          empties ws (opened ∙ ap words (ap (λ (h : Hit). front ++ h ∷ struck g.before rest) none ∙ ap (λ (l : List Hit). front ++ no_hit ∷ l) (strike_all_again g.before hit s rest)))
          (rw s at turned)

      -- it holds a hit that begins a group: the group is taken out
      module _ (n : got.kind ≡ 0 → ⊥) (ws' : List ℕ) (s : Summary) (k : ℕ) where
        unstruck : strike g.before hit ≡ hit
        unstruck = rw (was_new n) refl

        same : got ≡ hit
        same = struck_here ∙ unstruck

        all_slots : slots ws ≡ front ++ hit ∷ struck g.before rest
        all_slots = ap slots (opened ∙ ap (λ (h : Hit). words (front ++ h ∷ struck g.before rest)) unstruck) ∙ slots_words (front ++ hit ∷ struck g.before rest)

        from_here : drop i (slots ws) ≡ hit ∷ struck g.before rest
        from_here = ap (drop i) all_slots ∙ drop_at front (hit ∷ struck g.before rest) i front_length

        to_here : take i (slots ws) ≡ front
        to_here = ap (take i) all_slots ∙ take_at front (hit ∷ struck g.before rest) i front_length

        out_taken : ws' ≡ words (take i (slots ws) ++ cleared got.metadata (drop i (slots ws))) → ws' ≡ words (front ++ no_hit ∷ struck (g.before ++ hit ∷ []) rest)
        out_taken w = let self : clear hit.metadata hit ≡ no_hit = rw (eq-eqb hit.metadata hit.metadata refl) refl in
            w ∙ (λ j. words (to_here j ++ cleared (same j).metadata (from_here j))) ∙ ap (λ (h : Hit). words (front ++ h ∷ cleared hit.metadata (struck g.before rest))) self
            ∙ ap (λ (l : List Hit). words (front ++ no_hit ∷ l)) (clear_all g.before hit rest)

        pub taken_length : ws' ≡ words (take i (slots ws) ++ cleared got.metadata (drop i (slots ws))) → length ws' ≡ width * length all
        taken_length w =
            ap length (out_taken w) ∙ words_length (front ++ no_hit ∷ struck (g.before ++ hit ∷ []) rest)
            ∙ ap (λ (m : ℕ). width * m) (length-append front (no_hit ∷ struck (g.before ++ hit ∷ []) rest)
            ∙ omega (arith, front_length, length-map rest (strike (g.before ++ hit ∷ [])), g.lengths, ap length one_more.is))

        group : s ≡ summary got.metadata (drop i (slots ws)) → s ≡ summary hit.metadata (hit ∷ rest)
        unfolding summary
        group e =
            e ∙ (λ j. summary (same j).metadata (from_here j))
            ∙ ap (λ (u : Summary). if eqb hit.metadata hit.metadata then single hit.kind ⊕ u else u) (summary_struck hit.metadata g.before (was_new n) rest)

        module _ (w : ws' ≡ words (take i (slots ws) ++ cleared got.metadata (drop i (slots ws)))) (e : s ≡ summary got.metadata (drop i (slots ws))) (kind : k ≡ group_kind s) where
          came : g.done ++ (match_of hit k ++ merged_after (g.before ++ hit ∷ []) rest) ≡ merged all
          came = ap (λ (j : ℕ). g.done ++ (match_of hit j ++ merged_after (g.before ++ hit ∷ []) rest)) (kind ∙ ap group_kind (group e)) ∙ (rw (was_new n) at turned)

          pub drops : k ≡ 0 → Merging all ws' out (i + 1)
          drops z = empties ws' (out_taken w) (simp (eq-eqb k 0 z) at came)

          pub keeps : (ws'' : List ℕ) → (k ≡ 0 → ⊥) → ws'' ≡ put_hit ws' out (hit_of got.polygon got.metadata k got.place) → Merging all ws'' (out + 1) (i + 1)
          keeps ws'' z p =
              matches ws' ws'' (hit_of hit.polygon hit.metadata k hit.place) (out_taken w) (p ∙ ap (λ (h : Hit). put_hit ws' out (hit_of h.polygon h.metadata k h.place)) same)
              (simp (ne_eqb k 0 z) at came)

  -- the words are those of their slots
  pub shaped : ws ≡ words (slots ws)
  shaped = g.kept ∙ ap words (sym (ap slots g.kept ∙ slots_words ((g.done ++ nones g.gap) ++ struck g.before g.left)))

  pub slots_length : length (slots ws) ≡ length all
  slots_length = omega (arith, merging_length, ap length shaped ∙ words_length (slots ws))
