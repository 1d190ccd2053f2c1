-- The chains with one item more, entered or left out, and what makes two of them the same. Assumes nothing.
use Rattle.numbers.proofs.Prelude.{ℕ, suc, ◌+◌, ◌-◌, ◌≤◌, ◌<◌, eq-eqb, ne_eqb, ltb-true, eqb-true, ltb-false, eqb-false, eqb, ltb, length, get_or, set, length-append, length-set, length-replicate}
use Rattle.numbers.proofs.Prelude.{get_or-set_other, get_or-set_same, Bool, true, false, ◌&&◌, List, ◌++◌, ◌≡◌, refl, sym, ap, subst, ◌∙◌, add-one, arith}
use Rattle.numbers.{proofs.Lists.{zero_at, wider_at}, specs.Lists.{zeros}}
use lib.Seq.{ext_get_or}
use Rattle.notes.proofs.chains.Lasts.{never, below_next, last_in, last_out, last_agree}
use Rattle.notes.specs.Chains.Chains.{last_with, in_bucket, Chained}

-- ---- the chains after an item is entered in its bucket
abbrev pub entering : List ℕ → ℕ → ℕ → List ℕ
entering chain item k = set (set chain (4096 + item) (get_or chain k 0)) k (item + 1)

pub entering_size : (chain : List ℕ) (item k : ℕ) → length (entering chain item k) ≡ length chain
entering_size chain item k = length-set (set chain (4096 + item) (get_or chain k 0)) k (item + 1) ∙ length-set chain (4096 + item) (get_or chain k 0)

module _ (bucket : ℕ → ℕ) (entered : ℕ → Bool) where
  pub bucket_has : (k item : ℕ) → entered item ≡ true → bucket item ≡ k → in_bucket bucket entered k item ≡ true
  unfolding in_bucket
  bucket_has k item e b = rw (e, eq-eqb (bucket item) k b)

  -- what an item in a bucket is
  pub from_bucket : (k item : ℕ) → in_bucket bucket entered k item ≡ true → (entered item ≡ true) × (bucket item ≡ k)
  unfolding in_bucket
  from_bucket k item e = go (entered item) refl (eqb (bucket item) k) refl e where
    go : (a : Bool) → entered item ≡ a → (b : Bool) → eqb (bucket item) k ≡ b → (a && b) ≡ true → (entered item ≡ true) × (bucket item ≡ k)
    go true a true b e = (a, eqb-true (bucket item) k b)
    go true a false b e = never (sym e)
    go false a b' b e = never (sym e)

  other_bucket : (k item : ℕ) → (bucket item ≡ k → ⊥) → in_bucket bucket entered k item ≡ false
  unfolding in_bucket
  other_bucket k item n = rw (ne_eqb (bucket item) k n) (go (entered item)) where
    go : (t : Bool) → (t && false) ≡ false
    go true = refl
    go false = refl

  not_entered : (k item : ℕ) → entered item ≡ false → in_bucket bucket entered k item ≡ false
  unfolding in_bucket
  not_entered k item e = rw e

  module _ (item : ℕ) (chain : List ℕ) (c : Chained bucket entered item chain) (room : 4096 + item < length chain) where
    -- an item that is not entered changes nothing
    pub chained_out : entered item ≡ false → Chained bucket entered (item + 1) chain
    chained_out out =
        subst (λ (n : ℕ). Chained bucket entered n chain) (sym (add-one item))
        (record {
          room = omega arith;
          heads = λ k h. c.heads k h ∙ sym (last_out (in_bucket bucket entered k) item (not_entered k item out));
          links = below_next (λ (i : ℕ). entered i ≡ true → get_or chain (4096 + i) 0 ≡ last_with (in_bucket bucket entered (bucket i)) i) item c.links (λ e. never (sym e ∙ out));
          left_out = below_next (λ (i : ℕ). entered i ≡ false → get_or chain (4096 + i) 0 ≡ 0) item c.left_out (λ e. c.rest item (omega arith));
          rest = λ i h. c.rest i (omega arith);
        })

    -- an item that is entered stands at the head of its chain
    module _ (k : ℕ) (small : k < 4096) (is : k ≡ bucket item) (in' : entered item ≡ true) where
      other_link : (i : ℕ) → (i ≡ item → ⊥) → get_or (entering chain item k) (4096 + i) 0 ≡ get_or chain (4096 + i) 0
      other_link i n =
          get_or-set_other (set chain (4096 + item) (get_or chain k 0)) k (4096 + i) (item + 1) 0 (λ e. omega (arith, e))
          ∙ get_or-set_other chain (4096 + item) (4096 + i) (get_or chain k 0) 0 (λ e. n (omega (arith, e)))

      own_link : get_or (entering chain item k) (4096 + item) 0 ≡ last_with (in_bucket bucket entered (bucket item)) item
      own_link =
          get_or-set_other (set chain (4096 + item) (get_or chain k 0)) k (4096 + item) (item + 1) 0 (λ e. omega (arith, e))
          ∙ (get_or-set_same chain (4096 + item) (get_or chain k 0) 0 room ∙ (c.heads k small ∙ ap (λ (n : ℕ). last_with (in_bucket bucket entered n) item) is))

      head : (j : ℕ) → j < 4096 → get_or (entering chain item k) j 0 ≡ last_with (in_bucket bucket entered j) (suc item)
      head j h = go (eqb j k) refl where
        go : (t : Bool) → eqb j k ≡ t → get_or (entering chain item k) j 0 ≡ last_with (in_bucket bucket entered j) (suc item)
        go true e = let same : j ≡ k = eqb-true j k e in
            let inside : k < length (set chain (4096 + item) (get_or chain k 0)) = omega (arith, length-set chain (4096 + item) (get_or chain k 0)) in
            ap (λ (n : ℕ). get_or (entering chain item k) n 0) same ∙ (get_or-set_same (set chain (4096 + item) (get_or chain k 0)) k (item + 1) 0 inside
            ∙ (add-one item ∙ sym (last_in (in_bucket bucket entered j) item (bucket_has j item in' (sym is ∙ sym same)))))
        go false e = let other = eqb-false j k e in
            get_or-set_other (set chain (4096 + item) (get_or chain k 0)) k j (item + 1) 0 other ∙ (get_or-set_other chain (4096 + item) j (get_or chain k 0) 0
            (λ e. omega (arith, e)) ∙ (c.heads j h ∙ sym (last_out (in_bucket bucket entered j) item (other_bucket j item (λ b. other (sym (is ∙ b)))))))

      pub chained_in : Chained bucket entered (item + 1) (entering chain item k)
      chained_in =
          subst (λ (n : ℕ). Chained bucket entered n (entering chain item k)) (sym (add-one item))
          (record {
            room = omega (arith, entering_size chain item k);
            heads = head;
            links = below_next (λ (i : ℕ). entered i ≡ true → get_or (entering chain item k) (4096 + i) 0 ≡ last_with (in_bucket bucket entered (bucket i)) i) item
                (λ i h e. other_link i (λ s. omega (arith, s, h)) ∙ c.links i h e) (λ e. own_link);
            left_out = below_next (λ (i : ℕ). entered i ≡ false → get_or (entering chain item k) (4096 + i) 0 ≡ 0) item (λ i h e. other_link i (λ s. omega (arith, s, h)) ∙ c.left_out i h e)
                (λ e. never (sym in' ∙ e));
            rest = λ i h. other_link i (λ s. omega (arith, s, h)) ∙ c.rest i (omega arith);
          })

  -- no item yet: all zeros
  pub chained_none : (size : ℕ) → 4096 ≤ size → Chained bucket entered 0 (zeros size)
  unfolding last_with
  chained_none size h = record {
    room = omega (arith, length-replicate {A = ℕ} size 0);
    heads = λ k s. zero_at size k;
    links = λ item s e. absurd (omega arith);
    left_out = λ item s e. absurd (omega arith);
    rest = λ item s. zero_at size (4096 + item);
  }

  -- zeros behind it change no chain
  pub chained_wider : (count more : ℕ) (chain : List ℕ) → Chained bucket entered count chain → Chained bucket entered count (chain ++ zeros more)
  chained_wider count more chain c = record {
    room = omega (arith, c.room, length-append chain (zeros more));
    heads = λ k h. wider_at chain more k ∙ c.heads k h;
    links = λ item h e. wider_at chain more (4096 + item) ∙ c.links item h e;
    left_out = λ item h e. wider_at chain more (4096 + item) ∙ c.left_out item h e;
    rest = λ item h. wider_at chain more (4096 + item) ∙ c.rest item h;
  }

  -- the chains are determined
  pub chained_one : (count : ℕ) (one other : List ℕ) → length one ≡ length other → Chained bucket entered count one → Chained bucket entered count other → one ≡ other
  chained_one count one other size c d = ext_get_or 0 one other size (λ i h. at i (ltb i 4096) refl) where
    link : (item : ℕ) → (t : Bool) → ltb item count ≡ t → (b : Bool) → entered item ≡ b → get_or one (4096 + item) 0 ≡ get_or other (4096 + item) 0
    link item true s true e = let h = ltb-true item count s in c.links item h e ∙ sym (d.links item h e)
    link item true s false e = let h = ltb-true item count s in c.left_out item h e ∙ sym (d.left_out item h e)
    link item false s b e = let h = ltb-false item count s in c.rest item h ∙ sym (d.rest item h)

    at : (i : ℕ) (t : Bool) → ltb i 4096 ≡ t → get_or one i 0 ≡ get_or other i 0
    at i true s = let h = ltb-true i 4096 s in c.heads i h ∙ sym (d.heads i h)
    at i false s = let h = ltb-false i 4096 s in let e : 4096 + (i - 4096) ≡ i = omega (arith, h) in
        subst (λ (n : ℕ). get_or one n 0 ≡ get_or other n 0) e (link (i - 4096) (ltb (i - 4096) count) refl (entered (i - 4096)) refl)

-- chains speak of the items below the count alone
module _ (bucket bucket' : ℕ → ℕ) (entered entered' : ℕ → Bool) (count : ℕ) (buckets : (i : ℕ) → i < count → bucket i ≡ bucket' i) (same : (i : ℕ) → i < count → entered i ≡ entered' i) where
  in_same : (k i : ℕ) → i < count → in_bucket bucket entered k i ≡ in_bucket bucket' entered' k i
  unfolding in_bucket
  in_same k i h = rw (buckets i h, same i h)

  pub chained_same : (chain : List ℕ) → Chained bucket entered count chain → Chained bucket' entered' count chain
  chained_same chain c = record {
    room = c.room;
    heads = λ k h. c.heads k h ∙ last_agree (in_bucket bucket entered k) (in_bucket bucket' entered' k) count (in_same k);
    links = λ i h e. c.links i h (same i h ∙ e) ∙
        (last_agree (in_bucket bucket entered (bucket i)) (in_bucket bucket' entered' (bucket i)) i (λ j s. in_same (bucket i) j (omega arith)) ∙
        ap (λ (k : ℕ). last_with (in_bucket bucket' entered' k) i) (buckets i h));
    left_out = λ i h e. c.left_out i h (same i h ∙ e);
    rest = c.rest;
  }
