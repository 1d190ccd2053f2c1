-- The texts behind the records, field by field. Assumes nothing.
use Rattle.numbers.proofs.Prelude.{ℕ, suc, ◌+◌, ◌-◌, ◌*◌, ◌^◌, ◌≤◌, ◌<◌, length, take, drop, get_or, length-take, drop-cons, drop-drop, take_all, get_or-take, take-suc, Bool, true, false, List}
use Rattle.numbers.proofs.Prelude.{[], ◌∷◌}
use Rattle.numbers.proofs.Prelude.{◌++◌, map, append-nil, flat_map, ◌≡◌, refl, sym, ap, subst, ◌∙◌, add-one, arith}
use Rattle.writer.{proofs.Stores.{stored_then}, specs.inner.Stored.{Stored}}
use Rattle.builder.{proofs.{Inlines.{inlined_few}, Sums.{sum_next}, grouping.{Keyed.{text_equal}, Meant.{text_itself}}}, specs.Metadata.{inlined, is_remote, remotes, offset_of}}
use Rattle.builder.specs.{Sharing.{same_text, is_in, firsts_after, good_ones}, Yards.{Text, cut_by, sum_of}}
use Rattle.build.proofs.metadata.{Offsets.{used_plain, used_again, used_first}, Shared.{flat_more}, Worded.{at_map, many, plain_word, far_word, offset_new, offset_old, some_size}}
use Rattle.build.specs.inner.Metadata.Words.{word_in, remote_in}

one : (t : Text) → flat_map inlined (t ∷ []) ≡ inlined t
unfolding flat_map
one t = append-nil (inlined t)

-- the loop's invariant, at the field i
pub record Placing (lengths texts out₀ : List ℕ) (place : ℕ) (out : List ℕ) (next at i : ℕ) : Type 0 where
  pub index : i ≤ length lengths
  pub cuts : cut_by (drop i lengths) (drop at texts) ≡ drop i (cut_by lengths texts)
  pub there : at + sum_of (drop i lengths) ≤ length texts
  pub stored : Stored out₀ place (flat_map inlined (firsts_after same_text [] (good_ones (is_remote (cut_by lengths texts)) (take i (cut_by lengths texts))))) out next
  pub bound : next + sum_of (drop i lengths) + 10 * length (drop i lengths) < 2 ^ 60

module _ (lengths texts words : List ℕ) (sum : sum_of lengths ≤ length texts) (words_are : take (length lengths) words ≡ map (word_in (cut_by lengths texts)) (cut_by lengths texts))
    (out₀ : List ℕ) (place : ℕ) where
  abbrev fields : List Text
  fields = cut_by lengths texts

  abbrev field : ℕ → Text
  field i = get_or fields i []

  -- the texts that the first so many fields use
  abbrev used_to : ℕ → List Text
  used_to i = firsts_after same_text [] (good_ones (is_remote fields) (take i fields))

  pub place_starts : place + sum_of lengths + 10 * length lengths < 2 ^ 60 → Placing lengths texts out₀ place out₀ place 0 0
  unfolding good_ones firsts_after flat_map
  place_starts h = record { index = omega arith; cuts = refl; there = omega (arith, sum); stored = record { place_after = omega arith; stored = refl }; bound = h }

  module _ (out : List ℕ) (next at i : ℕ) (c : Placing lengths texts out₀ place out next at i) (h : i < length lengths) where
    rest : drop i lengths ≡ get_or lengths i 0 ∷ drop (suc i) lengths
    rest = drop-cons lengths i 0 h

    pub text_end : at + get_or lengths i 0 ≤ length texts
    text_end = omega (arith, c.there, sum_next lengths i h)

    parts : take (get_or lengths i 0) (drop at texts) ∷ cut_by (drop (suc i) lengths) (drop (get_or lengths i 0) (drop at texts)) ≡ field i ∷ drop (suc i) fields
    unfolding cut_by
    parts = sym (ap (λ (ls : List ℕ). cut_by ls (drop at texts)) rest) ∙ (c.cuts ∙ drop-cons fields i [] (omega (arith, many lengths texts sum, h)))

    here : take (at + get_or lengths i 0 - at) (drop at texts) ≡ field i
    here = let e : at + get_or lengths i 0 - at ≡ get_or lengths i 0 = omega arith in
        ap (λ (n : ℕ). take n (drop at texts)) e ∙ ap (λ (l : List Text). get_or l 0 []) parts

    pub text_fits : next + length (take (at + get_or lengths i 0 - at) (drop at texts)) < 2 ^ 61
    text_fits = let e : at + get_or lengths i 0 - at ≡ get_or lengths i 0 = omega arith in
        let l : length (take (get_or lengths i 0) (drop at texts)) ≤ get_or lengths i 0 = omega (arith, length-take (get_or lengths i 0) (drop at texts)) in
        let f : length (take (at + get_or lengths i 0 - at) (drop at texts)) ≡ length (take (get_or lengths i 0) (drop at texts)) = ap (λ (n : ℕ). length (take n (drop at texts))) e in
        omega (arith, c.bound, sum_next lengths i h, l, f)

    pub next_behind : place ≤ next
    next_behind = omega (arith, c.stored.place_after)

    pub next_small : next - place + 1 < 2 ^ 61
    next_small = omega (arith, c.bound)

    far : next - place ≡ remote_in fields (take i fields)
    unfolding remote_in
    far = omega (arith, c.stored.place_after)

    word_is : get_or words i 0 ≡ word_in fields (field i)
    word_is =
        sym (get_or-take (length lengths) words i 0 h) ∙ (ap (λ (l : List ℕ). get_or l i 0) words_are ∙ at_map (word_in fields) fields i [] (omega (arith, many lengths texts sum, h)))

    snoc : take (i + 1) fields ≡ take i fields ++ (field i ∷ [])
    snoc = ap (λ (n : ℕ). take n fields) (add-one i) ∙ take-suc fields i [] (omega (arith, many lengths texts sum, h))

    on : (out' : List ℕ) (next' : ℕ) → Stored out₀ place (flat_map inlined (used_to (i + 1))) out' next' → next' ≤ next + (10 + get_or lengths i 0) →
        Placing lengths texts out₀ place out' next' (at + get_or lengths i 0) (i + 1)
    on out' next' s less = let drops : drop (i + 1) lengths ≡ drop (suc i) lengths = ap (λ (n : ℕ). drop n lengths) (add-one i) in
        let d : sum_of (drop (i + 1) lengths) ≡ sum_of (drop (suc i) lengths) = ap sum_of drops in
        let k : length (drop (i + 1) lengths) ≡ length (drop (suc i) lengths) = ap length drops in record {
          index = omega arith;
          cuts = ap (λ (ls : List ℕ). cut_by ls (drop (at + get_or lengths i 0) texts)) drops
              ∙ (ap (cut_by (drop (suc i) lengths)) (sym (drop-drop (get_or lengths i 0) at texts))
              ∙ (ap (drop 1) parts ∙ ap (λ (n : ℕ). drop n fields) (sym (add-one i))));
          there = omega (arith, c.there, sum_next lengths i h, d);
          stored = s;
          bound = omega (arith, c.bound, sum_next lengths i h, less, d, k, ap length rest);
        }

    -- the first use of a text
    pub place_new : (word : ℕ) → word ≡ get_or words i 0 → word ≡ next - place + 1 → (out' : List ℕ) (next' : ℕ) →
        Stored out next (inlined (take (at + get_or lengths i 0 - at) (drop at texts))) out' next' → Placing lengths texts out₀ place out' next' (at + get_or lengths i 0) (i + 1)
    place_new word is e out' next' s = go (is_remote fields (field i)) refl (is_in same_text (field i) (take i fields)) refl where
      w : get_or words i 0 ≡ remote_in fields (take i fields) + 1
      w = sym is ∙ (e ∙ ap (λ (n : ℕ). n + 1) far)

      go : (f : Bool) → is_remote fields (field i) ≡ f → (o : Bool) → is_in same_text (field i) (take i fields) ≡ o → Placing lengths texts out₀ place out' next' (at + get_or lengths i 0) (i + 1)
      go false f o g = let z : get_or words i 0 ≡ 0 = word_is ∙ sym (plain_word lengths texts sum (field i) f) in absurd (omega (arith, w, z))
      go true f true g = let z : get_or words i 0 ≡ suc (offset_of fields (field i)) = word_is ∙ sym (far_word lengths texts sum (field i) f) in
          absurd (omega (arith, w, z, offset_old lengths texts sum i f g, some_size lengths texts sum i h))
      go true f false g = let t : Stored out next (inlined (field i)) out' next' = subst (λ (x : Text). Stored out next (inlined x) out' next') here s in
          let more : flat_map inlined (used_to (i + 1)) ≡ flat_map inlined (used_to i) ++ inlined (field i) = ap (λ (l : List Text). flat_map inlined (firsts_after
          same_text [] (good_ones (is_remote fields) l))) snoc ∙ (ap (flat_map inlined) (used_first same_text text_equal text_itself (is_remote fields)
          (λ (x : Text). length (inlined x)) (take i fields) (field i) f g) ∙ (flat_more inlined (used_to i) (field i ∷ [])
          ∙ ap (λ (l : List ℕ). flat_map inlined (used_to i) ++ l) (one (field i)))) in
          let few : length (field i) ≤ get_or lengths i 0 = let l = length-take (at + get_or lengths i 0 - at) (drop at texts) in let q = ap length here in omega (arith, l, q) in
          on out' next' (subst (λ (l : List ℕ). Stored out₀ place l out' next') (sym more) (stored_then (flat_map inlined (used_to i)) (inlined (field i)) c.stored t))
          (omega (arith, t.place_after, inlined_few (field i), few))

    -- no text, or one that came before
    pub place_old : (word : ℕ) → word ≡ get_or words i 0 → (word ≡ next - place + 1 → ⊥) → Placing lengths texts out₀ place out next (at + get_or lengths i 0) (i + 1)
    place_old word is not = go (is_remote fields (field i)) refl (is_in same_text (field i) (take i fields)) refl where
      kept : used_to (i + 1) ≡ used_to i → Placing lengths texts out₀ place out next (at + get_or lengths i 0) (i + 1)
      kept e = on out next (subst (λ (l : List Text). Stored out₀ place (flat_map inlined l) out next) (sym e) c.stored) (omega arith)

      go : (f : Bool) → is_remote fields (field i) ≡ f → (o : Bool) → is_in same_text (field i) (take i fields) ≡ o → Placing lengths texts out₀ place out next (at + get_or lengths i 0) (i + 1)
      go false f o g = kept (ap (λ (l : List Text). firsts_after same_text [] (good_ones (is_remote fields) l)) snoc ∙
          used_plain same_text text_equal text_itself (is_remote fields) (λ (x : Text). length (inlined x)) (take i fields) (field i) f)
      go true f true g = kept
          (ap (λ (l : List Text). firsts_after same_text [] (good_ones (is_remote fields) l)) snoc ∙
          used_again same_text text_equal text_itself (is_remote fields) (λ (x : Text). length (inlined x)) (take i fields) (field i) f g)
      go true f false g = let z : get_or words i 0 ≡ suc (offset_of fields (field i)) = word_is ∙ sym (far_word lengths texts sum (field i) f) in
          absurd (not (is ∙ (z ∙ (ap suc (offset_new lengths texts sum i h f g ∙ sym far) ∙ sym (add-one (next - place))))))

  pub place_ends : (out : List ℕ) (next at i : ℕ) → Placing lengths texts out₀ place out next at i → length lengths ≤ i → Stored out₀ place (flat_map inlined (remotes fields)) out next
  unfolding remotes
  place_ends out next at i c h = let all : take i fields ≡ fields = take_all i fields (omega (arith, many lengths texts sum, h)) in
      subst (λ (l : List Text). Stored out₀ place (flat_map inlined (firsts_after same_text [] (good_ones (is_remote fields) l))) out next) all c.stored
