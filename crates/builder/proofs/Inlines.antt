-- Texts that go into the output one after another. Assumes nothing.
use Rattle.numbers.proofs.Prelude.{ℕ, suc, ◌+◌, ◌-◌, ◌*◌, ◌^◌, ◌≤◌, ◌<◌, eq-eqb, ne_eqb, eqb, length, take, drop, get_or, length-append, length-drop, length-map, length-take-le, drop-cons}
use Rattle.numbers.proofs.Prelude.{drop-length}
use Rattle.numbers.proofs.Prelude.{drop-drop, Bool, true, false, List, [], ◌∷◌, ◌++◌, map, flat_map, ◌≡◌, refl, ap, subst, ◌∙◌, add-one, arith}
use Rattle.numbers.{proofs.Spelling.{varint_few}, specs.{Answer.{if◌then◌else◌}, Spelling.{varint_of}}}
use Rattle.writer.{proofs.Stores.{Left, left_all, left_step, left_none}, specs.inner.Stored.{Stored}}
use Rattle.header.specs.Utf8.{unmasked}
use Rattle.builder.specs.{Metadata.{inlined, joined_from, word_bytes}, Yards.{Text, cut_by, sum_of}}
use Rattle.builder.proofs.Sums.{sum_next}

-- a length takes at most ten bytes
pub inlined_few : (text : List ℕ) → length (inlined text) ≤ 10 + length text
unfolding inlined
inlined_few text = omega (arith, length-append (varint_of (length text)) (map unmasked text), length-map text unmasked, varint_few (length text))

-- by its word
pub word_few : (records word : ℕ) (text : List ℕ) → length (word_bytes records word text) ≤ 10 + length text
unfolding word_bytes
word_few records word text = go (eqb word 0) where
  go : (none : Bool) → length (if none then inlined text else varint_of (255 + records + word)) ≤ 10 + length text
  go true = inlined_few text
  go false = omega (arith, varint_few (255 + records + word))

-- all inline
pub joined_inlined : (i : ℕ) (ts : List Text) → joined_from (λ k. inlined) i ts ≡ flat_map inlined ts
unfolding joined_from flat_map
joined_inlined i [] = refl
joined_inlined i (t ∷ ts) = ap (λ (bs : List ℕ). inlined t ++ bs) (joined_inlined (suc i) ts)

-- ---- texts, each as bytes that are no longer than it and ten more
module _ (bytes : ℕ → Text → List ℕ) where
  -- the loop's invariant, at the text i, whose bytes begin at a place
  pub record Inlining (before : List ℕ) (place : ℕ) (lengths texts now : List ℕ) (next at i : ℕ) : Type 0 where
    pub index : i ≤ length lengths
    pub left : Left before place (joined_from bytes 0 (cut_by lengths texts)) now next (joined_from bytes i (cut_by (drop i lengths) (drop at texts)))
    pub there : at + sum_of (drop i lengths) ≤ length texts
    pub bound : next + sum_of (drop i lengths) + 10 * length (drop i lengths) < 2 ^ 60

  pub inlines_start : (before : List ℕ) (place : ℕ) (lengths texts : List ℕ) → sum_of lengths ≤ length texts → place + sum_of lengths + 10 * length lengths < 2 ^ 60 →
      Inlining before place lengths texts before place 0 0
  inlines_start before place lengths texts h k = record { index = omega arith; left = left_all; there = omega arith; bound = k }

  module _ (before : List ℕ) (place : ℕ) (lengths texts now : List ℕ) (next at i : ℕ) (l : Inlining before place lengths texts now next at i) (more : i < length lengths) where
    rest : drop i lengths ≡ get_or lengths i 0 ∷ drop (suc i) lengths
    rest = drop-cons lengths i 0 more

    counts : length (drop i lengths) ≡ suc (length (drop (suc i) lengths))
    counts = ap length rest

    -- the text lies within the list
    pub text_in : at + get_or lengths i 0 ≤ length texts
    text_in = omega (arith, l.there, sum_next lengths i more)

    pub text_size : length (take (at + get_or lengths i 0 - at) (drop at texts)) ≡ get_or lengths i 0
    text_size = length-take-le (at + get_or lengths i 0 - at) (drop at texts) (omega (arith, text_in, length-drop at texts)) ∙ omega arith

    pub text_fits : next + length (take (at + get_or lengths i 0 - at) (drop at texts)) < 2 ^ 61
    text_fits = omega (arith, text_size, l.bound, sum_next lengths i more)

    cuts : joined_from bytes i (cut_by (drop i lengths) (drop at texts)) ≡ bytes i (take (at + get_or lengths i 0 - at) (drop at texts)) ++ joined_from bytes (suc i)
        (cut_by (drop (suc i) lengths) (drop (at + get_or lengths i 0) texts))
    unfolding cut_by joined_from
    cuts = let size : at + get_or lengths i 0 - at ≡ get_or lengths i 0 = omega arith in
        ap (λ (ls : List ℕ). joined_from bytes i (cut_by ls (drop at texts))) rest ∙ rw (size, drop-drop (get_or lengths i 0) at texts)

    pub inlines_go : ((k : ℕ) (t : Text) → length (bytes k t) ≤ 10 + length t) → (after : List ℕ) (later : ℕ) →
        Stored now next (bytes i (take (at + get_or lengths i 0 - at) (drop at texts))) after later → Inlining before place lengths texts after later (at + get_or lengths i 0) (i + 1)
    inlines_go few after later s = let t = take (at + get_or lengths i 0 - at) (drop at texts) in
        rw (add-one i) (record {
          index = omega arith;
          left = left_step (bytes i t) (subst (λ (r : List ℕ). Left before place (joined_from bytes 0 (cut_by lengths texts)) now next r) cuts l.left) s;
          there = omega (arith, l.there, sum_next lengths i more);
          bound = omega (arith, l.bound, sum_next lengths i more, counts, s.place_after, few i t, text_size);
        })

  pub inlines_end : (before : List ℕ) (place : ℕ) (lengths texts now : List ℕ) (next at i : ℕ) → Inlining before place lengths texts now next at i → length lengths ≤ i →
      Stored before place (joined_from bytes 0 (cut_by lengths texts)) now next
  unfolding cut_by joined_from
  inlines_end before place lengths texts now next at i l h = let e : i ≡ length lengths = omega (arith, l.index) in
      left_none (subst (λ (r : List ℕ). Left before place (joined_from bytes 0 (cut_by lengths texts)) now next r)
      (ap (λ (ls : List ℕ). joined_from bytes i (cut_by ls (drop at texts))) (ap (λ (n : ℕ). drop n lengths) e ∙ drop-length lengths)) l.left)

pub inline_ends : (before : List ℕ) (place : ℕ) (lengths texts now : List ℕ) (next at i : ℕ) → Inlining (λ k. inlined) before place lengths texts now next at i → length lengths ≤ i →
    Stored before place (flat_map inlined (cut_by lengths texts)) now next
inline_ends before place lengths texts now next at i l h =
    subst (λ (bs : List ℕ). Stored before place bs now next) (joined_inlined 0 (cut_by lengths texts)) (inlines_end (λ k. inlined) before place lengths texts now next at i l h)

-- ---- one field by its word
pub field_inline : (records word : ℕ) (text : List ℕ) {before after : List ℕ} {at next : ℕ} → word ≡ 0 → Stored before at (inlined text) after next →
    Stored before at (word_bytes records word text) after next
unfolding word_bytes
field_inline records word text e s = rw (eq-eqb word 0 e) s

pub field_word : (records word : ℕ) (text : List ℕ) {before after : List ℕ} {at next : ℕ} → (word ≡ 0 → ⊥) → Stored before at (varint_of (255 + records + word)) after next →
    Stored before at (word_bytes records word text) after next
unfolding word_bytes
field_word records word text e s = rw (ne_eqb word 0 e) s
