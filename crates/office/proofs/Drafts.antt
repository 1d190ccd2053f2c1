-- A builder's numbers in fourteen words, and back; and how a change of it goes over to C. Assumes nothing.
use Rattle.numbers.specs.Reply.{Reply, given, refused}
use Rattle.numbers.proofs.Prelude.{ℕ, ◌*◌, ◌%◌, ◌^◌, ◌<◌, ℤ, pos, negsuc, get_or, List, [], ◌∷◌, ◌≡◌, sym, ap, subst, ◌∙◌, w32, SFits, of_z, arith}
use Rattle.numbers.{proofs.Coordinates.{read_back, twice_read}, specs.{Point.{read_i32, signed_of}, declared.refusal.Refusal.{Refusal}}}
use Rattle.draft.specs.declared.held.state.Held.{Held}
use Rattle.office.specs.{Draft.{held_of, words_of, Kept}}

pub greatest_read : (word : ℕ) (greatest : ℤ) → greatest ≡ signed_of (2 * (word % 2 ^ 32)) → greatest ≡ read_i32 (word % 2 ^ 32)
greatest_read word greatest is = is ∙ twice_read (word % 2 ^ 32) (omega arith)

-- the same numbers but for those of which some bits count
abbrev rebuilt : Held → ℕ → ℕ → ℕ → ℕ → ℤ → Held
rebuilt held kind version precision names greatest =
    record {
      kind = kind;
      version = version;
      precision = precision;
      names = names;
      room = held.room;
      head = held.head;
      front = held.front;
      strings = held.strings;
      table = held.table;
      metadata = held.metadata;
      bytes = held.bytes;
      yards = held.yards;
      greatest = greatest;
    }

pub held_made : (words : List ℕ) (greatest : ℤ) → greatest ≡ signed_of (2 * (get_or words 12 0 % 2 ^ 32))
    → rebuilt (held_of words) (get_or words 0 0 % 256) (get_or words 1 0 % 256) (get_or words 2 0 % 256) (get_or words 3 0 % 2 ^ 32) greatest ≡ held_of words
unfolding held_of
held_made words greatest is = ap (λ (g : ℤ). rebuilt (held_of words) (get_or words 0 0 % 256) (get_or words 1 0 % 256) (get_or words 2 0 % 256) (get_or words 3 0 % 2 ^ 32) g)
    (greatest_read (get_or words 12 0) greatest is)

bits_low : (z : ℤ) → SFits w32 z → of_z w32 z < 2 ^ 32
bits_low (pos n) h = omega (arith, h.sfits)
bits_low (negsuc n) h = omega (arith, h.sfits)

-- numbers of their widths are read back from their words
module _ (held : Held) (noted : ℕ) (kind_low : held.kind < 2 ^ 8) (version_low : held.version < 2 ^ 8) (precision_low : held.precision < 2 ^ 8) (names_low : held.names < 2 ^ 32)
    (fits : SFits w32 held.greatest) where
  pub words_back : held_of (words_of held noted) ≡ held
  unfolding held_of words_of
  words_back = let bits : ℕ = of_z w32 held.greatest in let kind : held.kind % 2 ^ 8 ≡ held.kind = omega (arith, kind_low) in
      let version : held.version % 2 ^ 8 ≡ held.version = omega (arith, version_low) in
      let precision : held.precision % 2 ^ 8 ≡ held.precision = omega (arith, precision_low) in
      let names : held.names % 2 ^ 32 ≡ held.names = omega (arith, names_low) in
      let whole : bits % 2 ^ 32 ≡ bits = omega (arith, bits_low held.greatest fits) in
      let greatest : read_i32 (bits % 2 ^ 32) ≡ held.greatest = ap read_i32 whole ∙ read_back held.greatest fits in
      ap (λ (x : ℕ). rebuilt held x (held.version % 2 ^ 8) (held.precision % 2 ^ 8) (held.names % 2 ^ 32) (read_i32 (bits % 2 ^ 32))) kind
      ∙ (ap (λ (x : ℕ). rebuilt held held.kind x (held.precision % 2 ^ 8) (held.names % 2 ^ 32) (read_i32 (bits % 2 ^ 32))) version
      ∙ (ap (λ (x : ℕ). rebuilt held held.kind held.version x (held.names % 2 ^ 32) (read_i32 (bits % 2 ^ 32))) precision
      ∙ (ap (λ (x : ℕ). rebuilt held held.kind held.version held.precision x (read_i32 (bits % 2 ^ 32))) names
      ∙ ap (λ (x : ℤ). rebuilt held held.kind held.version held.precision held.names x) greatest)))

  -- as they are made of the greatest's bits
  abbrev made : ℕ → List ℕ
  made bits =
      held.kind ∷ held.version ∷ held.precision ∷ held.names ∷ held.room ∷ held.head ∷ held.front ∷ held.strings ∷ held.table ∷ held.metadata ∷ held.bytes ∷ held.yards ∷ bits ∷ noted ∷ []

  pub words_made : (bits : ℕ) → bits ≡ of_z w32 held.greatest → (made bits ≡ words_of held noted) × (held_of (made bits) ≡ held)
  unfolding words_of
  words_made bits is = let same : made bits ≡ words_of held noted = ap made is in (same, ap held_of same ∙ words_back)

-- ---- a changed builder is kept, a refused one as it was
module _ (noted : ℕ) (before after : List ℕ) {changed : Reply Held} where
  pub kept_into : {held : Held} → changed ≡ given held → (after ≡ words_of held noted) × (held_of after ≡ held) → Kept noted before after changed
  unfolding Kept
  kept_into is words = subst (Kept noted before after) (sym is) words

  pub kept_refused : {why : Refusal} → changed ≡ refused why → after ≡ before → Kept noted before after changed
  unfolding Kept
  kept_refused is same = subst (Kept noted before after) (sym is) same
