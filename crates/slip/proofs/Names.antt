-- Names of zones: by the map's type, and byte by byte. Assumes nothing.
use Rattle.numbers.proofs.Prelude.{ℕ, ◌+◌, ◌-◌, ◌≤◌, ◌<◌, eq-eqb, ne_eqb, length, take, drop, get_or, length-append, length-drop, List·getD-append, List·getD-eq-default, length-take-le, get_or-take}
use Rattle.numbers.{proofs.Prelude.{get_or-drop, get_or-append-add, List, ◌≡◌, refl, sym, ap, subst, ◌∙◌, arith}, specs.{Reply.{Reply, given, refused, plain, ◌>>=◌}, declared.refusal.Refusal.{Refusal}}}
use lib.Bits.{bit_xor}
use Rattle.header.{proofs.Buffers.{map_at}, specs.{Text.{bytes_of}, Utf8.{unmasked}, declared.{header.Head.{Head}, text.Text.{Text}}}}
use Rattle.request.specs.Told.{shown}
use Rattle.std.specs.Prelude.{Option, Some, None, ok_or, IfOk}
use Rattle.slip.specs.{Hour.{named, name_of}, Told.{name_in}}
use Rattle.zones.{proofs.simple.Joining.{bytes_length}, specs.{Simple.{description_at, told_named, LiesParts, LiesNamed}, declared.simple.Parts.{Parts}}}

-- ---- the zone of a match, by how far the code came
module _ (file : List ℕ) (head : Head) (metadata : ℕ) where
  abbrev pub Named : Reply Parts → Type 0
  Named reply = (shown reply (name_in file) ≡ name_of file head metadata) × IfOk reply (LiesParts (length file))

  pub not_times : {reply : Reply Parts} → (head.preamble.kind ≡ 0x54 → ⊥) → reply ≡ refused (plain 87) → Named reply
  unfolding name_of
  not_times n e = subst Named (sym e) (rw (ne_eqb head.preamble.kind 0x54 n) refl, tt)

  module _ (kind : head.preamble.kind ≡ 0x54) (result : Reply (Option Parts)) (e : told_named file result ≡ description_at file head metadata) (lies : LiesNamed (length file) result) where
    onward : (told_named file result >>= named) ≡ name_of file head metadata
    unfolding name_of
    onward = ap (λ (r : Reply _). r >>= named) e ∙ rw (eq-eqb head.preamble.kind 0x54 kind) refl

    pub is_named : (answer : Option Parts) → result ≡ given answer → {reply : Reply Parts} → reply ≡ ok_or answer (plain 87) → Named reply
    unfolding LiesNamed
    is_named (Some parts) is w = subst Named (sym w) (ap (λ (r : Reply (Option Parts)). told_named file r >>= named) (sym is) ∙ onward, subst (LiesNamed (length file)) is lies)
    is_named None is w = subst Named (sym w) (ap (λ (r : Reply (Option Parts)). told_named file r >>= named) (sym is) ∙ onward, tt)

    pub not_read : {why : Refusal} {reply : Reply Parts} → result ≡ refused why → reply ≡ refused why → Named reply
    not_read is w = subst Named (sym w) (ap (λ (r : Reply (Option Parts)). told_named file r >>= named) (sym is) ∙ onward, tt)

-- ---- its bytes
module _ (file : List ℕ) (text : Text) (inside : text.start + text.size ≤ length file) where
  pub byte_at : (at : ℕ) → at < text.size → bit_xor (get_or file (text.start + at) 0) 0x80 ≡ get_or (bytes_of file text) at 0
  unfolding bytes_of
  byte_at at h = let part = take text.size (drop text.start file) in
      let size : length part ≡ text.size = length-take-le text.size (drop text.start file) (rw length-drop (omega arith)) in
      sym (map_at unmasked part at (omega (arith, size, h)) ∙ ap unmasked (get_or-take text.size (drop text.start file) at 0 h ∙ get_or-drop text.start file at 0))

module _ (file : List ℕ) (name : Parts) (lies : LiesParts (length file) name) where
  pub name_length : name.one.size + name.two.size ≡ length (name_in file name)
  name_length = sym (length-append (bytes_of file name.one) (bytes_of file name.two) ∙ omega (arith, bytes_length file name.one lies.one, bytes_length file name.two lies.two))

  module _ (at : ℕ) where
    pub byte_one : at < name.one.size → bit_xor (get_or file (name.one.start + at) 0) 0x80 ≡ get_or (name_in file name) at 0
    byte_one h =
        byte_at file name.one lies.one at h ∙ sym (List·getD-append (bytes_of file name.one) (bytes_of file name.two) 0 at (omega (arith, h, bytes_length file name.one lies.one)))

    module _ (past : name.one.size ≤ at) where
      further : at ≡ length (bytes_of file name.one) + (at - name.one.size)
      further = omega (arith, bytes_length file name.one lies.one)

      pub byte_two : at - name.one.size < name.two.size → bit_xor (get_or file (name.two.start + (at - name.one.size)) 0) 0x80 ≡ get_or (name_in file name) at 0
      byte_two h =
          byte_at file name.two lies.two (at - name.one.size) h
          ∙ sym (ap (λ (k : ℕ). get_or (name_in file name) k 0) further ∙ get_or-append-add (bytes_of file name.one) (bytes_of file name.two) (at - name.one.size) 0)

      pub byte_none : name.two.size ≤ at - name.one.size → 0 ≡ get_or (name_in file name) at 0
      byte_none h = sym (List·getD-eq-default (name_in file name) 0 (omega (arith, h, past, sym name_length)))
