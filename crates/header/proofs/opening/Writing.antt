-- The loop that writes names and notice: what holds before each turn, and what a turn makes of it. Assumes nothing.
use Rattle.numbers.proofs.Prelude.{ℕ, suc, ◌+◌, ◌-◌, ◌≤◌, ◌<◌, length, take, drop, length-append, length-map, length-replicate, take-append-drop, length-take-le, take_at, drop_at}
use Rattle.numbers.proofs.Prelude.{Bool, List, [], ◌++◌, map, append_assoc, append-nil, ◌≡◌, refl, sym, ap, ◌∙◌, sub-zero, arith}
use Rattle.numbers.{proofs.Lists.{zeros_drop}, specs.{declared.refusal.Refusal.{Refusal}, Lists.{zeros, padded, over}, Reply.{Reply, given, refused}}}
use Rattle.header.specs.{Field.{entry}, Header.{Texts, texts_from, texts_of, blame_of}, Opening.{Filled}, Text.{text_at, bytes_of}, Utf8.{unmasked}}
use Rattle.header.specs.declared.text.Text.{Text}
use Rattle.header.proofs.{Buffers.{tail_lent, tail_back}, Strings.{Lies, text_lies, part, part_is, part_length}, header.Texts.{before, before_none, before_twice, next_text, bad_text}}
use Rattle.std.specs.Prelude.{Some, None}

pub record Writing (strict : Bool) (file : List ℕ) (names room : ℕ) (text : List ℕ) (index place at : ℕ) : Type 0 where
  pub index_names : index ≤ names + 1
  pub text_length : length text ≡ room
  pub at_room : at ≤ room
  pub rest : drop at text ≡ zeros (room - at)
  pub so_far : before (take at text) (texts_from strict file names (names + 1 - index) index place) ≡ texts_of strict file names

pub starts : (strict : Bool) (file text : List ℕ) (names : ℕ) → text ≡ zeros (length text) → Writing strict file names (length text) text 0 7 0
starts strict file text names e = record {
  index_names = omega arith;
  text_length = refl;
  at_room = omega arith;
  rest = rw sub-zero e;
  so_far = simp sub-zero (before_none (texts_from strict file names (names + 1) 0 7));
}

-- ---- what is left at the end, by what the strings are
module _ (room : ℕ) where
  all_out : (r : Reply Texts) (text front : List ℕ) (at place : ℕ) → given (record { bytes = front; place = place }) ≡ r → length front ≡ at → at ≤ room → text ≡ padded room front →
      Filled r room (Some at) text
  all_out r text front at place e l fits t = rw (← e) (λ h. (ap Some (sym l), t), λ h. absurd (omega (arith, h)))

  no_room : (r rest : Reply Texts) (text front : List ℕ) → before front rest ≡ r → room < length front → Filled r room None text
  no_room r (given texts) text front e h = rw (← e) (λ fits. absurd (omega (arith, fits, length-append front texts.bytes)), λ _. refl)
  no_room r (refused why) text front e h = rw (← e) tt

module _ {strict : Bool} {file text : List ℕ} {names room index place at : ℕ} (w : Writing strict file names room text index place at) where
  at_text : at ≤ length text
  at_text = omega (arith, w.text_length, w.at_room)

  front_length : length (take at text) ≡ at
  front_length = length-take-le at text at_text

  -- a buffer is its front and zeros
  whole : text ≡ padded room (take at text)
  whole = sym (take-append-drop at text) ∙ ap (λ (r : List ℕ). take at text ++ r) (w.rest ∙ ap (λ (n : ℕ). zeros (room - n)) (sym front_length))

  pub ends : names < index → Filled (texts_of strict file names) room (Some at) text
  unfolding texts_from
  ends past = let z : names + 1 - index ≡ 0 = omega (arith, w.index_names) in
      let e : given (record { bytes = take at text ++ []; place = place }) ≡ texts_of strict file names = rw z at w.so_far in
      all_out room _ text (take at text) at place (rw append-nil at e) front_length w.at_room whole

  module _ (within : index ≤ names) where
    abbrev more : ℕ
    more = names + 1 - (index + 1)

    opened : before (take at text) (texts_from strict file names (suc more) index place) ≡ texts_of strict file names
    opened = let e : names + 1 - index ≡ suc more = omega arith in rw e at w.so_far

    -- a string that cannot be read
    pub bad : {why : Refusal} (out : List ℕ) → refused why ≡ text_at strict file 0 place (blame_of names index) → Filled (texts_of strict file names) room None out
    bad {why} out e = rw (← ap (before (take at text)) (bad_text strict file names more index place why e) ∙ opened) tt

    -- one that can
    module _ (string : Text) (e : given string ≡ text_at strict file 0 place (blame_of names index)) where
      pub lies : Lies file string
      lies = text_lies file string strict 0 place (blame_of names index) e

      abbrev sent : List ℕ
      sent = entry (bytes_of file string)

      sent_length : length sent ≡ string.size + 2
      sent_length = omega (arith, ap length (sym (part_is file string)) ∙ length-map (part file string) unmasked ∙ part_length file string lies)

      turned : before (take at text ++ sent) (texts_from strict file names more (index + 1) string.next) ≡ texts_of strict file names
      turned =
          sym (before_twice (take at text) sent (texts_from strict file names more (index + 1) string.next)) ∙ ap (before (take at text))
          (sym (next_text strict file names more index place string e)) ∙ opened

      out_length : length (take at text ++ sent) ≡ at + (string.size + 2)
      out_length = length-append (take at text) sent ∙ rw (front_length, sent_length) refl

      pub full : (out : List ℕ) → length text - at < string.size + 2 → Filled (texts_of strict file names) room None out
      full out h = no_room room (texts_of strict file names) (texts_from strict file names more (index + 1) string.next) out (take at text ++ sent) turned (omega (arith, out_length, w.text_length))

      -- into the tail of the text that was lent
      module _ (last : List ℕ) (fits : string.size + 2 ≤ length text - at) (l : last ≡ over (entry (map unmasked (part file string))) (take (length text - at) (drop at text))) where
        abbrev next : ℕ
        next = at + (string.size + 2)

        text_now : take at text ++ last ≡ (take at text ++ sent) ++ zeros (room - next)
        text_now = let left : room - at - length sent ≡ room - next = omega (arith, sent_length) in
            ap (λ (r : List ℕ). take at text ++ r) (l ∙ ap (λ (bytes : List ℕ). over (entry bytes) (take (length text - at) (drop at text))) (part_is file string)
            ∙ ap (over sent) (tail_lent at text ∙ w.rest) ∙ ap (λ (r : List ℕ). sent ++ r) (zeros_drop (length sent) (room - at) ∙ ap zeros left))
            ∙ sym (append_assoc (take at text) sent (zeros (room - next)))

        again : Writing strict file names room (take at text ++ last) (index + 1) string.next next
        again = record {
          index_names = omega arith;
          text_length = ap length text_now ∙ length-append (take at text ++ sent) _ ∙ rw (out_length, length-replicate) (omega (arith, w.text_length, w.at_room));
          at_room = omega (arith, w.text_length, w.at_room);
          rest = ap (drop next) text_now ∙ drop_at (take at text ++ sent) (zeros (room - next)) next out_length;
          so_far =
              ap (λ (front : List ℕ). before front (texts_from strict file names more (index + 1) string.next))
              (ap (take next) text_now ∙ take_at (take at text ++ sent) (zeros (room - next)) next out_length)
              ∙ turned;
        }

        pub goes : Writing strict file names room (take at text ++ (last ++ drop (length text - at) (drop at text))) (index + 1) string.next next
        goes = rw (tail_back at text last) again
