-- Two strings, one after the other, in a text that was zero. Assumes nothing.
use Rattle.numbers.proofs.Prelude.{ℕ, ◌+◌, ◌-◌, ◌≤◌, ◌<◌, le-leb, lt-leb, length, take, drop, length-append, length-drop, length-map, length-take-le, List, ◌++◌, map, ◌≡◌, sym, ap, ◌∙◌, arith}
use Rattle.numbers.{proofs.Replies.{met, unmet}, specs.{Lists.{zeros, over}, Reply.{given, refused, plain}}}
use Rattle.header.{proofs.Strings.{part, part_is}, specs.{Text.{bytes_of}, Utf8.{unmasked}, declared.text.Text.{Text}}}
use Rattle.zones.specs.{Fields.{Wrote}, Simple.{fitting}}
use Rattle.table.{proofs.Agreeing.{agree_given, agree_refused}, specs.inner.Agreeing.{Agrees}}
use Rattle.zones.proofs.Holding.{Held, lent, remains_length, held_first, held_wrote, written}

-- a string inside the file has as many bytes as it says
module _ (file : List ℕ) (text : Text) (inside : text.start + text.size ≤ length file) where
  pub bytes_length : length (bytes_of file text) ≡ text.size
  unfolding bytes_of
  bytes_length = length-map (take text.size (drop text.start file)) unmasked ∙ length-take-le text.size (drop text.start file) (rw length-drop (omega arith))

pub no_room : (room : ℕ) (file : List ℕ) (one two : Text) (last : List ℕ) → one.start + one.size ≤ length file → two.start + two.size ≤ length file → room < one.size + two.size
    → Agrees (Wrote room last) (fitting room (bytes_of file one ++ bytes_of file two)) (refused (plain 18))
no_room room file one two last here there h = let both = bytes_of file one ++ bytes_of file two in
    let size : length both ≡ one.size + two.size = length-append (bytes_of file one) (bytes_of file two) ∙ omega (arith, bytes_length file one here, bytes_length file two there) in
    agree_refused (Wrote room last) (unmet (lt-leb (length both) room (omega (arith, size))) (plain 18) (given both))

-- the first string over zeros
pub one_held : {room : ℕ} {text text' : List ℕ} (file : List ℕ) (one : Text) → one.start + one.size ≤ length file → one.size ≤ room → text ≡ zeros room
    → text' ≡ over (map unmasked (part file one)) text → Held room (bytes_of file one) text' one.size
one_held {room} {text} file one here fits z e = held_first z (bytes_length file one here) fits (e ∙ ap (λ (s : List ℕ). over s text) (part_is file one))

-- and one more after what is held
module _ {room : ℕ} {out text : List ℕ} {at : ℕ} (g : Held room out text at) (file : List ℕ) (two : Text) (there : two.start + two.size ≤ length file) (fits : at + two.size ≤ room) where
  pub rest_holds : length (part file two) ≤ length (lent g)
  rest_holds = let size = ap length (part_is file two) ∙ bytes_length file two there in
      omega (arith, sym (length-map (part file two) unmasked) ∙ size, remains_length g, g.sized)

  pub two_held : {last : List ℕ} → last ≡ over (map unmasked (part file two)) (lent g) → Held room (out ++ bytes_of file two)
      (take at text ++ (last ++ drop (length text - at) (drop at text))) (at + two.size)
  two_held {last} e = written g (bytes_of file two) last (bytes_length file two there) (omega (arith, g.sized)) (e ∙ ap (λ (s : List ℕ). over s (lent g)) (part_is file two))

pub all_fits : {room : ℕ} {out text : List ℕ} {at : ℕ} → Held room out text at → Agrees (Wrote room text) (fitting room out) (given at)
all_fits {room} {out} {text} g = agree_given (Wrote room text) (met (le-leb (length out) room (omega (arith, g.sized, g.fits))) (plain 18) (given out)) (held_wrote g)
