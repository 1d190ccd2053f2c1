-- A text alone in a list of texts. Assumes nothing.
use Rattle.numbers.proofs.Prelude.{◌+◌, ◌<◌, le-leb, lt-leb, leb, length, take, take-length, Bool, true, false, ◌&&◌, [], ◌∷◌, ◌≡◌, refl, ap, ◌∙◌, arith}
use Rattle.writer.specs.Writer.{every}
use Rattle.builder.specs.{File.{is_text, are_texts}, Yards.{Text, cut_by, sum_of}}
use mathlib.Core.Bool.{and-true}

pub long_no_text : (text : Text) → 255 < length text → false ≡ is_text text
unfolding is_text
long_no_text text h = rw (lt-leb (length text) 255 h) refl

pub one_text : (text : Text) (r : Bool) → r ≡ are_texts (length text ∷ []) text → r ≡ is_text text
unfolding are_texts sum_of cut_by every
one_text text r e = let there : leb (length text + 0) (length text) ≡ true = le-leb (length text + 0) (length text) (omega arith) in
    e ∙ (ap (λ (b : Bool). b && (is_text (take (length text) text) && true)) there ∙ (and-true (is_text (take (length text) text)) ∙ ap is_text (take-length text)))
