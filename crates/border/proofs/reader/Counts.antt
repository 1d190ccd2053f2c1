-- Version 0: a turn goes on from the moves that are left, which the count gives first. Assumes nothing.
use Rattle.numbers.{proofs.Prelude.{eqb, Bool, true, false, ◌≡◌, refl}, specs.{Answer.{Answer, found, failed, refused, if◌then◌else◌, ◌>>=◌}, Varint.{Numeral}}}
use Rattle.border.specs.{Reader.{Turn, Reading, onward, plain_pair, plain_turn}, declared.reader.{Reader.{Reader}, Run.TheVariants.{Idle}}, inner.Told.{counted}}

module _ (k : Numeral → Answer Turn) where
  chosen : (t : Bool) (n : Numeral) → ((if t then failed else found n) >>= k) ≡ (if t then failed else k n)
  chosen true n = refl
  chosen false n = refl

  read_on : (m : Answer Numeral) → ((m >>= λ n. if eqb n.value 0 then failed else found n) >>= k) ≡ (m >>= λ n. if eqb n.value 0 then failed else k n)
  read_on (found n) = chosen (eqb n.value 0) n
  read_on failed = refl
  read_on (refused n) = refl

  started : (t : Bool) (n : Numeral) (m : Answer Numeral) → ((if t then found n else (m >>= λ c. if eqb c.value 0 then failed else found c)) >>= k) ≡
      (if t then k n else (m >>= λ c. if eqb c.value 0 then failed else k c))
  started true n m = refl
  started false n m = read_on m

module _ (read : Reading) (s : Reader) where
  abbrev pub pair_from : Numeral → Answer Turn
  pair_from n = plain_pair read (onward s n.place n.value Idle)

  pub counted_turn : (counted read s >>= pair_from) ≡ plain_turn read s
  unfolding counted plain_turn plain_pair
  counted_turn = started pair_from s.begun (record { value = s.moves; place = s.place }) (read s.place)
