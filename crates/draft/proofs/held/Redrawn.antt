-- The data section with a yard more, with fewer, in another room, and how long it is. Assumes nothing.
use Rattle.numbers.proofs.Prelude.{ℕ, zero, suc, ◌^◌, ◌≤◌, ◌<◌, le-leb, leb-false, leb, length, take, get_or, length-take, take-append_seam, take-length, take-take, Bool, true, false, not, List, []}
use Rattle.numbers.proofs.Prelude.{◌∷◌, ◌++◌, ◌≡◌, refl, sym, ap, subst, ◌∙◌, arith}
use Rattle.numbers.{proofs.Replies.{given_from, demanded, onward, met}, specs.Reply.{Reply, given, refused, refusal, plain, demand, ◌>>=◌, ◌>>◌}}
use Rattle.writer.specs.Writer.{border_of}
use Rattle.builder.{proofs.drawing.Sections.{appended_fits}, specs.{Borders.{Drawn, appended, with_border, drawn_from, drawn_of}, File.{up_to}, Yards.{Plan, Yard}}}
use Rattle.build.proofs.entries.Tabled.{drawn_many}
use Rattle.draft.specs.Held.{Sound.{Sound}, Totals.{drawn_or, data_of}}

-- a place before those of the rest
abbrev pub placed : ℕ → Drawn → Reply Drawn
placed n rest = given (record { bytes = rest.bytes; places = n ∷ rest.places })

-- ---- a border in another room: the same, or 28 where the data is longer
appended_other : (room other : ℕ) (sofar : List ℕ) (cut : Bool) (pieces : ℕ) (border : Reply (List ℕ)) (more : List ℕ) → given more ≡ appended room sofar cut pieces border
    → (take (length sofar) more ≡ sofar) × (appended other sofar cut pieces border ≡ (demand (leb (length more) other) (plain 28) >> given more))
unfolding appended
appended_other room other sofar cut pieces border more e =
    let one = given_from border (λ bytes. demand (not cut) (refusal 23 0 pieces) >> (demand (leb (length (sofar ++ bytes)) room) (plain 28) >> given (sofar ++ bytes))) e in
    let two = demanded (not cut) (refusal 23 0 pieces) one.onto in let three = demanded (leb (length (sofar ++ one.it)) room) (plain 28) two.1 in
    let onto = three.1 in let same : more ≡ sofar ++ one.it = cc in (
      ap (take (length sofar)) same ∙ take-append_seam sofar one.it,
      sym (onward one.is (λ bytes. demand (not cut) (refusal 23 0 pieces) >> (demand (leb (length (sofar ++ bytes)) other) (plain 28) >> given (sofar ++ bytes))))
          ∙ (sym (met two.0 (refusal 23 0 pieces) (demand (leb (length (sofar ++ one.it)) other) (plain 28) >> given (sofar ++ one.it)))
          ∙ ap (λ (l : List ℕ). demand (leb (length l) other) (plain 28) >> given l) (sym same)),
    )

module _ (version room : ℕ) (sofar : List ℕ) (y : Yard) (more : List ℕ) (e : given more ≡ with_border version room sofar y) where
  other_border : (other : ℕ) → (take (length sofar) more ≡ sofar) × (with_border version other sofar y ≡ (demand (leb (length more) other) (plain 28) >> given more))
  unfolding with_border
  other_border other = appended_other room other sofar y.cut (length y.pieces) (border_of version y.lats y.lons y.pieces sofar) more e

  pub border_behind : take (length sofar) more ≡ sofar
  border_behind = (other_border room).0

  pub border_fits : length more ≤ room
  unfolding with_border
  border_fits = appended_fits room sofar y.cut (length y.pieces) (border_of version y.lats y.lons y.pieces sofar) more (sym e)

  pub border_same : (other : ℕ) → length more ≤ other → with_border version other sofar y ≡ given more
  border_same other h = (other_border other).1 ∙ sym (met (le-leb (length more) other h) (plain 28) (given more))

shorter : (xs ys : List ℕ) → take (length xs) ys ≡ xs → length xs ≤ length ys
shorter xs ys e = omega (arith, ap length e, length-take (length xs) ys)

-- ---- what was drawn, step by step
pub record Drew (version room : ℕ) (sofar : List ℕ) (y : Yard) (ys : List Yard) (d : Drawn) : Type 0 where
  pub more : List ℕ
  pub first : given more ≡ with_border version room sofar y
  pub later : Drawn
  pub rest : given later ≡ drawn_from version room more ys
  pub is : d ≡ record { bytes = later.bytes; places = length sofar ∷ later.places }

module _ (version room : ℕ) where
  drew : (sofar : List ℕ) (y : Yard) (ys : List Yard) (d : Drawn) → given d ≡ drawn_from version room sofar (y ∷ ys) → Drew version room sofar y ys d
  unfolding drawn_from
  drew sofar y ys d e = let one = given_from (with_border version room sofar y) (λ more. (drawn_from version room more ys >>= placed (length sofar))) e in
      let two = given_from (drawn_from version room one.it ys) (placed (length sofar)) one.onto in let onto = two.onto in
      record { more = one.it; first = one.is; later = two.it; rest = two.is; is = cc }

  none_drawn : (sofar : List ℕ) (d : Drawn) → given d ≡ drawn_from version room sofar [] → d ≡ record { bytes = sofar; places = [] }
  unfolding drawn_from
  none_drawn sofar d e = cc

  drawn_step : (sofar : List ℕ) (y : Yard) (ys : List Yard) (more : List ℕ) → with_border version room sofar y ≡ given more → (r : Reply Drawn) → drawn_from version room more ys ≡ r →
      drawn_from version room sofar (y ∷ ys) ≡ (r >>= placed (length sofar))
  unfolding drawn_from
  drawn_step sofar y ys more first r rest =
      ap (λ (w : Reply (List ℕ)). w >>= λ more. (drawn_from version room more ys >>= placed (length sofar))) first ∙ ap (λ (x : Reply Drawn). x >>= placed (length sofar)) rest

  -- the data goes on from what there was
  pub drawn_behind : (sofar : List ℕ) (yards : List Yard) (d : Drawn) → given d ≡ drawn_from version room sofar yards → take (length sofar) d.bytes ≡ sofar
  drawn_behind sofar [] d e = ap (λ (x : Drawn). take (length sofar) x.bytes) (none_drawn sofar d e) ∙ take-length sofar
  drawn_behind sofar (y ∷ ys) d e = let s = drew sofar y ys d e in
      let long : length sofar ≤ length s.more = shorter sofar s.more (border_behind version room sofar y s.more s.first) in
      ap (λ (x : Drawn). take (length sofar) x.bytes) s.is ∙ (sym (take-take (length sofar) (length s.more) s.later.bytes long)
      ∙ (ap (take (length sofar)) (drawn_behind s.more ys s.later s.rest) ∙ border_behind version room sofar y s.more s.first))

  -- how long it is
  pub drawn_most : (most : ℕ) (sofar : List ℕ) (yards : List Yard) (d : Drawn) → given d ≡ drawn_from version room sofar yards → length sofar ≤ most → room ≤ most → length d.bytes ≤ most
  drawn_most most sofar [] d e h k = omega (arith, ap (λ (x : Drawn). length x.bytes) (none_drawn sofar d e), h)
  drawn_most most sofar (y ∷ ys) d e h k = let s = drew sofar y ys d e in
      let fits : length s.more ≤ most = omega (arith, border_fits version room sofar y s.more s.first, k) in
      omega (arith, drawn_most most s.more ys s.later s.rest fits k, ap (λ (x : Drawn). length x.bytes) s.is)

-- ---- all of the data in another room: the same, or 28 where it is longer
pub data Again (other : ℕ) (d : Drawn) : Reply Drawn → Type 0 where
  again : Again other d (given d)
  longer : other < length d.bytes → Again other d (refused (plain 28))

-- what a first border leaves to the others
placing : (other n : ℕ) (d later : Drawn) → d ≡ record { bytes = later.bytes; places = n ∷ later.places } → (r : Reply Drawn) → Again other later r → Again other d (r >>= placed n)
placing other n d later same r again = subst (λ (x : Drawn). Again other d (given x)) same again
placing other n d later same r (longer h) = longer (omega (arith, h, ap (λ (x : Drawn). length x.bytes) same))

module _ (version room other : ℕ) where
  pub redrawn : (sofar : List ℕ) (yards : List Yard) (d : Drawn) → given d ≡ drawn_from version room sofar yards → Again other d (drawn_from version other sofar yards)
  unfolding drawn_from
  redrawn sofar [] d e = subst (Again other d) e again
  redrawn sofar (y ∷ ys) d e =
      let s = drew version room sofar y ys d e in
      let long : length s.more ≤ length d.bytes =
      omega (arith, shorter s.more s.later.bytes (drawn_behind version room s.more ys s.later s.rest), ap (λ (x : Drawn). length x.bytes) s.is) in
      subst (λ (r : Reply (List ℕ)). Again other d (r >>= λ more. (drawn_from version other more ys >>= placed (length sofar)))) (sym (other_border version room sofar y s.more s.first other).1)
      (go s.more (leb (length s.more) other) refl long (placing other (length sofar) d s.later s.is (drawn_from version other s.more ys) (redrawn s.more ys s.later s.rest)))
    where
      go : (more : List ℕ) (b : Bool) → leb (length more) other ≡ b → length more ≤ length d.bytes → Again other d (drawn_from version other more ys >>= placed (length sofar))
          → Again other d ((demand b (plain 28) >> given more) >>= λ more. (drawn_from version other more ys >>= placed (length sofar)))
      go more true e h k = k
      go more false e h k = longer (omega (arith, leb-false (length more) other e, h))

  none_same : (sofar : List ℕ) (d : Drawn) → given d ≡ drawn_from version room sofar [] → drawn_from version other sofar [] ≡ given d
  unfolding drawn_from
  none_same sofar d e = sym e

  -- where it fits the other room too, if it fits its own
  pub drawn_same : (sofar : List ℕ) (yards : List Yard) (d : Drawn) → given d ≡ drawn_from version room sofar yards → (length d.bytes ≤ room → length d.bytes ≤ other) →
      drawn_from version other sofar yards ≡ given d
  drawn_same sofar [] d e h = none_same sofar d e
  drawn_same sofar (y ∷ ys) d e h = let s = drew version room sofar y ys d e in
      let fits : length s.later.bytes ≤ room = drawn_most version room room s.more ys s.later s.rest (border_fits version room sofar y s.more s.first) (omega arith) in
      go (drawn_from version other sofar (y ∷ ys)) (redrawn sofar (y ∷ ys) d e) (h (omega (arith, fits, ap (λ (x : Drawn). length x.bytes) s.is))) where
        go : (r : Reply Drawn) → Again other d r → length d.bytes ≤ other → r ≡ given d
        go r again k = refl
        go r (longer l) k = absurd (omega (arith, l, k))

-- ---- with a yard more
abbrev pub drawn_with : Drawn → List ℕ → Drawn
drawn_with d more = record { bytes = more; places = d.places ++ (length d.bytes ∷ []) }

pub drawn_more : (version room : ℕ) (sofar : List ℕ) (yards : List Yard) (y : Yard) (d : Drawn) → given d ≡ drawn_from version room sofar yards
    → drawn_from version room sofar (yards ++ (y ∷ [])) ≡ (with_border version room d.bytes y >>= λ more. given (drawn_with d more))
unfolding drawn_from
drawn_more version room sofar [] y d e = ap (λ (d : Drawn). with_border version room d.bytes y >>= λ more. given (drawn_with d more)) (sym (none_drawn version room sofar d e))
drawn_more version room sofar (x ∷ ys) y d e = let s = drew version room sofar x ys d e in
    drawn_step version room sofar x (ys ++ (y ∷ [])) s.more (sym s.first) (with_border version room s.later.bytes y >>= λ more. given (drawn_with s.later more))
    (drawn_more version room s.more ys y s.later s.rest) ∙ (go s.later (with_border version room s.later.bytes y)
    ∙ ap (λ (d : Drawn). with_border version room d.bytes y >>= λ more. given (drawn_with d more)) (sym s.is)) where
      go : (d : Drawn) (w : Reply (List ℕ)) → ((w >>= λ more. given (drawn_with d more)) >>= placed (length sofar)) ≡ (w >>= λ more. given
          (record { bytes = more; places = (length sofar ∷ d.places) ++ (length d.bytes ∷ []) }))
      go d (given more) = refl
      go d (refused why) = refl

-- ---- with the first so many yards alone: all up to where the next border begins
abbrev pub drawn_to : Drawn → ℕ → Drawn
drawn_to d n = record { bytes = take (get_or d.places n 0) d.bytes; places = take n d.places }

module _ (version room : ℕ) where
  pub drawn_take : (sofar : List ℕ) (yards : List Yard) (d : Drawn) → given d ≡ drawn_from version room sofar yards → (n : ℕ) → n < length yards →
      drawn_from version room sofar (take n yards) ≡ given (drawn_to d n)
  unfolding drawn_from
  drawn_take sofar [] d e n h = absurd (omega arith)
  drawn_take sofar (y ∷ ys) d e zero h = let s = drew version room sofar y ys d e in
      ap (λ (l : List ℕ). given (record { bytes = l; places = [] })) (sym (drawn_behind version room sofar (y ∷ ys) d e))
      ∙ ap (λ (x : Drawn). given (record { bytes = take (get_or x.places 0 0) d.bytes; places = [] })) (sym s.is)
  drawn_take sofar (y ∷ ys) d e (suc n) h = let s = drew version room sofar y ys d e in
      drawn_step version room sofar y (take n ys) s.more (sym s.first) (given (drawn_to s.later n)) (drawn_take s.more ys s.later s.rest n (omega arith))
      ∙ ap (λ (x : Drawn). given (drawn_to x (suc n))) (sym s.is)

  -- each border begins inside the data
  drawn_place : (sofar : List ℕ) (yards : List Yard) (d : Drawn) → given d ≡ drawn_from version room sofar yards → (n : ℕ) → n < length yards → get_or d.places n 0 ≤ length d.bytes
  drawn_place sofar [] d e n h = absurd (omega arith)
  drawn_place sofar (y ∷ ys) d e zero h = let s = drew version room sofar y ys d e in
      omega (arith, ap (λ (x : Drawn). get_or x.places 0 0) s.is, shorter sofar d.bytes (drawn_behind version room sofar (y ∷ ys) d e))
  drawn_place sofar (y ∷ ys) d e (suc n) h = let s = drew version room sofar y ys d e in
      omega (arith, drawn_place s.more ys s.later s.rest n (omega arith), ap (λ (x : Drawn). get_or x.places (suc n) 0) s.is, ap (λ (x : Drawn). length x.bytes) s.is)

-- ---- the data of a plan that was drawn
pub data_is : (plan : Plan) (room : ℕ) → room ≤ 2 ^ 30 → (d : Drawn) → drawn_of plan.version room plan.yards ≡ given d → data_of plan ≡ d
unfolding data_of drawn_or drawn_of
data_is plan room h d e = ap drawn_or (drawn_same plan.version room (2 ^ 30) (0 ∷ []) plan.yards d (sym e) (λ fits. omega (arith, fits, h)))

module _ (plan : Plan) (room : ℕ) (sound : Sound plan room) where
  pub sound_data : data_of plan ≡ sound.drawn
  sound_data = data_is plan (up_to room) (omega arith) sound.drawn sound.draws

  -- step by step
  pub sound_draws : given (data_of plan) ≡ drawn_from plan.version (up_to room) (0 ∷ []) plan.yards
  unfolding drawn_of
  sound_draws = ap given sound_data ∙ sym sound.draws

  pub data_many : length (data_of plan).places ≡ length plan.yards
  data_many = drawn_many plan.version (up_to room) (0 ∷ []) plan.yards (data_of plan) sound_draws

  pub data_few : length (data_of plan).bytes ≤ 2 ^ 30
  data_few = drawn_most plan.version (up_to room) (2 ^ 30) (0 ∷ []) plan.yards (data_of plan) sound_draws (omega arith) (omega arith)

  -- its zero byte at least
  pub data_some : 1 ≤ length (data_of plan).bytes
  data_some = shorter (0 ∷ []) (data_of plan).bytes (drawn_behind plan.version (up_to room) (0 ∷ []) plan.yards (data_of plan) sound_draws)

  pub place_inside : (n : ℕ) → n < length plan.yards → get_or (data_of plan).places n 0 ≤ length (data_of plan).bytes
  place_inside n h = drawn_place plan.version (up_to room) (0 ∷ []) plan.yards (data_of plan) sound_draws n h
