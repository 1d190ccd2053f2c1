-- The last yard of a builder that calls have made: where its values and its border lie. Assumes nothing.
use Rattle.numbers.proofs.Prelude.{ℕ, suc, ◌+◌, ◌-◌, ◌*◌, ◌≤◌, ◌<◌, length, take, drop, get_or, length-append, length-take, get_or-take, List, [], ◌∷◌, map, ◌≡◌, refl, sym, ap, subst, ◌∙◌, mul-suc}
use Rattle.numbers.proofs.Prelude.{arith}
use Rattle.builder.specs.{File.{up_to}, Yards.{Plan, sum_of}}
use Rattle.draft.proofs.held.{Fronts.{front_slice, front_take}, Kept.{dropped_sound}, Redrawn.{data_many, drawn_behind, place_inside, sound_draws}}
use Rattle.draft.proofs.held.{Standing.{held_bytes, held_front, held_names, held_strings, held_yards, texts_many, texts_split}, Texts.{dropped_lengths, dropped_strings, rest_values}}
use Rattle.draft.specs.{Held.{Builder.{Builder, holding}, Sound.{Sound}, State.{Front, Holds, Lists, front_of, texts_of, values_of}, Totals.{data_of}}, declared.held.state.Held.{Held}}
use Rattle.build.{proofs.recording.Fewer.{joined_sum}, specs.Metadata.Kept.{joined}}
use Rattle.edit.specs.Changing.Dropped.{last_size}

longer : (sofar bytes : List ℕ) → take (length sofar) bytes ≡ sofar → length sofar ≤ length bytes
longer sofar bytes e = omega (arith, ap length e, length-take (length sofar) bytes)

-- the zero byte is always there
pub data_some : (plan : Plan) (room : ℕ) → Sound plan room → 1 ≤ length (data_of plan).bytes
data_some plan room sound = longer (0 ∷ []) (data_of plan).bytes (drawn_behind plan.version (up_to room) (0 ∷ []) plan.yards (data_of plan) (sound_draws plan room sound))

module _ (b : Builder) (builder : Held) (before : Lists) (h : Holds b builder before) (some : 0 < builder.yards) where
  abbrev plan : Plan
  plan = b.plan

  -- how many are left
  abbrev pub left : ℕ
  left = length b.plan.yards - 1

  pub left_is : builder.yards - 1 ≡ left
  left_is = omega (arith, held_yards b builder before h)

  pub left_less : left < length b.plan.yards
  left_less = omega (arith, held_yards b builder before h, some)

  abbrev pub fewer : Plan
  fewer = holding b.plan (take (length b.plan.yards - 1) b.plan.yards)

  pub fewer_sound : Sound fewer b.room
  fewer_sound = dropped_sound plan b.room h.sound left left_less

  pub left_many : length (take left plan.yards) ≡ left
  left_many = omega (arith, length-take left plan.yards, left_less)

  -- the values
  pub kept_many : length (map length (texts_of fewer)) ≡ builder.names + 1 + builder.names * (builder.yards - 1)
  kept_many =
      let times : length plan.names * length (take left plan.yards) ≡ builder.names * (builder.yards - 1) =
      ap (λ (n : ℕ). length plan.names * n) (left_many ∙ sym left_is) ∙ ap (λ (n : ℕ). n * (builder.yards - 1)) (sym (held_names b builder before h)) in
      omega (arith, texts_many fewer b.room fewer_sound, times, held_names b builder before h)

  all_many : length (map length (texts_of plan)) ≡ builder.names + 1 + builder.names * (builder.yards - 1) + builder.names
  all_many = let up : length plan.yards ≡ suc (builder.yards - 1) = omega (arith, held_yards b builder before h, some) in
      let times : length plan.names * length plan.yards ≡ builder.names * suc (builder.yards - 1) = ap (λ (n : ℕ). length plan.names * n) up
      ∙ ap (λ (n : ℕ). n * suc (builder.yards - 1)) (sym (held_names b builder before h)) in
      omega (arith, texts_many plan b.room h.sound, times, mul-suc builder.names (builder.yards - 1), held_names b builder before h)

  last_lengths : (from to : ℕ) → from ≡ builder.names + 1 + builder.names * (builder.yards - 1) → to ≡ from + builder.names →
      take (to - from) (drop from before.lengths) ≡ map length (rest_values plan left)
  last_lengths from to ef et =
      front_slice 0 (map length (texts_of fewer)) (map length (rest_values plan left)) (subst (λ (l : List ℕ). Front 0 l before.lengths) (dropped_lengths plan left)
      h.lies.lengths_are) from to (ef ∙ sym kept_many) (omega (arith, et, ef, all_many, ap length (dropped_lengths plan left)))

  last_size_is : last_size builder before.lengths ≡ length (joined (rest_values plan left))
  unfolding last_size
  last_size_is = let from : ℕ = builder.names + 1 + builder.names * (builder.yards - 1) in
      let size : builder.names ≡ from + builder.names - from = omega arith in
      ap (λ (n : ℕ). sum_of (take n (drop from before.lengths))) size ∙ (ap sum_of (last_lengths from (from + builder.names) refl refl) ∙ sym (joined_sum (rest_values plan left)))

  all_size : builder.strings ≡ length (joined (texts_of fewer)) + last_size builder before.lengths
  all_size = omega (arith, held_strings b builder before h, ap length (dropped_strings plan left), length-append (joined (texts_of fewer)) (joined (rest_values plan left)), last_size_is)

  pub left_strings : builder.strings - last_size builder before.lengths ≡ length (joined (texts_of fewer))
  left_strings = omega (arith, all_size)

  pub last_fits : last_size builder before.lengths ≤ builder.strings - builder.front
  last_fits =
      omega (arith, all_size, held_front b builder before h, ap length (texts_split fewer b.room fewer_sound), length-append (joined (front_of fewer)) (joined (values_of fewer)))

  -- the border
  pub last_place : get_or before.borders (builder.yards - 1) 0 ≡ get_or (data_of plan).places left 0
  last_place =
      ap (λ (n : ℕ). get_or before.borders n 0) left_is ∙ (sym (get_or-take (length (data_of plan).places) before.borders left 0 (omega (arith, data_many plan b.room h.sound, left_less)))
      ∙ ap (λ (l : List ℕ). get_or l left 0) (front_take 0 h.lies.borders_are))

  pub place_fits : get_or before.borders (builder.yards - 1) 0 ≤ builder.bytes
  place_fits = omega (arith, last_place, place_inside plan b.room h.sound left left_less, held_bytes b builder before h)
