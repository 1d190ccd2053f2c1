-- The end of a builder is a build of the yards that it holds. Assumes nothing.
use Rattle.numbers.proofs.Prelude.{ℕ, ◌≤◌, min, le-leb, lt-leb, ltb, leb, length, Bool, true, ◌&&◌, List, [], ◌∷◌, ◌≡◌, refl, sym, ap, ◌∙◌, arith}
use Rattle.numbers.specs.Reply.{Reply, given, plain, demand, ◌>>=◌, ◌>>◌}
use mathlib.Core.Bool.{and-false, and-true}
use Rattle.builder.specs.{Borders.{Drawn, drawn_from, drawn_of}, File.{borders_good, built_of, counted, file_of, head_of, known, readable, up_to}, Yards.{Plan}}
use Rattle.draft.proofs.held.{Redrawn.{Again, again, longer, redrawn, sound_draws}, Sums.{size_is}}
use Rattle.draft.specs.Held.{Builder.{Builder, finish}, Sound.{Sound, room_for}, Space.{Space}, Totals.{data_of, totals_of, totals_for, file_size}}

module _ (plan : Plan) (d : Drawn) (work : Bool) where
  file_long : length d.bytes ≤ length (file_of plan d)
  unfolding file_size totals_for
  file_long = omega (arith, size_is plan d)

  -- data that does not fit the output makes no file that does
  ends : (out : ℕ) (some : Bool) (r : Reply Drawn) → Again (up_to out) d r → (demand some (plain 25) >> (demand (work && leb (length (file_of plan d)) (up_to out))
      (plain 28) >> given (file_of plan d))) ≡ (demand some (plain 25) >> (r >>= λ x. (demand (work && leb (length (file_of plan x)) (up_to out)) (plain 28) >> given (file_of plan x))))
  ends out some r again = refl
  ends out some r (longer h) =
      ap (λ (b : Bool). demand some (plain 25) >> (demand b (plain 28) >> given (file_of plan d)))
      (ap (λ (b : Bool). work && b) (lt-leb (length (file_of plan d)) (up_to out) (omega (arith, h, file_long))) ∙ and-false work)

module _ (b : Builder) (sound : Sound b.plan b.room) (fresh : b.totals ≡ totals_of b.plan) (out : ℕ) (space : Space) where
  abbrev plan : Plan
  plan = b.plan

  abbrev some : Bool
  some = ltb 0 (length plan.yards)

  counted_held : counted plan ≡ some
  unfolding counted
  counted_held =
      ap (λ (b : Bool). some && (b && (leb (length plan.names) 255 && plan.numbered))) (le-leb (length plan.yards) 4096 sound.few)
      ∙ (ap (λ (b : Bool). some && (b && plan.numbered)) sound.named ∙ (ap (λ (b : Bool). some && b) sound.numbered ∙ and-true some))

  abbrev shape : Reply (Unit {0}) → Bool → Bool → Bool → ℕ → Reply (List ℕ)
  shape good a b k wide =
      good >> (demand a (plain 25) >> (demand b (plain 26) >> (demand k (plain 27) >> (drawn_of plan.version wide plan.yards >>= λ x.
      (demand (space.lists && leb (length (file_of plan x)) (up_to out)) (plain 28) >> given (file_of plan x))))))

  built_steps : built_of plan (room_for out (record { bytes = out; lists = space.lists })) ≡ shape (borders_good plan.yards) (counted plan) (readable plan) (known plan) (up_to (min out out))
  unfolding built_of
  built_steps = refl

  size : file_size (length (head_of plan)) b.totals ≡ length (file_of plan (data_of plan))
  unfolding totals_of
  size = ap (file_size (length (head_of plan))) fresh ∙ size_is plan (data_of plan)

  -- The file of a builder is what building the yards held gives, and the end is refused as that is.
  pub finish_builds : finish b out space ≡ built_of b.plan (room_for out (record { bytes = out; lists = space.lists }))
  unfolding finish drawn_of
  finish_builds = let d : Drawn = data_of plan in let wide : up_to (min out out) ≡ up_to out = omega arith in
      ap (λ (n : ℕ). demand some (plain 25) >> (demand (space.lists && leb n (up_to out)) (plain 28) >> given (file_of plan d))) size
      ∙ (ends plan d space.lists out some (drawn_from plan.version (up_to out) (0 ∷ []) plan.yards) (redrawn plan.version (up_to b.room) (up_to out)
      (0 ∷ []) plan.yards d (sound_draws plan b.room sound)) ∙ sym (built_steps ∙ (ap (λ (x : Reply (Unit {0})). shape x (counted plan) (readable plan)
      (known plan) (up_to (min out out))) sound.borders ∙ (ap (λ (x : Bool). shape (given tt) x (readable plan) (known plan) (up_to (min out out))) counted_held
      ∙ (ap (λ (x : Bool). shape (given tt) some x (known plan) (up_to (min out out))) sound.texts ∙ (ap (λ (x : Bool). shape (given tt) some true x
      (up_to (min out out))) sound.form ∙ ap (λ (n : ℕ). shape (given tt) some true true n) wide))))))
