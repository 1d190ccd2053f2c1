-- The call as a whole, by how far it came before the first fix. Assumes nothing.
use Rattle.numbers.{proofs.Prelude.{ℕ, Float, length, Bool, true, false, List, ◌≡◌, refl, ap, ◌∙◌}, specs.{Lists.{zeros}, Reply.{Reply, plain, demand}, declared.refusal.Refusal.{Refusal}}}
use Rattle.header.specs.{Header.{head_of}, declared.header.Head.{Head}}
use Rattle.atlas.specs.Beside.{zones_beside}
use Rattle.batch.specs.Many.{Batch, refused, ◌>>=◌, ◌>>◌, met_at, is_taken, fixes_of, Stamped, nothing, each_of, left, left_of, stamped_many, many_beside}
use Rattle.numbers.specs.Reply as R

module _ (file words : List ℕ) (lats lons : List Float) (asked : Bool) (n room third : ℕ) where
  opening : Bool → Reply Head → Batch Stamped
  opening test head = met_at 0 (demand test (plain 33)) >> (met_at 0 head >>= λ h. each_of (λ fix. zones_beside file h words fix asked) n room (fixes_of lats lons) nothing)

  whole : opening (is_taken (length lats) (length lons) third) (head_of file) ≡ stamped_many file words lats lons asked n room third
  unfolding opening stamped_many
  whole = refl

  module _ {hs ts told : List ℕ} (h : hs ≡ zeros n) (t : ts ≡ zeros room) (a : told ≡ zeros third) where
    stopped : {why : Refusal} → refused 0 why ≡ stamped_many file words lats lons asked n room third → left (refused 0 why) hs ts told ≡ many_beside file words lats lons asked n room third
    unfolding many_beside left_of
    stopped {why} e = (λ i. left (refused 0 why) (h i) (t i) (a i)) ∙ ap (left_of n room third) e

    -- the lists don't go together
    pub not_taken : {why : Refusal} → false ≡ is_taken (length lats) (length lons) third → why ≡ plain 33 → left (refused 0 why) hs ts told ≡ many_beside file words lats lons asked n room third
    unfolding opening
    not_taken e w = stopped (ap (refused 0) w ∙ ap (λ (test : Bool). opening test (head_of file)) e ∙ whole)

    -- the file does not open
    pub not_opened : {why : Refusal} → true ≡ is_taken (length lats) (length lons) third → R.refused why ≡ head_of file
        → left (refused 0 why) hs ts told ≡ many_beside file words lats lons asked n room third
    unfolding opening
    not_opened e r = stopped ((λ i. opening (e i) (r i)) ∙ whole)

  -- it opens
  pub opened : {head : Head} → true ≡ is_taken (length lats) (length lons) third → R.given head ≡ head_of file
      → each_of (λ fix. zones_beside file head words fix asked) n room (fixes_of lats lons) nothing ≡ stamped_many file words lats lons asked n room third
  unfolding opening
  opened e r = (λ i. opening (e i) (r i)) ∙ whole

  -- with lists that have the lengths that were lent
  pub all_opened : {head : Head} {n' room' third' : ℕ} → n' ≡ n → room' ≡ room → third' ≡ third → true ≡ is_taken (length lats) (length lons) third → R.given head ≡ head_of file
      → left_of n' room' third' (each_of (λ fix. zones_beside file head words fix asked) n' room' (fixes_of lats lons) nothing) ≡ many_beside file words lats lons asked n room third
  unfolding many_beside
  all_opened {head} h t a e r =
      (λ i. left_of (h i) (t i) (a i) (each_of (λ fix. zones_beside file head words fix asked) (h i) (t i) (fixes_of lats lons) nothing)) ∙ ap (left_of n room third) (opened e r)
