-- Without an atlas, and through words that are the file's atlas, many fixes leave what the plain call leaves. Assumes nothing.
use Rattle.numbers.{proofs.Prelude.{ℕ, ◌-◌, Float, length, Bool, List, [], ◌∷◌, inl, inr, ◌≡◌, refl, sym, ap, ◌∙◌}, specs.Reply.{Reply, plain, demand}}
use Rattle.atlas.{proofs.BesideIsPlain.{zones_beside_is_plain}, specs.{Atlas.{is_atlas_of}, Beside.{NoneOrAtlas, zones_beside}}}
use Rattle.header.specs.{Header.{head_of}, declared.header.Head.{Head}}
use Rattle.table.specs.{Hits.{words}, declared.location.Location.{Location}}
use Rattle.zones.specs.{Lent.{Outcome}, declared.lookup.Zones.{Zones}}
use Rattle.batch.specs.Many.{Batch, ◌>>=◌, ◌>>◌, met_at, is_taken, fixes_of, Stamped, nothing, with_one, each_of, stamped_many, left_of, many_beside, looked_up_many}
use Rattle.numbers.specs.Reply as R

-- the same lookups leave the same
each_alike : (look look' : Location → ℕ → ℕ → Reply (Outcome Zones)) (n room : ℕ) → ((fix : Location) (k r : ℕ) → look fix k r ≡ look' fix k r)
    → (fixes : List Location) (so : Stamped) → each_of look n room fixes so ≡ each_of look' n room fixes so
unfolding each_of
each_alike look look' n room alike [] so = refl
each_alike look look' n room alike (fix ∷ fixes) so = go (look fix k r) (look' fix k r) (alike fix k r) (each_alike look look' n room alike fixes) where
  k : ℕ
  k = n - length (words so.matches)

  r : ℕ
  r = room - length so.text

  go : (z z' : Reply (Outcome Zones)) → z ≡ z' → ((so : Stamped) → each_of look n room fixes so ≡ each_of look' n room fixes so)
      → (met_at (length so.answers) z >>= λ o. each_of look n room fixes (with_one so o)) ≡ (met_at (length so.answers) z' >>= λ o. each_of look' n room fixes (with_one so o))
  go z z' same rest = first z ∙ ap (λ (x : Reply (Outcome Zones)). met_at (length so.answers) x >>= λ o. each_of look' n room fixes (with_one so o)) same where
    first : (z : Reply (Outcome Zones))
        → (met_at (length so.answers) z >>= λ o. each_of look n room fixes (with_one so o)) ≡ (met_at (length so.answers) z >>= λ o. each_of look' n room fixes (with_one so o))
    first (R.given o) = rest (with_one so o)
    first (R.refused why) = refl

-- Where there are no words, or `is_atlas` says 0 of them, many fixes beside them leave what the plain call leaves.
pub many_beside_is_plain : (file words : List ℕ) → NoneOrAtlas file words → (lats lons : List Float) (asked : Bool) (n room third : ℕ)
    → many_beside file words lats lons asked n room third ≡ looked_up_many file lats lons asked n room third
unfolding looked_up_many many_beside stamped_many
many_beside_is_plain file words so lats lons asked n room third =
    ap (λ (b : Batch Stamped). left_of n room third (met_at 0 (demand (is_taken (length lats) (length lons) third) (plain 33)) >> b)) (by_head (head_of file) refl) where
      alike : {head : Head} → R.given head ≡ head_of file → (fix : Location) (k r : ℕ) → zones_beside file head words fix asked k r ≡ zones_beside file head [] fix asked k r
      alike opened fix k r = zones_beside_is_plain file words so opened fix asked k r ∙ sym (zones_beside_is_plain file [] (inl refl) opened fix asked k r)

      by_head : (reply : Reply Head) → reply ≡ head_of file → (met_at 0 reply >>= λ head. each_of (λ fix. zones_beside file head words fix asked) n room
          (fixes_of lats lons) nothing) ≡ (met_at 0 reply >>= λ head. each_of (λ fix. zones_beside file head [] fix asked) n room (fixes_of lats lons) nothing)
      by_head (R.given head) opened = each_alike (λ fix. zones_beside file head words fix asked) (λ fix. zones_beside file head [] fix asked) n room (alike opened) (fixes_of lats lons) nothing
      by_head (R.refused why) opened = refl

-- Where `is_atlas` says 0 of file and words, whoever wrote them, many fixes through them leave what the plain call leaves: the reply and all three lists.
pub many_atlas_is_plain : (file words : List ℕ) → is_atlas_of file words ≡ R.given tt → (lats lons : List Float) (asked : Bool) (n room third : ℕ)
    → many_beside file words lats lons asked n room third ≡ looked_up_many file lats lons asked n room third
many_atlas_is_plain file words is = many_beside_is_plain file words (inr is)
