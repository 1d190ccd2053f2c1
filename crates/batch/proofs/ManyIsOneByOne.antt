-- Many fixes are answered as one by one: the reply and all three lists are those of plain lookups, each with the room that the earlier ones left. Assumes nothing.
use Rattle.numbers.proofs.{Lists.{zeros_drop}, Prelude.{ℕ, ◌+◌, ◌-◌, ◌*◌, ◌<◌, Float, length, drop, length-append, take_at, drop_at, Bool, true, List, [], ◌∷◌, ◌++◌, ◌⊎◌, inl, inr, ◌≡◌, refl, sym}}
use Rattle.numbers.{proofs.Prelude.{ap, ◌∙◌, sub-zero, arith}, specs.{Lists.{zeros, padded, over}, Reply.{Reply}, declared.refusal.Refusal.{Refusal}}}
use Rattle.atlas.specs.Beside.{matched_beside, zones_beside}
use Rattle.zones.{proofs.GivenHead.{looked_with_given, not_looked}, specs.{Lent.{Outcome, Replied, replied_of}, Lookup.{zones_with, looked_with, looked_up}, declared.lookup.Zones.{Zones}}}
use Rattle.table.{proofs.Words.{words_length, words_append}, specs.{Hits.{width, words}, declared.location.Location.{Location}}}
use Rattle.header.specs.{Header.{head_of}, declared.header.Head.{Head}}
use Rattle.batch.specs.Many.{◌>>=◌, met_at, is_taken, fixes_of, Stamped, nothing, with_one, each_of, answer_words, Left, left_of, looked_up_many}
use Rattle.batch.specs.OneByOne.{from_on, unless_refused, one_by_one}
use Rattle.batch.proofs.{Counts.{counts}, Opening.{all_opened, not_opened}, Stamping.{on_padded, answer_words_snoc, three_words, taken}}
use Rattle.numbers.specs.Reply as R

-- what is written behind the front of a list that is zero beyond it
behind : (n place : ℕ) (out s : List ℕ) → length out ≡ place → padded n (out ++ s) ≡ from_on place (padded n out) (padded (n - place) s)
behind n place out s l = sym (on_padded n place out s l) ∙ ap (λ (r : List ℕ). r ++ padded (n - place) s) (sym (take_at out (zeros (n - length out)) place l))

over_zeros : (n place : ℕ) (out s : List ℕ) → length out ≡ place → padded (n - place) s ≡ over s (drop place (padded n out))
over_zeros n place out s l =
    ap (λ (m : ℕ). s ++ zeros (n - m - length s)) (sym l) ∙ sym (ap (λ (r : List ℕ). s ++ drop (length s) r) (drop_at out (zeros (n - length out)) place l)
    ∙ ap (λ (r : List ℕ). s ++ r) (zeros_drop (length s) (n - length out)))

module _ (file : List ℕ) (asked : Bool) (n room third : ℕ) where
  -- the fixes one by one after what others came to
  from : List Location → Stamped → Left
  from fixes so =
      one_by_one file asked n room third fixes (length so.answers) (length so.matches) (length so.text) (padded n (words so.matches))
      (padded room so.text) (padded third (answer_words so.answers))

  -- the first of them, by what its lookup left
  onward : List Location → Stamped → Replied Zones → Left
  onward fixes so one =
      unless_refused n room third (length so.answers) one.reply (λ zones. one_by_one file asked n room third fixes (length so.answers + 1)
      (length so.matches + zones.matches) (length so.text + zones.used) (from_on (width * length so.matches) (padded n (words so.matches)) one.hits)
      (from_on (length so.text) (padded room so.text) one.text) (from_on (3 * length so.answers) (padded third (answer_words so.answers))
      (over (answer_words (zones ∷ [])) (drop (3 * length so.answers) (padded third (answer_words so.answers))))))

  -- it was answered
  one_on : (fixes : List Location) (so : Stamped) (o : Outcome Zones) → o.answer.matches ≡ length o.matches → o.answer.used ≡ length o.text
      → from fixes (with_one so o) ≡ onward fixes so (replied_of (n - length (words so.matches)) (room - length so.text) (R.given o))
  unfolding from onward replied_of
  one_on fixes so o m u = let index = length-append so.answers (o.answer ∷ []) in
      let matches = length-append so.matches o.matches ∙ ap (λ (k : ℕ). length so.matches + k) (sym m) in
      let used = length-append so.text o.text ∙ ap (λ (k : ℕ). length so.text + k) (sym u) in
      let hits = ap (padded n) (words_append so.matches o.matches) ∙ behind n (length (words so.matches)) (words so.matches) (words o.matches) refl
      ∙ ap (λ (k : ℕ). from_on k (padded n (words so.matches)) (padded (n - length (words so.matches)) (words o.matches))) (words_length so.matches) in
      let text = behind room (length so.text) so.text o.text refl in
      let answers = ap (padded third) (answer_words_snoc so.answers o.answer) ∙ behind third (3 * length so.answers) (answer_words so.answers)
      (answer_words (o.answer ∷ [])) (three_words so.answers) ∙ ap (from_on (3 * length so.answers) (padded third (answer_words so.answers)))
      (over_zeros third (3 * length so.answers) (answer_words so.answers) (answer_words (o.answer ∷ [])) (three_words so.answers)) in
      λ i. one_by_one file asked n room third fixes (index i) (matches i) (used i) (hits i) (text i) (answers i)

  module _ {head : Head} (e : R.given head ≡ head_of file) where
    by_step : (fixes : List Location) (so : Stamped) → left_of n room third (each_of (λ fix. zones_beside file head [] fix asked) n room fixes so) ≡ from fixes so
    unfolding left_of each_of one_by_one from onward replied_of looked_with zones_with zones_beside matched_beside
    by_step [] so = refl
    by_step (fix ∷ fixes) so = go (zones_beside file head [] fix asked k r) refl (by_step fixes) ∙ ap (onward fixes so) alike where
      k : ℕ
      k = n - length (words so.matches)

      r : ℕ
      r = room - length so.text

      alike : replied_of k r (zones_beside file head [] fix asked k r) ≡ looked_up file fix asked (n - width * length so.matches) r
      alike = looked_with_given file fix k r e asked ∙ ap (λ (m : ℕ). looked_up file fix asked (n - m) r) (words_length so.matches)

      go : (z : Reply (Outcome Zones)) → z ≡ zones_beside file head [] fix asked k r
          → ((so : Stamped) → left_of n room third (each_of (λ fix. zones_beside file head [] fix asked) n room fixes so) ≡ from fixes so)
          → left_of n room third (met_at (length so.answers) z >>= λ o. each_of (λ fix. zones_beside file head [] fix asked) n room fixes (with_one so o)) ≡ onward fixes so (replied_of k r z)
      go (R.given o) is rest = let c = counts file head [] fix asked k r is in rest (with_one so o) ∙ one_on fixes so o c.0 c.1
      go (R.refused why) is rest = refl

    -- in lists that go together, of a file that opens
    pub as_one_by_one : (lats lons : List Float) → true ≡ is_taken (length lats) (length lons) third
        → looked_up_many file lats lons asked n room third ≡ one_by_one file asked n room third (fixes_of lats lons) 0 0 0 (zeros n) (zeros room) (zeros third)
    unfolding from words answer_words looked_up_many
    as_one_by_one lats lons ok =
        sym (all_opened file [] lats lons asked n room third refl refl refl ok e) ∙ by_step (fixes_of lats lons) nothing
        ∙ (λ i. one_by_one file asked n room third (fixes_of lats lons) 0 0 0 (zeros (sub-zero n i)) (zeros (sub-zero room i)) (zeros (sub-zero third i)))

  -- where the file does not open, the first of them is refused as a plain lookup is
  none_opened : (lats lons : List Float) {why : Refusal} → R.refused why ≡ head_of file → true ≡ is_taken (length lats) (length lons) third
      → (fix : Location) (fixes : List Location) → fixes_of lats lons ≡ fix ∷ fixes → looked_up_many file lats lons asked n room third ≡ one_by_one file asked n
      room third (fixes_of lats lons) 0 0 0 (zeros n) (zeros room) (zeros third)
  unfolding one_by_one looked_up_many
  none_opened lats lons {why} e ok fix fixes are =
      sym (not_opened file [] lats lons asked n room third refl refl refl ok e) ∙ ap (λ (one : Replied Zones). unless_refused n room third 0 one.reply
      (λ zones. one_by_one file asked n room third fixes (0 + 1) (0 + zones.matches) (0 + zones.used) (from_on (width * 0) (zeros n) one.hits)
      (from_on 0 (zeros room) one.text) (from_on (3 * 0) (zeros third) (over (answer_words (zones ∷ [])) (drop (3 * 0) (zeros third)))))) (not_looked file fix
      (n - width * 0) (room - 0) e refl refl asked) ∙ ap (λ (l : List Location). one_by_one file asked n room third l 0 0 0 (zeros n) (zeros room) (zeros third)) (sym are)

-- Document 02's "equal to one by one": where the lists go together, and the file opens or there is a fix, the call leaves what plain lookups leave.
pub many_is_one_by_one : (file : List ℕ) (lats lons : List Float) (asked : Bool) (n room third : ℕ) → is_taken (length lats) (length lons) third ≡ true
    → ((head : Head) × (R.given head ≡ head_of file)) ⊎ (0 < length lats)
    → looked_up_many file lats lons asked n room third ≡ one_by_one file asked n room third (fixes_of lats lons) 0 0 0 (zeros n) (zeros room) (zeros third)
unfolding fixes_of
many_is_one_by_one file lats lons asked n room third ok (inl opens) = as_one_by_one file asked n room third opens.1 lats lons (sym ok)
many_is_one_by_one file lats lons asked n room third ok (inr some) = go (head_of file) refl where
  first : (lats lons : List Float) → 0 < length lats → length lats ≡ length lons → (fix : Location) × ((fixes : List Location) × (fixes_of lats lons ≡ fix ∷ fixes))
  first [] lons h same = absurd (omega arith)
  first (lat ∷ lats) [] h same = absurd (omega arith)
  first (lat ∷ lats) (lon ∷ lons) h same = (record { lat = lat; lon = lon }, (fixes_of lats lons, refl))

  go : (r : Reply Head) → r ≡ head_of file → looked_up_many file lats lons asked n room third ≡ one_by_one file asked n room third (fixes_of lats lons) 0 0 0 (zeros n) (zeros room) (zeros third)
  go (R.given head) is = as_one_by_one file asked n room third is lats lons (sym ok)
  go (R.refused why) is = let f = first lats lons some (taken (length lats) (length lons) third ok).0 in none_opened file asked n room third lats lons is (sym ok) f.0 f.1.0 f.1.1
