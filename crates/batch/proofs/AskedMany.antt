-- Many fixes with the distance asked for or not (request Q-2): refused by 13, or the same but for the safezone bits. Assumes nothing.
use Rattle.numbers.proofs.Prelude.{ℕ, zero, suc, ◌-◌, Float, length, take, length-map, take_at, Bool, true, false, List, [], ◌∷◌, ◌++◌, map, ◌⊎◌, inl, inr, ◌≡◌, refl, sym, ap, subst, ◌∙◌, arith}
use Rattle.numbers.specs.{Lists.{zeros, padded}, Reply.{Reply, plain, demand}}
use Rattle.atlas.specs.Beside.{matched_beside, zones_beside}
use Rattle.zones.{proofs.Asked.{unmeasured, AskedOrNot, asked_or_not_with}, specs.{Lent.{Outcome, Replied, replied_of}, Lookup.{zones_with, looked_with}, declared.lookup.Zones.{Zones}}}
use Rattle.header.{proofs.Unless.{shown}, specs.{Header.{head_of}, declared.header.Head.{Head}}}
use Rattle.table.{proofs.Words.{words_length, slots_words}, specs.{Hits.{words, slots}, declared.location.Location.{Location}}}
use Rattle.batch.specs.Many.{Batch, given, refused, ◌>>=◌, ◌>>◌, met_at, is_taken, fixes_of, Stamped, nothing, with_one, each_of, stamped_many, answer_words, Left, left, left_of, many_beside}
use Rattle.batch.specs.Many.{looked_up_many}
use Rattle.batch.proofs.{Counts.{counts}, Stamping.{three_words}}
use Rattle.numbers.specs.Reply as R

-- an outcome without its safezone bits
abbrev unmeasured_one : Outcome Zones → Outcome Zones
unmeasured_one o = record { answer = unmeasured o.answer; matches = o.matches; text = o.text }

-- what the fixes came to without theirs
abbrev pub unmeasured_all : Stamped → Stamped
unmeasured_all so = record { answers = map unmeasured so.answers; matches = so.matches; text = so.text }

-- lists of one length that are equal with zeros behind them
same_front : (n : ℕ) (xs ys : List ℕ) → length xs ≡ length ys → padded n xs ≡ padded n ys → xs ≡ ys
same_front n xs ys l e = sym (take_at xs (zeros (n - length xs)) (length ys) l) ∙ ap (take (length ys)) e ∙ take_at ys (zeros (n - length ys)) (length ys) refl

inside : {A : Type 0} {a b : A} → ◌≡◌ {A = Reply A} (R.given a) (R.given b) → a ≡ b
inside e = cc

module _ (file : List ℕ) (head : Head) (fix : Location) (k r : ℕ) where
  one_so : (z z' : Reply (Outcome Zones)) → z ≡ zones_beside file head [] fix true k r → z' ≡ zones_beside file head [] fix false k r → AskedOrNot k r (replied_of k r z) (replied_of k r z')
      → (z ≡ R.refused (plain 13)) ⊎ (shown unmeasured_one z ≡ z')
  unfolding replied_of
  one_so (R.given o) z' is is' (inl e) = let said = ap (λ (x : Replied Zones). x.reply) e in let z : ◌≡◌ {A = ℕ} 0 1 = cc in absurd (omega arith)
  one_so (R.refused why) z' is is' (inl e) = let said = ap (λ (x : Replied Zones). x.reply) e in inl (cc)
  one_so (R.given o) (R.given o') is is' (inr e) = let answer : unmeasured o.answer ≡ o'.answer = inside (ap (λ (x : Replied Zones). x.reply) e) in
      let c = counts file head [] fix true k r is in let c' = counts file head [] fix false k r is' in
      let m : length o.matches ≡ length o'.matches = sym c.0 ∙ ap (λ (x : Zones). x.matches) answer ∙ c'.0 in
      let u : length o.text ≡ length o'.text = sym c.1 ∙ ap (λ (x : Zones). x.used) answer ∙ c'.1 in
      let ws = same_front k (words o.matches) (words o'.matches) (omega (arith, m, words_length o.matches, words_length o'.matches)) (ap (λ (x : Replied Zones). x.hits) e) in
      let matches = sym (slots_words o.matches) ∙ ap slots ws ∙ slots_words o'.matches in
      let text = same_front r o.text o'.text u (ap (λ (x : Replied Zones). x.text) e) in
      inr (λ i. R.given (record { answer = answer i; matches = matches i; text = text i }))
  one_so (R.given o) (R.refused why) is is' (inr e) = let said = ap (λ (x : Replied Zones). x.reply) e in let z : ◌≡◌ {A = ℕ} 0 1 = cc in absurd (omega arith)
  one_so (R.refused why) (R.given o) is is' (inr e) = let said = ap (λ (x : Replied Zones). x.reply) e in let z : ◌≡◌ {A = ℕ} 0 1 = cc in absurd (omega arith)
  one_so (R.refused why) (R.refused why') is is' (inr e) = let said = ap (λ (x : Replied Zones). x.reply) e in inr (cc)

  one_unless : (zones_beside file head [] fix true k r ≡ R.refused (plain 13)) ⊎ (shown unmeasured_one (zones_beside file head [] fix true k r) ≡ zones_beside file head [] fix false k r)
  unfolding looked_with zones_with zones_beside matched_beside
  one_unless = one_so _ _ refl refl (asked_or_not_with file head fix k r)

map_snoc : (xs : List Zones) (x : Zones) → map unmeasured (xs ++ x ∷ []) ≡ map unmeasured xs ++ unmeasured x ∷ []
map_snoc [] x = refl
map_snoc (y ∷ ys) x = ap (λ (l : List Zones). unmeasured y ∷ l) (map_snoc ys x)

-- all that is known of a call but the safezone bits
abbrev pub shown_many : Batch Stamped → Batch Stamped
shown_many b = b >>= λ so. given (unmeasured_all so)

-- the one with the distance is refused by 13, at some fix, or the other says the same
abbrev pub AskedOrNotMany : Batch Stamped → Batch Stamped → Type 0
AskedOrNotMany asked not = ((index : ℕ) × (asked ≡ refused index (plain 13))) ⊎ (shown_many asked ≡ not)

module _ (file : List ℕ) (head : Head) (n room : ℕ) where
  abbrev each : Bool → List Location → Stamped → Batch Stamped
  each asked = each_of (λ fix. zones_beside file head [] fix asked) n room

  -- the fixes one after the other, after others that differ in the safezone bits alone
  pub asked_or_not_each : (fixes : List Location) (so : Stamped) → AskedOrNotMany (each true fixes so) (each false fixes (unmeasured_all so))
  unfolding each_of
  asked_or_not_each [] so = inr refl
  asked_or_not_each (fix ∷ fixes) so = go (zones_beside file head [] fix true k r) (zones_beside file head [] fix false k r) (one_unless file head fix k r) (asked_or_not_each fixes) where
    k : ℕ
    k = n - length (words so.matches)

    r : ℕ
    r = room - length so.text

    go : (z z' : Reply (Outcome Zones)) → (z ≡ R.refused (plain 13)) ⊎ (shown unmeasured_one z ≡ z') → ((so : Stamped) → AskedOrNotMany (each true fixes so)
        (each false fixes (unmeasured_all so))) → AskedOrNotMany (met_at (length so.answers) z >>= λ o. each true fixes (with_one so o))
        (met_at (length (map unmeasured so.answers)) z' >>= λ o. each false fixes (with_one (unmeasured_all so) o))
    go z z' (inl e) rest = inl (length so.answers, ap (λ (x : Reply (Outcome Zones)). met_at (length so.answers) x >>= λ o. each true fixes (with_one so o)) e)
    go (R.given o) z' (inr e) rest =
        subst (λ (x : Reply (Outcome Zones)). AskedOrNotMany (each true fixes (with_one so o)) (met_at (length (map unmeasured so.answers)) x >>= λ o.
        each false fixes (with_one (unmeasured_all so) o))) e (subst (λ (l : List Zones). AskedOrNotMany (each true fixes (with_one so o)) (each false fixes
        (record { answers = l; matches = so.matches ++ o.matches; text = so.text ++ o.text }))) (map_snoc so.answers o.answer) (rest (with_one so o)))
    go (R.refused why) z' (inr e) rest =
        inr (ap (λ (m : ℕ). refused m why) (sym (length-map so.answers unmeasured)) ∙ ap (λ (x : Reply (Outcome Zones)). met_at
        (length (map unmeasured so.answers)) x >>= λ o. each false fixes (with_one (unmeasured_all so) o)) e)

module _ (file : List ℕ) (lats lons : List Float) (n room third : ℕ) where
  -- the whole call: 33 and opening do not look at the distance
  stamped_asked : AskedOrNotMany (stamped_many file [] lats lons true n room third) (stamped_many file [] lats lons false n room third)
  unfolding stamped_many
  stamped_asked = by_lists (is_taken (length lats) (length lons) third) where
    by_head : (r : Reply Head) → AskedOrNotMany (met_at 0 r >>= λ head. each file head n room true (fixes_of lats lons) nothing)
        (met_at 0 r >>= λ head. each file head n room false (fixes_of lats lons) nothing)
    by_head (R.given head) = asked_or_not_each file head n room (fixes_of lats lons) nothing
    by_head (R.refused why) = inr refl

    by_lists : (test : Bool) → AskedOrNotMany (met_at 0 (demand test (plain 33)) >> (met_at 0 (head_of file) >>= λ head. each file head n room true (fixes_of lats lons) nothing))
        (met_at 0 (demand test (plain 33)) >> (met_at 0 (head_of file) >>= λ head. each file head n room false (fixes_of lats lons) nothing))
    by_lists true = by_head (head_of file)
    by_lists false = inr refl

-- ---- the reply and the three lists
-- the third list with 0 for the safezone bits of each fix
pub unmeasured_words : List ℕ → List ℕ
unmeasured_words [] = []
unmeasured_words (a ∷ []) = a ∷ []
unmeasured_words (a ∷ b ∷ []) = a ∷ b ∷ []
unmeasured_words (count ∷ mark ∷ bits ∷ more) = count ∷ mark ∷ 0 ∷ unmeasured_words more

abbrev pub unmeasured_left : Left → Left
unmeasured_left l = left l.reply l.hits l.text (unmeasured_words l.answers)

zeros_unmeasured : (k : ℕ) → unmeasured_words (zeros k) ≡ zeros k
unfolding unmeasured_words
zeros_unmeasured zero = refl
zeros_unmeasured (suc zero) = refl
zeros_unmeasured (suc (suc zero)) = refl
zeros_unmeasured (suc (suc (suc k))) = ap (λ (l : List ℕ). 0 ∷ 0 ∷ 0 ∷ l) (zeros_unmeasured k)

words_unmeasured : (xs : List Zones) (k : ℕ) → unmeasured_words (answer_words xs ++ zeros k) ≡ answer_words (map unmeasured xs) ++ zeros k
unfolding unmeasured_words answer_words
words_unmeasured [] k = zeros_unmeasured k
words_unmeasured (x ∷ xs) k = ap (λ (l : List ℕ). x.matches ∷ x.mark ∷ 0 ∷ l) (words_unmeasured xs k)

module _ (n room third : ℕ) where
  left_unmeasured : (b : Batch Stamped) → unmeasured_left (left_of n room third b) ≡ left_of n room third (shown_many b)
  unfolding left_of
  left_unmeasured (given so) =
      let kept : length (map unmeasured so.answers) ≡ length so.answers = length-map so.answers unmeasured in
      let long : length (answer_words so.answers) ≡ length (answer_words (map unmeasured so.answers)) = omega
      (arith, kept, three_words so.answers, three_words (map unmeasured so.answers)) in
      let told = words_unmeasured so.answers (third - length (answer_words so.answers)) ∙ ap (λ (k : ℕ). answer_words (map unmeasured so.answers) ++ zeros (third - k)) long in
      λ i. left (given (record { fixes = sym kept i; matches = length so.matches; used = length so.text })) (padded n (words so.matches)) (padded room so.text) (told i)
  left_unmeasured (refused index why) = ap (left (refused index why) (zeros n) (zeros room)) (zeros_unmeasured third)

  lists_so : (asked not : Batch Stamped) → AskedOrNotMany asked not
      → ((index : ℕ) × (left_of n room third asked ≡ left_of n room third (refused index (plain 13)))) ⊎ (unmeasured_left (left_of n room third asked) ≡ left_of n room third not)
  lists_so asked not (inl (index, e)) = inl (index, ap (left_of n room third) e)
  lists_so asked not (inr e) = inr (left_unmeasured asked ∙ ap (left_of n room third) e)

  -- With the distance the call is refused by 13 at some fix, or without it the reply and all three lists are the same but for the safezone bits.
  pub asked_or_not_many : (file : List ℕ) (lats lons : List Float) → ((index : ℕ) × (looked_up_many file lats lons true n room third ≡ left_of n room third (refused index (plain 13))))
      ⊎ (unmeasured_left (looked_up_many file lats lons true n room third) ≡ looked_up_many file lats lons false n room third)
  unfolding looked_up_many many_beside
  asked_or_not_many file lats lons = lists_so _ _ (stamped_asked file lats lons n room third)
